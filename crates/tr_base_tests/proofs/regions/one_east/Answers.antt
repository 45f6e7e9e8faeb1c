use Rattle.std.proofs.Common.{◌≡◌, ℤ, pos, ◌+ℤ◌, ◌≤ℤ◌, ◌<ℤ◌, Bool, true, false, ◌&&◌, cond, refl, arith}
use Rattle.std.specs.Prelude.{int_lt}
use Rattle.std.proofs.lemmas.Int.{ints}
use Rattle.tr_base.specs.Rects.{Edges, InReach, AreInReach, empty_rect, shifted}
use Rattle.tr_region.specs.Points.{IsInSquare}
use Rattle.tr_region.proofs.ListLemmas.{AllByRecursion-weaker}
use Rattle.tr_base_tests.proofs.regions.one_east.Goals as goal

near : (x : ℤ) → pos 0 ≤ℤ x → x ≤ℤ pos 1025 → InReach x
near x low high = record { low = omega (arith, ints); high = omega (arith, ints) }

-- edges in the square may be moved by one, and none need be moved where no point lies between them
moved : (a b : Bool) (e : Edges) → IsInSquare e → int_lt (e.west +ℤ pos 1) (e.east +ℤ pos 1) ≡ a → int_lt (e.north +ℤ pos 0) (e.south +ℤ pos 0) ≡ b →
    AreInReach (cond (a && b) (record { west = e.west +ℤ pos 1; east = e.east +ℤ pos 1; north = e.north +ℤ pos 0; south = e.south +ℤ pos 0 }) empty_rect)
moved true true e i h k =
    let across : e.west <ℤ e.east = grind (arith, ints) in
    let down : e.north <ℤ e.south = grind (arith, ints) in
    let west = i.west in
    let east = i.east in
    let north = i.north in
    let south = i.south in
    record {
      west = near (e.west +ℤ pos 1) (omega (arith, ints)) (omega (arith, ints));
      east = near (e.east +ℤ pos 1) (omega (arith, ints)) (omega (arith, ints));
      north = near (e.north +ℤ pos 0) (omega (arith, ints)) (omega (arith, ints));
      south = near (e.south +ℤ pos 0) (omega (arith, ints)) (omega (arith, ints));
    }
moved true false e i h k = let zero = near (pos 0) (omega (arith, ints)) (omega (arith, ints)) in record
    { west = zero; east = zero; north = zero; south = zero }
moved false b e i h k = let zero = near (pos 0) (omega (arith, ints)) (omega (arith, ints)) in record { west = zero; east = zero; north = zero; south = zero }

in_reach : (e : Edges) → IsInSquare e → AreInReach (shifted e (record { h = pos 1; v = pos 0 }))
in_reach e i = moved (int_lt (e.west +ℤ pos 1) (e.east +ℤ pos 1)) (int_lt (e.north +ℤ pos 0) (e.south +ℤ pos 0)) e i refl refl

pub shift-requires : goal.shift-requires
shift-requires g c = AllByRecursion-weaker IsInSquare (λ e. AreInReach (shifted e (record { h = pos 1; v = pos 0 }))) in_reach c.args.region.now c.requires
