-- Windows without points, in which no command has an area.
use Rattle.std.proofs.Common.{◌≡◌, ◌==◌, ◌||◌, ◌&&◌, ℤ, pos, Bool, true, false, cond, refl, ap, arith, eqb-true}
use Rattle.std.specs.Prelude.{int_lt}
use Rattle.std.specs.Int.{int_min, int_max}
use Rattle.std.proofs.lemmas.Int.{ints, clamps}
use Rattle.tr_base.specs.declared.Size.{Size}
use Rattle.tr_base.specs.Rects.{Edges, empty_rect, meet_of, whole_of}
use Rattle.tr_client.specs.Laws.{is_flat}

-- the rectangle of such a window is the empty one
pub flat-whole : (size : Size) → is_flat size ≡ true → whole_of size ≡ empty_rect
flat-whole size flat = by_tests (size.wide == 0) (size.high == 0) refl refl flat
  where
    Wanted : Bool → Bool → Type 0
    Wanted across down = cond (across && down) (record { west = pos 0; east = pos size.wide; north = pos 0; south = pos size.high }) empty_rect ≡ empty_rect

    by_tests : (a b : Bool) → (size.wide == 0) ≡ a → (size.high == 0) ≡ b → a || b ≡ true → whole_of size ≡ empty_rect
    by_tests true b wide high h = rw (eqb-true size.wide 0 wide) refl
    by_tests false true wide high h = rw (eqb-true size.high 0 high) (none (int_lt (pos 0) (pos size.wide)))
      where
        none : (c : Bool) → cond (c && false) (record { west = pos 0; east = pos size.wide; north = pos 0; south = pos 0 }) empty_rect ≡ empty_rect
        none true = refl
        none false = refl
    by_tests false false wide high h = cc

-- the empty rectangle and any other have nothing in common
pub meet-nothing : (e : Edges) → meet_of empty_rect e ≡ empty_rect
meet-nothing e = ap (λ b. cond (b && int_lt (int_max (pos 0) e.north) (int_min (pos 0) e.south))
    (record { west = int_max (pos 0) e.west; east = int_min (pos 0) e.east; north = int_max (pos 0) e.north; south = int_min (pos 0) e.south }) empty_rect)
    (apart e.west e.east)
  where
    apart : (x y : ℤ) → int_lt (int_max (pos 0) x) (int_min (pos 0) y) ≡ false
    apart x y = grind (arith, ints, clamps)
