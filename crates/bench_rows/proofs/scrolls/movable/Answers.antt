use Rattle.std.proofs.Common.{sym, ◌∙◌, ℕ, ◌≤◌, ℤ, pos, neg_ℤ, ◌≤ℤ◌, ◌+ℤ◌, Bool, true, false, cond, ◌&&◌, arith}
use Rattle.std.specs.Prelude.{int_lt}
use Rattle.std.proofs.lemmas.Bool.{and_parts}
use Rattle.std.proofs.lemmas.Int.{ints}
use Rattle.tr_base.specs.declared.points.Point.{Point}
use Rattle.tr_base.specs.declared.sizes.Size.{Size}
use Rattle.tr_base.specs.Rects.{has_point, Edges, InReach, AreInReach, empty_rect, shifted, whole_of}
use Rattle.tr_base.proofs.RectFacts.{rect_of-in_reach}
use Rattle.bench_rows.proofs.scrolls.movable.Goals as goal

whole_moves : (size : Size) (d : Point) → size.wide ≤ 1024 → size.high ≤ 1024 →
    neg_ℤ (pos 1024) ≤ℤ d.h → d.h ≤ℤ pos 1024 → neg_ℤ (pos 1024) ≤ℤ d.v → d.v ≤ℤ pos 1024 →
    AreInReach (shifted (whole_of size) d)
whole_moves size d wide high west east north south = moved (int_lt (pos 0) (pos size.wide) && int_lt (pos 0) (pos size.high))
  where
    near : (x : ℤ) (n : ℕ) → n ≤ 1024 → neg_ℤ (pos 1024) ≤ℤ x → x ≤ℤ pos 1024 → InReach (pos n +ℤ x)
    near x n few low high = record { low = omega (arith, ints); high = omega (arith, ints) }

    moved : (t : Bool) →
        (let e : Edges = cond t (record { west = pos 0; east = pos size.wide; north = pos 0; south = pos size.high }) empty_rect in
        AreInReach (shifted e d))
    moved true =
        rect_of-in_reach (pos 0 +ℤ d.h) (pos size.wide +ℤ d.h) (pos 0 +ℤ d.v) (pos size.high +ℤ d.v)
        (near d.h 0 (omega arith) west east) (near d.h size.wide wide west east)
        (near d.v 0 (omega arith) north south) (near d.v size.high high north south)
    moved false =
        rect_of-in_reach (pos 0 +ℤ d.h) (pos 0 +ℤ d.h) (pos 0 +ℤ d.v) (pos 0 +ℤ d.v)
        (near d.h 0 (omega arith) west east) (near d.h 0 (omega arith) west east)
        (near d.v 0 (omega arith) north south) (near d.v 0 (omega arith) north south)

pub shift-requires : goal.shift-requires
shift-requires c =
    rw c.whole-all.ensures.edges
    (whole_moves c.args.size c.args.delta c.requires.wide c.requires.high
    (omega (arith, ints, c.requires.west)) (omega (arith, ints, c.requires.east))
    (omega (arith, ints, c.requires.north)) (omega (arith, ints, c.requires.south)))

pub returns : goal.returns
returns c = λ p t.
    let region =
    and_parts (has_point c.meet-both.result p) (has_point c.edges-part.result p)
    (sym (c.in_ok-region.ensures.points p ∙ c.meet.ensures.points p) ∙ t) in
    let both = and_parts (has_point c.whole-all.result p) (has_point c.shift.result p) (sym (c.meet-both.ensures.points p) ∙ region.0) in
    let source = sym (c.shift.ensures.points p) ∙ both.1 in
    (rw c.whole-all.ensures.edges at both.0, rw c.whole-all.ensures.edges at source)
