use Rattle.std.proofs.Common.{ℕ, ◌≤◌, ℤ, pos, neg_ℤ, ◌≤ℤ◌, ◌+ℤ◌, Bool, true, false, cond, ◌&&◌, arith}
use Rattle.std.specs.Prelude.{int_lt}
use Rattle.std.proofs.lemmas.Int.{ints}
use Rattle.tr_base.specs.declared.points.Point.{Point}
use Rattle.tr_base.specs.declared.sizes.Size.{Size}
use Rattle.tr_base.specs.Rects.{Edges, InReach, AreInReach, empty_rect, shifted, whole_of}
use Rattle.tr_base.proofs.RectFacts.{rect_of-in_reach}
use Rattle.tr_exec_tests.proofs.repairs.movable.Goals as goal

whole_moves : (size : Size) (d : Point) → size.wide ≤ 1024 → size.high ≤ 1024 →
    neg_ℤ (pos 1024) ≤ℤ d.h → d.h ≤ℤ pos 1024 → neg_ℤ (pos 1024) ≤ℤ d.v → d.v ≤ℤ pos 1024 →
    AreInReach (shifted (whole_of size) d)
whole_moves size d wide high west east north south = moved (int_lt (pos 0) (pos size.wide) && int_lt (pos 0) (pos size.high))
  where
    near : (x : ℤ) (n : ℕ) → n ≤ 1024 → neg_ℤ (pos 1024) ≤ℤ x → x ≤ℤ pos 1024 → InReach (pos n +ℤ x)
    near x n few low high = record { low = omega (arith, ints); high = omega (arith, ints) }

    moved : (t : Bool) →
        (let e : Edges = cond t (record { west = pos 0; east = pos size.wide; north = pos 0; south = pos size.high }) empty_rect in
        AreInReach (shifted e d))
    moved true =
        rect_of-in_reach (pos 0 +ℤ d.h) (pos size.wide +ℤ d.h) (pos 0 +ℤ d.v) (pos size.high +ℤ d.v)
        (near d.h 0 (omega arith) west east) (near d.h size.wide wide west east)
        (near d.v 0 (omega arith) north south) (near d.v size.high high north south)
    moved false =
        rect_of-in_reach (pos 0 +ℤ d.h) (pos 0 +ℤ d.h) (pos 0 +ℤ d.v) (pos 0 +ℤ d.v)
        (near d.h 0 (omega arith) west east) (near d.h 0 (omega arith) west east)
        (near d.v 0 (omega arith) north south) (near d.v 0 (omega arith) north south)

pub shift-requires : goal.shift-requires
shift-requires g c =
    rw c.whole-all.ensures.edges
    (whole_moves c.args.size c.args.delta c.requires.wide c.requires.high
    c.requires.west c.requires.east c.requires.north c.requires.south)
