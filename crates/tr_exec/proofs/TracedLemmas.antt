-- Only tests cite this file. The last command of a batch, at one visible point.
use Rattle.std.proofs.Common.{◌≡◌, ℕ, ◌*◌, ℤ, pos, ◌+ℤ◌, ◌-ℤ◌, ◌≤ℤ◌, ◌<ℤ◌, true, false, cond, List, [], ◌∷◌, ◌++◌, None, sym, ap, subst, ◌∙◌, arith}
use Rattle.std.proofs.lemmas.Int.{ints}
use Rattle.std.proofs.lemmas.Bool.{and_parts}
use Rattle.tr_base.specs.declared.Point.{Point}
use Rattle.tr_base.specs.declared.Size.{Size}
use Rattle.tr_base.specs.Rects.{Edges, InReach, between, before_shift, has_point, meet_of, shifted, whole_of}
use Rattle.tr_base.proofs.RectLemmas.{has_point-meet_of, has_point-rect_of, has_point-shifted}
use Rattle.tr_paint.specs.declared.Paint.{Paint}
use Rattle.tr_paint.specs.Paints.{IsNearZero, IsNearPoint, IsNearRect, area, cells_of}
use Rattle.tr_paint.specs.Batches.{IsKept, IsBatch}
use Rattle.tr_paint.specs.Traces.{Look, Base, after, Keep, deed, deed_within, after_deed}
use Rattle.tr_paint.proofs.TraceLemmas.{after-last, trace-unseen}
use Rattle.tr_paint.proofs.NearLemmas.{rect_of-near}
use Rattle.tr_exec.specs.Executions.{IsOrigin}
use Rattle.tr_exec.specs.Strokes.{IsInCells}
use Rattle.tr_exec.proofs.PaintingLemmas.{between_from}

-- a near coordinate is within reach
pub near-reach : (x : ℤ) → IsNearZero x → InReach x
near-reach x near = record { low = omega (arith, ints, near.low); high = omega (arith, ints, near.high) }

-- a near point may be a window's corner
pub near-origin : (p : Point) → IsNearPoint p → IsOrigin p
near-origin p near = record {
  west = omega (arith, ints, near.h.low);
  east = omega (arith, ints, near.h.high);
  north = omega (arith, ints, near.v.low);
  south = omega (arith, ints, near.v.high);
}

-- a point of a near rectangle is near
pub near_point : (e : Edges) (q : Point) → IsNearRect e → has_point e q ≡ true → IsNearZero q.h × IsNearZero q.v
near_point e q near on =
    let s = sides q.h q.v on in (
      record { low = omega (arith, ints, s.0, near.west.low); high = omega (arith, ints, s.1, near.east.high) },
      record { low = omega (arith, ints, s.2, near.north.low); high = omega (arith, ints, s.3, near.south.high) },
    )
  where
    sides : (h v : ℤ) → has_point e (record { h = h; v = v }) ≡ true → (e.west ≤ℤ h) × (h <ℤ e.east) × (e.north ≤ℤ v) × (v <ℤ e.south)
    sides h v on = (grind (arith, ints), grind (arith, ints), grind (arith, ints), grind (arith, ints))

-- a batch is its last command and those before it
batch_parts : (before : List Paint) (c : Paint) → IsBatch (before ++ c ∷ []) → IsBatch before × IsKept c
batch_parts [] c all = (tt, all.0)
batch_parts (d ∷ before) c all = let rest = batch_parts before c all.1 in ((all.0, rest.0), rest.1)

pub batch_split : (paints before : List Paint) (c : Paint) → paints ≡ before ++ c ∷ [] → IsBatch paints → IsBatch before × IsKept c
batch_split paints before c is all = batch_parts before c (subst (λ (cs : List Paint). IsBatch cs) is all)

-- a point that isn't visible is unknown
pub traced_hidden : (look : Look) (base : Base) (paints : List Paint) (q : Point) → base.visible q ≡ false → None ≡ after look base paints q
traced_hidden look base paints q hidden = sym (trace-unseen look base _ q hidden)

module _ (look : Look) (base : Base) (paints before : List Paint) (c : Paint) (q : Point) (is : paints ≡ before ++ c ∷ []) (seen : base.visible q ≡ true) where
  last : after look base paints q ≡ after_deed look.kind (deed look c q) (λ r. after look base before r) q
  last =
      ap (λ (cs : List Paint). after look base cs q) is ∙ after-last look base before c q
      ∙ ap (λ b. cond b (after_deed look.kind (deed look c q) (λ r. after look base before r) q) None) seen

  -- outside its area the last command does nothing
  pub traced_beside : has_point (area c) q ≡ false → after look base paints q ≡ after look base before q
  traced_beside outside = last ∙ ap (λ b. after_deed look.kind (cond b (deed_within look c q) Keep) (λ r. after look base before r) q) outside

  -- within its area it does what it does there
  pub traced_within : has_point (area c) q ≡ true → after look base paints q ≡ after_deed look.kind (deed_within look c q) (λ r. after look base before r) q
  traced_within inside = last ∙ ap (λ b. after_deed look.kind (cond b (deed_within look c q) Keep) (λ r. after look base before r) q) inside

-- the part of a pixmap that is cut by a clip has points of the pixmap alone
pub pixels_part : (clip : Edges) (size : Size) (delta q : Point) → has_point (meet_of clip (shifted (whole_of size) delta)) q ≡ true →
    has_point (whole_of size) (before_shift q delta) ≡ true
pixels_part clip size delta q on =
    sym (has_point-shifted (whole_of size) delta q) ∙ (and_parts _ _ (sym (has_point-meet_of clip (shifted (whole_of size) delta) q) ∙ on)).1

-- the part of a text's cells that is cut by a clip has points of the cells alone
pub text_part : (clip : Edges) (n : ℕ) (at q : Point) → has_point (meet_of clip (cells_of at n)) q ≡ true → IsInCells n (before_shift q at) 1
text_part clip n at q on =
    let cells = (and_parts _ _ (sym (has_point-meet_of clip (cells_of at n) q) ∙ on)).1 in
    let sides = and_parts _ _ (sym (has_point-rect_of at.h (at.h +ℤ pos (8 * n)) at.v (at.v +ℤ pos 8) q) ∙ cells) in
    let h : (pos 0 ≤ℤ (q.h -ℤ at.h)) × ((q.h -ℤ at.h) <ℤ pos (8 * n)) = across at.h q.h (8 * n) sides.0 in
    let v = across at.v q.v 8 sides.1 in
    record { west = h.0; east = next (q.h -ℤ at.h) (8 * n) h.1; north = v.0; south = v.1 }
  where
    next : (y : ℤ) (m : ℕ) → y <ℤ pos m → (y +ℤ pos 1) ≤ℤ pos m
    next y m h = omega (arith, ints, h)

    ge : (m : ℕ) (y : ℤ) → between (pos 0) (pos m) y ≡ true → pos 0 ≤ℤ y
    ge m y h = grind (arith, ints)

    lt : (m : ℕ) (y : ℤ) → between (pos 0) (pos m) y ≡ true → y <ℤ pos m
    lt m y h = grind (arith, ints)

    across : (a x : ℤ) (m : ℕ) → between a (a +ℤ pos m) x ≡ true → (pos 0 ≤ℤ (x -ℤ a)) × ((x -ℤ a) <ℤ pos m)
    across a x m h = let on = sym (between_from a x m) ∙ h in (ge m (x -ℤ a) on, lt m (x -ℤ a) on)
