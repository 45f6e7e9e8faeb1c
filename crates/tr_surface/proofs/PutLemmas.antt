-- The pixels that are put at a region's points, and those that are read there.
use Rattle.std.proofs.Common.{◌≡◌, ℕ, ◌+◌, ◌-◌, ◌<◌, ◌≤◌, pos, ◌+ℤ◌, ◌-ℤ◌, ◌≤ℤ◌, ◌<ℤ◌, Bool, true, false, ◌&&◌, cond, ℤ, List, [], ◌∷◌, ◌++◌, inl, inr, length, get_or, take, drop, refl, sym, ap, ◌∙◌, arith}
use Rattle.std.specs.Prelude.{int_lt, slice_index, unsigned_abs}
use Rattle.std.proofs.lemmas.Int.{ints}
use Rattle.std.proofs.lemmas.Bool.{and_parts}
use Rattle.std.proofs.lemmas.List.{get_or-take, get_or-drop, get_or_append_left, get_or-append-add, length-append}
use Rattle.std.proofs.lemmas.List.Sums.{sum_by-cons}
use Rattle.tr_base.specs.declared.Point.{Point}
use Rattle.tr_base.specs.declared.Size.{Size}
use Rattle.tr_base.specs.Rects.{Edges, IsRect, before_shift, between, empty_rect, has_point, shifted, whole_of}
use Rattle.tr_base.proofs.RectFacts.{rect_of-full, between_parts, abs_is}
use Rattle.tr_base.proofs.RectLemmas.{false-true, rect_cases}
use Rattle.tr_region.specs.Areas.{area_of, total_area}
use Rattle.tr_region.specs.Places.{place_in, place_within}
use Rattle.tr_region.specs.Points.{holds}
use Rattle.tr_region.proofs.OrderLemmas.{IsFull}
use Rattle.tr_region.proofs.PlaceLemmas.{IsRectAt, held_first, holds-push_other, holds-push_own, place_in-before, place_in-first, place_in-held, place_in-last, place_within-lt, row_and_column, take-rect}
use Rattle.tr_screen.specs.Pictures.{Picture, pixel_of}
use Rattle.tr_screen.specs.declared.Run.{Run}
use Rattle.tr_screen.specs.Runs.{Repaints, in_run, point_in, width_of}
use Rattle.tr_screen.specs.Readings.{rect_by, rects_by, row_in}
use Rattle.tr_screen.proofs.ReadingLemmas.{get_or-rect_by, length-rect_by}
use Rattle.tr_exec.specs.Walks.{in_area}
use Rattle.tr_exec.proofs.BrushLemmas.{held}
use Rattle.tr_exec.proofs.PlacedLemmas.{points}

-- ---- one rectangle

-- further along a run the place is greater
pub place_later : (r : Edges) (run : Run) (k : ℕ) → r.west ≤ℤ run.west → place_within r (point_in run k) ≡ place_within r (point_in run 0) + k
place_later r run k west =
    let here : pos (unsigned_abs ((run.west +ℤ pos 0) -ℤ r.west)) ≡ (run.west +ℤ pos 0) -ℤ r.west =
    abs_is ((run.west +ℤ pos 0) -ℤ r.west) (omega (arith, ints, west)) in
    let there : pos (unsigned_abs ((run.west +ℤ pos k) -ℤ r.west)) ≡ (run.west +ℤ pos k) -ℤ r.west =
    abs_is ((run.west +ℤ pos k) -ℤ r.west) (omega (arith, ints, west)) in
    let far : unsigned_abs ((run.west +ℤ pos k) -ℤ r.west) ≡ unsigned_abs ((run.west +ℤ pos 0) -ℤ r.west) + k = omega (arith, ints, here, there) in
    omega (arith, far)

-- a run of a rectangle begins in its columns
pub run_west : (r : Edges) (run : Run) → run.west <ℤ run.east → ((p : Point) → in_run run p ≡ true → has_point r p ≡ true) → r.west ≤ℤ run.west
run_west r run some within =
    let first = within (point_in run 0) (held run 0 (omega (arith, ints, some))) in
    let at = and_parts (between r.west r.east (run.west +ℤ pos 0)) (between r.north r.south run.v) first in
    let low = between_parts r.west r.east (run.west +ℤ pos 0) at.0 in
    omega (arith, ints, low.0)

-- the places of a run are the rectangle's
pub run_fits : (r : Edges) (run : Run) → run.west <ℤ run.east → ((p : Point) → in_run run p ≡ true → has_point r p ≡ true) →
    place_within r (point_in run 0) + width_of run ≤ area_of r
run_fits r run some within =
    let wide : pos (width_of run) ≡ run.east -ℤ run.west = abs_is (run.east -ℤ run.west) (omega (arith, ints, some)) in
    let k : ℕ = width_of run - 1 in
    let one : k + 1 ≡ width_of run = omega (arith, ints, wide, some) in
    let last = place_within-lt r (point_in run k) (within (point_in run k) (held run k (omega (arith, ints, wide, one)))) in
    let later = place_later r run k (run_west r run some within) in
    omega (arith, last, later, one)

-- a part of a list, pixel by pixel
pub part_is : (pixels part : List ℕ) (from count k : ℕ) → part ≡ take (from + count - from) (drop from pixels) → k < count →
    slice_index part k ≡ slice_index pixels (from + k)
part_is pixels part from count k is lt =
    let same : from + count - from ≡ count = omega arith in
    ap (λ (l : List ℕ). slice_index l k) (is ∙ ap (λ i. take i (drop from pixels)) same)
    ∙ get_or-take count (drop from pixels) k 0 lt ∙ get_or-drop from pixels k 0

-- pixels that are put in a part of the region are put in the rectangle
pub put_in : (part : List Edges) (r : Edges) (f : Point → ℕ) (old new : Picture) → ((p : Point) → has_point r p ≡ true → holds part p ≡ true) →
    Repaints (in_area (holds part) r) f old new → Repaints (has_point r) f old new
put_in part r f old new all paints = record {
  size = paints.size;
  kind = paints.kind;
  points = λ p on. paints.points p on ∙ ap (λ b. cond b (f p) (pixel_of old p)) (same p (has_point r p) refl);
}
  where
    and_false : (b : Bool) → (b && false) ≡ false
    and_false true = refl
    and_false false = refl

    same : (p : Point) (b : Bool) → has_point r p ≡ b → (holds part p && has_point r p) ≡ has_point r p
    same p true h = ap (λ b. b && has_point r p) (all p h)
    same p false h = ap (λ b. holds part p && b) h ∙ and_false (holds part p) ∙ sym h

-- ---- a rectangle that is moved

-- a rectangle with points moves edge by edge
pub moved_rect : (d : Point) (r : Edges) → IsFull r →
    shifted r d ≡ record { west = r.west +ℤ d.h; east = r.east +ℤ d.h; north = r.north +ℤ d.v; south = r.south +ℤ d.v }
moved_rect d r full =
    let across : r.west <ℤ r.east = full.across in
    let down : r.north <ℤ r.south = full.down in
    rect_of-full (r.west +ℤ d.h) (r.east +ℤ d.h) (r.north +ℤ d.v) (r.south +ℤ d.v) (omega (arith, ints)) (omega (arith, ints))

-- how far two edges are from each other
moved_side : (a b by : ℤ) → unsigned_abs ((a +ℤ by) -ℤ (b +ℤ by)) ≡ unsigned_abs (a -ℤ b)
moved_side a b by = let same : (a +ℤ by) -ℤ (b +ℤ by) ≡ a -ℤ b = omega (arith, ints) in ap unsigned_abs same

-- how far a coordinate is from an edge
moved_edge : (x edge by : ℤ) → unsigned_abs (x -ℤ (edge +ℤ by)) ≡ unsigned_abs ((x -ℤ by) -ℤ edge)
moved_edge x edge by = let same : x -ℤ (edge +ℤ by) ≡ (x -ℤ by) -ℤ edge = omega (arith, ints) in ap unsigned_abs same

-- it has as many points
pub area-moved : (d : Point) (r : Edges) → IsFull r → area_of (shifted r d) ≡ area_of r
area-moved d r full = ap area_of (moved_rect d r full) ∙ rw (moved_side r.east r.west d.h, moved_side r.south r.north d.v) refl

-- and each stands where it stood
pub place-moved : (d : Point) (r : Edges) (q : Point) → IsFull r → place_within (shifted r d) q ≡ place_within r (before_shift q d)
place-moved d r q full =
    ap (λ (e : Edges). place_within e q) (moved_rect d r full)
    ∙ rw (moved_edge q.v r.north d.v, moved_side r.east r.west d.h, moved_edge q.h r.west d.h) refl

-- the empty rectangle stays itself
empty-moved : (d : Point) → shifted empty_rect d ≡ empty_rect
empty-moved d =
    let flat : int_lt (pos 0 +ℤ d.h) (pos 0 +ℤ d.h) ≡ false = grind (arith, ints) in
    rw flat refl

-- so any rectangle has as many points
pub area-shifted : (d : Point) (r : Edges) → IsRect r → area_of (shifted r d) ≡ area_of r
area-shifted d r is = elim (rect_cases r is) [
  | inl none ↦ ap (λ (e : Edges). area_of (shifted e d)) none ∙ ap area_of (empty-moved d) ∙ sym (ap area_of none)
  | inr both ↦ area-moved d r (record { across = both.0; down = both.1 })
]

-- and a point that the moved one has stands where it stood
pub place-shifted : (d : Point) (r : Edges) (p : Point) → IsRect r → has_point r (before_shift p d) ≡ true →
    place_within (shifted r d) p ≡ place_within r (before_shift p d)
place-shifted d r p is has = place-moved d r p (full_at r (before_shift p d) has)
  where
    order : (low high x : ℤ) → between low high x ≡ true → low <ℤ high
    order low high x h = let at = between_parts low high x h in omega (arith, ints, at.0, at.1)

    full_at : (e : Edges) (q : Point) → has_point e q ≡ true → IsFull e
    full_at e q h =
        let both = and_parts (between e.west e.east q.h) (between e.north e.south q.v) h in
        record { across = order e.west e.east q.h both.0; down = order e.north e.south q.v both.1 }

-- pixels that are put in an area of what is seen, by the clip that was moved there
pub put_moved : (region : List Edges) (clip area : Edges) (d : Point) (pixels : List ℕ) (seen : Point → Bool) (old new : Picture) → IsRect clip →
    area ≡ shifted clip d → ((p : Point) → has_point area p ≡ has_point clip (before_shift p d)) → ((p : Point) → holds region p ≡ seen p) →
    Repaints (in_area (holds region) area) (λ p. slice_index pixels (place_within area p)) old new →
    Repaints (λ p. seen p && has_point clip (before_shift p d)) (λ p. slice_index pixels (place_within clip (before_shift p d))) old new
put_moved region clip area d pixels seen old new rect is points are paints = record {
  size = paints.size;
  kind = paints.kind;
  points = λ p on.
      paints.points p on ∙ by_area p (has_point area p) refl
      ∙ ap (λ b. cond b (slice_index pixels (place_within clip (before_shift p d))) (pixel_of old p)) (same p);
}
  where
    and_false : (b : Bool) → (b && false) ≡ false
    and_false true = refl
    and_false false = refl

    same : (p : Point) → (holds region p && has_point area p) ≡ (seen p && has_point clip (before_shift p d))
    same p = ap (λ b. b && has_point area p) (are p) ∙ ap (λ b. seen p && b) (points p)

    nothing : (p : Point) (n : ℕ) → cond (holds region p && false) (slice_index pixels n) (pixel_of old p) ≡ pixel_of old p
    nothing p n = ap (λ b. cond b (slice_index pixels n) (pixel_of old p)) (and_false (holds region p))

    by_area : (p : Point) (b : Bool) → has_point area p ≡ b →
        cond (holds region p && b) (slice_index pixels (place_within area p)) (pixel_of old p)
        ≡ cond (holds region p && b) (slice_index pixels (place_within clip (before_shift p d))) (pixel_of old p)
    by_area p true h =
        ap (λ n. cond (holds region p && true) (slice_index pixels n) (pixel_of old p))
        (ap (λ (e : Edges). place_within e p) is ∙ place-shifted d clip p rect (sym (points p) ∙ h))
    by_area p false h = nothing p (place_within area p) ∙ sym (nothing p (place_within clip (before_shift p d)))

-- ---- putting

-- the pixel of a point among those of a list
abbrev pub pixel_at : List ℕ → List Edges → Point → ℕ
pixel_at pixels rects p = slice_index pixels (place_in rects p)

-- pixels in one rectangle more
pub put_more : (rects : List Edges) (k : ℕ) (r : Edges) (pixels part : List ℕ) (from : ℕ) (old mid new : Picture) → IsRectAt rects k r →
    from ≡ total_area (take k rects) → part ≡ take (from + area_of r - from) (drop from pixels) →
    Repaints (holds (take k rects)) (pixel_at pixels (take k rects)) old mid → Repaints (has_point r) (λ p. slice_index part (place_within r p)) mid new →
    Repaints (holds (take (k + 1) rects)) (pixel_at pixels (take (k + 1) rects)) old new
put_more rects k r pixels part from old mid new n from_is part_of first paints = record {
  size = paints.size ∙ first.size;
  kind = paints.kind ∙ first.kind;
  points = λ p on.
      paints.points p (ap (λ (size : Size). has_point (whole_of size) p) first.size ∙ on)
      ∙ ap (λ x. cond (has_point r p) (slice_index part (place_within r p)) x) (first.points p on)
      ∙ by_rect p (has_point r p) refl
      ∙ sym (ap (λ (es : List Edges). cond (holds es p) (pixel_at pixels es p) (pixel_of old p)) (take-rect rects k r n));
}
  where
    some : List Edges
    some = take k rects

    by_some : (p : Point) → has_point r p ≡ false → (b : Bool) → holds some p ≡ b →
        cond b (pixel_at pixels some p) (pixel_of old p) ≡ cond b (pixel_at pixels (some ++ r ∷ []) p) (pixel_of old p)
    by_some p out true held = ap (λ i. slice_index pixels i) (sym (place_in-before some r p out held))
    by_some p out false none = refl

    by_rect : (p : Point) (b : Bool) → has_point r p ≡ b →
        cond b (slice_index part (place_within r p)) (cond (holds some p) (pixel_at pixels some p) (pixel_of old p))
        ≡ cond (holds (some ++ r ∷ []) p) (pixel_at pixels (some ++ r ∷ []) p) (pixel_of old p)
    by_rect p true here =
        part_is pixels part from (area_of r) (place_within r p) part_of (place_within-lt r p here)
        ∙ ap (λ i. slice_index pixels (i + place_within r p)) from_is
        ∙ ap (λ i. slice_index pixels i) (sym (place_in-last some r p here))
        ∙ sym (ap (λ b. cond b (pixel_at pixels (some ++ r ∷ []) p) (pixel_of old p)) (holds-push_own some r p here))
    by_rect p false out =
        by_some p out (holds some p) refl
        ∙ sym (ap (λ b. cond b (pixel_at pixels (some ++ r ∷ []) p) (pixel_of old p)) (holds-push_other some r p out))

-- ---- reading

module _ (pixel : Point → ℕ) where
  -- a rectangle has as many pixels as points
  length-area : (r : Edges) → length (rect_by pixel r) ≡ area_of r
  length-area r = length-rect_by pixel r ∙ omega arith

  -- the pixel of each of its points stands in its place
  rect_by-place : (r : Edges) (p : Point) → has_point r p ≡ true → get_or (rect_by pixel r) (place_within r p) 0 ≡ pixel p
  rect_by-place r p h =
      let at = row_and_column r p h in
      let sides = and_parts (between r.west r.east p.h) (between r.north r.south p.v) h in
      let x = between_parts r.west r.east p.h sides.0 in
      let y = between_parts r.north r.south p.v sides.1 in
      let across = abs_is (p.h -ℤ r.west) (omega (arith, ints, x.0)) in
      let down = abs_is (p.v -ℤ r.north) (omega (arith, ints, y.0)) in
      let same : point_in (row_in r (unsigned_abs (p.v -ℤ r.north))) (unsigned_abs (p.h -ℤ r.west)) ≡ p =
      points _ _ _ _ (omega (arith, ints, across)) (omega (arith, ints, down)) in
      get_or-rect_by pixel r (unsigned_abs (p.v -ℤ r.north)) (unsigned_abs (p.h -ℤ r.west)) at.0 at.1 ∙ ap pixel same

  -- the same of rectangles
  pub length-rects_by : (rects : List Edges) → length (rects_by pixel rects) ≡ total_area rects
  length-rects_by [] = refl
  length-rects_by (r ∷ rects) =
      let rest = length-rects_by rects in
      let all = sum_by-cons area_of r rects in
      length-append (rect_by pixel r) (rects_by pixel rects) ∙ omega (arith, length-area r, rest, all)

  pub rects_by-place : (rects : List Edges) (p : Point) → holds rects p ≡ true → get_or (rects_by pixel rects) (place_in rects p) 0 ≡ pixel p
  rects_by-place [] p h = absurd (false-true h)
  rects_by-place (r ∷ rects) p h = by_rest (λ e. rects_by-place rects p e) (holds rects p) refl
    where
      by_rest : (holds rects p ≡ true → get_or (rects_by pixel rects) (place_in rects p) 0 ≡ pixel p) → (b : Bool) → holds rects p ≡ b →
          get_or (rects_by pixel (r ∷ rects)) (place_in (r ∷ rects) p) 0 ≡ pixel p
      by_rest rest true e =
          ap (λ i. get_or (rects_by pixel (r ∷ rects)) i 0) (place_in-held r rects p e ∙ ap (λ n. n + place_in rects p) (sym (length-area r)))
          ∙ get_or-append-add (rect_by pixel r) (rects_by pixel rects) (place_in rects p) 0
          ∙ rest e
      by_rest rest false none =
          let own = held_first r rects p h none in
          ap (λ i. get_or (rects_by pixel (r ∷ rects)) i 0) (place_in-first r rects p none)
          ∙ get_or_append_left (rect_by pixel r) (rects_by pixel rects) 0 (place_within r p) (omega (arith, place_within-lt r p own, length-area r))
          ∙ rect_by-place r p own
