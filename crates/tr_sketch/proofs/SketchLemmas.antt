-- A part of a window that is painted on a screen of its size: where its points lie there, and where their pixels stand.
use Rattle.std.proofs.Common.{◌≡◌, ◌≢◌, ◌≤◌, ℤ, pos, ◌-ℤ◌, ◌<ℤ◌, true, List, [], ◌∷◌, inl, inr, sym, ap, subst, ◌∙◌, arith}
use Rattle.std.proofs.lemmas.Int.{ints}
use Rattle.std.proofs.lemmas.List.Sums.{sum_by-cons}
use Rattle.tr_base.specs.declared.Point.{Point}
use Rattle.tr_base.specs.declared.Size.{Size}
use Rattle.tr_base.specs.Layouts.{IsDomain}
use Rattle.tr_base.specs.Rects.{Edges, IsRect, before_shift, empty_rect, has_point, shifted, sides_of, whole_of, IsScreenSize}
use Rattle.tr_base.proofs.RectFacts.{abs_is, edges_are, rect_of-full}
use Rattle.tr_base.proofs.RectLemmas.{has_point-shifted, rect_cases}
use Rattle.tr_base.proofs.BoolLemmas.{or_false}
use Rattle.tr_region.specs.Areas.{area_of, total_area}
use Rattle.tr_region.specs.Places.{place_in, place_within}
use Rattle.tr_region.specs.Points.{holds}
use Rattle.tr_region.proofs.OrderLemmas.{IsFull}
use Rattle.tr_paint.specs.Paints.{IsNearRect}
use Rattle.tr_exec.specs.Executions.{IsOrigin, screen_point}
use Rattle.tr_exec.proofs.PlacedLemmas.{before-placed}
use Rattle.tr_spot.specs.Spots.{from_corner, size_of}
use Rattle.tr_surface.proofs.PutLemmas.{area-moved, moved_rect, place-moved}

-- the screen's corner
abbrev pub zero_point : Point
zero_point = record { h = pos 0; v = pos 0 }

-- a screen has the part's size, so that the part holds points
pub record IsSmall (part : Edges) : Type 0 where
  pub rect : IsRect part
  pub near : IsNearRect part
  pub room : IsScreenSize (size_of part)

-- the empty rectangle is no such part
not_empty : (part : Edges) → IsSmall part → part ≡ empty_rect → ⊥
not_empty part is none =
    let some : 1 ≤ (sides_of empty_rect).0 = subst (λ (e : Edges). 1 ≤ (sides_of e).0) none is.room.some_wide in
    omega (arith, ints, some)

pub small_full : (part : Edges) → IsSmall part → IsFull part
small_full part is = elim (rect_cases part is.rect) [
  | inl none ↦ absurd (not_empty part is none)
  | inr both ↦ record { across = both.0; down = both.1 }
]

-- its edges are those of a node's rectangle, and its corner is not far from the window's
pub small_domain : (part : Edges) → IsSmall part → IsDomain part
small_domain part is =
    let near = is.near in
    let wide : (sides_of part).0 ≤ 1024 = is.room.wide in
    let high : (sides_of part).1 ≤ 1024 = is.room.high in
    record {
      west = omega (arith, ints, near.west.low);
      east = omega (arith, ints, near.east.high);
      north = omega (arith, ints, near.north.low);
      south = omega (arith, ints, near.south.high);
      wide = omega (arith, wide);
      high = omega (arith, high);
    }

pub small_origin : (part : Edges) → IsSmall part → IsOrigin (from_corner part zero_point)
small_origin part is =
    let near = is.near in record {
      west = omega (arith, ints, near.west.high);
      east = omega (arith, ints, near.west.low);
      north = omega (arith, ints, near.north.high);
      south = omega (arith, ints, near.north.low);
    }

-- the part, moved to the screen's corner, has all of a screen of its size
corner_rect : (part : Edges) → IsFull part → whole_of (size_of part) ≡ shifted part (from_corner part zero_point)
corner_rect part full =
    let across : part.west <ℤ part.east = full.across in
    let down : part.north <ℤ part.south = full.down in
    let wide : pos (sides_of part).0 ≡ part.east -ℤ part.west = abs_is (part.east -ℤ part.west) (omega (arith, ints)) in
    let high : pos (sides_of part).1 ≡ part.south -ℤ part.north = abs_is (part.south -ℤ part.north) (omega (arith, ints)) in
    rect_of-full (pos 0) (pos (size_of part).wide) (pos 0) (pos (size_of part).high) (omega (arith, ints)) (omega (arith, ints))
    ∙ edges_are _ (pos 0) (pos (size_of part).wide) (pos 0) (pos (size_of part).high)
    (omega (arith, ints)) (omega (arith, ints)) (omega (arith, ints)) (omega (arith, ints))
    ∙ sym (moved_rect (from_corner part zero_point) part full)

-- the region of that screen, and where the window's corner lies, from that of the part
pub record IsAside (part : Edges) (all : List Edges) (origin : Point) : Type 0 where
  pub small : IsSmall part
  pub all_is : all ≡ whole_of (size_of part) ∷ []
  pub origin_is : origin ≡ from_corner part zero_point

module _ (part : Edges) (all : List Edges) (origin : Point) (a : IsAside part all origin) where
  -- the way of the part to the corner
  abbrev way : Point
  way = from_corner part zero_point

  full : IsFull part
  full = small_full part a.small

  moved : all ≡ shifted part way ∷ []
  moved = a.all_is ∙ ap (λ (e : Edges). e ∷ []) (corner_rect part full)

  back : (q : Point) → before_shift (screen_point origin q) way ≡ q
  back q = ap (λ (o : Point). before_shift (screen_point o q) way) a.origin_is ∙ before-placed way q

  -- it has as many points
  pub aside_area : total_area all ≡ area_of part
  aside_area =
      let one = sum_by-cons area_of (shifted part way) [] in
      ap total_area moved ∙ omega (arith, one) ∙ area-moved way part full

  -- each point of the part stands where it stood
  pub aside_place : (q : Point) → place_in all (screen_point origin q) ≡ place_within part q
  aside_place q =
      ap (λ (rs : List Edges). place_in rs (screen_point origin q)) moved
      ∙ place-moved way part (screen_point origin q) full
      ∙ ap (place_within part) (back q)

  -- and lies on that screen
  pub aside_held : (q : Point) → has_point part q ≡ true → holds all (screen_point origin q) ≡ true
  aside_held q has =
      ap (λ (rs : List Edges). holds rs (screen_point origin q)) moved
      ∙ or_false (has_point (shifted part way) (screen_point origin q))
      ∙ has_point-shifted part way (screen_point origin q)
      ∙ ap (has_point part) (back q)
      ∙ has

-- the region of a rectangle of the part's size, as it is made
pub aside_is : (part whole : Edges) (all : List Edges) (origin : Point) (size : Size) → IsSmall part → size ≡ size_of part → whole ≡ whole_of size →
    (whole ≢ empty_rect → all ≡ whole ∷ []) → origin ≡ from_corner part zero_point → IsAside part all origin
aside_is part whole all origin size small size_is whole_is one origin_is = record {
  small = small;
  all_is = one some ∙ ap (λ (e : Edges). e ∷ []) same;
  origin_is = origin_is;
}
  where
    full : IsFull part
    full = small_full part small

    same : whole ≡ whole_of (size_of part)
    same = whole_is ∙ ap whole_of size_is

    -- its east edge is not 0
    some : whole ≢ empty_rect
    some none =
        let wide : 1 ≤ (size_of part).wide = small.room.some_wide in
        let high : 1 ≤ (size_of part).high = small.room.some_high in
        let edges = rect_of-full (pos 0) (pos (size_of part).wide) (pos 0) (pos (size_of part).high) (omega (arith, ints, wide)) (omega (arith, ints, high)) in
        let zero_wide : pos (size_of part).wide ≡ pos 0 = ap (λ (e : Edges). e.east) (sym edges ∙ sym same ∙ none) in
        omega (arith, ints, wide, zero_wide)
