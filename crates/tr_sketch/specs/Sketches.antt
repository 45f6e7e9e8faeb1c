-- The model of a sketch, and its invariant.
use Rattle.std.specs.Prelude.{◌≡◌, ℕ, true, List, length, slice_index}
use Rattle.tr_base.specs.declared.Point.{Point}
use Rattle.tr_base.specs.declared.Size.{Size}
use Rattle.tr_base.specs.declared.Kind.{Kind}
use Rattle.tr_base.specs.Rects.{Edges, has_point, whole_of}
use Rattle.tr_region.specs.Areas.{area_of}
use Rattle.tr_region.specs.Places.{place_within}
use Rattle.tr_paint.specs.Paints.{IsNearRect}
use Rattle.tr_paint.specs.Traces.{look_of}
use Rattle.tr_client.specs.declared.clients.Client.{Ghosts}

-- a content, the font, the size of its window and the kind of the pixels for which it was painted, a part of the window, and a pixel for
-- each point of that part, by rows
pub record SketchView (C : Type 0) : Type 0 where
  pub content : C
  pub font : List (List ℕ)
  pub size : Size
  pub kind : Kind
  pub clip : Edges
  pub pixels : List ℕ

-- the clip lies in the window, and each of its points has its pixel: the colour of the point in the content's picture
pub record IsSketch {C M : Type 0} (client : Ghosts C M) (s : SketchView C) : Type 0 where
  pub near : IsNearRect s.clip
  pub within : (q : Point) → has_point s.clip q ≡ true → has_point (whole_of s.size) q ≡ true
  pub many : length s.pixels ≡ area_of s.clip
  pub colours : (q : Point) → has_point s.clip q ≡ true →
      slice_index s.pixels (place_within s.clip q) ≡ client.pic (look_of s.kind s.font) s.size s.content q
