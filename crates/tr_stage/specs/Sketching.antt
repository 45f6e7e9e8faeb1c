-- Private contracts alone cite this file.
-- A sketch of a leaf's present content, and the cases in which its pixels may replace a flush.
use Rattle.std.specs.Prelude.{◌≡◌, true, false, Some}
use Rattle.tr_base.specs.declared.Point.{Point}
use Rattle.tr_base.specs.declared.LeafId.{LeafId}
use Rattle.tr_base.specs.Rects.{Edges, has_point}
use Rattle.tr_paint.specs.Batches.{touches}
use Rattle.tr_client.specs.declared.clients.Client.{Ghosts}
use Rattle.tr_spot.specs.Leaves.{in_leaf, leaf_size}
use Rattle.tr_sketch.specs.Sketches.{SketchView}
use Rattle.tr_machine.specs.States.{State, leaf_batch, content_of}
use Rattle.tr_machine.specs.Paintings.{flushed, is_visible}

module _ {C M : Type 0} (client : Ghosts C M) where
  -- the sketch shows a leaf's present content, for the state's font and kind and the window's size
  pub record IsSketchOf (m : State C M) (leaf : LeafId) (s : SketchView C) : Type 0 where
    pub content : content_of client m leaf ≡ Some s.content
    pub font : s.font ≡ m.font
    pub size : s.size ≡ leaf_size m.tree leaf
    pub kind : s.kind ≡ m.tree.kind

  -- The pixels of a clip of a leaf's window may replace a flush: no visible point of the leaf is bad, no such point would be bad after
  -- the flush, and each such point that a waiting command touches lies in the clip.
  pub record MayBePut (m : State C M) (leaf : LeafId) (clip : Edges) : Type 0 where
    pub good : (p : Point) → is_visible m leaf p ≡ true → m.bad p ≡ false
    pub known : (p : Point) → is_visible m leaf p ≡ true → (flushed client leaf m).bad p ≡ false
    pub touched : (p : Point) → is_visible m leaf p ≡ true → touches (leaf_batch client m leaf) (in_leaf m.tree leaf p) ≡ true →
        has_point clip (in_leaf m.tree leaf p) ≡ true
