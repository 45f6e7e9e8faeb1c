-- Private contracts alone cite this file.
-- The exposure of a leaf's window on a screen, and a painting that may replace the commands that wait for it.
use Rattle.std.specs.Prelude.{◌≡◌, ℕ, true, List}
use Rattle.tr_base.specs.declared.Point.{Point}
use Rattle.tr_base.specs.declared.LeafId.{LeafId}
use Rattle.tr_base.specs.Rects.{has_point, whole_of}
use Rattle.tr_paint.specs.declared.Paint.{Paint}
use Rattle.tr_paint.specs.Traces.{look_of}
use Rattle.tr_exec.specs.Executions.{screen_point}
use Rattle.tr_client.specs.declared.clients.Client.{Ghosts}
use Rattle.tr_spot.specs.Spots.{spot, is_in_leaf}
use Rattle.tr_spot.specs.Leaves.{leaf_corner, leaf_size}
use Rattle.tr_surface.specs.Surfaces.{HasBadPoints, Shown}
use Rattle.tr_windows.specs.declared.exposures.Exposure.{Exposure}
use Rattle.tr_windows.specs.Presents.{Present}
use Rattle.tr_windows.specs.Promises.{FlushesByPainting}

-- the exposure of a leaf's window on a screen: its size, a rectangle that has its bad visible points, and a flag; if the flag is set,
-- each of its points is visible
pub record IsExposure (s : Shown) (leaf : LeafId) (e : Exposure) : Type 0 where
  pub size : e.size ≡ leaf_size s.tree leaf
  pub has_bad : HasBadPoints s leaf e.bad
  pub whole : e.is_whole ≡ true → (q : Point) → has_point (whole_of (leaf_size s.tree leaf)) q ≡ true →
      is_in_leaf leaf (spot s.tree (screen_point (leaf_corner s.tree leaf) q)) ≡ true

-- a batch flushes a leaf's window by a painting, for an exposure of the window on the screen
pub record IsFlushing {C M : Type 0} (client : Ghosts C M) (s : Shown) (font : List (List ℕ))
    (w : Present C) (leaf : LeafId) (batch : List Paint) : Type 0 where
  pub exposure : Exposure
  pub stands : IsExposure s leaf exposure
  pub flushes : FlushesByPainting client (look_of s.tree.kind font) exposure w batch
