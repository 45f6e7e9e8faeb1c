use Rattle.std.proofs.Common.{◌≡◌, ◌<◌, ◌&&◌, length}
use Rattle.tr_base.specs.declared.Point.{Point}
use Rattle.tr_base.specs.declared.NodeId.{NodeId}
use Rattle.tr_region.specs.Points.{holds}
use Rattle.tr_spot.specs.Spots.{spot, is_on_frame, region_of}
use Rattle.tr_surface.specs.Surfaces.{is_bad}
use Rattle.tr_surface.proofs.surfaces.Surface.bad_frames.Given as goal

-- the bad frame points of the nodes before n
abbrev pub invariant-loop-n : goal.invariant-loop-n
invariant-loop-n l = record {
  count : length l.frames.items ≡ l.n;
  points : (m : NodeId) (p : Point) → m.0 < l.n → holds (region_of l.frames.items m) p ≡ (is_bad l.self p && is_on_frame m (spot l.self.tree p));
}
