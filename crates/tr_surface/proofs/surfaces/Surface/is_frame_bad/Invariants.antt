use Rattle.std.proofs.Common.{◌≡◌, ◌<◌, ◌&&◌, false}
use Rattle.tr_base.specs.declared.Point.{Point}
use Rattle.tr_base.specs.declared.NodeId.{NodeId}
use Rattle.tr_surface.specs.Surfaces.{is_bad}
use Rattle.tr_spot.specs.Spots.{spot, is_on_frame}
use Rattle.tr_surface.proofs.surfaces.Surface.is_frame_bad.Given as goal

-- the frames of the nodes before n are good
abbrev pub invariant-loop-n : goal.invariant-loop-n
invariant-loop-n l = (m : NodeId) (p : Point) → m.0 < l.n → (is_bad l.self p && is_on_frame m (spot l.self.tree p)) ≡ false
