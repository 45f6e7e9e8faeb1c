use Rattle.std.proofs.Common.{◌&&◌, ap, ◌∙◌}
use Rattle.tr_base.specs.Rects.{Edges, has_point, whole_of}
use Rattle.tr_region.specs.Points.{holds}
use Rattle.tr_spot.specs.Ways.{comes_to}
use Rattle.tr_spot.proofs.ChildLemmas.{holds_as}
use Rattle.tr_spot.proofs.PartLemmas.{comes_on}
use Rattle.tr_spot.proofs.windows.reached.Goals as goal

pub returns : goal.returns
returns c = holds_as c.reached_in.result
    (λ p. holds c.in_ok-screen.screen p && comes_to c.args.tree.now p c.args.n)
    (λ p. comes_to c.args.tree.now p c.args.n)
    (λ p. ap (λ b. b && comes_to c.args.tree.now p c.args.n)
    (c.in_ok-screen.ensures.points p ∙ ap (λ (e : Edges). has_point e p) (c.whole.ensures.edges ∙ ap whole_of c.size.ensures))
    ∙ comes_on c.args.tree.now c.invariant.ensures.forest c.args.n p) c.reached_in.ensures
