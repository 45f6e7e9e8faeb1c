use Rattle.std.proofs.Common.{◌&&◌, ap, ◌∙◌}
use Rattle.tr_base.specs.Rects.{Edges, has_point, whole_of}
use Rattle.tr_region.specs.Points.{holds}
use Rattle.tr_spot.specs.Spots.{spot, is_spot_of}
use Rattle.tr_spot.proofs.ChildLemmas.{holds_as}
use Rattle.tr_spot.proofs.PartLemmas.{own_on}
use Rattle.tr_spot.proofs.windows.owned.Goals as goal

pub returns : goal.returns
returns c = holds_as c.owned_in.result
    (λ p. holds c.in_ok-screen.screen p && is_spot_of c.args.tree.now c.args.n (spot c.args.tree.now p))
    (λ p. is_spot_of c.args.tree.now c.args.n (spot c.args.tree.now p))
    (λ p. ap (λ b. b && is_spot_of c.args.tree.now c.args.n (spot c.args.tree.now p))
    (c.in_ok-screen.ensures.points p ∙ ap (λ (e : Edges). has_point e p) (c.whole.ensures.edges ∙ ap whole_of c.size.ensures))
    ∙ own_on c.args.tree.now c.requires.forest c.args.n p) c.owned_in.ensures
