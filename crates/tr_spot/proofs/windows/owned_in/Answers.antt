use Rattle.std.proofs.Common.{◌≡◌, ◌&&◌, Bool, true, false, refl, ap, ◌∙◌}
use Rattle.tr_region.specs.Points.{holds}
use Rattle.tr_forest.specs.Nodes.{node}
use Rattle.tr_spot.specs.Spots.{spot, is_spot_of}
use Rattle.tr_spot.specs.Ways.{comes_to, front, is_nobody}
use Rattle.tr_spot.proofs.ChildLemmas.{holds_as}
use Rattle.tr_spot.proofs.WayLemmas.{owns_is}
use Rattle.tr_spot.proofs.SpotLemmas.{spot_is}
use Rattle.tr_spot.proofs.windows.owned_in.Goals as goal

and_same : (a b c : Bool) → ((a && b) && c) ≡ (a && (b && c))
and_same true b c = refl
and_same false b c = refl

pub returns : goal.returns
returns c = holds_as c.uncovered.result
    (λ p. holds c.in_ok-all.all p && is_nobody (front c.args.tree.now p (node c.args.tree.now.nodes c.args.n).children))
    (λ p. holds c.args.part p && is_spot_of c.args.tree.now c.args.n (spot c.args.tree.now p))
    (λ p. let none = is_nobody (front c.args.tree.now p (node c.args.tree.now.nodes c.args.n).children) in
    ap (λ b. b && none) (c.in_ok-all.ensures p)
    ∙ and_same (holds c.args.part p) (comes_to c.args.tree.now p c.args.n) none
    ∙ ap (λ b. holds c.args.part p && b)
    (owns_is c.args.tree.now c.requires.forest p c.args.n ∙ spot_is c.args.tree.now c.requires.forest p c.args.n)) c.uncovered.ensures
