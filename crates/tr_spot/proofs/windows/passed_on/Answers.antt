use Rattle.std.proofs.Common.{◌&&◌, List, take, ap, ◌∙◌}
use Rattle.std.proofs.lemmas.List.Elements.{All-take}
use Rattle.tr_base.specs.declared.NodeId.{NodeId}
use Rattle.tr_base.specs.Rects.{Edges, has_point}
use Rattle.tr_forest.specs.Nodes.{IsNode}
use Rattle.tr_region.specs.Points.{holds}
use Rattle.tr_spot.specs.Ways.{front, is_it, is_nobody}
use Rattle.tr_spot.proofs.NodeLemmas.{children_are_nodes}
use Rattle.tr_spot.proofs.ChildLemmas.{holds_as, goes_on, goes_nowhere}
use Rattle.tr_spot.proofs.windows.passed_on.Goals as goal

pub outside_all-requires : goal.outside_all-requires
outside_all-requires c =
    All-take (IsNode c.args.tree.now.nodes) c.loop-count.count c.children-siblings.result.now
    (children_are_nodes c.args.tree.now.nodes c.requires.forest c.args.parent c.children-siblings.result.now c.children-siblings.ensures)

pub returns-then-sibling-child : goal.returns-then-sibling-child
returns-then-sibling-child c = holds_as c.outside_all.result
    (λ p. holds c.in_ok-left.left p && is_nobody (front c.args.tree.now p (take c.loop-count.count c.children-siblings.result.now))) _
    (λ p. ap (λ b. b && is_nobody (front c.args.tree.now p (take c.loop-count.count c.children-siblings.result.now)))
    (c.in_ok-left.ensures.points p ∙ ap (λ (e : Edges). holds c.args.part p && has_point e p) c.domain.ensures.domain)
    ∙ goes_on c.args.tree.now p c.args.child c.children-siblings.result.now c.loop-count.count (holds c.args.part p)
    c.loop-count-test.true c.if-sibling-child.true c.loop-count.invariant
    ∙ ap (λ (ks : List NodeId). holds c.args.part p && is_it c.args.child (front c.args.tree.now p ks)) c.children-siblings.ensures)
    c.outside_all.ensures

pub returns : goal.returns
returns c = λ p.
    ap (λ (r : List Edges). holds r p) c.empty.ensures
    ∙ goes_nowhere c.args.tree.now p c.args.child c.children-siblings.result.now c.loop-count.count (holds c.args.part p)
    c.loop-count-test.false c.loop-count.invariant
    ∙ ap (λ (ks : List NodeId). holds c.args.part p && is_it c.args.child (front c.args.tree.now p ks)) c.children-siblings.ensures
