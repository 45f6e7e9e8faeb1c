use Rattle.std.proofs.Common.{◌&&◌, drop, not, ap, ◌∙◌}
use Rattle.std.proofs.lemmas.List.{take_rest}
use Rattle.std.proofs.lemmas.List.Elements.{All-drop}
use Rattle.tr_base.specs.Rects.{Edges, has_point}
use Rattle.tr_forest.specs.Nodes.{IsNode}
use Rattle.tr_region.specs.Points.{holds}
use Rattle.tr_spot.specs.Ways.{front, is_nobody}
use Rattle.tr_spot.proofs.NodeLemmas.{zero_node}
use Rattle.tr_spot.proofs.ChildLemmas.{holds_as, uncovered_next, some_left, outside_left}
use Rattle.tr_spot.proofs.windows.outside_all.Goals as goal

pub covered-requires-clause-nodes : goal.covered-requires-clause-nodes
covered-requires-clause-nodes c = rw take_rest (All-drop (IsNode c.args.tree.now.nodes) c.loop-at.at c.args.nodes.now c.requires)

pub covered-requires-clause-some : goal.covered-requires-clause-some
covered-requires-clause-some c = rw take_rest (some_left c.args.nodes.now c.loop-at.at c.loop-at-test.true)

pub domain-requires : goal.domain-requires
domain-requires c = c.requires c.loop-at.at zero_node c.loop-at-test.true

pub returns-then-rects-gt-MANY : goal.returns-then-rects-gt-MANY
returns-then-rects-gt-MANY c =
    let covers = rw take_rest at c.in_ok-all.ensures in
    holds_as c.less-rest.result (λ p. holds c.loop-at.left p && not (holds c.in_ok-all.all p)) _
    (λ p. outside_left (holds c.loop-at.left p) (holds c.in_ok-all.all p) (is_nobody (front c.args.tree.now p (drop c.loop-at.at c.args.nodes.now))) (covers p)
    ∙ c.loop-at.invariant p) c.less-rest.ensures.points

pub loop-at-preserved : goal.loop-at-preserved
loop-at-preserved c = λ p.
    uncovered_next c.args.tree.now p c.loop-at.at c.args.nodes.now
    (holds c.loop-at.left p) (holds c.in_ok-left.left p) c.loop-at-test.true
    (c.in_ok-left.ensures.points p ∙ ap (λ (e : Edges). holds c.loop-at.left p && not (has_point e p)) c.domain.ensures.domain) ∙ c.loop-at.invariant p
