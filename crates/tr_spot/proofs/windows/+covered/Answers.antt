use Rattle.std.proofs.Common.{◌||◌, not, take, ◌/◌, length, get_or, refl, ap, ◌∙◌, arith}
use Rattle.std.proofs.lemmas.List.{take_rest, length-take-le}
use Rattle.std.proofs.lemmas.List.Elements.{All-take, All-drop}
use Rattle.tr_base.specs.Rects.{Edges, has_point}
use Rattle.tr_forest.specs.Nodes.{IsNode}
use Rattle.tr_region.specs.Points.{holds}
use Rattle.tr_spot.specs.Ways.{front, is_nobody}
use Rattle.tr_spot.proofs.NodeLemmas.{zero_node}
use Rattle.tr_spot.proofs.ChildLemmas.{holds_as, covered_one, covered_halves, length_left}
use Rattle.tr_spot.proofs.windows.+covered.Goals as goal

pub domain-requires : goal.domain-requires
domain-requires t c = c.requires.nodes 0 zero_node c.requires.some

pub returns-then-half-eq0 : goal.returns-then-half-eq0
returns-then-half-eq0 t c = holds_as c.of_rect.result (λ p. has_point c.domain.result p) _
    (λ p. ap (λ (e : Edges). has_point e p) c.domain.ensures.domain
    ∙ covered_one c.args.tree.now p c.args.nodes.now (get_or c.args.nodes.now 0 zero_node) (omega arith) refl) c.of_rect.ensures.points

pub covered-requires : goal.covered-requires
covered-requires t c =
    let long = length-take-le (length c.args.nodes.now / 2) c.args.nodes.now (omega arith) in (
      omega (arith, long, c.decreases),
      (All-take (IsNode c.args.tree.now.nodes) _ c.args.nodes.now c.requires.nodes, omega (arith, long)),
    )

pub covered-requires-2 : goal.covered-requires-2
covered-requires-2 t c =
    let long = length_left c.args.nodes.now (length c.args.nodes.now / 2) in
    rw take_rest (
      omega (arith, long, c.decreases),
      (All-drop (IsNode c.args.tree.now.nodes) _ c.args.nodes.now c.requires.nodes, omega (arith, long)),
    )

pub returns : goal.returns
returns t c =
    let second = rw take_rest at c.in_ok-second.ensures in
    holds_as c.union.result (λ p. holds c.in_ok-first.first p || holds c.in_ok-second.second p) _
    (λ p. ap (λ b. b || holds c.in_ok-second.second p) (c.in_ok-first.ensures p)
    ∙ ap (λ b. not (is_nobody (front c.args.tree.now p (take (length c.args.nodes.now / 2) c.args.nodes.now))) || b) (second p)
    ∙ covered_halves c.args.tree.now p c.args.nodes.now (length c.args.nodes.now / 2)) c.union.ensures.points
