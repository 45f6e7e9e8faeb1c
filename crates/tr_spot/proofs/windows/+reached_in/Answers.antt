use Rattle.std.proofs.Common.{◌≡◌, ◌&&◌, Some, false, Bool, true, List, refl, sym, ap, ◌∙◌, arith}
use Rattle.tr_base.specs.Rects.{Edges, has_point, whole_of}
use Rattle.tr_region.specs.Points.{holds}
use Rattle.tr_forest.specs.Nodes.{node}
use Rattle.tr_spot.specs.Ways.{front, is_it, comes_to}
use Rattle.tr_spot.proofs.NodeLemmas.{depth_below, has_child_is_node}
use Rattle.tr_spot.proofs.ChildLemmas.{holds_as}
use Rattle.tr_spot.proofs.WayLemmas.{comes_root, comes_nowhere, comes_parent}
use Rattle.tr_spot.proofs.windows.+reached_in.Goals as goal

pub returns-then-is_root : goal.returns-then-is_root
returns-then-is_root t c = holds_as c.within.result (λ p. holds c.args.part p && has_point c.whole.result p)
    (λ p. holds c.args.part p && comes_to c.args.tree.now p c.args.n)
    (λ p. ap (λ b. holds c.args.part p && b) (ap (λ (e : Edges). has_point e p) (c.whole.ensures.edges ∙ ap whole_of c.size.ensures)
    ∙ sym (comes_root c.args.tree.now c.requires.forest p c.args.n (sym c.is_root.ensures ∙ c.if-is_root.true)))) c.within.ensures.points

pub reached_in-requires : goal.reached_in-requires
reached_in-requires t c =
    let up : (node c.args.tree.now.nodes c.args.n).parent ≡ Some c.in-Some.parent = sym c.in-Some.ensures in (
      omega (arith, depth_below c.args.tree.now.nodes c.requires.forest c.in-Some.parent c.args.n up, c.decreases),
      (c.requires.forest, has_child_is_node c.args.tree.now.nodes c.requires.forest c.in-Some.parent c.args.n up),
    )

pub passed_on-requires-clause-parent : goal.passed_on-requires-clause-parent
passed_on-requires-clause-parent t c = has_child_is_node c.args.tree.now.nodes c.requires.forest c.in-Some.parent c.args.n (sym c.in-Some.ensures)

and_none : (b x : Bool) → x ≡ false → false ≡ (b && x)
and_none true x h = sym h
and_none false x h = refl

and_same : (a b c : Bool) → ((a && b) && c) ≡ (a && (b && c))
and_same true b c = refl
and_same false b c = refl

pub returns-in-None : goal.returns-in-None
returns-in-None t c = λ p.
    ap (λ (r : List Edges). holds r p) c.empty.ensures
    ∙ and_none (holds c.args.part p) (comes_to c.args.tree.now p c.args.n)
    (comes_nowhere c.args.tree.now c.requires.forest p c.args.n (sym c.is_root.ensures ∙ c.if-is_root.false) (sym c.in-None.ensures))

pub returns-in_ok-above-in-Some : goal.returns-in_ok-above-in-Some
returns-in_ok-above-in-Some t c = holds_as c.passed_on.result
    (λ p. holds c.in_ok-above-in-Some.above p && is_it c.args.n (front c.args.tree.now p (node c.args.tree.now.nodes c.in-Some.parent).children))
    (λ p. holds c.args.part p && comes_to c.args.tree.now p c.args.n)
    (λ p. let on = is_it c.args.n (front c.args.tree.now p (node c.args.tree.now.nodes c.in-Some.parent).children) in
    ap (λ b. b && on) (c.in_ok-above-in-Some.ensures p)
    ∙ and_same (holds c.args.part p) (comes_to c.args.tree.now p c.in-Some.parent) on
    ∙ ap (λ b. holds c.args.part p && b) (sym (comes_parent c.args.tree.now c.requires.forest p c.args.n c.in-Some.parent
    (sym c.is_root.ensures ∙ c.if-is_root.false) (sym c.in-Some.ensures))))
    c.passed_on.ensures
