use Rattle.std.proofs.Common.{◌≡◌, length, ap, ◌∙◌, arith}
use Rattle.tr_base.specs.Rects.{Edges, empty_rect}
use Rattle.tr_base.specs.Layouts.{IsPartOf}
use Rattle.tr_base.proofs.LayoutLemmas.{length-places_by, places_by_more, all_places, pairs_of_places}
use Rattle.tr_stack.specs.Stacks.{t_place}
use Rattle.tr_stack.proofs.StackLemmas.{t_part, t_empty, t_apart}
use Rattle.tr_stack.proofs.stacks.t_place.Goals as goal

pub loop-k-preserved : goal.loop-k-preserved
loop-k-preserved c =
    c.in_ok-push.ensures.items ∙ places_by_more (t_place c.args.rect c.args.shown) _ _ _ c.loop-k.invariant c.t_child.ensures.place

pub returns-clause-count : goal.returns-clause-count
returns-clause-count c =
    omega (arith, length-places_by (t_place c.args.rect c.args.shown) c.loop-k.k, ap length c.loop-k.invariant, c.loop-k.places.ok.0)

pub returns-clause-part : goal.returns-clause-part
returns-clause-part c =
    all_places (λ (child : Edges). IsPartOf child c.args.rect) (t_place c.args.rect c.args.shown) _ _ c.loop-k.invariant
    (λ k _. t_part c.args.rect c.args.shown k)

pub returns-clause-apart : goal.returns-clause-apart
returns-clause-apart c =
    pairs_of_places (t_place c.args.rect c.args.shown) _ _ c.loop-k.invariant (λ i j lt _. t_apart c.args.rect c.args.shown i j lt)

pub returns-clause-empty : goal.returns-clause-empty
returns-clause-empty c h =
    all_places (λ (child : Edges). child ≡ empty_rect) (t_place c.args.rect c.args.shown) _ _ c.loop-k.invariant (λ k _. t_empty c.args.rect c.args.shown k h)
