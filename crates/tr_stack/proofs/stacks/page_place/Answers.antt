use Rattle.std.proofs.Common.{◌≡◌, length, ap, ◌∙◌, arith}
use Rattle.std.proofs.lemmas.List.Elements.{All-push, All-same}
use Rattle.tr_base.specs.Rects.{Edges, empty_rect}
use Rattle.tr_base.specs.Layouts.{IsPartOf}
use Rattle.tr_base.proofs.LayoutLemmas.{length-places_by, places_by_more, all_places, pairs_of_places}
use Rattle.tr_stack.specs.Stacks.{page_place}
use Rattle.tr_stack.proofs.StackLemmas.{page_empty, page_apart}
use Rattle.tr_stack.proofs.stacks.page_place.Goals as goal

pub loop-k-preserved : goal.loop-k-preserved
loop-k-preserved c = record {
  so_far = c.in_ok-push.ensures.items
      ∙ places_by_more (page_place c.args.rect c.args.per c.args.page) _ _ _ c.loop-k.invariant.so_far c.page_child.ensures.place;
  part = All-same (λ (child : Edges). IsPartOf child c.args.rect) _ _ c.in_ok-push.ensures.items
      (All-push (λ (child : Edges). IsPartOf child c.args.rect) c.loop-k.places.items c.page_child.result c.loop-k.invariant.part c.page_child.ensures.part);
}

pub returns-clause-count : goal.returns-clause-count
returns-clause-count c =
    omega (arith, length-places_by (page_place c.args.rect c.args.per c.args.page) c.loop-k.k, ap length c.loop-k.invariant.so_far, c.loop-k.places.ok.0)

pub returns-clause-part : goal.returns-clause-part
returns-clause-part c = c.loop-k.invariant.part

pub returns-clause-apart : goal.returns-clause-apart
returns-clause-apart c =
    pairs_of_places (page_place c.args.rect c.args.per c.args.page) _ _ c.loop-k.invariant.so_far
    (λ i j lt _. page_apart c.args.rect c.args.per c.args.page i j c.requires.per lt)

pub returns-clause-empty : goal.returns-clause-empty
returns-clause-empty c h =
    all_places (λ (child : Edges). child ≡ empty_rect) (page_place c.args.rect c.args.per c.args.page) _ _ c.loop-k.invariant.so_far
    (λ k _. page_empty c.args.rect c.args.per c.args.page k c.requires.per h)
