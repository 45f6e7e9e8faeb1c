use Rattle.std.proofs.Common.{length, sym, ap, ◌∙◌, arith}
use Rattle.std.proofs.lemmas.List.{take_all, take_more_set}
use Rattle.std.proofs.lemmas.List.Elements.{All-push, All-same}
use Rattle.std.proofs.Math.ListN.{length-set}
use Rattle.tr_base.specs.Rects.{Edges}
use Rattle.tr_base.specs.Layouts.{farthest, IsNear}
use Rattle.tr_stack.specs.Stacks.{z_places}
use Rattle.tr_tree.specs.Laying.{offsets_of}
use Rattle.tr_tree.proofs.PlaceLemmas.{child_read, over_more, over_count, taken_all}
use Rattle.tr_tree.proofs.domains.place_over.Goals as goal

pub at_of-at-requires : goal.at_of-at-requires
at_of-at-requires c =
    child_read c.args.parent.now.forest.now c.requires.parent.forest c.args.parent.now.n c.children-children.result.now c.loop-i.i _ c.children-children.ensures
    c.loop-i-test.true

pub loop-i-preserved : goal.loop-i-preserved
loop-i-preserved c =
    let p = c.args.parent.now in
    let r = c.preferred_place.result in
    let i = c.loop-i.i in
    let lt = take_more_set c.loop-i.places i r (omega (arith, c.requires.room, ap length c.children-children.ensures)) in
    record {
      count = length-set c.loop-i.places i r ∙ c.loop-i.invariant.count;
      so_far = lt
          ∙ over_more p.forest.now p.n p.rect p.shapes.now c.children-children.result.now i c.loop-i.places c.at_of-at.result r _ _ c.requires.parent
          c.children-children.ensures c.loop-i-test.true c.at_of-at.ensures c.preferred_place.ensures.place c.loop-i.invariant.so_far;
      near = All-same (λ (child : Edges). IsNear farthest child p.rect) _ _ lt
          (All-push (λ (child : Edges). IsNear farthest child p.rect) _ r c.loop-i.invariant.near c.preferred_place.ensures.near);
    }

pub returns-clause-places : goal.returns-clause-places
returns-clause-places c =
    let p = c.args.parent.now in
    taken_all (z_places p.rect (offsets_of p.forest.now p.n) p.shapes.now) c.loop-i.places c.loop-i.i
    (omega (arith, c.requires.room, ap length c.children-children.ensures))
    (omega (arith, over_count p.forest.now p.n p.rect p.shapes.now c.requires.parent, ap length c.children-children.ensures)) c.loop-i.invariant.so_far

pub bounds-places-i : goal.bounds-places-i
bounds-places-i c = omega (arith, c.requires.room, ap length c.children-children.ensures, c.loop-i.invariant.count)

pub returns-clause-near : goal.returns-clause-near
returns-clause-near c =
    let p = c.args.parent.now in
    All-same (λ (child : Edges). IsNear farthest child p.rect) _ _
    (sym (take_all c.loop-i.i c.loop-i.places (omega (arith, c.requires.room, ap length c.children-children.ensures)))) c.loop-i.invariant.near
