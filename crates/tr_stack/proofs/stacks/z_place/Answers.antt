use Rattle.std.proofs.Common.{◌≡◌, ◌<◌, pos, length, ap, ◌∙◌, arith}
use Rattle.std.proofs.lemmas.List.{take_all}
use Rattle.std.proofs.lemmas.List.Elements.{All-push, All-same}
use Rattle.tr_base.specs.Rects.{Edges, empty_rect}
use Rattle.tr_base.specs.Layouts.{farthest, IsNear}
use Rattle.tr_base.proofs.LayoutLemmas.{taken_more}
use Rattle.tr_stack.specs.Stacks.{z_places}
use Rattle.tr_stack.proofs.StackLemmas.{length-z_places, z_place_read, z_empty}
use Rattle.tr_stack.proofs.stacks.z_place.Goals as goal

pub loop-i-preserved : goal.loop-i-preserved
loop-i-preserved c =
    let e = c.args.rect in
    let cs = c.args.children.now in
    let ats = c.args.at.now in
    let i = c.loop-i.i in
    let short : i < length ats = omega (arith, c.requires.count) in
    let answer = z_places e ats cs in
    let within : i < length answer = omega (arith, length-z_places e ats cs c.requires.count) in
    let is = z_place_read e ats cs i (record { h = pos 0; v = pos 0 }) c.index-children-i.result c.preferred_place.result short c.loop-i-test.true
    c.index-children-i.is c.preferred_place.ensures.place in
    record {
      so_far = c.in_ok-push.ensures.items ∙ taken_more answer c.loop-i.places.items i c.preferred_place.result within is c.loop-i.invariant.so_far;
      near = All-same (λ (child : Edges). IsNear farthest child e) _ _ c.in_ok-push.ensures.items
          (All-push (λ (child : Edges). IsNear farthest child e) c.loop-i.places.items c.preferred_place.result c.loop-i.invariant.near
          c.preferred_place.ensures.near);
    }

pub returns-clause-places : goal.returns-clause-places
returns-clause-places c =
    c.loop-i.invariant.so_far ∙ take_all c.loop-i.i (z_places c.args.rect c.args.at.now c.args.children.now)
    (omega (arith, length-z_places c.args.rect c.args.at.now c.args.children.now c.requires.count))

pub returns-clause-count : goal.returns-clause-count
returns-clause-count c =
    omega (arith, length-z_places c.args.rect c.args.at.now c.args.children.now c.requires.count, ap length (returns-clause-places c), c.loop-i.places.ok.0)

pub returns-clause-near : goal.returns-clause-near
returns-clause-near c = c.loop-i.invariant.near

pub returns-clause-empty : goal.returns-clause-empty
returns-clause-empty c h = All-same (λ (child : Edges). child ≡ empty_rect) _ _ (returns-clause-places c)
    (z_empty c.args.rect c.args.at.now c.args.children.now h)
