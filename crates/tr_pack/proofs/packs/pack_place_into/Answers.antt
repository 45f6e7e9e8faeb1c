use Rattle.std.proofs.Common.{◌≡◌, ◌<◌, List, take, length, refl, sym, ◌∙◌, subst, arith}
use Rattle.std.specs.Prelude.{AllPairs}
use Rattle.std.proofs.lemmas.List.{take_all, take_more_set}
use Rattle.std.proofs.lemmas.List.Elements.{All-same}
use Rattle.std.proofs.Math.ListN.{length-set}
use Rattle.tr_base.specs.Rects.{Edges, empty_rect}
use Rattle.tr_base.specs.Layouts.{IsPartOf, ShareNoPoint}
use Rattle.tr_pack.specs.Cuts.{Extent}
use Rattle.tr_pack.proofs.PackLemmas.{packing, Stands, stands_first, stands_moved, stands_passed, stands_last, extent_read, length-extents, extents_fit, place_is}
use Rattle.tr_pack.proofs.ApartLemmas.{pack_part, pack_apart, pack_empty}
use Rattle.tr_pack.proofs.packs.pack_place_into.Goals as goal

pub loop-i-init : goal.loop-i-init
loop-i-init c = record {
  count = c.requires.room;
  stands = stands_first (packing c.args.rows.down c.args.rect c.args.rows.gap c.sides_along-room.result c.args.children.now) _ _ refl refl;
  along = omega arith;
  start = omega arith;
  deep = omega arith;
}

pub loop-i-preserved : goal.loop-i-preserved
loop-i-preserved c =
    let down = c.args.rows.down in
    let all = c.args.children.now in
    let i = c.loop-i.i in
    let sides = c.sides_along-room.result in
    let items = (take c.loop-i.i c.loop-i.rects) in
    let p = packing down c.args.rect c.args.rows.gap sides all in
    let x : Extent = record { long = c.min-long.result; deep = c.preferred-deep.result } in
    let within : i < length p.xs = omega (arith, length-extents down sides.0 all) in
    let is = extent_read down sides.0 all i c.index-children-i.result x c.loop-i-test.true c.index-children-i.is
    (rw (c.min-long.ensures, c.preferred.ensures.pref, c.preferred-deep.ensures.pref) refl) in
    let moved = stands_moved p i items c.loop-i.pen x within is (omega arith) c.loop-i.invariant.stands in
    let s = subst (Stands p i items) (sym c.moved_for-pen.ensures.pen) moved.0 in
    let place = place_is down c.args.rect c.args.rows.gap sides all i items c.moved_for-pen.result x c.placed_along-whole.result c.meet.result
    c.sides_along-room.ensures.sides s c.placed_along-whole.ensures c.meet.ensures.edges in
    record {
      count = length-set c.loop-i.rects i c.meet.result ∙ c.loop-i.invariant.count;
      stands = rw (take_more_set c.loop-i.rects i c.meet.result (omega arith), c.passed-pen.ensures)
          (stands_passed p i items c.moved_for-pen.result x c.meet.result within is s c.moved_for-pen.ensures.along place);
      along = rw c.passed-pen.ensures (omega arith);
      start = rw c.passed-pen.ensures (omega arith);
      deep = rw c.passed-pen.ensures (omega arith);
    }

filled : goal.returns-clause-places
filled c =
    let sides = c.sides_along-room.result in
    let all = c.args.children.now in
    let p = packing c.args.rows.down c.args.rect c.args.rows.gap sides all in
    let last = stands_last p c.loop-i.i (take c.loop-i.i c.loop-i.rects) c.loop-i.pen (omega (arith, length-extents c.args.rows.down sides.0 all))
    (extents_fit c.args.rows.down sides.0 all) c.loop-i.invariant.stands in
    sym (take_all c.loop-i.i c.loop-i.rects (omega (arith, c.loop-i.invariant.count))) ∙ rw c.sides_along-room.ensures.sides at last

pub returns-clause-places : goal.returns-clause-places
returns-clause-places c = filled c

pub returns-clause-part : goal.returns-clause-part
returns-clause-part c =
    All-same (λ (child : Edges). IsPartOf child c.args.rect) _ _ (filled c) (pack_part c.args.rows.down c.args.rows.gap c.args.rect c.args.children.now)

pub returns-clause-apart : goal.returns-clause-apart
returns-clause-apart c =
    subst (λ (l : List Edges). AllPairs ShareNoPoint l) (sym (filled c))
    (pack_apart c.args.rows.down c.args.rows.gap c.args.rect c.args.children.now c.sides_along-room.ensures.invariant)

pub returns-clause-empty : goal.returns-clause-empty
returns-clause-empty c h =
    All-same (λ (child : Edges). child ≡ empty_rect) _ _ (filled c) (pack_empty c.args.rows.down c.args.rows.gap c.args.rect c.args.children.now h)
