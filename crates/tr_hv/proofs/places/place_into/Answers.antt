use Rattle.std.proofs.Common.{◌≡◌, ◌<◌, ◌*◌, ◌+◌, length, map, refl, ap, ◌∙◌, arith}
use Rattle.std.proofs.lemmas.List.{length-map, take_more_set}
use Rattle.std.proofs.Math.ListN.{length-set}
use Rattle.tr_base.specs.Rects.{Edges, empty_rect}
use Rattle.tr_base.specs.Layouts.{along, IsPartOf}
use Rattle.tr_base.proofs.LayoutLemmas.{places_by_more, all_places, pairs_of_places}
use Rattle.tr_hv.specs.declared.places.Wishes.{Wishes}
use Rattle.tr_hv.specs.Places.{place_of}
use Rattle.tr_hv.proofs.HvLemmas.{AreWishes, within_more, start_of_more, along_read, length_is, before_first, before_more, start_fits, end_fits, place_is, place_part, place_apart, place_empty, placed_all}
use Rattle.tr_hv.proofs.places.place_into.Goals as goal

pub placed_along-requires-clause-main : goal.placed_along-requires-clause-main
placed_along-requires-clause-main c =
    let all = c.args.children.now in
    let cs = map (along c.args.vertical) all in
    omega (
      arith,
      c.loop-i.invariant.start,
      start_fits c.sides_along-room.result.0 cs c.loop-i.i
          (omega (arith, length-map all (along c.args.vertical))),
    )

pub overflow_add-start : goal.overflow_add-start
overflow_add-start c =
    let vertical = c.args.vertical in
    let all = c.args.children.now in
    let cs = map (along vertical) all in
    let i = c.loop-i.i in
    let room = c.sides_along-room.result.0 in
    let within : i < length cs = omega (arith, length-map all (along vertical)) in
    let is = along_read vertical all i c.index-children-i.result c.along.result c.loop-i-test.true c.index-children-i.is c.along.ensures in
    let are : AreWishes c.along.result c.wishes_of-wishes.result = record
    { lo = c.wishes_of-wishes.ensures.lo; pref = c.wishes_of-wishes.ensures.pref; hi = c.wishes_of-wishes.ensures.hi } in
    let size = c.granted-length.ensures ∙ length_is room cs i c.along.result c.loop-i.before c.wishes_of-wishes.result within is are
    c.loop-i.invariant.before in
    omega (arith, c.loop-i.invariant.start, size, end_fits room cs i within)

pub loop-i-init : goal.loop-i-init
loop-i-init c =
    let cs = map (along c.args.vertical) c.args.children.now in
    let b = c.first_before-before.result in
    let lo : b.lo ≡ 0 = ap (λ (w : Wishes). w.lo) c.first_before-before.ensures in
    let pref : b.pref ≡ c.totals.result.lo = ap (λ (w : Wishes). w.pref) c.first_before-before.ensures in
    let hi : b.hi ≡ c.totals.result.lo + c.totals.result.pref = ap (λ (w : Wishes). w.hi) c.first_before-before.ensures in
    record {
      count = c.requires.room;
      places = refl;
      start = refl;
      before = before_first cs b lo (pref ∙ c.totals.ensures.lo) (rw (c.totals.ensures.lo, c.totals.ensures.pref) at hi);
      small = record { lo = omega (arith, c.totals.ensures.small); pref = omega (arith, c.totals.ensures.small); hi = omega (arith, c.totals.ensures.small) };
    }

pub loop-i-preserved : goal.loop-i-preserved
loop-i-preserved c =
    let vertical = c.args.vertical in
    let all = c.args.children.now in
    let cs = map (along vertical) all in
    let i = c.loop-i.i in
    let room = c.sides_along-room.result.0 in
    let before = c.loop-i.before in
    let wishes = c.wishes_of-wishes.result in
    let within : i < length cs = omega (arith, length-map all (along vertical)) in
    let is = along_read vertical all i c.index-children-i.result c.along.result c.loop-i-test.true c.index-children-i.is c.along.ensures in
    let are : AreWishes c.along.result wishes = record
    { lo = c.wishes_of-wishes.ensures.lo; pref = c.wishes_of-wishes.ensures.pref; hi = c.wishes_of-wishes.ensures.hi } in
    let size = c.granted-length.ensures ∙ length_is room cs i c.along.result before wishes within is are c.loop-i.invariant.before in
    let place = c.placed_along.ensures ∙ place_is vertical c.args.rect all i c.sides_along-room.result c.loop-i.start c.granted-length.result
    c.sides_along-room.ensures.sides c.loop-i.invariant.start size in
    record {
      count = length-set c.loop-i.rects i c.placed_along.result ∙ c.loop-i.invariant.count;
      places = take_more_set c.loop-i.rects i c.placed_along.result (omega arith)
          ∙ places_by_more (place_of vertical c.args.rect all) _ _ _ c.loop-i.invariant.places place;
      start = omega (arith, c.loop-i.invariant.start, size, start_of_more room cs i);
      before = before_more cs i c.along.result before wishes c.sum_of-before.result within is are c.loop-i.invariant.before c.sum_of-before.ensures;
      small = within_more (2 * length all) i before wishes c.sum_of-before.result c.loop-i.invariant.small c.wishes_of-wishes.ensures.small
          c.sum_of-before.ensures;
    }

filled : goal.returns-clause-places
filled c =
    placed_all (place_of c.args.vertical c.args.rect c.args.children.now) c.loop-i.rects c.loop-i.i (length c.args.children.now)
    c.loop-i.invariant.places c.loop-i.invariant.count (omega arith)

pub returns-clause-places : goal.returns-clause-places
returns-clause-places c = filled c

pub returns-clause-part : goal.returns-clause-part
returns-clause-part c =
    all_places (λ (child : Edges). IsPartOf child c.args.rect) (place_of c.args.vertical c.args.rect c.args.children.now) _ _ (filled c)
    (λ k lt. place_part c.args.vertical c.args.rect c.args.children.now k c.sides_along-room.ensures.invariant lt)

pub returns-clause-apart : goal.returns-clause-apart
returns-clause-apart c =
    pairs_of_places (place_of c.args.vertical c.args.rect c.args.children.now) _ _ (filled c)
    (λ i j lt _. place_apart c.args.vertical c.args.rect c.args.children.now i j lt)

pub returns-clause-empty : goal.returns-clause-empty
returns-clause-empty c h =
    all_places (λ (child : Edges). child ≡ empty_rect) (place_of c.args.vertical c.args.rect c.args.children.now) _ _ (filled c)
    (λ k lt. place_empty c.args.vertical c.args.rect c.args.children.now k h lt)
