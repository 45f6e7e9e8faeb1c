use Rattle.std.proofs.Common.{◌+◌, sym, subst}
use Rattle.tr_play.specs.Places.{PlacesView}
use Rattle.tr_play.proofs.ListLemmas.{ArePlaced, placed_next, placed_none}
use Rattle.tr_play.proofs.lists.lists_of.Goals as goal

pub loop-place-init : goal.loop-place-init
loop-place-init g c =
    subst (λ (places : PlacesView). ArePlaced c.args.leaves c.args.steps.now 0 places) (sym c.in_ok-places.ensures)
    (placed_none c.args.leaves c.args.steps.now)

pub loop-place-preserved : goal.loop-place-preserved
loop-place-preserved g c =
    let k = c.loop-place.place in
    let one = c.index-steps-place.result in
    let low = c.loop-place-test.true in
    subst (λ (places : PlacesView). ArePlaced c.args.leaves c.args.steps.now (k + 1) places) (sym c.in_ok-add.ensures.ok)
    (placed_next c.args.leaves c.args.steps.now k c.loop-place.places one low (c.requires k one low) c.loop-place.invariant)
