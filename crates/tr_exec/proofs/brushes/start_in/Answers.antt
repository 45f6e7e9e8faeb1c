use Rattle.std.proofs.Common.{w32, SFits, arith, rules, ◌∙◌}
use Rattle.std.proofs.lemmas.Int.{ints, to_z-of_z}
use Rattle.tr_base.proofs.RectLemmas.{cast-in_reach}
use Rattle.tr_exec.proofs.BrushLemmas.{run_in_reach}
use Rattle.tr_exec.proofs.PlacedLemmas.{points}
use Rattle.tr_exec.proofs.brushes.start_in.Goals as goal

pub distance-requires-clause-x : goal.distance-requires-clause-x
distance-requires-clause-x c =
    let reach = run_in_reach c.args.run c.args.area.now c.requires.some c.requires.within (rw c.west.ensures.value at c.west.ensures.reach)
    (rw c.east.ensures.value at c.east.ensures.reach) (rw c.north.ensures.value at c.north.ensures.reach) (rw c.south.ensures.value at c.south.ensures.reach) in
    rw (cast-in_reach c.args.run.west reach.0) reach.0

pub distance-requires-2-clause-x : goal.distance-requires-2-clause-x
distance-requires-2-clause-x c =
    let reach = run_in_reach c.args.run c.args.area.now c.requires.some c.requires.within (rw c.west.ensures.value at c.west.ensures.reach)
    (rw c.east.ensures.value at c.east.ensures.reach) (rw c.north.ensures.value at c.north.ensures.reach) (rw c.south.ensures.value at c.south.ensures.reach) in
    rw (cast-in_reach c.args.run.v reach.1) reach.1

pub returns : goal.returns
returns c =
    let west : SFits w32 c.args.run.west = search rules in
    let v : SFits w32 c.args.run.v = search rules in
    let corner_h : SFits w32 c.args.corner.h = search rules in
    let corner_v : SFits w32 c.args.corner.v = search rules in
    let fits_h : SFits w32 c.distance.result = search rules in
    let fits_v : SFits w32 c.distance-2.result = search rules in
    let across = rw (to_z-of_z w32 c.args.run.west west, to_z-of_z w32 c.args.corner.h corner_h) at c.distance.ensures in
    let down = rw (to_z-of_z w32 c.args.run.v v, to_z-of_z w32 c.args.corner.v corner_v) at c.distance-2.ensures in
    points _ _ _ _ (to_z-of_z w32 c.distance.result fits_h ∙ across ∙ omega (arith, ints)) (to_z-of_z w32 c.distance-2.result fits_v ∙ down)
