use Rattle.std.proofs.Common.{arith}
use Rattle.std.proofs.lemmas.List.{take_all}
use Rattle.tr_paint.specs.Views.{viewed}
use Rattle.tr_paint.proofs.BatchLemmas.{kept_at, take_next}
use Rattle.tr_paint.proofs.sums.sums_of.Goals as goal

pub area-requires : goal.area-requires
area-requires c = (kept_at c.args.commands.now c.loop-i.i (viewed c.get-paint.result) c.requires c.get-paint.ensures).near

pub add-requires-clause-near : goal.add-requires-clause-near
add-requires-clause-near c = (kept_at c.args.commands.now c.loop-i.i (viewed c.get-paint.result) c.requires c.get-paint.ensures).near

pub loop-i-preserved : goal.loop-i-preserved
loop-i-preserved c =
    rw (take_next c.args.commands.now c.loop-i.i (viewed c.get-paint.result) c.get-paint.ensures) (c.add.ensures _ c.loop-i.invariant)

pub returns : goal.returns
returns c = rw (take_all c.loop-i.i c.args.commands.now (omega (arith, c.loop-i-test.false))) at c.loop-i.invariant
