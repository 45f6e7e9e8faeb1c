use Rattle.std.proofs.Common.{arith}
use Rattle.tr_output.proofs.SendingLemmas.{grew_twice}
use Rattle.tr_output.proofs.sinks.write_all.Goals as goal

pub loop-written-preserved : goal.loop-written-preserved
loop-written-preserved g c =
    let w = c.in_ok-written.ensures in
    record {
      grew = grew_twice _ _ _ _ _ _ c.loop-written.invariant.grew w.grew;
      some = w.count.1;
      room = omega (arith, w.room, c.loop-written.invariant.room);
      enough = omega (arith, w.room, c.loop-written.invariant.enough);
      rising = omega (arith, w.rising);
    }
