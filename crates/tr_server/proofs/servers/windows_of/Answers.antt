use Rattle.std.proofs.Common.{arith}
use Rattle.tr_server.proofs.WindowLemmas.{no_windows, one_more}
use Rattle.tr_server.proofs.servers.windows_of.Goals as goal

pub loop-n-init : goal.loop-n-init
loop-n-init g c = record { parts = omega arith; none = c.requires.none; windows = no_windows _ c.in_ok-windows.ensures.items }

pub loop-n-preserved : goal.loop-n-preserved
loop-n-preserved g c =
    let before = c.loop-n.invariant in
    record {
      parts = omega (arith, c.split_off.ensures.parts_left, before.parts);
      none = omega (arith, c.split_off.ensures.amount_left, before.none);
      windows = one_more c.loop-n.n _ _ _ before.windows c.new.ensures c.in_ok-push.ensures.items;
    }
