use Rattle.std.proofs.Common.{◌≡◌, map}
use Rattle.tr_stage.specs.Stages.{state}
use Rattle.tr_server.specs.Shares.{ready_leaves, share_of}
use Rattle.tr_server.proofs.shares.shares_of.Given as goal

abbrev pub invariant-loop-n : goal.invariant-loop-n
invariant-loop-n g l =
    l.shares.items ≡ map (share_of l.stage) (ready_leaves g.C.Client l.n (state g.C.Client l.stage))
