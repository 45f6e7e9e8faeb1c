use Rattle.std.proofs.Common.{length, sym, ◌∙◌}
use Rattle.tr_stage.specs.Stages.{state}
use Rattle.tr_server.specs.Shares.{ready_leaves}
use Rattle.tr_server_tests.proofs.ShareLemmas.{painted_last}
use Rattle.tr_server_tests.proofs.shares.paint_last.Goals as goal

pub returns : goal.returns
returns g c =
    let s = c.args.mu.now in
    let m = state g.C.Client s in
    let shares = rw c.made-shares.ensures at c.shares.ensures in
    let painted = rw c.made.ensures at c.paint.ensures in
    painted_last g.C.Client s (ready_leaves g.C.Client (length m.windows) m) c.pop.new.self.items c.in-Some.share c.made.result
    (sym shares ∙ c.in-Some.ensures.items) painted
