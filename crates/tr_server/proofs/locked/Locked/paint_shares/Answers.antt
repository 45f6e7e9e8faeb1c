use Rattle.std.proofs.Common.{refl}
use Rattle.tr_base.proofs.ResultFacts.{on_err}
use Rattle.tr_server.proofs.MadeLemmas.{begun_none}
use Rattle.tr_server.proofs.locked.Locked.paint_shares.Goals as goal

pub returns-in_err-all-clause-err : goal.returns-in_err-all-clause-err
returns-in_err-all-clause-err g c =
    on_err c.from_residual.result (begun_none g.C.Client c.args.self.now c.args.self.now c.args.pass.now c.args.pass.now _ refl refl refl)
