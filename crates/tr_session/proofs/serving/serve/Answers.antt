use Rattle.std.proofs.Common.{refl}
use Rattle.tr_session.specs.declared.errors.Stopped.TheVariants as stopped
use Rattle.tr_session.proofs.ServedLemmas.{none_ends}
use Rattle.tr_session.proofs.serving.serve.Goals as goal

pub returns-clause-served : goal.returns-clause-served
returns-clause-served g c =
    none_ends (g.S.Source.left c.args.source.now) (g.K.Sink.written c.args.sink.now) (g.K.Sink.written c.args.sink.now) stopped.NoMemory refl refl
