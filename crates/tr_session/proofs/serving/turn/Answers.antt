use Rattle.std.proofs.Common.{refl}
use Rattle.tr_session.specs.Calls.{change_of_sink, change_of_source}
use Rattle.tr_session.specs.Insides.{session_view}
use Rattle.tr_session.proofs.WritingLemmas.{turns_line}
use Rattle.tr_session.proofs.serving.turn.Goals as goal

pub returns-then-advance-clause-turned : goal.returns-then-advance-clause-turned
returns-then-advance-clause-turned g c =
    turns_line (record { session = session_view c.args.session.now; arrivals = c.args.arrivals.now; waiting = c.args.waiting.now.items }) c.advance.new.self
    c.answer_one.result (change_of_source g.S.Source c.args.source.now c.args.source.now) (change_of_sink g.K.Sink c.args.sink.now c.answer_one.new.sink)
    (session_view c.answer_one.new.session) c.answer_one.new.arrivals c.answer_one.new.waiting.items (c.advance.ensures.whole c.if-advance.true) refl
    c.answer_one.ensures.answered c.answer_one.ensures.arrivals
