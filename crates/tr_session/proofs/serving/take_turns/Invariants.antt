use Rattle.std.proofs.Common.{◌≤◌}
use Rattle.tr_session.specs.Calls.{change_of_sink, change_of_source}
use Rattle.tr_session.specs.Insides.{PartsAgree, session_view}
use Rattle.tr_session.specs.Turns.{HasRoomForAnswers}
use Rattle.tr_session.proofs.ServedLemmas.{IsCounted}
use Rattle.tr_session.proofs.serving.take_turns.Given as goal

-- the lines so far were answered, each turn took a byte or a line, there is room for answers that wait, and faults only come
abbrev pub invariant-loop-turns : goal.invariant-loop-turns
invariant-loop-turns g l =
    IsCounted (change_of_source g.S.Source l.fn.source l.source) (change_of_sink g.K.Sink l.fn.sink l.sink)
    (record { session = session_view l.session; arrivals = l.arrivals; waiting = l.waiting.items }) l.turns
    × PartsAgree l.session
    × HasRoomForAnswers l.waiting (g.K.Sink.room l.sink)
    × (g.S.Source.faults l.fn.source ≤ g.S.Source.faults l.source)
    × (g.K.Sink.faults l.fn.sink ≤ g.K.Sink.faults l.sink)
