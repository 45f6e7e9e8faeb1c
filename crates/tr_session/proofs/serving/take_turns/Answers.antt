use Rattle.std.proofs.Common.{◌≡◌, Bool, true, false, Ok, length, refl, subst, ap, arith, rules}
use Rattle.std.proofs.lemmas.Grind.{common_steps}
use Rattle.tr_session.specs.Calls.{change_of_sink, change_of_source}
use Rattle.tr_session.specs.Insides.{session_view}
use Rattle.tr_session.specs.Turns.{Serving, TakesOneTurn}
use Rattle.tr_session.proofs.ServedLemmas.{ends_after, ends_late, ends_with, goes_on, none_fails, starts, stops_with}
use Rattle.tr_session.proofs.serving.take_turns.Goals as goal

pub returns-in_err-reserve-clause-served : goal.returns-in_err-reserve-clause-served
returns-in_err-reserve-clause-served g c =
    none_fails (g.S.Source.left c.args.source.now) (g.K.Sink.written c.args.sink.now) (g.K.Sink.written c.reserve.new.self) c.from_residual.result
    c.reserve.ensures.unchanged c.from_residual.ensures.1

pub loop-turns-init : goal.loop-turns-init
loop-turns-init g c =
    let left = g.S.Source.left c.args.source.now in
    let written = g.K.Sink.written c.args.sink.now in (
      starts left written (g.K.Sink.written c.reserve.new.self) (session_view c.args.session.now) c.args.arrivals.now c.args.waiting.now.items
          c.requires.view c.requires.begun c.requires.rest c.requires.empty c.reserve.ensures.unchanged,
      c.requires.holds,
      record { few = omega (arith, ap length c.requires.empty); here = c.requires.room; there = c.in_ok-reserve.ensures.room },
      omega arith,
      omega (arith, c.reserve.ensures.rising),
    )

pub loop-turns-preserved : goal.loop-turns-preserved
loop-turns-preserved g c =
    let from = change_of_source g.S.Source c.args.source.now c.loop-turns.source in
    let next_from = change_of_source g.S.Source c.loop-turns.source c.turn.new.source in
    let to = change_of_sink g.K.Sink c.args.sink.now c.loop-turns.sink in
    let next = change_of_sink g.K.Sink c.loop-turns.sink c.turn.new.sink in
    let a : Serving = record { session = session_view c.loop-turns.session; arrivals = c.loop-turns.arrivals; waiting = c.loop-turns.waiting.items } in
    let b : Serving = record { session = session_view c.turn.new.session; arrivals = c.turn.new.arrivals; waiting = c.turn.new.waiting.items } in
    let counted = c.loop-turns.invariant.0 in
    let on : c.in-Ok.goes_on ≡ true = first_of (search rules, grind (arith, common_steps)) in
    let turned = subst (λ (goes : Bool). TakesOneTurn a next_from (Ok goes) next b) on c.in-Ok.ensures.turned in
    (goes_on from next_from to next a b c.loop-turns.turns counted refl refl turned, c.in-Ok.ensures.holds, c.in-Ok.ensures.room, omega arith, omega arith)

pub returns-then-not-goes_on-clause-served : goal.returns-then-not-goes_on-clause-served
returns-then-not-goes_on-clause-served g c =
    let from = change_of_source g.S.Source c.args.source.now c.loop-turns.source in
    let next_from = change_of_source g.S.Source c.loop-turns.source c.turn.new.source in
    let to = change_of_sink g.K.Sink c.args.sink.now c.loop-turns.sink in
    let next = change_of_sink g.K.Sink c.loop-turns.sink c.turn.new.sink in
    let a : Serving = record { session = session_view c.loop-turns.session; arrivals = c.loop-turns.arrivals; waiting = c.loop-turns.waiting.items } in
    let b : Serving = record { session = session_view c.turn.new.session; arrivals = c.turn.new.arrivals; waiting = c.turn.new.waiting.items } in
    let counted = c.loop-turns.invariant.0 in
    let off : c.in-Ok.goes_on ≡ false = first_of (search rules, grind (arith, common_steps)) in
    let turned = subst (λ (goes : Bool). TakesOneTurn a next_from (Ok goes) next b) off c.in-Ok.ensures.turned in
    let ending = ends_with from next_from to next a b c.loop-turns.turns counted refl refl turned in
    ends_after (change_of_source g.S.Source c.args.source.now c.turn.new.source) (change_of_sink g.K.Sink c.args.sink.now c.turn.new.sink)
    (change_of_sink g.K.Sink c.turn.new.sink c.write_waiting.new.sink) b c.write_waiting.result ending refl c.write_waiting.ensures.memory
    c.write_waiting.ensures.written

pub returns-clause-served : goal.returns-clause-served
returns-clause-served g c =
    let from = change_of_source g.S.Source c.args.source.now c.loop-turns.source in
    let to = change_of_sink g.K.Sink c.args.sink.now c.loop-turns.sink in
    let a : Serving = record { session = session_view c.loop-turns.session; arrivals = c.loop-turns.arrivals; waiting = c.loop-turns.waiting.items } in
    let counted = c.loop-turns.invariant.0 in
    ends_late from to (change_of_sink g.K.Sink c.loop-turns.sink c.write_waiting-2.new.sink) a c.loop-turns.turns c.write_waiting-2.result counted
    (omega arith) refl c.write_waiting-2.ensures.memory c.write_waiting-2.ensures.written

pub returns-in-Err-clause-served : goal.returns-in-Err-clause-served
returns-in-Err-clause-served g c =
    let from = change_of_source g.S.Source c.args.source.now c.loop-turns.source in
    let next_from = change_of_source g.S.Source c.loop-turns.source c.turn.new.source in
    let to = change_of_sink g.K.Sink c.args.sink.now c.loop-turns.sink in
    let next = change_of_sink g.K.Sink c.loop-turns.sink c.turn.new.sink in
    let a : Serving = record { session = session_view c.loop-turns.session; arrivals = c.loop-turns.arrivals; waiting = c.loop-turns.waiting.items } in
    let b : Serving = record { session = session_view c.turn.new.session; arrivals = c.turn.new.arrivals; waiting = c.turn.new.waiting.items } in
    let counted = c.loop-turns.invariant.0 in
    stops_with from next_from to next a b c.loop-turns.turns c.in-Err.e counted refl refl c.in-Err.ensures.turned
