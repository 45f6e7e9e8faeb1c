use Rattle.std.proofs.Common.{List, ℕ, ap, subst, ◌∙◌}
use Rattle.std.specs.Prelude.{Bool, not}
use Rattle.tr_session.specs.Answers.{ComesAfterLine, ends}
use Rattle.tr_session.specs.Calls.{change_of_sink}
use Rattle.tr_session.specs.Insides.{session_view}
use Rattle.tr_session.proofs.WritingLemmas.{answers_err, answers_ok}
use Rattle.tr_session.proofs.serving.answer_one.Goals as goal

pub returns-in-Ok-add_answer-clause-answered : goal.returns-in-Ok-add_answer-clause-answered
returns-in-Ok-add_answer-clause-answered g c =
    let s = session_view c.args.session.now in
    let t = session_view c.answer.new.self in
    let told = c.in-Ok.ensures.answered in
    let answered = subst (λ (line : List ℕ). ComesAfterLine s line told.0 t) c.line.ensures told.2 in
    answers_ok s t c.args.arrivals.now.begun c.args.waiting.now.items c.answer.new.reply c.add_answer.new.waiting.items
    (change_of_sink g.K.Sink c.args.sink.now c.add_answer.new.sink) told.0 told.1 (answered, c.in-Ok.ensures.holds.session)
    (not c.in-Ok.ends) c.in-Ok-add_answer.ensures.added
    (ap (λ (b : Bool). not b) (c.in-Ok.ensures.ends ∙ ap ends c.line.ensures))

pub returns-in-Err-add_answer-clause-answered : goal.returns-in-Err-add_answer-clause-answered
returns-in-Err-add_answer-clause-answered g c =
    let s = session_view c.args.session.now in
    let t = session_view c.answer.new.self in
    let told = c.in-Ok.ensures.answered in
    let answered = subst (λ (line : List ℕ). ComesAfterLine s line told.0 t) c.line.ensures told.2 in
    answers_err s t c.args.arrivals.now.begun c.args.waiting.now.items c.answer.new.reply c.add_answer.new.waiting.items
    (change_of_sink g.K.Sink c.args.sink.now c.add_answer.new.sink) told.0 told.1 (answered, c.in-Ok.ensures.holds.session)
    c.in-Err-add_answer.e c.in-Err-add_answer.ensures.added
