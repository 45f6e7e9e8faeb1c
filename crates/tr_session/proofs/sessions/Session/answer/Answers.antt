use Rattle.std.proofs.Common.{sym, ◌∙◌}
use Rattle.tr_session.specs.Insides.{session_view}
use Rattle.tr_session.proofs.AnsweredLemmas.{cut_told, quit_told, save_told, script_told}
use Rattle.tr_session.proofs.sessions.Session.answer.Goals as goal

pub returns-in_ok-tell_refusal-in-Save-clause-answered : goal.returns-in_ok-tell_refusal-in-Save-clause-answered
returns-in_ok-tell_refusal-in-Save-clause-answered c =
    let s = session_view c.args.self.now in
    let told = save_told s c.args.line.now c.save-answered.result c.save-answered.new.reply c.tell_refusal.new.reply
    (sym c.request_of.ensures ∙ c.in-Save.is) c.save-answered.ensures c.in_ok-tell_refusal-in-Save.ensures in
    (told.answer, told.is, told.answered)

pub returns-in_ok-tell_refusal-in-Cut-clause-answered : goal.returns-in_ok-tell_refusal-in-Cut-clause-answered
returns-in_ok-tell_refusal-in-Cut-clause-answered c =
    let s = session_view c.args.self.now in
    let told = cut_told s c.args.line.now (session_view c.cut-answered.new.self) c.cut-answered.result c.cut-answered.new.reply c.tell_refusal-in-Cut.new.reply
    (sym c.request_of.ensures ∙ c.in-Cut.is) c.cut-answered.ensures.answer c.cut-answered.ensures.ok c.cut-answered.ensures.err
    c.in_ok-tell_refusal-in-Cut.ensures in
    (told.answer, told.is, told.answered)

pub returns-in-Quit-clause-answered : goal.returns-in-Quit-clause-answered
returns-in-Quit-clause-answered c =
    let told = quit_told (session_view c.args.self.now) c.args.line.now c.set_empty.new.self (sym c.request_of.ensures ∙ c.in-Quit.is) c.set_empty.ensures in
    (told.answer, told.is, told.answered)

pub returns-in_ok-tell_refusal-in-Script-clause-answered : goal.returns-in_ok-tell_refusal-in-Script-clause-answered
returns-in_ok-tell_refusal-in-Script-clause-answered c =
    let s = session_view c.args.self.now in
    let told = script_told s c.args.line.now (session_view c.take-answered.new.self) c.take-answered.result c.take-answered.new.reply
    c.tell_refusal-in-Script.new.reply (sym c.request_of.ensures ∙ c.in-Script.is) c.take-answered.ensures.takes c.in_ok-tell_refusal-in-Script.ensures in
    (told.answer, told.is, told.answered)
