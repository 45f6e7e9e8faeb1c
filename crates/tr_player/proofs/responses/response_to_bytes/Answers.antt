use Rattle.std.proofs.Common.{◌≡◌, ◌≤◌, subst, sym}
use Rattle.std.specs.Prelude.{Some}
use Rattle.tr_grammar.specs.Scripts.{Refusal, Script, refusal_of}
use Rattle.tr_serial.specs.Screens.{report_count}
use Rattle.tr_serial.proofs.ReportLemmas.{few_reports}
use Rattle.tr_player.proofs.ResponseLemmas.{due_of_lent, due_of_made, refused_due}
use Rattle.tr_player.proofs.responses.response_to_bytes.Goals as goal

pub response_to_script-requires-clause-few : goal.response_to_script-requires-clause-few
response_to_script-requires-clause-few c =
    subst (λ (s : Script). report_count s.parts ≤ 64) (sym c.in-Ok.ensures.script) (few_reports c.deref.result.now c.in-Ok.ensures.valid)

pub returns-in-Ok : goal.returns-in-Ok
returns-in-Ok c =
    let is = c.in-Ok.ensures in
    let made = c.response_to_script.ensures in
    let lent = c.deref.result.now in
    due_of_lent c.args.command lent c.args.bytes.items c.response_to_script.result c.deref.ensures.value
    (due_of_made c.args.command lent c.in-Ok.script c.response_to_script.result c.requires is.valid is.script made.response made.read_back)

pub returns-in-Err-Refused : goal.returns-in-Err-Refused
returns-in-Err-Refused c =
    let r : Refusal = record { line = c.in-Err-Refused.line; code = c.in-Err-Refused.code } in
    let lent = c.deref.result.now in
    let cause : refusal_of lent ≡ Some r = rw (c.in-Err-Refused.is, c.in-Err-Refused.field-0-is) at c.read_script.ensures.cause in
    due_of_lent c.args.command lent c.args.bytes.items c.refusal.result c.deref.ensures.value
    (refused_due c.args.command lent r _ _ c.refusal.result c.in-Err-Refused.line-is c.in-Err-Refused.code-is cause c.refusal.ensures)
