use Rattle.std.proofs.Common.{◌≡◌, List, ℕ, refl, subst}
use Rattle.std.specs.Prelude.{None, Some}
use Rattle.tr_arguments.specs.declared.Command.TheVariants.{Play}
use Rattle.tr_grammar.specs.Scripts.{Refusal, refusal_of, script_of}
use Rattle.tr_player.specs.Answers.{threaded}
use Rattle.tr_player.proofs.ResponseLemmas.{due_of_lent, refused_due, some_parts}
use Rattle.tr_player.proofs.responses.response_to_played.Goals as goal

pub threads-requires-clause-some : goal.threads-requires-clause-some
threads-requires-clause-some g c κs within = some_parts c.deref.result.now c.in-Ok.script c.in-Ok.ensures.script

pub returns-in-Ok : goal.returns-in-Ok
returns-in-Ok g c =
    let valid = subst (λ (bytes : List ℕ). refusal_of bytes ≡ None) c.deref.ensures.value c.in-Ok.ensures.valid in
    let script = subst (λ (bytes : List ℕ). c.in-Ok.script ≡ script_of bytes) c.deref.ensures.value c.in-Ok.ensures.script in
    (threaded c.in-Ok.script c.in_ok-threads-in-Ok.field-0, refl, (valid, script, c.in_ok-threads-in-Ok.ensures))

pub returns-in-Err-Refused : goal.returns-in-Err-Refused
returns-in-Err-Refused g c =
    let r : Refusal = record { line = c.in-Err-Refused.line; code = c.in-Err-Refused.code } in
    let lent = c.deref.result.now in
    let cause : refusal_of lent ≡ Some r = rw (c.in-Err-Refused.is, c.in-Err-Refused.field-0-is) at c.read_script_in_chunks.ensures.cause in
    due_of_lent Play lent c.args.bytes.items c.refusal.result c.deref.ensures.value
    (refused_due Play lent r _ _ c.refusal.result c.in-Err-Refused.line-is c.in-Err-Refused.code-is cause c.refusal.ensures)
