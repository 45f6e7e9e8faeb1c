use Rattle.std.proofs.Common.{◌≡◌, true, false, length, sym, ap, ◌∙◌, rules, arith}
use Rattle.std.proofs.lemmas.Grind.{common_steps}
use Rattle.tr_grammar.specs.Scripts.{whole}
use Rattle.tr_script.proofs.LineLemmas.{next_read, next_refused, all_read, last_fault}
use Rattle.tr_script.proofs.scripts.read_lines.Goals as goal

pub loop-rest-preserved : goal.loop-rest-preserved
loop-rest-preserved c =
    let step = next_read c.args.bytes.now c.loop-rest.rest.now c.first_line.result.1.now c.first_line.result.0.now c.loop-rest.number c.loop-rest.reader
    c.loop-rest.invariant c.first_line.ensures.lines c.first_line.ensures.shorter c.in-Ok.ensures.none in
    rw c.in-Ok.ensures.next step

pub returns-in-Err-Fault-clause-cause : goal.returns-in-Err-Fault-clause-cause
returns-in-Err-Fault-clause-cause c =
    let fault = rw c.in-Err-Fault.field-0-is at c.in-Err-Fault.ensures.fault in
    rw (c.refused_at.ensures, c.in-Err-Fault.code-is)
    (next_refused c.args.bytes.now c.loop-rest.rest.now c.first_line.result.1.now c.first_line.result.0.now c.loop-rest.number c.loop-rest.reader
    c.in-Err-Fault.code c.loop-rest.invariant c.first_line.ensures.lines fault)

pub returns-in-Some-clause-valid : goal.returns-in-Some-clause-valid
returns-in-Some-clause-valid c =
    let none : length c.loop-rest.rest.now ≡ 0 = first_of (search rules, grind (arith, common_steps)) in
    let ended = rw c.in-Some.is at c.in_ok-script.ensures in
    last_fault c.args.bytes.now c.loop-rest.rest.now c.loop-rest.number c.loop-rest.reader c.loop-rest.invariant none true ended.0

pub returns-in-Some-clause-script : goal.returns-in-Some-clause-script
returns-in-Some-clause-script c =
    let none : length c.loop-rest.rest.now ≡ 0 = first_of (search rules, grind (arith, common_steps)) in
    let ended = rw c.in-Some.is at c.in_ok-script.ensures in
    ended.1 ∙ ap whole (sym (all_read c.args.bytes.now c.loop-rest.rest.now c.loop-rest.number c.loop-rest.reader c.loop-rest.invariant none))

pub returns-clause-cause : goal.returns-clause-cause
returns-clause-cause c =
    let none : length c.loop-rest.rest.now ≡ 0 = first_of (search rules, grind (arith, common_steps)) in
    let missing = rw c.in-None.is at c.in_ok-script.ensures in
    rw c.refused_at-in-None.ensures
    (last_fault c.args.bytes.now c.loop-rest.rest.now c.loop-rest.number c.loop-rest.reader c.loop-rest.invariant none false missing)
