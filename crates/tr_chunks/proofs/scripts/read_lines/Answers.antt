use Rattle.std.proofs.Common.{◌≡◌, ◌+◌, true, false, length, take, sym, ap, ◌∙◌, rules, arith}
use Rattle.std.proofs.lemmas.Grind.{common_steps}
use Rattle.tr_grammar.specs.Scripts.{whole}
use Rattle.tr_grammar.specs.Texts.{lines_of}
use Rattle.tr_words.specs.Answers.{texts}
use Rattle.tr_chunks.specs.Chunks.{lines_from}
use Rattle.tr_script.proofs.LineLemmas.{IsReadTo, next_read, next_refused, all_read, last_fault}
use Rattle.tr_chunks.proofs.ChunkLemmas.{lines_read}
use Rattle.tr_chunks.proofs.scripts.read_lines.Goals as goal
use Rattle.tr_chunks.proofs.scripts.read_lines.Goals.{then-taken, else-taken}

pub loop-rest-preserved : goal.loop-rest-preserved
loop-rest-preserved g c =
    let step = next_read c.args.bytes.now c.loop-rest.rest.now c.first_line.result.1.now c.first_line.result.0.now c.loop-rest.number c.loop-rest.reader
    c.loop-rest.invariant c.first_line.ensures.lines c.first_line.ensures.shorter c.in-Ok.ensures.none in
    rw c.in-Ok.ensures.next step

pub loop-rest-preserved-then-is_at_steps : goal.loop-rest-preserved-then-is_at_steps
loop-rest-preserved-then-is_at_steps g c =
    let bytes = c.args.bytes.now in
    let rest = c.first_line.result.1.now in
    let number = c.loop-rest.number in
    let reader = c.take_line.new.reader in
    let ahead = c.steps_ahead-ahead in
    let marks = c.deref.result.now in
    let step = next_read bytes c.loop-rest.rest.now rest c.first_line.result.0.now number c.loop-rest.reader
    c.loop-rest.invariant c.first_line.ensures.lines c.first_line.ensures.shorter c.in-Ok.ensures.none in
    let one : IsReadTo bytes rest (number + 1) reader = rw c.in-Ok.ensures.next step in
    let lines : take ahead.result.count (lines_from (texts marks)) ≡ take ahead.result.count (lines_of rest) =
    rw c.deref.ensures.value ahead.ensures.marks.1 in
    elim c.if-taken.branch [
      | then-taken w ↦
          let taken = rw w.if-taken.true at c.in-Ok-take_lines.ensures in
          rw (w.number-is, w.rest-is)
          (lines_read bytes rest ahead.result.behind.now (number + 1) ahead.result.count (take ahead.result.count (lines_from (texts marks))) reader
          c.take_lines.new.reader one ahead.ensures.behind ahead.ensures.within lines taken)
      | else-taken w ↦
          let same = rw w.if-taken.false at c.in-Ok-take_lines.ensures in
          rw (w.number-is, w.rest-is, same) one
    ]

pub returns-in-Err-Fault-clause-cause : goal.returns-in-Err-Fault-clause-cause
returns-in-Err-Fault-clause-cause g c =
    let fault = rw c.in-Err-Fault.field-0-is at c.in-Err-Fault.ensures.fault in
    rw (c.refused_at.ensures, c.in-Err-Fault.code-is)
    (next_refused c.args.bytes.now c.loop-rest.rest.now c.first_line.result.1.now c.first_line.result.0.now c.loop-rest.number c.loop-rest.reader
    c.in-Err-Fault.code c.loop-rest.invariant c.first_line.ensures.lines fault)

pub returns-in-Some-clause-valid : goal.returns-in-Some-clause-valid
returns-in-Some-clause-valid g c =
    let none : length c.loop-rest.rest.now ≡ 0 = first_of (search rules, grind (arith, common_steps)) in
    let ended = rw c.in-Some.is at c.in_ok-script.ensures in
    last_fault c.args.bytes.now c.loop-rest.rest.now c.loop-rest.number c.loop-rest.reader c.loop-rest.invariant none true ended.0

pub returns-in-Some-clause-script : goal.returns-in-Some-clause-script
returns-in-Some-clause-script g c =
    let none : length c.loop-rest.rest.now ≡ 0 = first_of (search rules, grind (arith, common_steps)) in
    let ended = rw c.in-Some.is at c.in_ok-script.ensures in
    ended.1 ∙ ap whole (sym (all_read c.args.bytes.now c.loop-rest.rest.now c.loop-rest.number c.loop-rest.reader c.loop-rest.invariant none))

pub returns-clause-cause : goal.returns-clause-cause
returns-clause-cause g c =
    let none : length c.loop-rest.rest.now ≡ 0 = first_of (search rules, grind (arith, common_steps)) in
    let missing = rw c.in-None.is at c.in_ok-script.ensures in
    rw c.refused_at-in-None.ensures
    (last_fault c.args.bytes.now c.loop-rest.rest.now c.loop-rest.number c.loop-rest.reader c.loop-rest.invariant none false missing)
