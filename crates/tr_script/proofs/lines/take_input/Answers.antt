use Rattle.std.proofs.Common.{◌≡◌, [], Ok}
use Rattle.tr_base.specs.Lists.{first_true}
use Rattle.tr_grammar.specs.Forms.{forms, form_of}
use Rattle.tr_grammar.specs.Faults.{line_faults}
use Rattle.tr_grammar.specs.Scripts.{after_meaning}
use Rattle.tr_grammar.specs.Words.{words_of}
use Rattle.tr_journal.specs.declared.Actor.TheVariants as actors
use Rattle.tr_grammar.specs.declared.Meaning.{Meaning}
use Rattle.tr_grammar.specs.declared.Meaning.TheVariants as meanings
use Rattle.tr_script.specs.Reading.{Reads, words_fault, after_words}
use Rattle.tr_script.proofs.LineLemmas.{fault_behind, after_said}
use Rattle.tr_script.proofs.lines.take_input.Goals as goal

pub take_meaning-requires : goal.take_meaning-requires
take_meaning-requires c = rw c.step_of-step.ensures (record { place = c.requires.2.place; value = c.requires.2.value })

pub returns : goal.returns
returns c =
    let reader = c.args.reader.now in
    let words = words_of c.args.line.now in
    let form = form_of reader.version words in
    let m : Meaning = meanings.Step actors.Desk c.step_of-step.result in
    let read : Reads reader forms words (Ok m) = rw c.step_of-step.ensures c.requires in
    let fault_is : words_fault reader c.args.number words ≡ first_true (line_faults reader c.args.number m) =
    fault_behind reader c.args.number form words m read.0 read.1
    in
    let next_is : after_words reader words ≡ after_meaning reader [] m = after_said reader form words m read.1 in
    record {
      none = rw fault_is c.take_meaning.ensures.none;
      next = rw next_is c.take_meaning.ensures.next;
      fault = rw fault_is c.take_meaning.ensures.fault;
      err = rw next_is c.take_meaning.ensures.err;
    }
