use Rattle.std.proofs.Common.{◌≡◌, ℕ, List, Ok, sym, ap, ◌∙◌, rules}
use Rattle.tr_base.specs.Lists.{first_true}
use Rattle.tr_grammar.specs.Forms.{forms, form_of}
use Rattle.tr_grammar.specs.Faults.{line_faults}
use Rattle.tr_grammar.specs.Scripts.{after_meaning}
use Rattle.tr_words.specs.Answers.{texts}
use Rattle.tr_script.specs.Reading.{Reads, words_fault, after_words}
use Rattle.tr_script.proofs.LineLemmas.{fault_behind, after_said, refused_before}
use Rattle.tr_script.proofs.lines.take_read.Goals as goal

pub take_meaning-requires : goal.take_meaning-requires
take_meaning-requires c =
    let read = rw c.in-Ok.is at c.requires in
    rw c.second.ensures read.2

said : (c : goal.After-take_meaning) → Reads c.args.reader.now forms (texts c.args.words.now) (Ok c.in-Ok.meaning)
said c = rw c.in-Ok.is at c.requires

fault_is : (c : goal.After-take_meaning) →
    words_fault c.args.reader.now c.args.number (texts c.args.words.now) ≡ first_true (line_faults c.args.reader.now c.args.number c.in-Ok.meaning)
fault_is c =
    let reader = c.args.reader.now in
    let words = texts c.args.words.now in
    fault_behind reader c.args.number (form_of reader.version words) words c.in-Ok.meaning (said c).0 (said c).1

next_is : (c : goal.After-take_meaning) →
    after_words c.args.reader.now (texts c.args.words.now) ≡ after_meaning c.args.reader.now c.second.result.now c.in-Ok.meaning
next_is c =
    let reader = c.args.reader.now in
    let words = texts c.args.words.now in
    after_said reader (form_of reader.version words) words c.in-Ok.meaning (said c).1
    ∙ ap (λ (w : List ℕ). after_meaning reader w c.in-Ok.meaning) (sym c.second.ensures)

pub returns-in-Ok : goal.returns-in-Ok
returns-in-Ok c = record {
  none = rw (fault_is c) c.take_meaning.ensures.none;
  next = rw (next_is c) c.take_meaning.ensures.next;
  fault = rw (fault_is c) c.take_meaning.ensures.fault;
  err = rw (next_is c) c.take_meaning.ensures.err;
}

pub returns-in-Err : goal.returns-in-Err
returns-in-Err c =
    let reader = c.args.reader.now in
    let words = texts c.args.words.now in
    record {
      none = search rules;
      next = search rules;
      fault = refused_before reader c.args.number (form_of reader.version words) words c.in-Err.e (rw c.in-Err.is at c.requires);
      err = search rules;
    }
