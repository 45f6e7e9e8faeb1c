use Rattle.std.proofs.Common.{◌≡◌, ℕ, List, sym, ap, ◌∙◌}
use Rattle.tr_grammar.specs.Texts.{is_silent}
use Rattle.tr_grammar.specs.Words.{words_of}
use Rattle.tr_grammar.specs.Faults.{fault_of}
use Rattle.tr_grammar.specs.Scripts.{after_line}
use Rattle.tr_script.specs.Reading.{words_fault, after_words}
use Rattle.tr_script.proofs.LineLemmas.{IsLoud, fault_of_words, next_of_words}
use Rattle.tr_script.proofs.lines.take_line.Goals as goal

loud : (c : goal.After-take_text) → IsLoud c.args.reader.now c.args.bytes.now
loud c = record {
  plain = c.in-Some.ensures.value.0;
  loud = ap is_silent (sym c.in-Some.ensures.value.1) ∙ sym c.is_silent.ensures ∙ c.if-is_silent.false;
  early = sym c.has_ended-2.ensures ∙ c.if-has_ended.false;
}

fault_is : (c : goal.After-take_text) →
    fault_of c.args.reader.now c.args.number c.args.bytes.now ≡ words_fault c.args.reader.now c.args.number (words_of c.in-Some.line.now)
fault_is c =
    fault_of_words c.args.reader.now c.args.number c.args.bytes.now (loud c)
    ∙ ap (λ (l : List ℕ). words_fault c.args.reader.now c.args.number (words_of l)) (sym c.in-Some.ensures.value.1)

next_is : (c : goal.After-take_text) → after_line c.args.reader.now c.args.bytes.now ≡ after_words c.args.reader.now (words_of c.in-Some.line.now)
next_is c =
    next_of_words c.args.reader.now c.args.bytes.now (loud c)
    ∙ ap (λ (l : List ℕ). after_words c.args.reader.now (words_of l)) (sym c.in-Some.ensures.value.1)

pub returns-clause-none : goal.returns-clause-none
returns-clause-none c = rw (fault_is c) c.take_text.ensures.none

pub returns-clause-fault : goal.returns-clause-fault
returns-clause-fault c = rw (fault_is c) c.take_text.ensures.fault

pub returns-clause-next : goal.returns-clause-next
returns-clause-next c = rw (next_is c) c.take_text.ensures.next

pub returns-clause-err : goal.returns-clause-err
returns-clause-err c = rw (next_is c) c.take_text.ensures.err
