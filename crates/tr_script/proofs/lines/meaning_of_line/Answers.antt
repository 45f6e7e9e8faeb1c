use Rattle.std.proofs.Common.{◌≡◌, ℕ, List, sym, ap, subst, ◌∙◌, Ok, Err}
use Rattle.tr_grammar.specs.declared.Place.{Place}
use Rattle.tr_grammar.specs.Texts.{is_silent}
use Rattle.tr_grammar.specs.Words.{words_of, word_at}
use Rattle.tr_grammar.specs.Forms.{forms}
use Rattle.tr_grammar.specs.Faults.{has_ended}
use Rattle.tr_words.specs.Answers.{texts}
use Rattle.tr_script.specs.Reading.{Reads}
use Rattle.tr_script.proofs.LineLemmas.{IsLoud, cut_words}
use Rattle.tr_script.proofs.ApartLemmas.{fault_in_words, fault_is, meaning_is, none_is, sound_is}
use Rattle.tr_script.proofs.lines.meaning_of_line.Goals as goal

loud : (c : goal.After-drop-words-in-Ok) → IsLoud c.args.reader.now c.args.bytes.now
loud c = record {
  plain = c.in-Some.ensures.value.0;
  loud = ap is_silent (sym c.in-Some.ensures.value.1) ∙ sym c.is_silent.ensures ∙ c.if-is_silent.false;
  early = ap (λ (p : Place). has_ended p) c.requires;
}

read : (c : goal.After-drop-words-in-Ok) → Reads c.args.reader.now forms (words_of c.args.bytes.now) (Ok c.in-Ok.meaning)
read c =
    let reader = c.args.reader.now in
    let is_cut : texts c.deref.result.now ≡ words_of c.args.bytes.now =
    cut_words _ _ _ _ c.deref.ensures.value c.in_ok-words_into.ensures.ok c.in-Some.ensures.value.1 in
    let told : Reads reader forms (texts c.deref.result.now) (Ok c.in-Ok.meaning) = c.in-Ok.ensures in
    subst (λ (ws : List (List ℕ)). Reads reader forms ws (Ok c.in-Ok.meaning)) is_cut told

pub returns-in-Ok-clause-none : goal.returns-in-Ok-clause-none
returns-in-Ok-clause-none c =
    none_is c.args.reader.now c.args.bytes.now c.requires c.in-Ok.meaning c.own_meaning.result (loud c) (read c) c.own_meaning.ensures.none

pub returns-in-Ok-clause-meaning : goal.returns-in-Ok-clause-meaning
returns-in-Ok-clause-meaning c =
    meaning_is c.args.reader.now c.args.bytes.now c.in-Ok.meaning c.own_meaning.result (loud c).loud (read c) c.own_meaning.ensures.own

pub returns-in-Ok-clause-sound : goal.returns-in-Ok-clause-sound
returns-in-Ok-clause-sound c =
    sound_is c.args.reader.now (word_at (words_of c.args.bytes.now) 1) c.in-Ok.meaning c.own_meaning.result (read c).2 c.own_meaning.ensures.own

pub returns-in-Ok-clause-fault : goal.returns-in-Ok-clause-fault
returns-in-Ok-clause-fault c =
    fault_is c.args.reader.now c.args.bytes.now c.requires c.in-Ok.meaning c.own_meaning.result (loud c) (read c) c.own_meaning.ensures.fault

pub returns-clause-fault : goal.returns-clause-fault
returns-clause-fault c =
    let reader = c.args.reader.now in
    let bytes = c.args.bytes.now in
    let e = c.in-Err.e in
    let is_cut : texts c.deref.result.now ≡ words_of bytes =
    cut_words _ _ _ _ c.deref.ensures.value c.in_ok-words_into.ensures.ok c.in-Some.ensures.value.1 in
    let told : Reads reader forms (texts c.deref.result.now) (Err e) = c.in-Err.ensures in
    let read : Reads reader forms (words_of bytes) (Err e) = subst (λ (ws : List (List ℕ)). Reads reader forms ws (Err e)) is_cut told in
    let loud : IsLoud reader bytes = record {
      plain = c.in-Some.ensures.value.0;
      loud = ap is_silent (sym c.in-Some.ensures.value.1) ∙ sym c.is_silent.ensures ∙ c.if-is_silent.false;
      early = ap (λ (p : Place). has_ended p) c.requires;
    } in
    fault_in_words reader bytes c.requires e loud read
