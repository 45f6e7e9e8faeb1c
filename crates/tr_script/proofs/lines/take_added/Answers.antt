use Rattle.std.proofs.Common.{◌≡◌, ℕ, List, [], ◌∷◌, Ok, Err, Result, rules}
use Rattle.std.specs.Prelude.{codes}
use Rattle.tr_base.specs.Lists.{first_true}
use Rattle.tr_grammar.specs.declared.LineRefused.{LineRefused}
use Rattle.tr_grammar.specs.declared.Meaning.{Meaning}
use Rattle.tr_grammar.specs.Forms.{forms, form_of, AddLine}
use Rattle.tr_grammar.specs.Faults.{line_faults}
use Rattle.tr_grammar.specs.Scripts.{after_meaning}
use Rattle.tr_grammar.specs.States.{SoFar}
use Rattle.tr_grammar.specs.Words.{words_of}
use Rattle.tr_script.specs.Reading.{Reads, words_fault, after_words}
use Rattle.tr_script.proofs.FormLemmas.{at_added, reads_by}
use Rattle.tr_script.proofs.LineLemmas.{fault_behind, after_said, refused_before}
use Rattle.tr_script.proofs.lines.take_added.Goals as goal

-- the words of the line
abbrev line_words : List ℕ → List ℕ → List (List ℕ)
line_words leaf added = (64 ∷ leaf) ∷ codes "line" ∷ words_of added

-- they are read as those of any line
any_line : (c : SoFar) (leaf added : List ℕ) (r : Result Meaning LineRefused) → Reads c (AddLine ∷ []) (line_words leaf added) r →
    Reads c forms (line_words leaf added) r
any_line c leaf added r read = reads_by c forms (AddLine ∷ []) (line_words leaf added) r (at_added c.version leaf (words_of added)) read

pub take_meaning-requires : goal.take_meaning-requires
take_meaning-requires c = c.in-Ok.ensures.2

pub returns-in-Ok : goal.returns-in-Ok
returns-in-Ok c =
    let reader = c.args.reader.now in
    let words = line_words c.args.leaf.now c.args.added.now in
    let form = form_of reader.version words in
    let m : Meaning = c.in-Ok.meaning in
    let read = any_line reader c.args.leaf.now c.args.added.now (Ok m) c.in-Ok.ensures in
    let fault_is : words_fault reader c.args.number words ≡ first_true (line_faults reader c.args.number m) =
    fault_behind reader c.args.number form words m read.0 read.1
    in
    let next_is : after_words reader words ≡ after_meaning reader (codes "line") m = after_said reader form words m read.1 in
    record {
      none = rw fault_is c.take_meaning.ensures.none;
      next = rw next_is c.take_meaning.ensures.next;
      fault = rw fault_is c.take_meaning.ensures.fault;
      err = rw next_is c.take_meaning.ensures.err;
    }

pub returns-in-Err : goal.returns-in-Err
returns-in-Err c =
    let reader = c.args.reader.now in
    let words = line_words c.args.leaf.now c.args.added.now in
    let read = any_line reader c.args.leaf.now c.args.added.now (Err c.in-Err.e) c.in-Err.ensures in
    record {
      none = search rules;
      next = search rules;
      fault = refused_before reader c.args.number (form_of reader.version words) words c.in-Err.e read;
      err = search rules;
    }
