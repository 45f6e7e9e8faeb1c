use Rattle.std.proofs.Common.{ℕ, List, [], ◌∷◌, Option, refl, ap, ◌∙◌}
use Rattle.std.specs.Prelude.{codes}
use Rattle.std.specs.Borrow.{Bor}
use Rattle.tr_grammar.specs.Forms.{Form}
use Rattle.tr_words.specs.Answers.{texts}
use Rattle.tr_script.specs.Reading.{word_fault}
use Rattle.tr_script.proofs.FormLemmas.{eight_words, few_words}
use Rattle.tr_script.proofs.leaf_lines.read_leaf.Goals as goal

no_word : Bor (List ℕ)
no_word = record { ref_ptr = (0, 0); now = [] }

pub read_widget-requires-clause-line : goal.read_widget-requires-clause-line
unfolding no_word
read_widget-requires-clause-line c =
    c.requires.line ∙ rw (eight_words c.args.words.now no_word c.in-len8-up.len_at_least) refl

pub returns : goal.returns
unfolding no_word
returns c = rw (eight_words c.args.words.now no_word c.in-len8-up.len_at_least) c.read_widget.ensures

pub returns-in_default : goal.returns-in_default
returns-in_default c =
    let none = few_words c.args.reader.now.version c.args.words.now c.in_default.len_below in
    ap (λ (form : Option Form). word_fault c.args.reader.now form (codes "leaf" ∷ texts c.args.words.now)) none
