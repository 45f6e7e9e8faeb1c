use Rattle.std.proofs.Common.{ℕ, List, [], ◌∷◌, Option, refl, ap, ◌∙◌}
use Rattle.std.specs.Borrow.{Bor}
use Rattle.tr_grammar.specs.Forms.{Form}
use Rattle.tr_words.specs.Answers.{texts}
use Rattle.tr_script.specs.Reading.{word_fault}
use Rattle.tr_script.proofs.FormLemmas.{one_word, no_act_word}
use Rattle.tr_script.proofs.act_lines.read_at.Goals as goal

no_word : Bor (List ℕ)
no_word = record { ref_ptr = (0, 0); now = [] }

pub read_act-requires-clause-line : goal.read_act-requires-clause-line
unfolding no_word
read_act-requires-clause-line c = c.requires.line ∙ rw (one_word c.args.words.now no_word c.in-len1-up.len_at_least) refl

pub returns : goal.returns
unfolding no_word
returns c = rw (one_word c.args.words.now no_word c.in-len1-up.len_at_least) c.read_act.ensures

pub returns-in_default : goal.returns-in_default
returns-in_default c =
    let none = no_act_word c.args.reader.now.version c.args.leaf.now c.args.words.now c.in_default.len_below in
    ap (λ (form : Option Form). word_fault c.args.reader.now form ((64 ∷ c.args.leaf.now) ∷ texts c.args.words.now)) none
