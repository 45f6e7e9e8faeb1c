use Rattle.std.proofs.Common.{◌≡◌, ℕ, true, List, [], ◌∷◌, get_or, refl, sym, ◌∙◌}
use Rattle.std.specs.Prelude.{codes}
use Rattle.std.specs.Borrow.{Bor}
use Rattle.tr_grammar.specs.Words.{is_one_of}
use Rattle.tr_grammar.specs.Forms.{Enclose, cage_words}
use Rattle.tr_script.proofs.FormLemmas.{just_five, reads_one}
use Rattle.tr_script.proofs.act_lines.read_cage.Goals as goal

no_word : Bor (List ℕ)
no_word = record { ref_ptr = (0, 0); now = [] }

pub returns : goal.returns
unfolding no_word
returns c =
    let values = c.args.values.now in
    let at = λ (i : ℕ). (get_or values i no_word).now in
    let is : is_one_of cage_words (at 4) ≡ true = sym c.is_cage_word.ensures ∙ c.if-not-is_cage_word.false in
    let words = (64 ∷ c.args.leaf.now) ∷ codes "cage" ∷ at 0 ∷ at 1 ∷ at 2 ∷ at 3 ∷ at 4 ∷ [] in
    rw (just_five values no_word c.in-len5.len_at_least c.in-len5.len_below)
    (reads_one c.args.reader.now Enclose words (is_one_of cage_words (at 4)) c.enclose.result is refl c.enclose.ensures)
