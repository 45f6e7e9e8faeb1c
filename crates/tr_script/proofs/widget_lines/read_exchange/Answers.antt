use Rattle.std.proofs.Common.{◌≡◌, ℕ, true, List, [], ◌∷◌, get_or, refl, sym, ◌∙◌}
use Rattle.std.specs.Prelude.{codes}
use Rattle.std.specs.Borrow.{Bor}
use Rattle.tr_grammar.specs.Forms.{AddExchange, is_second}
use Rattle.tr_script.proofs.FormLemmas.{just_six, reads_one}
use Rattle.tr_script.proofs.widget_lines.read_exchange.Goals as goal

no_word : Bor (List ℕ)
no_word = record { ref_ptr = (0, 0); now = [] }

pub returns : goal.returns
unfolding no_word
returns c =
    let values = c.args.values.now in
    let version = c.args.reader.now.version in
    let at = λ (i : ℕ). (get_or values i no_word).now in
    let is : is_second version ≡ true = sym c.is_second.ensures ∙ c.if-not-is_second.false in
    let words = (64 ∷ c.args.leaf.now) ∷ codes "exchange" ∷ at 0 ∷ at 1 ∷ at 2 ∷ at 3 ∷ at 4 ∷ at 5 ∷ [] in
    rw (just_six values no_word c.in-len6.len_at_least c.in-len6.len_below)
    (reads_one c.args.reader.now AddExchange words (is_second version) c.exchange.result is refl c.exchange.ensures)
