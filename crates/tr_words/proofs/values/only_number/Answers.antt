use Rattle.std.proofs.Common.{[], ◌∷◌, ℕ, List, sym, ap, ◌∙◌, arith}
use Rattle.std.specs.Prelude.{decimal}
use Rattle.tr_words.proofs.NumberCuts.{digits_only}
use Rattle.tr_words.proofs.Numbers.{decimal_parts}
use Rattle.tr_words.proofs.WordLemmas.{joined}
use Rattle.tr_words.proofs.values.only_number.Goals as goal

pub returns : goal.returns
returns c =
    let is = c.in_ok-number.ensures in
    let parts = decimal_parts c.in_ok-number.number c.args.text.now (omega arith) is in
    digits_only c.args.text.now parts.digits ∙ ap (λ (w : List ℕ). w ∷ []) is

pub returns-in_err-number : goal.returns-in_err-number
returns-in_err-number c =
    rw c.from_residual.ensures (λ n small words.
    c.in_err-number.ensures n small (sym (joined (decimal n ∷ []) c.args.text.now words)))
