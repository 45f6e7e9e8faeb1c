use Rattle.std.proofs.Common.{ℕ, get_or, Fits, w8, ◌∙◌, rules}
use Rattle.tr_kernel.proofs.MaskLemmas.{same_step}
use Rattle.tr_kernel.proofs.masks.exchange_pixels.Goals as goal

pub returns : goal.returns
returns c k lt =
    let fits : (j : ℕ) → Fits w8 (get_or c.args.row.now j 0) = λ j. search rules in
    c.paint_by.ensures k lt ∙ same_step c.exchange-step.result _ (get_or c.args.row.now k 0) ∙ c.exchange-step.ensures (get_or c.args.row.now k 0) (fits k).fits
