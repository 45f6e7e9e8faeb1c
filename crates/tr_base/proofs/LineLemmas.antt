-- How a line keeps its text.
use Rattle.std.proofs.Common.{◌≡◌, ℕ, List, ◌++◌, length, drop, replicate, ap, ◌∙◌}
use Rattle.std.proofs.lemmas.List.{drop-replicate}
use Rattle.tr_base.specs.Kept.{padded}

-- a text that is written over the front of 46 zeros
pub padded-written : (text written : List ℕ) → written ≡ text → written ++ drop (length text) (replicate 46 0) ≡ padded text
padded-written text written same = ap (λ t. t ++ drop (length text) (replicate 46 0)) same ∙ ap (λ zeros. text ++ zeros) (drop-replicate (length text) 46 0)
