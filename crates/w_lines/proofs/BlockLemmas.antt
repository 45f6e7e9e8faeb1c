-- Lines in a block, behind others that are no longer kept.
use Rattle.std.proofs.Common.{◌≡◌, ℕ, ◌+◌, ◌-◌, ◌≤◌, List, [], ◌∷◌, ◌++◌, drop, length, sym, ap, ◌∙◌, arith, length-drop}
use Rattle.std.proofs.lemmas.List.{drop-drop, drop-append-le}
use Rattle.tr_client.specs.Texts.{most_lines}
use Rattle.w_lines.specs.Lines.{newest_lines}

-- where the last lines begin of those from a place on
pub last-from : (xs : List (List ℕ)) (at n : ℕ) → at ≤ length xs → n ≡ at + ((length xs - at) - most_lines) →
    drop n xs ≡ newest_lines most_lines (drop at xs)
last-from xs at n within is =
    let long : n ≡ at + (length (drop at xs) - most_lines) = omega (arith, length-drop at xs) in
    ap (λ (k : ℕ). drop k xs) long ∙ sym (drop-drop (length (drop at xs) - most_lines) at xs)

-- a line behind those of a block stands behind those that are kept
pub grown : (xs ys : List (List ℕ)) (line : List ℕ) (at : ℕ) → at ≤ length xs → ys ≡ xs ++ line ∷ [] → drop at ys ≡ drop at xs ++ line ∷ []
grown xs ys line at within is = ap (λ (zs : List (List ℕ)). drop at zs) is ∙ drop-append-le at xs (line ∷ []) within
