-- The words of commands.
use Rattle.std.proofs.Common.{◌≡◌, ℕ, ℤ, List, [], ◌++◌, w32, to_z, of_z, ap, ◌∙◌}
use Rattle.std.specs.Fmt.{signed_decimal}
use Rattle.std.proofs.lemmas.List.{append-nil, append_assoc}
use Rattle.tr_base.specs.Rects.{InReach}
use Rattle.tr_base.proofs.RectLemmas.{cast-in_reach}

-- the text of an edge that passed through 32 bits
pub edge-text : (edge passed : ℤ) (digits text : List ℕ) → InReach passed → passed ≡ edge → digits ≡ signed_decimal (to_z w32 (of_z w32 passed)) →
    text ≡ digits → text ≡ signed_decimal edge
edge-text edge passed digits text reach is written same = same ∙ written ∙ ap signed_decimal (cast-in_reach passed reach ∙ is)

-- a word and four texts, with one between any two of them
pub edges-joined : (word between west east north south : List ℕ) →
    word ++ (west ++ (between ++ (east ++ (between ++ (north ++ (between ++ (south ++ [])))))))
    ≡ word ++ (west ++ between ++ east ++ between ++ north ++ between ++ south)
edges-joined word between west east north south = simp (append_assoc, append-nil)

-- what is appended to what was appended
pub appended-twice : (old first last text rest : List ℕ) → first ≡ old ++ text → last ≡ first ++ rest → last ≡ old ++ (text ++ rest)
appended-twice old first last text rest once twice = twice ∙ ap (λ l. l ++ rest) once ∙ append_assoc old text rest
