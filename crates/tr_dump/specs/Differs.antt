-- The text of a difference.
use Rattle.std.specs.Prelude.{ℕ, List, [], ◌∷◌, ◌++◌, Option, Some, None, codes, decimal}
use Rattle.tr_journal.specs.declared.differences.Difference.{Difference}
use Rattle.tr_journal.specs.declared.differences.Apart.{Apart}
use Rattle.tr_journal.specs.declared.differences.Apart.TheVariants.{Opening, Kept, Own}
use Rattle.tr_journal.specs.Names.{Names}
use Rattle.tr_dump.specs.Values.{line_text}
use Rattle.tr_dump.specs.Steps.{actor_text, entry_text, step_text}

-- the text of a value, or a dash if there is none
abbrev pub text_or_dash : {A : Type 0} → (A → List ℕ) → Option A → List ℕ
text_or_dash text None = codes "-"
text_or_dash text (Some x) = text x

-- the differing part: the opening, the kept entries, or the steps of an actor
abbrev pub apart_word : {M : Type 0} → Names → Apart M → List ℕ
apart_word names Opening = codes "opening"
apart_word names (Kept made found) = codes "kept"
apart_word names (Own actor made found) = actor_text names actor

-- the expected text: an entry's, or the text of an actor's step
abbrev pub made_text : {M : Type 0} → (M → List ℕ) → Names → Apart M → List ℕ
made_text words names Opening = codes "-"
made_text words names (Kept made found) = text_or_dash (entry_text words names) made
made_text words names (Own actor made found) = text_or_dash (step_text words names actor) made

-- the text of the stage in its place
abbrev pub found_text : {M : Type 0} → (M → List ℕ) → Names → Apart M → List ℕ
found_text words names Opening = codes "-"
found_text words names (Kept made found) = text_or_dash (entry_text words names) found
found_text words names (Own actor made found) = text_or_dash (step_text words names actor) found

-- a difference: its part, its place (counted from 1), the expected text, and the text of the stage
abbrev pub differs_text : {M : Type 0} → (M → List ℕ) → Names → Difference M → List ℕ
differs_text words names d =
    line_text (codes "differs" ∷ apart_word names d.what ∷ (decimal d.place ++ codes ":")
    ∷ made_text words names d.what ∷ codes "/" ∷ found_text words names d.what ∷ [])
