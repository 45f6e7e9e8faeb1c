-- The results of the readers of words.
use Rattle.std.specs.Prelude.{◌≡◌, ◌≤◌, ℕ, Bool, true, false, not, List, [], ◌∷◌, map, length, slice_index, Option, Some, None, Result, Ok, Err, ⊤}
use Rattle.std.specs.Borrow.{Bor}
use Rattle.tr_base.specs.Lines.{is_printable}
use Rattle.tr_grammar.specs.declared.codes.Code.{Code}
use Rattle.tr_grammar.specs.declared.codes.LineRefused.{LineRefused}
use Rattle.tr_grammar.specs.declared.codes.LineRefused.TheVariants as refused
use Rattle.tr_grammar.specs.Words.{words_of, is_one_of}

-- the texts that references point to
abbrev pub texts : List (Bor (List ℕ)) → List (List ℕ)
texts ws = map (λ w. w.now) ws

-- a value with this property if there is no fault, and else the fault's code
abbrev pub Answers : {X : Type 0} → Bool → Code → (X → Type 0) → Result X Code → Type 0
Answers fault code P (Ok x) = (fault ≡ false) × P x
Answers fault code P (Err e) = (fault ≡ true) × (e ≡ code)

-- the same, if memory can run out
abbrev pub AnswersOrWants : {X : Type 0} → Bool → Code → (X → Type 0) → Result X LineRefused → Type 0
AnswersOrWants fault code P (Ok x) = (fault ≡ false) × P x
AnswersOrWants fault code P (Err refused.NoMemory) = ⊤
AnswersOrWants fault code P (Err (refused.Fault e)) = (fault ≡ true) × (e ≡ code)

-- the meaning of a word, if it is one of these
abbrev pub Chooses : {X : Type 0} → List (List ℕ) → List ℕ → X → Option X → Type 0
Chooses ts w x None = is_one_of ts w ≡ false
Chooses ts w x (Some y) = (is_one_of ts w ≡ true) × (y ≡ x)

-- the first byte is a digit, and a word that begins with 0 has no more bytes; only private contracts cite this definition
abbrev pub BeginsNumber : List ℕ → Type 0
BeginsNumber w = (48 ≤ slice_index w 0) × (slice_index w 0 ≤ 57) × (slice_index w 0 ≡ 48 → length w ≡ 1)

-- the byte is outside hex 20 to 7e; only private contracts cite this definition
abbrev pub is_unprintable : ℕ → Bool
is_unprintable b = not (is_printable b)

-- these are the words of a text, which is the rest of a line; only private contracts cite this definition
abbrev pub AreWordsOf : List (List ℕ) → List ℕ → Type 0
AreWordsOf [] text = text ≡ []
AreWordsOf (w ∷ ws) text = words_of text ≡ w ∷ ws
