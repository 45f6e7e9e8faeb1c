-- Words of a script.
use Rattle.std.specs.Prelude.{ℕ, List, [], ◌∷◌, ◌++◌}

-- a word, a space and a text; or the word alone, if the text is empty
abbrev pub with_text : List ℕ → List ℕ → List ℕ
with_text word [] = word
with_text word (c ∷ text) = word ++ 32 ∷ c ∷ text
