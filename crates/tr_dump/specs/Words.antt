-- Private contracts alone cite this file.
-- The code's words of a line.
use Rattle.std.specs.Prelude.{ℕ, Bool, true, false, List, [], ◌++◌, codes, decimal}
use Rattle.std.specs.Fmt.{signed_decimal}
use Rattle.tr_dump.specs.declared.words.Word.{Word}
use Rattle.tr_dump.specs.declared.words.Word.TheVariants.{Text, Number, Signed}

-- the text of a word
abbrev pub word_text : Word → List ℕ
word_text (Text text) = text.now
word_text (Number n) = decimal n
word_text (Signed z) = signed_decimal z

-- a word after a space
abbrev pub behind_space : Word → List ℕ
behind_space word = codes " " ++ word_text word

-- the tree's lock, if it is held, and a comma unless it is held alone
abbrev pub mu_text : Bool → Bool → List ℕ
mu_text true true = codes "mu"
mu_text true false = codes "mu,"
mu_text false alone = []
