-- The lines of a text, read one after another.
use Rattle.std.proofs.Common.{◌≡◌, ℕ, List, [], ◌∷◌, length, sym, ap, ◌∙◌, arith}
use Rattle.tr_grammar.specs.States.{SoFar}
use Rattle.tr_grammar.specs.Texts.{lines_of}
use Rattle.tr_grammar.specs.Scripts.{after_all_lines, after_line}

-- one more line was read
pub read_on : (c d all : SoFar) (rest line behind : List ℕ) → lines_of rest ≡ line ∷ lines_of behind → d ≡ after_line c line →
    after_all_lines c (lines_of rest) ≡ all → after_all_lines d (lines_of behind) ≡ all
read_on c d all rest line behind cut next is =
    ap (λ (e : SoFar). after_all_lines e (lines_of behind)) next ∙ sym (ap (after_all_lines c) cut) ∙ is

-- where no byte is left, all lines were read
pub read_all : (c all : SoFar) (rest : List ℕ) → length rest ≡ 0 → after_all_lines c (lines_of rest) ≡ all → c ≡ all
unfolding lines_of
read_all c all [] none is = is
read_all c all (b ∷ rest) none is = absurd (omega (arith, none))
