-- Lines: which are texts, and what is left of one behind some of its words.
use Rattle.std.proofs.Common.{◌≡◌, ◌<◌, ℕ, true, List, [], ◌∷◌, length, drop, eqb, leb, refl, sym, ap, subst, ◌∙◌, arith}
use Rattle.std.specs.Prelude.{IsUtf8}
use Rattle.std.specs.Str.{IsAscii}
use Rattle.std.specs.List.{list_all, join_with_byte, AllPass}
use Rattle.std.proofs.lemmas.Str.{IsUtf8-from_ascii}
use Rattle.std.proofs.lemmas.Str.Ascii.{IsAscii-nil, IsAscii-cons}
use Rattle.std.proofs.lemmas.List.Sums.{AllPass-from_list_all}
use Rattle.std.proofs.lemmas.Bool.{and_parts, leb-true}
use Rattle.std.proofs.lemmas.List.Splits.{join_with_byte-slice_split, length-slice_split}
use Rattle.tr_base.specs.Lines.{is_printable}
use Rattle.tr_grammar.specs.Texts.{is_plain}
use Rattle.tr_grammar.specs.Words.{words_of}
use Rattle.tr_words.specs.Answers.{AreWordsOf}

-- what is left is the words, joined again
pub joined : (ws : List (List ℕ)) (text : List ℕ) → AreWordsOf ws text → join_with_byte 32 ws ≡ text
joined [] text e = sym e
joined (w ∷ ws) text e = ap (join_with_byte 32) (sym e) ∙ join_with_byte-slice_split 32 text

-- all of a line is left of it when all its words are
pub follows_all : (ws : List (List ℕ)) (text : List ℕ) → words_of text ≡ ws → AreWordsOf ws text
follows_all [] text e =
    let n : length (words_of text) ≡ length {A = List ℕ} [] = ap (λ (l : List (List ℕ)). length l) e in
    absurd (omega (arith, length-slice_split (λ (b : ℕ). eqb b 32) text, n))
follows_all (w ∷ ws) text e = e

-- where a line has no space, no word is left behind its first
pub follows_none : (ws : List (List ℕ)) (text : List ℕ) → words_of text ≡ text ∷ [] → AreWordsOf ws text → AreWordsOf (drop 1 ws) []
follows_none [] text one e = refl
follows_none (w ∷ ws) text one e =
    let same : text ∷ [] ≡ w ∷ ws = sym one ∙ e in
    subst (λ (l : List (List ℕ)). AreWordsOf l []) (ap (λ (l : List (List ℕ)). drop 1 l) same) refl

-- what is left of a line behind one word more
pub follows_next : (ws : List (List ℕ)) (text word rest : List ℕ) → words_of text ≡ word ∷ words_of rest → length rest < length text →
    AreWordsOf ws text → AreWordsOf (drop 1 ws) rest
follows_next [] text word rest cut shorter e =
    let n : length text ≡ length {A = ℕ} [] = ap (λ (t : List ℕ). length t) e in
    absurd (omega (arith, shorter, n))
follows_next (w ∷ ws) text word rest cut shorter e =
    let same : word ∷ words_of rest ≡ w ∷ ws = sym cut ∙ e in
    follows_all ws rest (ap (λ (l : List (List ℕ)). drop 1 l) same)

-- ---- which lines are texts

pub plain_is_utf8 : (bs : List ℕ) → is_plain bs ≡ true → IsUtf8 bs
unfolding is_plain
plain_is_utf8 bs e = IsUtf8-from_ascii bs (is_ascii bs (and_parts _ _ e).1)
  where
    is_ascii : (bs : List ℕ) → list_all is_printable bs ≡ true → IsAscii bs
    is_ascii [] e = IsAscii-nil
    is_ascii (b ∷ bs) e =
        let p = and_parts (is_printable b) (list_all is_printable bs) e in
        let q = and_parts (leb 32 b) (leb b 126) p.0 in
        let below = leb-true b 126 q.1 in
        IsAscii-cons b bs (omega arith) (is_ascii bs p.1)

pub plain_is_printable : (bs : List ℕ) → is_plain bs ≡ true → AllPass is_printable bs
unfolding is_plain
plain_is_printable bs e = AllPass-from_list_all is_printable bs (and_parts _ _ e).1

-- what a reader of a line cites
pub ruleset text_rules = (plain_is_utf8, plain_is_printable)
