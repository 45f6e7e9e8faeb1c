-- Where a text is cut behind a word of digits.
use Rattle.std.proofs.Common.{◌≡◌, ◌≢◌, ℕ, ◌+◌, ◌<◌, ◌≤◌, true, List, [], ◌∷◌, ◌++◌, length, get_or, take, drop, subst, length-append, arith}
use Rattle.std.specs.Prelude.{slice_index}
use Rattle.std.specs.List.{join_with_byte}
use Rattle.std.specs.Str.Parse.{AllDigits}
use Rattle.std.proofs.Math.Seq.{get_or-append_seam, take-append_seam}
use Rattle.std.proofs.lemmas.Bool.{eq-eqb, eqb-true}
use Rattle.std.proofs.lemmas.Grind.{common_steps}
use Rattle.std.proofs.lemmas.List.{take_all}
use Rattle.std.proofs.lemmas.Str.Parse.{digit_at}
use Rattle.tr_grammar.specs.Words.{words_of}
use Rattle.tr_words.proofs.LineLemmas.{cut_at, is_just, uncut}
use Rattle.tr_words.proofs.WordLemmas.{joined}

-- a digit is no space
no_space : (text : List ℕ) (at k : ℕ) → AllDigits 10 (take at text) → at ≤ length text → k < at → is_just 32 (slice_index text k) ≢ true
no_space text at k digits within below space =
    let long : k < length (take at text) = grind (arith, common_steps) in
    let digit = digit_at (take at text) k digits long in
    let same : get_or (take at text) k 0 ≡ slice_index text k = grind (arith, common_steps) in
    let is : slice_index text k ≡ 32 = eqb-true _ 32 space in
    omega (arith, digit, same, is)

-- no space is before the end of some digits
pub not_within : (text : List ℕ) (i at : ℕ) → AllDigits 10 (take i text) → i ≤ length text → at < i → slice_index text at ≡ 32 → ⊥
not_within text i at digits within below space = no_space text i at digits within below (eq-eqb _ 32 space)

-- each of some digits is one
pub digit_within : (text : List ℕ) (at i : ℕ) → AllDigits 10 (take at text) → at ≤ length text → i < at →
    (48 ≤ slice_index text i) × (slice_index text i ≤ 57)
digit_within text at i digits within below =
    let long : i < length (take at text) = grind (arith, common_steps) in
    let digit = digit_at (take at text) i digits long in
    let same : get_or (take at text) i 0 ≡ slice_index text i = grind (arith, common_steps) in
    (omega (arith, digit, same), omega (arith, digit, same))

-- digits up to a space are the first word
pub digits_first : (text : List ℕ) (at : ℕ) → at < length text → slice_index text at ≡ 32 → AllDigits 10 (take at text) →
    words_of text ≡ take at text ∷ words_of (drop (at + 1) text)
digits_first text at within space digits =
    cut_at 32 text at within (eq-eqb _ 32 space) (λ k below. no_space text at k digits (omega (arith, within)) below)

-- digits alone are the only word
pub digits_only : (text : List ℕ) → AllDigits 10 text → words_of text ≡ text ∷ []
digits_only text digits =
    let all : AllDigits 10 (take (length text) text) = rw (take_all (length text) text (omega arith)) digits in
    uncut 32 text (λ k within. no_space text (length text) k all (omega arith) within)

-- a text with two words or more has a space behind the first
pub record IsCut (text word : List ℕ) : Type 0 where
  pub within : length word < length text
  pub space : slice_index text (length word) ≡ 32
  pub front : take (length word) text ≡ word

pub first_of_two : (text word next : List ℕ) (later : List (List ℕ)) → words_of text ≡ word ∷ next ∷ later → IsCut text word
first_of_two text word next later is =
    let whole : word ++ 32 ∷ join_with_byte 32 (next ∷ later) ≡ text = joined (word ∷ next ∷ later) text is in
    subst (λ (t : List ℕ). IsCut t word) whole (cut word (join_with_byte 32 (next ∷ later)))
  where
    cut : (word rest : List ℕ) → IsCut (word ++ 32 ∷ rest) word
    cut word rest = record {
      within = omega (arith, length-append word (32 ∷ rest));
      space = get_or-append_seam word 32 rest 0;
      front = take-append_seam word (32 ∷ rest);
    }

-- a text with a first word of digits that was cut there has no other first word
pub same_first : (text digits word : List ℕ) (rest later : List (List ℕ)) → words_of text ≡ digits ∷ rest → words_of text ≡ word ∷ later → digits ≡ word
same_first text digits word rest later one other = cc
