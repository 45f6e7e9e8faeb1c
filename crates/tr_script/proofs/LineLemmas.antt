-- What a line says and its first fault, and the lines that are read so far.
use Rattle.std.proofs.Common.{◌≡◌, ℕ, ◌+◌, ◌<◌, ◌≤◌, Bool, true, false, List, [], ◌∷◌, ◌++◌, Option, Some, None, Err}
use Rattle.std.proofs.Common.{cond, length, refl, sym, ap, ◌∙◌, arith}
use Rattle.std.proofs.lemmas.Option.{none-some}
use Rattle.std.specs.Borrow.{Bor}
use Rattle.tr_base.specs.Lists.{first_true}
use Rattle.tr_grammar.specs.declared.Code.{Code}
use Rattle.tr_grammar.specs.declared.Code.TheVariants.{B1, B8}
use Rattle.tr_grammar.specs.declared.LineRefused.{LineRefused}
use Rattle.tr_grammar.specs.declared.LineRefused.TheVariants as refused
use Rattle.tr_grammar.specs.declared.Meaning.{Meaning}
use Rattle.tr_grammar.specs.Texts.{is_plain, is_silent, lines_of}
use Rattle.tr_grammar.specs.Words.{word_at, words_of}
use Rattle.tr_grammar.specs.Forms.{Form, form_of}
use Rattle.tr_grammar.specs.Meanings.{meaning_of}
use Rattle.tr_grammar.specs.States.{SoFar, nothing_yet}
use Rattle.tr_grammar.specs.Faults.{word_faults, line_faults, fault_as, fault_of, has_ended}
use Rattle.tr_grammar.specs.Scripts.{Refusal, after_meaning, after_as, after_line, first_bad_line, after_all_lines, refused_at}
use Rattle.tr_words.specs.Answers.{texts}
use Rattle.tr_reader.specs.Adding.{IsFault}
use Rattle.tr_script.specs.Apart.{meaning_as}
use Rattle.tr_script.specs.Reading.{word_fault, ReadsAs}

-- ---- one line

-- a fault that is found is the first also where more are tried
found_first : (xs ys : List (Code × Bool)) (e : Code) → first_true xs ≡ Some e → first_true (xs ++ ys) ≡ Some e
found_first [] ys e found = absurd (none-some e found)
found_first ((code, b) ∷ xs) ys e found = by_test b found (found_first xs ys e)
  where
    by_test : (b : Bool) → cond b (Some code) (first_true xs) ≡ Some e → (first_true xs ≡ Some e → first_true (xs ++ ys) ≡ Some e) →
        cond b (Some code) (first_true (xs ++ ys)) ≡ Some e
    by_test true found more = found
    by_test false found more = more found

-- where none is found, the first of those that are left counts
found_later : (xs ys : List (Code × Bool)) → first_true xs ≡ None → first_true (xs ++ ys) ≡ first_true ys
found_later [] ys none = refl
found_later ((code, b) ∷ xs) ys none = by_test b none (found_later xs ys)
  where
    by_test : (b : Bool) → cond b (Some code) (first_true xs) ≡ None → (first_true xs ≡ None → first_true (xs ++ ys) ≡ first_true ys) →
        cond b (Some code) (first_true (xs ++ ys)) ≡ first_true ys
    by_test true none more = absurd (none-some code (sym none))
    by_test false none more = more none

-- a fault of the words is the line's
pub fault_before : (c : SoFar) (n : ℕ) (form : Option Form) (ws : List (List ℕ)) (e : Code) →
    word_fault c form ws ≡ Some e → fault_as c n form ws ≡ Some e
fault_before c n None ws e found = found
fault_before c n (Some f) ws e found = found_first (word_faults c f ws) (line_faults c n (meaning_of c.names ws f)) e found

-- where the words show none, it is that of what they say
pub fault_behind : (c : SoFar) (n : ℕ) (form : Option Form) (ws : List (List ℕ)) (m : Meaning) →
    word_fault c form ws ≡ None → meaning_as c form ws ≡ Some m → fault_as c n form ws ≡ first_true (line_faults c n m)
fault_behind c n None ws m none said = absurd (none-some B1 (sym none))
fault_behind c n (Some f) ws m none said =
    let is : meaning_of c.names ws f ≡ m = cc in
    found_later (word_faults c f ws) (line_faults c n (meaning_of c.names ws f)) none ∙ ap (λ (x : Meaning). first_true (line_faults c n x)) is

-- what the words say comes behind the lines so far
pub after_said : (c : SoFar) (form : Option Form) (ws : List (List ℕ)) (m : Meaning) →
    meaning_as c form ws ≡ Some m → after_as c form ws ≡ after_meaning c (word_at ws 1) m
after_said c None ws m said = absurd (none-some m said)
after_said c (Some f) ws m said =
    let is : meaning_of c.names ws f ≡ m = cc in
    ap (λ (x : Meaning). after_meaning c (word_at ws 1) x) is

-- why the words are refused, the line is
pub refused_before : (c : SoFar) (n : ℕ) (form : Option Form) (ws : List (List ℕ)) (e : LineRefused) →
    ReadsAs c form ws (Err e) → IsFault (fault_as c n form ws) e
refused_before c n form ws refused.NoMemory read = tt
refused_before c n form ws (refused.Fault code) read = fault_before c n form ws code read

-- a line that means something, and stands before the end
pub record IsLoud (c : SoFar) (bytes : List ℕ) : Type 0 where
  pub plain : is_plain bytes ≡ true
  pub loud : is_silent bytes ≡ false
  pub early : has_ended c.place ≡ false

-- the words that a list was given are those of the line
pub cut_words : (given made : List (Bor (List ℕ))) (line bytes : List ℕ) → given ≡ made → texts made ≡ words_of line → line ≡ bytes →
    texts given ≡ words_of bytes
cut_words given made line bytes same cut is = ap texts same ∙ cut ∙ ap words_of is

-- its fault is one of its words
pub fault_of_words : (c : SoFar) (n : ℕ) (bytes : List ℕ) → IsLoud c bytes →
    fault_of c n bytes ≡ fault_as c n (form_of c.version (words_of bytes)) (words_of bytes)
unfolding fault_of
fault_of_words c n bytes h = rw (h.plain, h.loud, h.early) refl

-- what comes behind it is what its words say
pub next_of_words : (c : SoFar) (bytes : List ℕ) → IsLoud c bytes →
    after_line c bytes ≡ after_as c (form_of c.version (words_of bytes)) (words_of bytes)
unfolding after_line
next_of_words c bytes h = rw h.loud refl

-- ---- all lines

-- the lines of a text are read up to those of its rest, of which the first has this number, and the script behind them is c
pub record IsReadTo (bytes rest : List ℕ) (number : ℕ) (c : SoFar) : Type 0 where
  pub fault : first_bad_line nothing_yet 1 (lines_of bytes) ≡ first_bad_line c number (lines_of rest)
  pub script : after_all_lines nothing_yet (lines_of bytes) ≡ after_all_lines c (lines_of rest)
  pub few : number + length rest ≤ length bytes + 1

pub next_read : (bytes rest behind line : List ℕ) (number : ℕ) (c : SoFar) → IsReadTo bytes rest number c → lines_of rest ≡ line ∷ lines_of behind →
    length behind < length rest → fault_of c number line ≡ None → IsReadTo bytes behind (number + 1) (after_line c line)
next_read bytes rest behind line number c so_far at shorter none = record {
  fault = so_far.fault ∙ rw (at, none) refl;
  script = so_far.script ∙ rw at refl;
  few = omega (arith, so_far.few, shorter);
}

pub next_refused : (bytes rest behind line : List ℕ) (number : ℕ) (c : SoFar) (e : Code) → IsReadTo bytes rest number c →
    lines_of rest ≡ line ∷ lines_of behind → fault_of c number line ≡ Some e →
    first_bad_line nothing_yet 1 (lines_of bytes) ≡ Some (refused_at number e)
next_refused bytes rest behind line number c e so_far at fault = so_far.fault ∙ rw (at, fault) refl

-- where no byte is left, all lines are read
pub all_read : (bytes rest : List ℕ) (number : ℕ) (c : SoFar) → IsReadTo bytes rest number c → length rest ≡ 0 →
    after_all_lines nothing_yet (lines_of bytes) ≡ c
unfolding lines_of
all_read bytes [] number c so_far none = so_far.script
all_read bytes (b ∷ rest) number c so_far none = absurd (omega (arith, none))

pub last_fault : (bytes rest : List ℕ) (number : ℕ) (c : SoFar) → IsReadTo bytes rest number c → length rest ≡ 0 →
    (ended : Bool) → has_ended c.place ≡ ended → first_bad_line nothing_yet 1 (lines_of bytes) ≡ cond ended None (Some (refused_at number B8))
unfolding lines_of
last_fault bytes [] number c so_far none ended is =
    so_far.fault ∙ ap (λ (b : Bool). cond {A = Option Refusal} b None (Some (refused_at number B8))) is
last_fault bytes (b ∷ rest) number c so_far none ended is = absurd (omega (arith, none))
