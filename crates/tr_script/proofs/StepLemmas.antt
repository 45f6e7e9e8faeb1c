-- A line that makes a step says the same behind any steps.
use Rattle.std.proofs.Common.{◌≡◌, ℕ, Bool, true, false, not, ◌&&◌, ◌||◌, List, [], ◌∷◌, ◌++◌, ◌≤◌, Option, Some, None, Ok, Err, cond, refl, sym, ap, ◌∙◌, append_assoc, nat_le, leb-true, arith}
use Rattle.std.proofs.lemmas.Bool.{false_from_ne_true, and_left, and_right, or_right, le-leb}
use Rattle.std.specs.Prelude.{Result, IfOk, is_none, if◌then◌else◌}
use Rattle.std.specs.List.{list_any}
use Rattle.std.proofs.lemmas.List.Elements.{All-push}
use Rattle.tr_journal.specs.declared.Actor.{Actor}
use Rattle.tr_journal.specs.declared.Step.{Step}
use Rattle.tr_widget.specs.declared.WidgetCmd.{WidgetCmd}
use Rattle.tr_base.specs.declared.NoMemory.{NoMemory}
use Rattle.tr_base.specs.Lists.{first_true}
use Rattle.tr_grammar.specs.declared.Code.{Code}
use Rattle.tr_grammar.specs.declared.Code.TheVariants.{B6, B7, B8, B9, B10}
use Rattle.tr_grammar.specs.declared.LineRefused.TheVariants as refused
use Rattle.tr_grammar.specs.declared.Place.{Place}
use Rattle.tr_grammar.specs.declared.Place.TheVariants as places
use Rattle.tr_grammar.specs.declared.Meaning.{Meaning}
use Rattle.tr_grammar.specs.declared.Meaning.TheVariants as meanings
use Rattle.tr_grammar.specs.Texts.{is_plain, is_silent}
use Rattle.tr_grammar.specs.Words.{words_of, word_at}
use Rattle.tr_grammar.specs.Forms.{Field, word, one_of, pixels, at_leaf, new_name, a_node, a_leaf, number, signed, shape, glyph, rows, text, Form, forms, form_of, fields, field_words}
use Rattle.tr_grammar.specs.States.{SoFar}
use Rattle.tr_grammar.specs.Meanings.{meaning_of}
use Rattle.tr_grammar.specs.Faults.{word_faults, line_faults, fault_as, fault_of, has_ended, is_declared_again, is_undeclared, is_foreign, is_refused, is_one_too_many, nodes_so_far}
use Rattle.tr_grammar.specs.Scripts.{after_meaning, after_line, IsPlayable}
use Rattle.tr_reader.specs.Adding.{is_at_steps, with_steps}
use Rattle.tr_script.specs.Apart.{TakesStep, meaning_as, stays_at_steps}
use Rattle.tr_script.specs.Reading.{word_fault, SaysStep, Reads}
use Rattle.tr_script.proofs.LineLemmas.{IsLoud, fault_of_words, next_of_words, fault_behind, after_said, refused_before}

-- where tests are alike, so is whether any of them is passed
alike : {X : Type 0} (p q : X → Bool) → ((x : X) → p x ≡ q x) → (xs : List X) → list_any p xs ≡ list_any q xs
alike p q same [] = refl
alike p q same (x ∷ xs) = rw (same x, alike p q same xs) refl

-- what is read behind steps
module _ (c : SoFar) (made : List (Actor × Step WidgetCmd)) where
  -- a name is declared again, or wasn't declared, there as here
  names_same : (x : Field × List (List ℕ)) →
      (is_declared_again (with_steps c made) x ≡ is_declared_again c x) × (is_undeclared (with_steps c made) x ≡ is_undeclared c x)
  names_same (word w, ws) = (refl, refl)
  names_same (one_of ts, ws) = (refl, refl)
  names_same (pixels, ws) = (refl, refl)
  names_same (at_leaf, ws) = (refl, refl)
  names_same (new_name, ws) = (refl, refl)
  names_same (a_node, ws) = (refl, refl)
  names_same (a_leaf, ws) = (refl, refl)
  names_same (number low high, ws) = (refl, refl)
  names_same (signed low high, ws) = (refl, refl)
  names_same (shape, ws) = (refl, refl)
  names_same (glyph, ws) = (refl, refl)
  names_same (rows, ws) = (refl, refl)
  names_same (text, ws) = (refl, refl)

  -- the words show no fault there which they don't show here
  word_fault_same : (form : Option Form) (ws : List (List ℕ)) → word_fault (with_steps c made) form ws ≡ word_fault c form ws
  word_fault_same None ws = refl
  word_fault_same (Some f) ws =
      rw (
        alike (is_declared_again (with_steps c made)) (is_declared_again c) (λ x. (names_same x).0) (field_words (fields f) ws),
        alike (is_undeclared (with_steps c made)) (is_undeclared c) (λ x. (names_same x).1) (field_words (fields f) ws),
      ) refl

  -- they say the same
  meaning_same : (form : Option Form) (ws : List (List ℕ)) → meaning_as (with_steps c made) form ws ≡ meaning_as c form ws
  meaning_same None ws = refl
  meaning_same (Some f) ws = refl

  foreign_same : (m : Meaning) → is_foreign (with_steps c made) m ≡ is_foreign c m
  foreign_same m = refl

-- the last line made a step
at_steps : (p : Place) → is_at_steps p ≡ true → p ≡ places.Steps
at_steps places.Start a = cc
at_steps places.Head a = cc
at_steps places.Opening a = cc
at_steps places.Gap a = cc
at_steps places.Steps a = refl
at_steps places.Ended a = cc

-- behind a step the end wasn't read
not_ended : (p : Place) → is_at_steps p ≡ true → has_ended p ≡ false
not_ended p a = ap (λ q. has_ended q) (at_steps p a)

-- a line that isn't beyond the last that a script may have
pub not_beyond : (n : ℕ) → n ≤ 100000 → nat_le 100001 n ≡ false
not_beyond n few = false_from_ne_true (nat_le 100001 n) (λ e. let more = leb-true 100001 n e in absurd (omega arith))

-- a line that is
pub beyond : (n : ℕ) → 100001 ≤ n → nat_le 100001 n ≡ true
beyond n more = le-leb 100001 n more

-- a silent line adds nothing
takes_silent : (c : SoFar) (n : ℕ) (line : List ℕ) (made : List (Actor × Step WidgetCmd)) → nat_le 100001 n ≡ false →
    is_plain line ≡ true → is_silent line ≡ true → TakesStep c n line made made
unfolding fault_of after_line
takes_silent c n line made few plain silent = record {
  fault = λ before. rw (plain, silent, few) refl;
  script = λ before. rw silent refl;
  playable = λ all. all;
}

-- a line that means something, behind a line that made a step
pub record IsLoudStep (c : SoFar) (line : List ℕ) : Type 0 where
  pub place : is_at_steps c.place ≡ true
  pub plain : is_plain line ≡ true
  pub loud : is_silent line ≡ false

-- means it behind any others too
is_loud : (c d : SoFar) (line : List ℕ) → d.place ≡ c.place → IsLoudStep c line → IsLoud d line
is_loud c d line same h = record { plain = h.plain; loud = h.loud; early = ap (λ p. has_ended p) same ∙ not_ended c.place h.place }

-- a line that makes a step adds it
takes_step : (c : SoFar) (n : ℕ) (line : List ℕ) (actor : Actor) (step : Step WidgetCmd) (old : List (Actor × Step WidgetCmd)) →
    IsLoudStep c line → nat_le 100001 n ≡ false → Reads c forms (words_of line) (Ok (meanings.Step actor step)) →
    is_foreign c (meanings.Step actor step) ≡ false → TakesStep c n line old (old ++ (actor, step) ∷ [])
takes_step c n line actor step old h few read own =
    let m : Meaning = meanings.Step actor step in
    let ws = words_of line in
    let form = form_of c.version ws in
    record {
      fault = λ before.
          let made = before ++ old in
          let d = with_steps c made in
          fault_of_words d n line (is_loud c d line refl h)
          ∙ fault_behind d n form ws m (word_fault_same c made form ws ∙ read.0) (meaning_same c made form ws ∙ read.1)
          ∙ rw (foreign_same c made m, own, few) refl;
      script = λ before.
          let made = before ++ old in
          let d = with_steps c made in
          next_of_words d line (is_loud c d line refl h)
          ∙ after_said d form ws m (meaning_same c made form ws ∙ read.1)
          ∙ rw (
            at_steps c.place h.place,
            append_assoc c.part.steps made ((actor, step) ∷ []),
            append_assoc before old ((actor, step) ∷ []),
          ) refl;
      playable = λ all. All-push (IsPlayable (nodes_so_far c)) old (actor, step) all read.2.value;
    }

-- ---- what is answered to a line that is read apart, and what becomes of the steps

pub record IsTaken (c : SoFar) (n : ℕ) (line : List ℕ) (old new : List (Actor × Step WidgetCmd)) (taken : Bool) : Type 0 where
  pub answer : taken ≡ stays_at_steps c n line
  pub step : taken ≡ true → TakesStep c n line old new
  pub left : taken ≡ false → new ≡ old

-- a line isn't taken where it says something else or has a fault
not_taken : (c : SoFar) (n : ℕ) (line : List ℕ) (made : List (Actor × Step WidgetCmd)) → stays_at_steps c n line ≡ false →
    IsTaken c n line made made false
not_taken c n line made other = record { answer = sym other; step = λ yes. absurd cc; left = λ none. refl }

has_fault : (c : SoFar) (n : ℕ) (line : List ℕ) → is_none (fault_of c n line) ≡ false → stays_at_steps c n line ≡ false
has_fault c n line some = and_left (is_none (fault_of c n line)) (is_at_steps (after_line c line).place) some

is_some_code : (fault : Option Code) (e : Code) → fault ≡ Some e → is_none fault ≡ false
is_some_code fault e is = rw is refl

-- a fault is found where one of the last is
found_behind : (xs ys : List (Code × Bool)) → is_none (first_true ys) ≡ false → is_none (first_true (xs ++ ys)) ≡ false
found_behind [] ys some = some
found_behind ((code, b) ∷ xs) ys some = by_test b (found_behind xs ys some)
  where
    by_test : (b : Bool) → is_none (first_true (xs ++ ys)) ≡ false → is_none (cond b (Some code) (first_true (xs ++ ys))) ≡ false
    by_test true found = refl
    by_test false found = found

-- the words of a line beyond the last that a script may have show one
far_words : (c : SoFar) (n : ℕ) (form : Option Form) (ws : List (List ℕ)) → nat_le 100001 n ≡ true → is_none (fault_as c n form ws) ≡ false
far_words c n None ws far = refl
far_words c n (Some f) ws far =
    let m = meaning_of c.names ws f in
    let many = or_right (is_one_too_many c m) (nat_le 100001 n) far in
    found_behind (word_faults c f ws) (line_faults c n m)
    (found_behind ((B10, is_foreign c m) ∷ (B6, is_refused c m) ∷ []) ((B7, is_one_too_many c m || nat_le 100001 n) ∷ []) (rw many refl))

-- and so does the line
far_fault : (n : ℕ) (ended : Bool) (of_words : Option Code) → nat_le 100001 n ≡ true → ended ≡ false → is_none of_words ≡ false →
    (plain silent : Bool) → is_none (
    if not plain then Some B9
    else if silent then (if nat_le 100001 n && not ended then Some B7 else None)
    else if ended then Some B8
    else of_words
    ) ≡ false
far_fault n ended of_words far early some false silent = refl
far_fault n ended of_words far early some true true = rw (far, early) refl
far_fault n ended of_words far early some true false = rw early some

-- such a line isn't taken
pub far_taken : (c : SoFar) (n : ℕ) (line : List ℕ) (made : List (Actor × Step WidgetCmd)) → is_at_steps c.place ≡ true →
    nat_le 100001 n ≡ true → IsTaken c n line made made false
unfolding fault_of
far_taken c n line made place far =
    let ws = words_of line in
    let form = form_of c.version ws in
    not_taken c n line made (has_fault c n line
    (far_fault n (has_ended c.place) (fault_as c n form ws) far (not_ended c.place place) (far_words c n form ws far) (is_plain line) (is_silent line)))

-- nor is one of other bytes than a script's
pub plain_taken : (c : SoFar) (n : ℕ) (line : List ℕ) (made : List (Actor × Step WidgetCmd)) → is_plain line ≡ false →
    IsTaken c n line made made false
unfolding fault_of
plain_taken c n line made other = not_taken c n line made (has_fault c n line (rw other refl))

-- a silent line is
pub silent_taken : (c : SoFar) (n : ℕ) (line : List ℕ) (made : List (Actor × Step WidgetCmd)) → is_at_steps c.place ≡ true →
    nat_le 100001 n ≡ false → is_plain line ≡ true → is_silent line ≡ true → IsTaken c n line made made true
unfolding fault_of after_line
silent_taken c n line made place few plain silent = record {
  answer = rw (plain, silent, few, place) refl;
  step = λ yes. takes_silent c n line made few plain silent;
  left = λ none. cc;
}

-- words that show a fault aren't
pub words_taken : (c : SoFar) (n : ℕ) (line : List ℕ) (made : List (Actor × Step WidgetCmd)) (e : Code) → IsLoudStep c line →
    Reads c forms (words_of line) (Err (refused.Fault e)) → IsTaken c n line made made false
words_taken c n line made e h read =
    let ws = words_of line in
    let fault = fault_of_words c n line (is_loud c c line refl h) ∙ refused_before c n (form_of c.version ws) ws (refused.Fault e) read in
    not_taken c n line made (has_fault c n line (is_some_code (fault_of c n line) e fault))

-- a command of another widget than its leaf's isn't
foreign_taken : (c : SoFar) (n : ℕ) (line : List ℕ) (m : Meaning) (old new : List (Actor × Step WidgetCmd)) (taken : Bool) →
    IsLoudStep c line → Reads c forms (words_of line) (Ok m) → is_foreign c m ≡ true → (taken ≡ false) × (new ≡ old) →
    IsTaken c n line old new taken
foreign_taken c n line m old new taken h read foreign left =
    let ws = words_of line in
    let fault : fault_of c n line ≡ Some B10 =
    fault_of_words c n line (is_loud c c line refl h) ∙ fault_behind c n (form_of c.version ws) ws m read.0 read.1 ∙ rw foreign refl in
    let none = left.0 in
    record {
      answer = none ∙ sym (has_fault c n line (is_some_code (fault_of c n line) B10 fault));
      step = λ yes. absurd cc;
      left = λ no. left.1;
    }

-- what else is said is where it makes one
own_taken : (c : SoFar) (n : ℕ) (line : List ℕ) (m : Meaning) (old new : List (Actor × Step WidgetCmd)) (taken : Bool) →
    IsLoudStep c line → nat_le 100001 n ≡ false → Reads c forms (words_of line) (Ok m) → is_foreign c m ≡ false →
    SaysStep m old new taken → IsTaken c n line old new taken
own_taken c n line (meanings.Step actor step) old new taken h few read own said =
    let m : Meaning = meanings.Step actor step in
    let ws = words_of line in
    let form = form_of c.version ws in
    let fault : fault_of c n line ≡ None =
    fault_of_words c n line (is_loud c c line refl h) ∙ fault_behind c n form ws m read.0 read.1 ∙ rw (own, few) refl in
    let next_is : after_line c line ≡ after_meaning c (word_at ws 1) m = next_of_words c line (is_loud c c line refl h) ∙ after_said c form ws m read.1 in
    let is = said.0 in
    record {
      answer = is ∙ rw (fault, next_is) refl;
      step = λ yes. rw said.1 (takes_step c n line actor step old h few read own);
      left = λ no. cc;
    }
own_taken c n line m old new taken h few read own said =
    let ws = words_of line in
    let next_is : after_line c line ≡ after_meaning c (word_at ws 1) m =
    next_of_words c line (is_loud c c line refl h) ∙ after_said c (form_of c.version ws) ws m read.1 in
    let is = said.0 in
    record {
      answer = is ∙ sym (and_right (is_none (fault_of c n line)) (is_at_steps (after_line c line).place) (rw next_is refl));
      step = λ yes. absurd cc;
      left = λ no. said.1;
    }

-- either way
pub said_taken : (c : SoFar) (n : ℕ) (line : List ℕ) (m : Meaning) (old new : List (Actor × Step WidgetCmd)) (r : Result Bool NoMemory) →
    IsLoudStep c line → nat_le 100001 n ≡ false → Reads c forms (words_of line) (Ok m) →
    (is_foreign c m ≡ true → IfOk r (λ taken. (taken ≡ false) × (new ≡ old))) →
    (is_foreign c m ≡ false → IfOk r (SaysStep m old new)) → IfOk r (IsTaken c n line old new)
said_taken c n line m old new (Err e) h few read foreign own = tt
said_taken c n line m old new (Ok taken) h few read foreign own = by_test (is_foreign c m) refl
  where
    by_test : (b : Bool) → is_foreign c m ≡ b → IsTaken c n line old new taken
    by_test true is = foreign_taken c n line m old new taken h read is (foreign is)
    by_test false is = own_taken c n line m old new taken h few read is (own is)

-- what each clause says of it
module _ (c : SoFar) (n : ℕ) (line : List ℕ) (old new : List (Actor × Step WidgetCmd)) where
  pub answer_is : (r : Result Bool NoMemory) → IfOk r (IsTaken c n line old new) → IfOk r (λ taken. taken ≡ stays_at_steps c n line)
  answer_is (Ok taken) h = h.answer
  answer_is (Err e) h = tt

  pub taken_is : (r : Result Bool NoMemory) → IfOk r (IsTaken c n line old new) → IfOk r (λ taken. taken ≡ true → TakesStep c n line old new)
  taken_is (Ok taken) h = h.step
  taken_is (Err e) h = tt

  pub left_is : (r : Result Bool NoMemory) → IfOk r (IsTaken c n line old new) → IfOk r (λ taken. taken ≡ false → new ≡ old)
  left_is (Ok taken) h = h.left
  left_is (Err e) h = tt
