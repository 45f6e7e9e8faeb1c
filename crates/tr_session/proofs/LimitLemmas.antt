-- The limits of a script: a line that a session takes has no other fault in a script, and none in one that is within them.
use Rattle.std.proofs.Common.{◌≡◌, ℕ, ◌+◌, ◌≤◌, Bool, true, false, ◌&&◌, ◌||◌, not, nat_le, cond, List, [], ◌∷◌, ◌++◌, Some, None, length, length-append, refl, sym, ap, subst, ◌∙◌, arith}
use Rattle.std.specs.Prelude.{IfSome, Option}
use Rattle.std.specs.List.{list_all, list_any}
use Rattle.std.proofs.Math.Nat.{add-zero}
use Rattle.std.proofs.lemmas.Bool.{and_from, lt-leb, or_from, or_parts}
use Rattle.std.proofs.lemmas.List.Sums.{sum_by-append}
use Rattle.tr_base.specs.Lists.{first_true}
use Rattle.tr_base.proofs.RectLemmas.{false-true}
use Rattle.tr_base.proofs.ResultFacts.{none_here}
use Rattle.tr_widget.specs.declared.WidgetCmd.{WidgetCmd}
use Rattle.tr_journal.specs.declared.Item.TheVariants as items
use Rattle.tr_journal.specs.Parts.{Part}
use Rattle.tr_grammar.specs.declared.Code.{Code}
use Rattle.tr_grammar.specs.declared.Code.TheVariants.{B2, B3, B4, B5, B6, B7, B10}
use Rattle.tr_grammar.specs.declared.Meaning.{Meaning}
use Rattle.tr_grammar.specs.declared.Meaning.TheVariants as meanings
use Rattle.tr_grammar.specs.declared.Place.{Place}
use Rattle.tr_grammar.specs.declared.Place.TheVariants as places
use Rattle.tr_grammar.specs.Codes.{number_of_code}
use Rattle.tr_grammar.specs.States.{SoFar}
use Rattle.tr_grammar.specs.Texts.{is_plain, is_silent}
use Rattle.tr_grammar.specs.Words.{word_at, words_of}
use Rattle.tr_grammar.specs.Forms.{Form, field_words, fields, form_of}
use Rattle.tr_grammar.specs.Meanings.{meaning_of}
use Rattle.tr_grammar.specs.Faults.{allows, fault_as, fault_of, has_ended, is_declared_again, is_foreign, is_misspelled, is_one_too_many, is_refused, is_undeclared, reports_so_far, sort_of}
use Rattle.tr_grammar.specs.Scripts.{Refusal, after_all_lines, after_as, after_line, after_meaning, first_bad_line, or_later}
use Rattle.tr_reader.specs.Adding.{is_at_steps, sort_of_meaning}
use Rattle.tr_script.proofs.LineLemmas.{fault_of_words}
use Rattle.tr_script.specs.Apart.{meaning_of_line}
use Rattle.tr_session.specs.Lines.{at_any_time, ends_steps, fault_of_line, needs_sync, tried_against}
use Rattle.tr_session.specs.Sessions.{AreTaken}
use Rattle.tr_session.proofs.TakenLemmas.{HasMeaning, has_meaning, loud_if_taken, plain_if_taken, sort_by_form}

-- ---- the limits

-- at most 1,000 syncs and 64 reports
pub record IsWithinLimits (c : SoFar) : Type 0 where
  pub syncs : length c.ended ≤ 1000
  pub reports : reports_so_far c ≤ 64

-- a line takes away neither
less_before : (c : SoFar) (w : List ℕ) (m : Meaning) → IsWithinLimits (after_meaning c w m) → IsWithinLimits c
less_before c w meanings.Sync within = record {
  syncs = omega (arith, within.syncs, length-append c.ended (c.part ∷ []));
  reports = omega (arith, within.reports, sum_by-append (λ (p : Part WidgetCmd). length p.reports) c.ended (c.part ∷ []));
}
less_before c w (meanings.Report query) within = record {
  syncs = within.syncs;
  reports = omega (arith, within.reports, length-append c.part.reports (query ∷ []));
}
less_before c w m within = record { syncs = within.syncs; reports = within.reports }

less_before_line : (c : SoFar) (line : List ℕ) → IsWithinLimits (after_line c line) → IsWithinLimits c
unfolding after_line
less_before_line c line within = by_silence (is_silent line) within
  where
    by_form : (form : Option Form) (ws : List (List ℕ)) → IsWithinLimits (after_as c form ws) → IsWithinLimits c
    by_form None ws now = now
    by_form (Some f) ws now = less_before c (word_at ws 1) (meaning_of c.names ws f) now

    by_silence : (b : Bool) → IsWithinLimits (cond b c (after_as c (form_of c.version (words_of line)) (words_of line))) → IsWithinLimits c
    by_silence true now = now
    by_silence false now = by_form (form_of c.version (words_of line)) (words_of line) now

less_before_lines : (c : SoFar) (lines : List (List ℕ)) → IsWithinLimits (after_all_lines c lines) → IsWithinLimits c
less_before_lines c [] within = within
less_before_lines c (line ∷ lines) within = less_before_line c line (less_before_lines (after_line c line) lines within)

-- ---- a line within the limits

-- a line that may come at any time and needs no sync may come here
allowed_here : (p : Place) (m : Meaning) → allows (at_any_time p) (sort_of_meaning m) ≡ true → (is_at_steps p && ends_steps (Some m)) ≡ false →
    allows p (sort_of_meaning m) ≡ true
allowed_here places.Start m allowed none = allowed
allowed_here places.Head m allowed none = allowed
allowed_here places.Opening m allowed none = allowed
allowed_here places.Gap m allowed none = allowed
allowed_here places.Ended m allowed none = allowed
allowed_here places.Steps (meanings.Version n) allowed none = absurd (false-true allowed)
allowed_here places.Steps (meanings.Item (items.Screen size kind)) allowed none = absurd (false-true allowed)
allowed_here places.Steps (meanings.Item (items.Glyph byte rows)) allowed none = absurd (false-true allowed)
allowed_here places.Steps (meanings.Item (items.Node kind tint)) allowed none = absurd (false-true allowed)
allowed_here places.Steps (meanings.Item (items.Leaf shapes content)) allowed none = absurd (false-true allowed)
allowed_here places.Steps (meanings.Item (items.Put child parent at)) allowed none = absurd (false-true allowed)
allowed_here places.Steps (meanings.Item (items.Root node)) allowed none = absurd (false-true allowed)
allowed_here places.Steps meanings.Begin allowed none = absurd (false-true allowed)
allowed_here places.Steps (meanings.Step actor step) allowed none = refl
allowed_here places.Steps meanings.Sync allowed none = refl
allowed_here places.Steps (meanings.Report query) allowed none = absurd (false-true (sym none))
allowed_here places.Steps meanings.End allowed none = absurd (false-true (sym none))

-- the names of the opening are counted by a session, too; the reports and the syncs are within the limits
room_for : (c : SoFar) (w : List ℕ) (m : Meaning) → is_one_too_many (tried_against c) m ≡ false → IsWithinLimits (after_meaning c w m) →
    is_one_too_many c m ≡ false
room_for c w meanings.Sync few within = lt-leb 1000 (length c.ended) (omega (arith, within.syncs, length-append c.ended (c.part ∷ [])))
room_for c w (meanings.Report query) few within =
    lt-leb 64 (reports_so_far c) (omega (arith, within.reports, length-append c.part.reports (query ∷ [])))
room_for c w (meanings.Item item) few within = room_for_item item few
  where
    room_for_item : (item : _) → is_one_too_many (tried_against c) (meanings.Item item) ≡ false → is_one_too_many c (meanings.Item item) ≡ false
    room_for_item (items.Node kind tint) none = none
    room_for_item (items.Leaf shapes content) none = none
    room_for_item other none = refl
room_for c w m few within = refl

-- the tests of a line, where the place and the limits differ: those of the limits are left
tried_again : (misplaced spelled again undeclared foreign refused many elsewhere more : Bool) →
    first_true ((B5, misplaced) ∷ (B2, spelled) ∷ (B4, again) ∷ (B3, undeclared) ∷ (B10, foreign) ∷ (B6, refused) ∷ (B7, many) ∷ []) ≡ None →
    elsewhere ≡ false →
    (many ≡ false)
    × (first_true ((B5, elsewhere) ∷ (B2, spelled) ∷ (B4, again) ∷ (B3, undeclared) ∷ (B10, foreign) ∷ (B6, refused) ∷ (B7, more) ∷ [])
    ≡ cond more (Some B7) None)
tried_again misplaced spelled again undeclared foreign refused many elsewhere more none here =
    let a = none_here misplaced B5 _ none in
    let b = none_here spelled B2 _ a.1 in
    let d = none_here again B4 _ b.1 in
    let e = none_here undeclared B3 _ d.1 in
    let f = none_here foreign B10 _ e.1 in
    let g = none_here refused B6 _ f.1 in
    let h = none_here many B7 _ g.1 in
    (h.0, rw (here, b.0, d.0, e.0, f.0, g.0) refl)

early_here : (p : Place) → has_ended (at_any_time p) ≡ false → has_ended p ≡ false
early_here places.Start early = refl
early_here places.Head early = refl
early_here places.Opening early = refl
early_here places.Gap early = refl
early_here places.Steps early = refl
early_here places.Ended early = early

module _ (c : SoFar) (n : ℕ) (line : List ℕ) (none : fault_of_line c line ≡ None) (no_sync : needs_sync c (meaning_of_line c line) ≡ false) where
  plain : is_plain line ≡ true
  plain = plain_if_taken (tried_against c) 1 line none

  -- the words of a line have no fault but that of the limits
  words_pass : (has : HasMeaning c line) →
      ((is_one_too_many (tried_against c) (meaning_of c.names (words_of line) has.form) || nat_le 100001 1) ≡ false)
      × (fault_as c n (Some has.form) (words_of line)
      ≡ cond (is_one_too_many c (meaning_of c.names (words_of line) has.form) || nat_le 100001 n) (Some B7) None)
  words_pass has =
      let ws = words_of line in
      let m : Meaning = meaning_of c.names ws has.form in
      let said : meaning_of_line c line ≡ Some m = has.said ∙ ap Some has.means in
      let sort : sort_of_meaning m ≡ sort_of has.form = sort_by_form c.names ws has.form in
      let any_time : allows (at_any_time c.place) (sort_of_meaning m) ≡ true =
      ap (λ (l : Meaning). allows (at_any_time c.place) (sort_of_meaning l)) (sym has.means) ∙ has.allowed in
      let here : allows c.place (sort_of has.form) ≡ true =
      ap (allows c.place) (sym sort) ∙ allowed_here c.place m any_time (ap (needs_sync c) (sym said) ∙ no_sync) in
      tried_again (not (allows (at_any_time c.place) (sort_of has.form))) (list_any is_misspelled (field_words (fields has.form) ws))
      (list_any (is_declared_again c) (field_words (fields has.form) ws)) (list_any (is_undeclared c) (field_words (fields has.form) ws))
      (is_foreign c m) (is_refused c m) (is_one_too_many (tried_against c) m || nat_le 100001 1)
      (not (allows c.place (sort_of has.form))) (is_one_too_many c m || nat_le 100001 n) has.passed (ap not here)

  -- the fault of a line that isn't silent is that of its words
  loud_fault : (loud : is_silent line ≡ false) → fault_of c n line ≡ fault_as c n (Some (has_meaning c line none loud).form) (words_of line)
  loud_fault loud =
      let first = loud_if_taken (tried_against c) 1 line none loud in
      fault_of_words c n line (record { plain = plain; loud = loud; early = early_here c.place first.early })
      ∙ ap (λ (form : Option Form). fault_as c n form (words_of line)) (has_meaning c line none loud).formed

  -- a line that a session takes has no fault in a script within the limits
  pub line_passes : IsWithinLimits (after_line c line) → n ≤ 100000 → fault_of c n line ≡ None
  unfolding fault_of
  line_passes within early = by_silence (is_silent line) refl
    where
      late : nat_le 100001 n ≡ false
      late = lt-leb 100001 n (omega (arith, early))

      by_silence : (b : Bool) → is_silent line ≡ b → fault_of c n line ≡ None
      by_silence true silent = rw (plain, silent, late) refl
      by_silence false loud =
          let has = has_meaning c line none loud in
          let ws = words_of line in
          let m : Meaning = meaning_of c.names ws has.form in
          let passes = words_pass has in
          let next : IsWithinLimits (after_meaning c (word_at ws 1) m) =
          subst IsWithinLimits (has.next ∙ ap (after_meaning c (word_at ws 1)) has.means) within in
          let few : (is_one_too_many c m || nat_le 100001 n) ≡ false =
          or_from (is_one_too_many c m) (nat_le 100001 n)
          (room_for c (word_at ws 1) m (or_parts (is_one_too_many (tried_against c) m) (nat_le 100001 1) passes.0).0 next) late in
          loud_fault loud ∙ passes.1 ∙ ap (λ (b : Bool). cond b (Some B7) None) few

  -- in a script beyond them it has no other fault than this one
  pub line_limited : IfSome (fault_of c n line) (λ code. code ≡ B7)
  unfolding fault_of
  line_limited = by_silence (is_silent line) refl
    where
      IsLimited : Option Code → Type 0
      IsLimited = λ fault. IfSome fault (λ code. code ≡ B7)

      by_test : (b : Bool) → IsLimited (cond b (Some B7) None)
      by_test true = refl
      by_test false = tt

      by_silence : (b : Bool) → is_silent line ≡ b → IsLimited (fault_of c n line)
      by_silence true silent = rw (plain, silent) (by_test (nat_le 100001 n && not (has_ended c.place)))
      by_silence false loud =
          let has = has_meaning c line none loud in
          subst IsLimited (sym (loud_fault loud ∙ (words_pass has).1))
          (by_test (is_one_too_many c (meaning_of c.names (words_of line) has.form) || nat_le 100001 n))

-- lines that a session takes have no fault in a script within the limits
pub lines_pass : (c : SoFar) (n : ℕ) (lines more : List (List ℕ)) → AreTaken c lines → n + length lines ≤ 100001 →
    IsWithinLimits (after_all_lines c lines) → first_bad_line c n (lines ++ more) ≡ first_bad_line (after_all_lines c lines) (n + length lines) more
lines_pass c n [] more taken early within = ap (λ (m : ℕ). first_bad_line c m more) (sym (add-zero n))
lines_pass c n (line ∷ lines) more taken early within =
    let next : SoFar = after_line c line in
    let count : n + 1 + length lines ≡ n + length (line ∷ lines) = omega arith in
    ap (λ (fault : Option Code). or_later fault n (first_bad_line next (n + 1) (lines ++ more)))
    (line_passes c n line taken.0 taken.1 (less_before_lines next lines within) (omega (arith, early)))
    ∙ lines_pass next (n + 1) lines more taken.2 (omega (arith, early)) within
    ∙ ap (λ (m : ℕ). first_bad_line (after_all_lines next lines) m more) count

-- in a script beyond them the first fault is that of the limits
or_limited : (fault : Option Code) (n : ℕ) (later : Option Refusal) → IfSome fault (λ code. code ≡ B7) →
    IfSome later (λ refusal. refusal.code ≡ number_of_code B7) → IfSome (or_later fault n later) (λ refusal. refusal.code ≡ number_of_code B7)
or_limited None n later is more = more
or_limited (Some code) n later is more = ap number_of_code is

pub lines_limited : (c : SoFar) (n : ℕ) (lines : List (List ℕ)) → AreTaken c lines → has_ended (after_all_lines c lines).place ≡ true →
    IfSome (first_bad_line c n lines) (λ refusal. refusal.code ≡ number_of_code B7)
lines_limited c n [] taken ended = rw ended tt
lines_limited c n (line ∷ lines) taken ended =
    or_limited (fault_of c n line) n (first_bad_line (after_line c line) (n + 1) lines) (line_limited c n line taken.0 taken.1)
    (lines_limited (after_line c line) (n + 1) lines taken.2 ended)

-- they are plain
pub plain_all : (c : SoFar) (lines : List (List ℕ)) → AreTaken c lines → list_all is_plain lines ≡ true
plain_all c [] taken = refl
plain_all c (line ∷ lines) taken =
    and_from _ _ (plain_if_taken (tried_against c) 1 line taken.0) (plain_all (after_line c line) lines taken.2)
