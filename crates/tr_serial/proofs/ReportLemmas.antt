-- A script that is read has no more reports than a stream has groups.
use Rattle.std.proofs.Common.{◌≡◌, ℕ, ◌+◌, ◌≤◌, ◌<◌, Bool, true, false, cond, not, ◌&&◌, ◌||◌, nat_lt, nat_le, List, [], ◌∷◌, ◌++◌, length, Option, Some, None, refl, arith, length-append}
use Rattle.std.proofs.lemmas.Bool.{leb-false, or_parts}
use Rattle.std.proofs.lemmas.List.Sums.{sum_by-append}
use Rattle.tr_base.specs.Lists.{first_true}
use Rattle.tr_base.proofs.ResultFacts.{none_here}
use Rattle.tr_widget.specs.declared.WidgetCmd.{WidgetCmd}
use Rattle.tr_journal.specs.Parts.{Part}
use Rattle.tr_grammar.specs.declared.Code.{Code}
use Rattle.tr_grammar.specs.declared.Code.TheVariants.{B7, B8, B9}
use Rattle.tr_grammar.specs.declared.Meaning.{Meaning}
use Rattle.tr_grammar.specs.declared.Meaning.TheVariants as meanings
use Rattle.tr_grammar.specs.Texts.{is_plain, is_silent, lines_of}
use Rattle.tr_grammar.specs.Words.{word_at, words_of}
use Rattle.tr_grammar.specs.Forms.{Form, form_of}
use Rattle.tr_grammar.specs.Meanings.{meaning_of}
use Rattle.tr_grammar.specs.States.{SoFar, nothing_yet}
use Rattle.tr_grammar.specs.Faults.{fault_as, fault_of, has_ended, is_foreign, is_one_too_many, is_refused, line_faults, reports_so_far, word_faults}
use Rattle.tr_grammar.specs.Scripts.{Refusal, after_meaning, after_all_lines, after_as, first_bad_line, most_script_bytes, after_line, or_later, refusal_of, refused_at, script_of}
use Rattle.tr_serial.specs.Screens.{report_count}

-- where nothing is found, no test passed
none_of : (xs ys : List (Code × Bool)) → first_true (xs ++ ys) ≡ None → first_true ys ≡ None
none_of [] ys h = h
none_of ((code, true) ∷ xs) ys h = absurd (cc)
none_of ((code, false) ∷ xs) ys h = none_of xs ys h

-- ---- one line

module _ (c : SoFar) (few : reports_so_far c ≤ 64) where
  -- what a line says adds a report only where there is room for it
  more_of : (w : List ℕ) (n : ℕ) (l : Meaning) → is_one_too_many c l ≡ false → reports_so_far (after_meaning c w l) ≤ 64
  more_of w n (meanings.Report query) room =
      let below : reports_so_far c < 64 = leb-false 64 (reports_so_far c) room in
      omega (arith, below, length-append c.part.reports (query ∷ []))
  more_of w n meanings.Sync room =
      omega (arith, few, sum_by-append (λ (p : Part WidgetCmd). length p.reports) c.ended (c.part ∷ []))
  more_of w n l room = few

  more_as : (n : ℕ) (f : Option Form) (ws : List (List ℕ)) → fault_as c n f ws ≡ None → reports_so_far (after_as c f ws) ≤ 64
  more_as n None ws h = absurd (cc)
  more_as n (Some f) ws h =
      let l : Meaning = meaning_of c.names ws f in
      let lines = none_of (word_faults c f ws) (line_faults c n l) h in
      let a = none_here (is_foreign c l) _ _ lines in
      let b = none_here (is_refused c l) _ _ a.1 in
      let d = none_here (is_one_too_many c l || nat_le 100001 n) _ _ b.1 in
      more_of (word_at ws 1) n l (or_parts (is_one_too_many c l) (nat_le 100001 n) d.0).0

  more_line : (n : ℕ) (bytes : List ℕ) → fault_of c n bytes ≡ None → reports_so_far (after_line c bytes) ≤ 64
  unfolding fault_of after_line
  more_line n bytes h = by_tests (is_plain bytes) (is_silent bytes) (has_ended c.place) h
    where
      by_tests : (plain silent ended : Bool) →
          cond (not plain) (Some B9) (cond silent (cond (nat_le 100001 n && not (has_ended c.place)) (Some B7) None)
          (cond ended (Some B8) (fault_as c n (form_of c.version (words_of bytes)) (words_of bytes)))) ≡ None →
          reports_so_far (cond silent c (after_as c (form_of c.version (words_of bytes)) (words_of bytes))) ≤ 64
      by_tests false silent ended h = absurd (cc)
      by_tests true true ended h = few
      by_tests true false true h = absurd (cc)
      by_tests true false false h = more_as n (form_of c.version (words_of bytes)) (words_of bytes) h

-- ---- all lines

no_later : (o : Option Code) (n : ℕ) (later : Option Refusal) → or_later o n later ≡ None → (o ≡ None) × (later ≡ None)
no_later None n later h = (refl, h)
no_later (Some code) n later h = absurd (cc)

more_all : (c : SoFar) (n : ℕ) (ts : List (List ℕ)) → reports_so_far c ≤ 64 → first_bad_line c n ts ≡ None → reports_so_far (after_all_lines c ts) ≤ 64
more_all c n [] few h = few
more_all c n (t ∷ ts) few h =
    let p = no_later (fault_of c n t) n (first_bad_line (after_line c t) (n + 1) ts) h in
    more_all (after_line c t) (n + 1) ts (more_line c few n t p.0) p.1

none_else : (b : Bool) (r : Refusal) (later : Option Refusal) → cond b (Some r) later ≡ None → later ≡ None
none_else true r later h = absurd (cc)
none_else false r later h = h

-- a text that isn't refused has at most 64 reports
pub few_reports : (bytes : List ℕ) → refusal_of bytes ≡ None → report_count (script_of bytes).parts ≤ 64
unfolding refusal_of script_of
few_reports bytes h =
    let c : SoFar = after_all_lines nothing_yet (lines_of bytes) in
    let few : reports_so_far c ≤ 64 =
    more_all nothing_yet 1 (lines_of bytes) (omega arith)
    (none_else (nat_lt most_script_bytes (length bytes)) (refused_at 0 B7) (first_bad_line nothing_yet 1 (lines_of bytes)) h) in
    omega (arith, few, sum_by-append (λ (p : Part WidgetCmd). length p.reports) c.ended (c.part ∷ []))
