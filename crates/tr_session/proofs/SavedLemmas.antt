-- The saved text: it is a script, if it is within the limits of scripts, and is refused for them alone.
use Rattle.std.proofs.Common.{◌≡◌, ℕ, ◌+◌, ◌≤◌, Bool, true, false, nat_lt, cond, List, [], ◌∷◌, ◌++◌, Some, None, append-nil, length, length-append, refl, sym, ap, subst, ◌∙◌, arith}
use Rattle.std.specs.Prelude.{◌==◌, IfSome, Option, codes}
use Rattle.std.proofs.lemmas.Bool.{le-ltb}
use Rattle.std.proofs.lemmas.List.Sums.{sum_by-append}
use Rattle.tr_base.proofs.RectLemmas.{false-true}
use Rattle.tr_base.proofs.BoolLemmas.{and_true}
use Rattle.tr_widget.specs.declared.WidgetCmd.{WidgetCmd}
use Rattle.tr_journal.specs.Parts.{Part}
use Rattle.tr_grammar.specs.declared.Meaning.TheVariants as meanings
use Rattle.tr_grammar.specs.declared.Code.TheVariants.{B7}
use Rattle.tr_grammar.specs.declared.Place.{Place}
use Rattle.tr_grammar.specs.declared.Place.TheVariants as places
use Rattle.tr_grammar.specs.Codes.{number_of_code}
use Rattle.tr_grammar.specs.States.{SoFar, empty_part, nothing_yet}
use Rattle.tr_grammar.specs.Texts.{is_plain}
use Rattle.tr_grammar.specs.Faults.{fault_of, has_ended, reports_so_far}
use Rattle.tr_grammar.specs.Scripts.{Refusal, after_all_lines, after_line, first_bad_line, most_script_bytes, refusal_of, refused_at}
use Rattle.tr_grammar.proofs.ScriptLemmas.{after_all_lines-append}
use Rattle.tr_gen.specs.Scripts.{text_of_lines}
use Rattle.tr_gen_valid.proofs.Cutting.{lines_of-text_of}
use Rattle.tr_reader.specs.Adding.{is_at_steps}
use Rattle.tr_script.specs.Apart.{meaning_of_line}
use Rattle.tr_session.specs.Lines.{at_any_time, fault_of_line, has_begun, last_lines, needs_sync, sync_lines}
use Rattle.tr_session.specs.Laws.{IsRefusedBeyond, SavesAScript}
use Rattle.tr_session.specs.Sessions.{AreTaken, SessionView, script_so_far}
use Rattle.tr_session.proofs.LimitLemmas.{IsWithinLimits, lines_limited, lines_pass, plain_all}
use Rattle.tr_session.proofs.TakenLemmas.{added_taken, sync_follows, taken-append}

-- ---- the end

-- `end` has no fault after `begin`, whatever the version is
end_passes : (c : SoFar) (second : Bool) → (c.version == 2) ≡ second →
    fault_of (record c { place = places.Gap; ended = []; part = empty_part }) 1 (codes "end") ≡ None
unfolding fault_of is_plain
end_passes c true is = rw is refl
end_passes c false is = rw is refl

end_says : (c : SoFar) (second : Bool) → (c.version == 2) ≡ second → meaning_of_line c (codes "end") ≡ Some meanings.End
unfolding meaning_of_line
end_says c true is = rw is refl
end_says c false is = rw is refl

end_follows_in : (c : SoFar) (second : Bool) → (c.version == 2) ≡ second → after_line c (codes "end") ≡ record c { place = places.Ended }
unfolding after_line
end_follows_in c true is = rw is refl
end_follows_in c false is = rw is refl

pub end_follows : (c : SoFar) → after_line c (codes "end") ≡ record c { place = places.Ended }
end_follows c = end_follows_in c (c.version == 2) refl

pub sync_leads : (c : SoFar) → after_line c (codes "sync") ≡ record c { place = places.Gap; ended = c.ended ++ c.part ∷ []; part = empty_part }
sync_leads c = sync_follows c (c.version == 2) refl

-- after `begin` and before the end a line is tested where a report may come
tested_at_gap : (p : Place) → has_begun p ≡ true → has_ended p ≡ false → at_any_time p ≡ places.Gap
tested_at_gap places.Start begun early = absurd (false-true begun)
tested_at_gap places.Head begun early = absurd (false-true begun)
tested_at_gap places.Opening begun early = absurd (false-true begun)
tested_at_gap places.Gap begun early = refl
tested_at_gap places.Steps begun early = refl
tested_at_gap places.Ended begun early = absurd (false-true (sym early))

-- the end, after a sync if it needs one, is taken
end_taken : (c : SoFar) → has_begun c.place ≡ true → has_ended c.place ≡ false → AreTaken c (sync_lines (is_at_steps c.place) ++ codes "end" ∷ [])
end_taken c begun early =
    let says : meaning_of_line c (codes "end") ≡ Some meanings.End = end_says c (c.version == 2) refl in
    let none : fault_of_line c (codes "end") ≡ None =
    ap (λ (p : Place). fault_of (record c { place = p; ended = []; part = empty_part }) 1 (codes "end")) (tested_at_gap c.place begun early)
    ∙ end_passes c (c.version == 2) refl in
    let needs : needs_sync c (meaning_of_line c (codes "end")) ≡ is_at_steps c.place =
    ap (needs_sync c) says ∙ and_true (is_at_steps c.place) in
    subst (λ (b : Bool). AreTaken c (sync_lines b ++ codes "end" ∷ [])) needs (added_taken c (codes "end") none)

-- the lines that make a script of those so far are taken
pub last_taken : (c : SoFar) → has_begun c.place ≡ true → AreTaken c (last_lines c)
last_taken c begun = by_test (has_ended c.place) refl
  where
    by_test : (b : Bool) → has_ended c.place ≡ b → AreTaken c (cond b [] (sync_lines (is_at_steps c.place) ++ codes "end" ∷ []))
    by_test true ended = tt
    by_test false early = end_taken c begun early

-- the script so far, after the end
pub record IsFinished (c d : SoFar) (more : ℕ) : Type 0 where
  pub ended : has_ended d.place ≡ true
  pub syncs : length d.ended ≡ length c.ended + more
  pub reports : reports_so_far d ≡ reports_so_far c

finished_after : (c : SoFar) (b : Bool) → IsFinished c (after_all_lines c (sync_lines b ++ codes "end" ∷ [])) (length (sync_lines b))
finished_after c true =
    let gap : SoFar = record c { place = places.Gap; ended = c.ended ++ c.part ∷ []; part = empty_part } in
    subst (λ (d : SoFar). IsFinished c d 1) (sym (ap (λ (d : SoFar). after_line d (codes "end")) (sync_leads c) ∙ end_follows gap)) (record {
      ended = refl;
      syncs = length-append c.ended (c.part ∷ []);
      reports = omega (arith, sum_by-append (λ (p : Part WidgetCmd). length p.reports) c.ended (c.part ∷ []));
    })
finished_after c false =
    subst (λ (d : SoFar). IsFinished c d 0) (sym (end_follows c)) (record { ended = refl; syncs = omega arith; reports = refl })

-- the lines end the script
pub last_ends : (c : SoFar) → has_ended (after_all_lines c (last_lines c)).place ≡ true
last_ends c = by_test (has_ended c.place) refl
  where
    by_test : (b : Bool) → has_ended c.place ≡ b →
        has_ended (after_all_lines c (cond b [] (sync_lines (is_at_steps c.place) ++ codes "end" ∷ []))).place ≡ true
    by_test true ended = ended
    by_test false early = (finished_after c (is_at_steps c.place)).ended

-- they add no report
last_reports : (c : SoFar) → reports_so_far (after_all_lines c (last_lines c)) ≡ reports_so_far c
last_reports c = by_test (has_ended c.place)
  where
    by_test : (b : Bool) →
        reports_so_far (after_all_lines c (cond b [] (sync_lines (is_at_steps c.place) ++ codes "end" ∷ []))) ≡ reports_so_far c
    by_test true = refl
    by_test false = (finished_after c (is_at_steps c.place)).reports

-- ---- the refusal of the text of taken lines

-- the text isn't too long, and its lines have no fault
refusal_is : (lines : List (List ℕ)) → AreTaken nothing_yet lines → refusal_of (text_of_lines lines)
    ≡ cond (nat_lt most_script_bytes (length (text_of_lines lines))) (Some (refused_at 0 B7)) (first_bad_line nothing_yet 1 lines)
unfolding refusal_of
refusal_is lines taken =
    ap (λ (ls : List (List ℕ)). cond (nat_lt most_script_bytes (length (text_of_lines lines))) (Some (refused_at 0 B7)) (first_bad_line nothing_yet 1 ls))
    (lines_of-text_of lines (plain_all nothing_yet lines taken))

-- taken lines with the end make a script, if they are within the limits
pub within_is_script : (lines : List (List ℕ)) → AreTaken nothing_yet lines → has_ended (after_all_lines nothing_yet lines).place ≡ true →
    length lines ≤ 100000 → IsWithinLimits (after_all_lines nothing_yet lines) → length (text_of_lines lines) ≤ most_script_bytes →
    refusal_of (text_of_lines lines) ≡ None
within_is_script lines taken ended few within short =
    let small : nat_lt most_script_bytes (length (text_of_lines lines)) ≡ false = le-ltb most_script_bytes (length (text_of_lines lines)) short in
    let d : SoFar = after_all_lines nothing_yet lines in
    let last : first_bad_line d (1 + length lines) [] ≡ None = rw ended refl in
    refusal_is lines taken
    ∙ ap (λ (b : Bool). cond b (Some (refused_at 0 B7)) (first_bad_line nothing_yet 1 lines)) small
    ∙ ap (first_bad_line nothing_yet 1) (sym (append-nil lines))
    ∙ lines_pass nothing_yet 1 lines [] taken (omega (arith, few)) within
    ∙ last

-- ---- the saved script of a session

-- the saved lines are taken
saved_taken : (lines : List (List ℕ)) → AreTaken nothing_yet lines → has_begun (after_all_lines nothing_yet lines).place ≡ true →
    AreTaken nothing_yet (lines ++ last_lines (after_all_lines nothing_yet lines))
saved_taken lines taken begun =
    let c : SoFar = after_all_lines nothing_yet lines in
    taken-append nothing_yet lines (last_lines c) taken (last_taken c begun)

-- a saved text is a script, if it is within the limits
pub saves_a_script : (s : SessionView) → SavesAScript s
saves_a_script s session begun within =
    let c : SoFar = script_so_far s in
    let joined : after_all_lines nothing_yet (s.lines ++ last_lines c) ≡ after_all_lines c (last_lines c) =
    after_all_lines-append nothing_yet s.lines (last_lines c) in
    let ended : has_ended (after_all_lines nothing_yet (s.lines ++ last_lines c)).place ≡ true =
    ap (λ (d : SoFar). has_ended d.place) joined ∙ last_ends c in
    let syncs : length (after_all_lines nothing_yet (s.lines ++ last_lines c)).ended ≤ 1000 =
    omega (arith, within.syncs, ap (λ (d : SoFar). length d.ended) joined) in
    let reports : reports_so_far (after_all_lines nothing_yet (s.lines ++ last_lines c)) ≤ 64 =
    omega (arith, within.reports, ap reports_so_far joined, last_reports c) in
    within_is_script (s.lines ++ last_lines c) (saved_taken s.lines session.taken begun) ended within.lines
    (record { syncs = syncs; reports = reports }) within.bytes

-- a saved text that is no script is beyond the limits
pub refuses_beyond : (s : SessionView) → IsRefusedBeyond s
refuses_beyond s session begun =
    let c : SoFar = script_so_far s in
    let lines : List (List ℕ) = s.lines ++ last_lines c in
    let taken : AreTaken nothing_yet lines = saved_taken s.lines session.taken begun in
    let ended : has_ended (after_all_lines nothing_yet lines).place ≡ true =
    ap (λ (d : SoFar). has_ended d.place) (after_all_lines-append nothing_yet s.lines (last_lines c)) ∙ last_ends c in
    subst IsLimited (sym (refusal_is lines taken))
    (by_size (nat_lt most_script_bytes (length (text_of_lines lines))) (first_bad_line nothing_yet 1 lines) (lines_limited nothing_yet 1 lines taken ended))
  where
    IsLimited : Option Refusal → Type 0
    IsLimited = λ refusal. IfSome refusal (λ r. r.code ≡ number_of_code B7)

    by_size : (b : Bool) (later : Option Refusal) → IsLimited later → IsLimited (cond b (Some (refused_at 0 B7)) later)
    by_size true later limited = refl
    by_size false later limited = limited
