-- A line of the opening, up to `begin`.
use Rattle.std.proofs.Common.{◌≡◌, ℕ, Bool, true, false, ◌&&◌, List, [], ◌∷◌, ◌++◌, Some, None, refl, sym, ap, subst, ◌∙◌}
use Rattle.std.specs.Prelude.{Option, IfSome, codes}
use Rattle.tr_base.proofs.RectLemmas.{false-true}
use Rattle.tr_widget.specs.declared.WidgetCmd.{WidgetCmd}
use Rattle.tr_forest.specs.Nodes.{Nodes}
use Rattle.tr_journal.specs.Steps.{IsQuery}
use Rattle.tr_journal.specs.Parts.{Part}
use Rattle.tr_machine.specs.States.{start}
use Rattle.tr_grammar.specs.declared.Meaning.{Meaning}
use Rattle.tr_grammar.specs.declared.Meaning.TheVariants as meanings
use Rattle.tr_grammar.specs.declared.Place.{Place}
use Rattle.tr_grammar.specs.declared.Place.TheVariants as places
use Rattle.tr_grammar.specs.States.{SoFar, empty_part}
use Rattle.tr_grammar.specs.Texts.{is_silent}
use Rattle.tr_grammar.specs.Words.{word_at, words_of}
use Rattle.tr_grammar.specs.Faults.{allows, has_ended, nodes_so_far, report_line, step_line}
use Rattle.tr_grammar.specs.Scripts.{after_all_lines, after_line, after_meaning, whole}
use Rattle.tr_reader.specs.Adding.{IsSoundMeaning, is_at_steps, sort_of_meaning}
use Rattle.tr_run.specs.Runs.{run_lines}
use Rattle.tr_script.specs.Apart.{meaning_of_line}
use Rattle.tr_serial.specs.Outputs.{cues, serial_journal, widgets}
use Rattle.tr_session.specs.Insides.{opening_of, reader_place}
use Rattle.tr_session.specs.Lines.{added_lines, at_any_time, ends_steps, fault_of_line, has_begun, needs_sync, sync_lines, tried_against}
use Rattle.tr_session.specs.Playing.{IsMeant}
use Rattle.tr_session.specs.Sessions.{AreTaken}
use Rattle.tr_session.proofs.SavedLemmas.{end_follows}
use Rattle.tr_session.proofs.TakenLemmas.{Rests, RestsAt, has_meaning, silent_next}

-- ---- the places of an opening

-- before `begin` a line is tested against the script so far
fresh_place : (p : Place) → has_begun p ≡ false → at_any_time p ≡ reader_place p
fresh_place places.Start fresh = refl
fresh_place places.Head fresh = refl
fresh_place places.Opening fresh = refl
fresh_place places.Gap fresh = absurd (false-true (sym fresh))
fresh_place places.Steps fresh = absurd (false-true (sym fresh))
fresh_place places.Ended fresh = absurd (false-true (sym fresh))

pub tried_fresh : (c : SoFar) → has_begun c.place ≡ false → tried_against c ≡ opening_of c
tried_fresh c fresh = ap (λ (p : Place). record c { place = p; ended = []; part = empty_part }) (fresh_place c.place fresh)

-- no step and no report may come there
pub no_step_yet : (p : Place) → has_begun p ≡ false → allows (at_any_time p) step_line ≡ true → ⊥
no_step_yet places.Start fresh allowed = false-true allowed
no_step_yet places.Head fresh allowed = false-true allowed
no_step_yet places.Opening fresh allowed = false-true allowed
no_step_yet places.Gap fresh allowed = false-true (sym fresh)
no_step_yet places.Steps fresh allowed = false-true (sym fresh)
no_step_yet places.Ended fresh allowed = false-true (sym fresh)

pub no_report_yet : (p : Place) → has_begun p ≡ false → allows (at_any_time p) report_line ≡ true → ⊥
no_report_yet places.Start fresh allowed = false-true allowed
no_report_yet places.Head fresh allowed = false-true allowed
no_report_yet places.Opening fresh allowed = false-true allowed
no_report_yet places.Gap fresh allowed = false-true (sym fresh)
no_report_yet places.Steps fresh allowed = false-true (sym fresh)
no_report_yet places.Ended fresh allowed = false-true (sym fresh)

-- the script d has the parts of c, and it comes before the first step
pub record StaysOpen (c d : SoFar) : Type 0 where
  pub ended : d.ended ≡ c.ended
  pub part : d.part ≡ c.part
  pub early : has_ended d.place ≡ false
  pub steps : is_at_steps d.place ≡ false
  pub begun : has_begun d.place ≡ allows d.place step_line
  pub reader : reader_place d.place ≡ d.place

open_place : (c : SoFar) (p : Place) → c.place ≡ p → has_begun p ≡ false → StaysOpen c c
open_place c places.Start is fresh = subst (λ (p : Place). StaysOpen c (record c { place = p })) (sym is)
    (record { ended = refl; part = refl; early = refl; steps = refl; begun = refl; reader = refl })
open_place c places.Head is fresh = subst (λ (p : Place). StaysOpen c (record c { place = p })) (sym is)
    (record { ended = refl; part = refl; early = refl; steps = refl; begun = refl; reader = refl })
open_place c places.Opening is fresh = subst (λ (p : Place). StaysOpen c (record c { place = p })) (sym is)
    (record { ended = refl; part = refl; early = refl; steps = refl; begun = refl; reader = refl })
open_place c places.Gap is fresh = absurd (false-true (sym fresh))
open_place c places.Steps is fresh = absurd (false-true (sym fresh))
open_place c places.Ended is fresh = absurd (false-true (sym fresh))

-- after a line of the opening, or after `begin`
open_next : (c : SoFar) (w : List ℕ) (m : Meaning) → has_begun c.place ≡ false → allows (at_any_time c.place) (sort_of_meaning m) ≡ true →
    StaysOpen c (after_meaning c w m)
open_next c w (meanings.Version n) fresh allowed =
    record { ended = refl; part = refl; early = refl; steps = refl; begun = refl; reader = refl }
open_next c w (meanings.Item item) fresh allowed =
    record { ended = refl; part = refl; early = refl; steps = refl; begun = refl; reader = refl }
open_next c w meanings.Begin fresh allowed =
    record { ended = refl; part = refl; early = refl; steps = refl; begun = refl; reader = refl }
open_next c w (meanings.Step actor step) fresh allowed = absurd (no_step_yet c.place fresh allowed)
open_next c w meanings.Sync fresh allowed = absurd (no_step_yet c.place fresh allowed)
open_next c w (meanings.Report query) fresh allowed = absurd (no_report_yet c.place fresh allowed)
open_next c w meanings.End fresh allowed = absurd (no_report_yet c.place fresh allowed)

pub open_after : (c : SoFar) (line : List ℕ) → has_begun c.place ≡ false → fault_of_line c line ≡ None → StaysOpen c (after_line c line)
open_after c line fresh none = by_silence (is_silent line) refl
  where
    by_silence : (b : Bool) → is_silent line ≡ b → StaysOpen c (after_line c line)
    by_silence true silent = subst (StaysOpen c) (sym (silent_next c line silent)) (open_place c c.place refl fresh)
    by_silence false loud =
        let has = has_meaning c line none loud in
        subst (StaysOpen c) (sym has.next) (open_next c (word_at (words_of line) 1) has.m fresh has.allowed)

-- ---- the parts of an opening

-- it has none
pub no_part : (c : SoFar) → Rests c → has_begun c.place ≡ false → (c.ended ≡ []) × (c.part ≡ empty_part)
no_part c rested fresh = by_place c.place fresh rested
  where
    by_place : (p : Place) → has_begun p ≡ false → RestsAt p c.ended c.part → (c.ended ≡ []) × (c.part ≡ empty_part)
    by_place places.Start early rest = rest
    by_place places.Head early rest = rest
    by_place places.Opening early rest = rest
    by_place places.Gap early rest = absurd (false-true (sym early))
    by_place places.Steps early rest = absurd (false-true (sym early))
    by_place places.Ended early rest = absurd (false-true (sym early))

opening_same : (d : SoFar) → reader_place d.place ≡ d.place → d.ended ≡ [] → d.part ≡ empty_part → opening_of d ≡ d
opening_same d place ended part =
    ap (λ (p : Place). record d { place = p; ended = []; part = empty_part }) place
    ∙ ap (λ (parts : List (Part WidgetCmd)). record d { ended = parts; part = empty_part }) (sym ended)
    ∙ ap (λ (p : Part WidgetCmd). record d { part = p }) (sym part)

-- the journal without a part has no line
pub no_journal : (d : SoFar) → d.ended ≡ [] → d.part ≡ empty_part → serial_journal (whole d) ≡ []
no_journal d ended part =
    ap (λ (parts : List (Part WidgetCmd)). run_lines widgets (start d.items) (cues (parts ++ d.part ∷ []))) ended
    ∙ ap (λ (p : Part WidgetCmd). run_lines widgets (start d.items) (cues (p ∷ []))) part

-- ---- a line of the opening

-- a line before `begin`, or `begin`: it is added alone, and the reader's script is that of the lines
pub record Opens (c : SoFar) (line : List ℕ) : Type 0 where
  pub lines : added_lines c line ≡ line ∷ []
  pub added : after_all_lines c (added_lines c line) ≡ after_line c line
  pub taken : AreTaken c (line ∷ [])
  pub early : has_ended (after_line c line).place ≡ false
  pub steps : is_at_steps (after_line c line).place ≡ false
  pub begun : has_begun (after_line c line).place ≡ allows (after_line c line).place step_line
  pub same : opening_of (after_line c line) ≡ after_line c line

pub opens : (c : SoFar) (line : List ℕ) → Rests c → has_begun c.place ≡ false → fault_of_line c line ≡ None → Opens c line
opens c line rested fresh none =
    let on = open_after c line fresh none in
    let parts = no_part c rested fresh in
    let needs : needs_sync c (meaning_of_line c line) ≡ false = no_sync_yet c.place fresh in
    let lines : added_lines c line ≡ line ∷ [] = ap (λ (b : Bool). sync_lines b ++ line ∷ []) needs in
    record {
      lines = lines;
      added = ap (after_all_lines c) lines;
      taken = (none, needs, tt);
      early = on.early;
      steps = on.steps;
      begun = on.begun;
      same = opening_same (after_line c line) on.reader (on.ended ∙ parts.0) (on.part ∙ parts.1);
    }
  where
    no_sync_yet : (p : Place) → has_begun p ≡ false → (is_at_steps p && ends_steps (meaning_of_line c line)) ≡ false
    no_sync_yet places.Start early = refl
    no_sync_yet places.Head early = refl
    no_sync_yet places.Opening early = refl
    no_sync_yet places.Gap early = refl
    no_sync_yet places.Steps early = absurd (false-true (sym early))
    no_sync_yet places.Ended early = refl

-- the script of `begin` and of the end: it has the items and the names of the lines up to `begin`, and an empty journal
pub record Begins (c : SoFar) (line : List ℕ) : Type 0 where
  pub items : (after_line (after_line c line) (codes "end")).items ≡ (after_line c line).items
  pub names : (after_line (after_line c line) (codes "end")).names ≡ (after_line c line).names
  pub journal : serial_journal (whole (after_line c line)) ≡ []

pub begins : (c : SoFar) (line : List ℕ) → Rests c → has_begun c.place ≡ false → fault_of_line c line ≡ None → Begins c line
begins c line rested fresh none =
    let on = open_after c line fresh none in
    let parts = no_part c rested fresh in
    let end : after_line (after_line c line) (codes "end") ≡ record (after_line c line) { place = places.Ended } = end_follows (after_line c line) in
    record {
      items = ap (λ (d : SoFar). d.items) end;
      names = ap (λ (d : SoFar). d.names) end;
      journal = no_journal (after_line c line) (on.ended ∙ parts.0) (on.part ∙ parts.1);
    }

-- ---- the meaning of a line after `begin`

-- the stage can do a meaning whose values are in range
pub meant : (c : SoFar) (w : List ℕ) (t : Nodes) (said : Option Meaning) → nodes_so_far c ≡ t → IfSome said (IsSoundMeaning c w) → IsMeant t said
meant c w t None is sound = tt
meant c w t (Some (meanings.Version n)) is sound = tt
meant c w t (Some (meanings.Item item)) is sound = tt
meant c w t (Some meanings.Begin) is sound = tt
meant c w t (Some (meanings.Step actor step)) is sound =
    subst (λ (nodes : Nodes). IsMeant nodes (Some (meanings.Step actor step))) is (sound.value.own, sound.value.other)
meant c w t (Some meanings.Sync) is sound = tt
meant c w t (Some (meanings.Report query)) is sound = subst (λ (nodes : Nodes). IsQuery nodes query) is sound.value
meant c w t (Some meanings.End) is sound = tt
