-- A session after a line that comes after `begin`.
use Rattle.std.proofs.Common.{◌≡◌, ℕ, Bool, true, false, ◌&&◌, ◌||◌, List, [], ◌∷◌, ◌++◌, Some, None, cond, refl, sym, ap, subst, ◌∙◌}
use Rattle.std.specs.Prelude.{Option}
use Rattle.std.proofs.lemmas.List.{append-nil}
use Rattle.tr_base.proofs.RectLemmas.{false-true}
use Rattle.tr_base.proofs.BoolLemmas.{and_false}
use Rattle.tr_journal.specs.declared.Actor.TheVariants.{Player}
use Rattle.tr_journal.specs.declared.Item.TheVariants as items
use Rattle.tr_journal.specs.declared.Step.TheVariants.{Sync}
use Rattle.tr_widget.specs.declared.Widget.{Widget}
use Rattle.tr_widget.specs.declared.WidgetCmd.{WidgetCmd}
use Rattle.tr_widget.specs.Widgets.{widget_words}
use Rattle.tr_grammar.specs.declared.Meaning.{Meaning}
use Rattle.tr_grammar.specs.declared.Meaning.TheVariants as meanings
use Rattle.tr_grammar.specs.declared.Place.{Place}
use Rattle.tr_grammar.specs.declared.Place.TheVariants as places
use Rattle.tr_grammar.specs.States.{SoFar}
use Rattle.tr_grammar.specs.Texts.{is_silent}
use Rattle.tr_grammar.specs.Words.{word_at, words_of}
use Rattle.tr_grammar.specs.Faults.{Sort, allows, has_ended, report_line}
use Rattle.tr_grammar.specs.Scripts.{after_all_lines, after_meaning, whole}
use Rattle.tr_reader.specs.Adding.{is_at_steps, sort_of_meaning}
use Rattle.tr_run.specs.Runs.{Cue, makes}
use Rattle.tr_run.specs.Views.{Does, RunView}
use Rattle.tr_serial.specs.Outputs.{cues, widgets}
use Rattle.tr_script.specs.Apart.{meaning_of_line}
use Rattle.tr_session.specs.Answering.{behind_sort, is_end, meaning_sort}
use Rattle.tr_session.specs.Insides.{opening_of}
use Rattle.tr_session.specs.Lines.{added_lines, at_any_time, ends_steps, fault_of_line, has_begun, needs_sync, sync_lines}
use Rattle.tr_session.specs.Playing.{cues_of_meaning}
use Rattle.tr_session.specs.Sessions.{cues_for}
use Rattle.tr_session.proofs.CueLemmas.{Continues, HasPlayedLines, plays_on}
use Rattle.tr_session.proofs.LineLemmas.{opening_at_gap}
use Rattle.tr_session.proofs.PlayingLemmas.{continues_behind_sync, continues_with, cues_join, does_both}
use Rattle.tr_session.proofs.ScriptLemmas.{silent_meaning}
use Rattle.tr_session.proofs.TakenLemmas.{HasMeaning, Rests, after_sync, has_meaning, only_gap, rested_at_gap, silent_next}

-- ---- the script so far after a line

-- a meaning that a line after `begin` may have, and the script of that line
pub record IsSaid (c : SoFar) (line : List ℕ) (m : Meaning) : Type 0 where
  pub said : meaning_of_line c line ≡ Some m
  pub allowed : allows places.Gap (sort_of_meaning m) ≡ true
  pub early : has_ended c.place ≡ false

-- the script d comes after c and a line: the line is silent, or it is added alone, or after a sync
pub data AddsLine (c : SoFar) (line : List ℕ) (d : SoFar) : Type 0 where
  silently : meaning_of_line c line ≡ None → d ≡ c → AddsLine c line d
  alone : (m : Meaning) → IsSaid c line m → needs_sync c (Some m) ≡ false → d ≡ after_meaning c (word_at (words_of line) 1) m → AddsLine c line d
  behind_sync : (m : Meaning) → IsSaid c line m → needs_sync c (Some m) ≡ true →
      d ≡ after_meaning (after_meaning c [] meanings.Sync) (word_at (words_of line) 1) m → AddsLine c line d

-- after `begin` and before the end a line is tested where a report may come
gap_if_begun : (p : Place) (sort : Sort) → has_begun p ≡ true → allows (at_any_time p) sort ≡ true → at_any_time p ≡ places.Gap
gap_if_begun places.Start sort begun allowed = absurd (false-true begun)
gap_if_begun places.Head sort begun allowed = absurd (false-true begun)
gap_if_begun places.Opening sort begun allowed = absurd (false-true begun)
gap_if_begun places.Gap sort begun allowed = refl
gap_if_begun places.Steps sort begun allowed = refl
gap_if_begun places.Ended sort begun allowed = absurd (false-true allowed)

early_if_gap : (p : Place) → at_any_time p ≡ places.Gap → has_ended p ≡ false
early_if_gap places.Ended gap = absurd (false-true (sym (ap (λ (q : Place). has_ended q) gap)))
early_if_gap places.Start gap = refl
early_if_gap places.Head gap = refl
early_if_gap places.Opening gap = refl
early_if_gap places.Gap gap = refl
early_if_gap places.Steps gap = refl

is_said : (c : SoFar) (line : List ℕ) → has_begun c.place ≡ true → (has : HasMeaning c line) → IsSaid c line has.m
is_said c line begun has =
    let gap = gap_if_begun c.place (sort_of_meaning has.m) begun has.allowed in
    record {
      said = has.said;
      allowed = ap (λ (p : Place). allows p (sort_of_meaning has.m)) (sym gap) ∙ has.allowed;
      early = early_if_gap c.place gap;
    }

pub follows : (c : SoFar) (line : List ℕ) → has_begun c.place ≡ true → fault_of_line c line ≡ None →
    AddsLine c line (after_all_lines c (added_lines c line))
follows c line begun none = by_silence (is_silent line) refl
  where
    by_sync : (has : HasMeaning c line) (b : Bool) → needs_sync c (Some has.m) ≡ b → AddsLine c line (after_all_lines c (added_lines c line))
    by_sync has true needs = behind_sync has.m (is_said c line begun has) needs
        (ap (λ (said : Option Meaning). after_all_lines c (sync_lines (needs_sync c said) ++ line ∷ [])) has.said
        ∙ ap (λ (b : Bool). after_all_lines c (sync_lines b ++ line ∷ [])) needs
        ∙ after_sync c line has)
    by_sync has false needs = alone has.m (is_said c line begun has) needs
        (ap (λ (said : Option Meaning). after_all_lines c (sync_lines (needs_sync c said) ++ line ∷ [])) has.said
        ∙ ap (λ (b : Bool). after_all_lines c (sync_lines b ++ line ∷ [])) needs
        ∙ has.next)

    by_silence : (b : Bool) → is_silent line ≡ b → AddsLine c line (after_all_lines c (added_lines c line))
    by_silence true silent = silently (silent_meaning c line silent)
        (ap (λ (said : Option Meaning). after_all_lines c (sync_lines (needs_sync c said) ++ line ∷ [])) (silent_meaning c line silent)
        ∙ ap (λ (b : Bool). after_all_lines c (sync_lines b ++ line ∷ [])) (and_false (is_at_steps c.place))
        ∙ silent_next c line silent)
    by_silence false loud = let has = has_meaning c line none loud in by_sync has (needs_sync c (Some has.m)) refl

-- ---- what a session keeps of it

-- no line of an opening may come after `begin`
opening_stays : (c : SoFar) (w : List ℕ) (m : Meaning) → has_begun c.place ≡ true → allows places.Gap (sort_of_meaning m) ≡ true →
    opening_of (after_meaning c w m) ≡ opening_of c
opening_stays c w (meanings.Version n) begun allowed = absurd (false-true allowed)
opening_stays c w (meanings.Item (items.Screen size kind)) begun allowed = absurd (false-true allowed)
opening_stays c w (meanings.Item (items.Glyph byte rows)) begun allowed = absurd (false-true allowed)
opening_stays c w (meanings.Item (items.Node kind tint)) begun allowed = absurd (false-true allowed)
opening_stays c w (meanings.Item (items.Leaf shapes content)) begun allowed = absurd (false-true allowed)
opening_stays c w (meanings.Item (items.Put child parent at)) begun allowed = absurd (false-true allowed)
opening_stays c w (meanings.Item (items.Root node)) begun allowed = absurd (false-true allowed)
opening_stays c w meanings.Begin begun allowed = absurd (false-true allowed)
opening_stays c w (meanings.Step actor step) begun allowed = opening_at_gap c w begun
opening_stays c w meanings.Sync begun allowed = opening_at_gap c w begun
opening_stays c w (meanings.Report query) begun allowed = opening_at_gap c w begun
opening_stays c w meanings.End begun allowed = opening_at_gap c w begun

-- the reader's script stays the same
pub opening_after : (c : SoFar) (line : List ℕ) (d : SoFar) → has_begun c.place ≡ true → AddsLine c line d → opening_of d ≡ opening_of c
opening_after c line d begun (silently said is) = ap opening_of is
opening_after c line d begun (alone m said needs is) = ap opening_of is ∙ opening_stays c (word_at (words_of line) 1) m begun said.allowed
opening_after c line d begun (behind_sync m said needs is) =
    ap opening_of is
    ∙ opening_stays (after_meaning c [] meanings.Sync) (word_at (words_of line) 1) m refl said.allowed
    ∙ opening_stays c [] meanings.Sync begun refl

-- whether the last line made a step
step_after : (c : SoFar) (w : List ℕ) (m : Meaning) → allows places.Gap (sort_of_meaning m) ≡ true →
    is_at_steps (after_meaning c w m).place ≡ behind_sort (meaning_sort (Some m)) (is_at_steps c.place)
step_after c w (meanings.Version n) allowed = absurd (false-true allowed)
step_after c w (meanings.Item (items.Screen size kind)) allowed = absurd (false-true allowed)
step_after c w (meanings.Item (items.Glyph byte rows)) allowed = absurd (false-true allowed)
step_after c w (meanings.Item (items.Node kind tint)) allowed = absurd (false-true allowed)
step_after c w (meanings.Item (items.Leaf shapes content)) allowed = absurd (false-true allowed)
step_after c w (meanings.Item (items.Put child parent at)) allowed = absurd (false-true allowed)
step_after c w (meanings.Item (items.Root node)) allowed = absurd (false-true allowed)
step_after c w meanings.Begin allowed = absurd (false-true allowed)
step_after c w (meanings.Step actor step) allowed = refl
step_after c w meanings.Sync allowed = refl
step_after c w (meanings.Report query) allowed = refl
step_after c w meanings.End allowed = refl

-- a line that needs a sync is a report or the end, which makes no step
no_step : (at_steps before : Bool) (m : Meaning) → (at_steps && ends_steps (Some m)) ≡ true → behind_sort (meaning_sort (Some m)) before ≡ false
no_step true before (meanings.Version n) needs = absurd (false-true needs)
no_step true before (meanings.Item item) needs = absurd (false-true needs)
no_step true before meanings.Begin needs = absurd (false-true needs)
no_step true before (meanings.Step actor step) needs = absurd (false-true needs)
no_step true before meanings.Sync needs = absurd (false-true needs)
no_step true before (meanings.Report query) needs = refl
no_step true before meanings.End needs = refl
no_step false before m needs = absurd (false-true needs)

pub behind_after : (c : SoFar) (line : List ℕ) (d : SoFar) → AddsLine c line d →
    is_at_steps d.place ≡ behind_sort (meaning_sort (meaning_of_line c line)) (is_at_steps c.place)
behind_after c line d (silently said is) =
    ap (λ (e : SoFar). is_at_steps e.place) is
    ∙ sym (ap (λ (found : Option Meaning). behind_sort (meaning_sort found) (is_at_steps c.place)) said)
behind_after c line d (alone m said needs is) =
    ap (λ (e : SoFar). is_at_steps e.place) is
    ∙ step_after c (word_at (words_of line) 1) m said.allowed
    ∙ sym (ap (λ (found : Option Meaning). behind_sort (meaning_sort found) (is_at_steps c.place)) said.said)
behind_after c line d (behind_sync m said needs is) =
    ap (λ (e : SoFar). is_at_steps e.place) is
    ∙ step_after (after_meaning c [] meanings.Sync) (word_at (words_of line) 1) m said.allowed
    ∙ no_step (is_at_steps c.place) false m needs
    ∙ sym (no_step (is_at_steps c.place) (is_at_steps c.place) m needs)
    ∙ sym (ap (λ (found : Option Meaning). behind_sort (meaning_sort found) (is_at_steps c.place)) said.said)

-- whether the end was read
end_after : (c : SoFar) (w : List ℕ) (m : Meaning) → allows places.Gap (sort_of_meaning m) ≡ true →
    has_ended (after_meaning c w m).place ≡ is_end (meaning_sort (Some m))
end_after c w (meanings.Version n) allowed = absurd (false-true allowed)
end_after c w (meanings.Item (items.Screen size kind)) allowed = absurd (false-true allowed)
end_after c w (meanings.Item (items.Glyph byte rows)) allowed = absurd (false-true allowed)
end_after c w (meanings.Item (items.Node kind tint)) allowed = absurd (false-true allowed)
end_after c w (meanings.Item (items.Leaf shapes content)) allowed = absurd (false-true allowed)
end_after c w (meanings.Item (items.Put child parent at)) allowed = absurd (false-true allowed)
end_after c w (meanings.Item (items.Root node)) allowed = absurd (false-true allowed)
end_after c w meanings.Begin allowed = absurd (false-true allowed)
end_after c w (meanings.Step actor step) allowed = refl
end_after c w meanings.Sync allowed = refl
end_after c w (meanings.Report query) allowed = refl
end_after c w meanings.End allowed = refl

or_none : (b : Bool) → b ≡ (b || false)
or_none true = refl
or_none false = refl

pub ended_after : (c : SoFar) (line : List ℕ) (d : SoFar) → AddsLine c line d →
    has_ended d.place ≡ (has_ended c.place || is_end (meaning_sort (meaning_of_line c line)))
ended_after c line d (silently said is) =
    ap (λ (e : SoFar). has_ended e.place) is
    ∙ or_none (has_ended c.place)
    ∙ sym (ap (λ (found : Option Meaning). has_ended c.place || is_end (meaning_sort found)) said)
ended_after c line d (alone m said needs is) =
    ap (λ (e : SoFar). has_ended e.place) is
    ∙ end_after c (word_at (words_of line) 1) m said.allowed
    ∙ sym (ap (λ (b : Bool). b || is_end (meaning_sort (Some m))) said.early)
    ∙ sym (ap (λ (found : Option Meaning). has_ended c.place || is_end (meaning_sort found)) said.said)
ended_after c line d (behind_sync m said needs is) =
    ap (λ (e : SoFar). has_ended e.place) is
    ∙ end_after (after_meaning c [] meanings.Sync) (word_at (words_of line) 1) m said.allowed
    ∙ sym (ap (λ (b : Bool). b || is_end (meaning_sort (Some m))) said.early)
    ∙ sym (ap (λ (found : Option Meaning). has_ended c.place || is_end (meaning_sort found)) said.said)

-- ---- the stage

-- a report or the end that needs no sync comes where a report may
gap_if_ends : (p : Place) (m : Meaning) → at_any_time p ≡ places.Gap → (is_at_steps p && ends_steps (Some m)) ≡ false →
    ends_steps (Some m) ≡ true → p ≡ places.Gap
gap_if_ends p m gap none ends =
    only_gap p (ap (λ (q : Place). allows q report_line) gap) (ap (λ (b : Bool). is_at_steps p && b) (sym ends) ∙ none)

tested_at_gap : (p : Place) → has_begun p ≡ true → has_ended p ≡ false → at_any_time p ≡ places.Gap
tested_at_gap places.Start begun early = absurd (false-true begun)
tested_at_gap places.Head begun early = absurd (false-true begun)
tested_at_gap places.Opening begun early = absurd (false-true begun)
tested_at_gap places.Gap begun early = refl
tested_at_gap places.Steps begun early = refl
tested_at_gap places.Ended begun early = absurd (false-true (sym early))

-- a line adds its cues
pub continues_after : (c : SoFar) (line : List ℕ) (d : SoFar) → has_begun c.place ≡ true → Rests c → AddsLine c line d →
    Continues c d (cues_for c (meaning_of_line c line))
continues_after c line d begun rested (silently said is) =
    subst (λ (e : SoFar). Continues c e (cues_for c (meaning_of_line c line))) (sym is)
    (subst (λ (found : Option Meaning). Continues c c (cues_for c found)) (sym said)
    (record { items = refl; names = refl; adds = sym (append-nil (cues (whole c).parts)) }))
continues_after c line d begun rested (alone m said needs is) =
    let none : cues_of_meaning (Some m) ≡ cues_for c (Some m) =
    ap (λ (b : Bool). cond b (makes Player Sync ∷ []) [] ++ cues_of_meaning (Some m)) (sym needs) ∙ cues_join c (Some m) in
    subst (λ (e : SoFar). Continues c e (cues_for c (meaning_of_line c line))) (sym is)
    (subst (λ (more : List (Cue WidgetCmd)). Continues c (after_meaning c (word_at (words_of line) 1) m) more)
    (none ∙ ap (cues_for c) (sym said.said))
    (continues_with c (word_at (words_of line) 1) m said.allowed
    (λ ends. rested_at_gap c rested (gap_if_ends c.place m (tested_at_gap c.place begun said.early) needs ends))))
continues_after c line d begun rested (behind_sync m said needs is) =
    let both : makes Player Sync ∷ cues_of_meaning (Some m) ≡ cues_for c (Some m) =
    ap (λ (b : Bool). cond b (makes Player Sync ∷ []) [] ++ cues_of_meaning (Some m)) (sym needs) ∙ cues_join c (Some m) in
    subst (λ (e : SoFar). Continues c e (cues_for c (meaning_of_line c line))) (sym is)
    (subst (λ (more : List (Cue WidgetCmd)).
    Continues c (after_meaning (after_meaning c [] meanings.Sync) (word_at (words_of line) 1) m) more)
    (both ∙ ap (cues_for c) (sym said.said))
    (continues_behind_sync c (word_at (words_of line) 1) m said.allowed))

-- the runs of a line: a sync, if it was needed, and the line's meaning
pub record Runs (c : SoFar) (line : List ℕ) (synced : Bool) (a now b : RunView Widget WidgetCmd) : Type 0 where
  pub synced_is : synced ≡ needs_sync c (meaning_of_line c line)
  pub sync : Does widgets widget_words a now (cond synced (makes Player Sync ∷ []) [])
  pub did : Does widgets widget_words now b (cues_of_meaning (meaning_of_line c line))

-- the stage has played the lines with this one
pub stage_after : (c : SoFar) (line : List ℕ) (d : SoFar) (synced : Bool) (a now b : RunView Widget WidgetCmd) → has_begun c.place ≡ true →
    Rests c → HasPlayedLines c a → Runs c line synced a now b → AddsLine c line d → HasPlayedLines d b
stage_after c line d synced a now b begun rested played runs adds =
    let said = meaning_of_line c line in
    plays_on c d a b (cues_for c said) played (does_both c said synced a now b runs.synced_is runs.sync runs.did)
    (continues_after c line d begun rested adds)
