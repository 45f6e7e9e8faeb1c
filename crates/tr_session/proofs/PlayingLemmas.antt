-- The stage, the outcome and the text after a line.
use Rattle.std.proofs.Common.{◌≡◌, ℕ, ◌-◌, Bool, true, false, cond, ◌&&◌, List, [], ◌∷◌, ◌++◌, Some, None, length, length-append, refl, sym, ap, subst, append_assoc, ◌∙◌, arith}
use Rattle.std.specs.Prelude.{Option, IsSomeAnd, slice_get}
use Rattle.std.proofs.lemmas.List.{append-nil}
use Rattle.tr_base.proofs.RectLemmas.{false-true}
use Rattle.tr_journal.specs.declared.Actor.TheVariants.{Player}
use Rattle.tr_journal.specs.declared.Item.TheVariants as items
use Rattle.tr_journal.specs.declared.Step.TheVariants.{Sync}
use Rattle.tr_journal.specs.Journals.{JournalLine}
use Rattle.tr_widget.specs.declared.Widget.{Widget}
use Rattle.tr_widget.specs.declared.WidgetCmd.{WidgetCmd}
use Rattle.tr_widget.specs.Widgets.{widget_words}
use Rattle.tr_grammar.specs.declared.Meaning.{Meaning}
use Rattle.tr_grammar.specs.declared.Meaning.TheVariants as meanings
use Rattle.tr_grammar.specs.declared.Place.TheVariants as places
use Rattle.tr_grammar.specs.States.{SoFar}
use Rattle.tr_grammar.specs.Faults.{allows}
use Rattle.tr_grammar.specs.Scripts.{after_meaning, whole}
use Rattle.tr_reader.specs.Adding.{is_at_steps, sort_of_meaning}
use Rattle.tr_dump.specs.Reports.{outcome_text}
use Rattle.tr_run.specs.Runs.{Cue, makes}
use Rattle.tr_run.specs.Views.{Does, RunView}
use Rattle.tr_run.proofs.RunLemmas.{Does-append}
use Rattle.tr_serial.specs.Outputs.{cues, widgets}
use Rattle.tr_session.specs.Lines.{ends_steps, needs_sync}
use Rattle.tr_session.specs.Playing.{HasOutcome, cues_of_meaning}
use Rattle.tr_session.specs.Sessions.{cues_for, sync_cues}
use Rattle.tr_session.proofs.CueLemmas.{Continues, report_more, step_more, sync_more}

-- ---- the cues of a line

-- a line with this meaning, which needs no sync, adds the cues of its meaning
pub continues_with : (c : SoFar) (w : List ℕ) (m : Meaning) → allows places.Gap (sort_of_meaning m) ≡ true →
    (ends_steps (Some m) ≡ true → c.part.steps ≡ []) → Continues c (after_meaning c w m) (cues_of_meaning (Some m))
continues_with c w (meanings.Version n) allowed rested = absurd (false-true allowed)
continues_with c w (meanings.Item (items.Screen size kind)) allowed rested = absurd (false-true allowed)
continues_with c w (meanings.Item (items.Glyph byte rows)) allowed rested = absurd (false-true allowed)
continues_with c w (meanings.Item (items.Node kind tint)) allowed rested = absurd (false-true allowed)
continues_with c w (meanings.Item (items.Leaf shapes content)) allowed rested = absurd (false-true allowed)
continues_with c w (meanings.Item (items.Put child parent at)) allowed rested = absurd (false-true allowed)
continues_with c w (meanings.Item (items.Root node)) allowed rested = absurd (false-true allowed)
continues_with c w meanings.Begin allowed rested = absurd (false-true allowed)
continues_with c w (meanings.Step actor step) allowed rested =
    record { items = refl; names = refl; adds = step_more c.ended c.part actor step }
continues_with c w meanings.Sync allowed rested = record { items = refl; names = refl; adds = sync_more c.ended c.part }
continues_with c w (meanings.Report query) allowed rested =
    record { items = refl; names = refl; adds = report_more c.ended c.part query (rested refl) }
continues_with c w meanings.End allowed rested =
    record { items = refl; names = refl; adds = sym (append-nil (cues (whole c).parts)) }

-- two lines in a row
pub continues_twice : (c d e : SoFar) (first last : List (Cue WidgetCmd)) → Continues c d first → Continues d e last → Continues c e (first ++ last)
continues_twice c d e first last on more = record {
  items = more.items ∙ on.items;
  names = more.names ∙ on.names;
  adds = more.adds ∙ ap (λ (cs : List (Cue WidgetCmd)). cs ++ last) on.adds ∙ append_assoc (cues (whole c).parts) first last;
}

-- the same line after a sync
pub continues_behind_sync : (c : SoFar) (w : List ℕ) (m : Meaning) → allows places.Gap (sort_of_meaning m) ≡ true →
    Continues c (after_meaning (after_meaning c [] meanings.Sync) w m) (makes Player Sync ∷ cues_of_meaning (Some m))
continues_behind_sync c w m allowed =
    let gap : SoFar = after_meaning c [] meanings.Sync in
    continues_twice c gap (after_meaning gap w m) (makes Player Sync ∷ []) (cues_of_meaning (Some m))
    (continues_with c [] meanings.Sync refl (λ no_step. absurd (false-true no_step))) (continues_with gap w m allowed (λ ends. refl))

none_before : (at_steps : Bool) (more : List (Cue WidgetCmd)) → cond (at_steps && false) (makes Player Sync ∷ []) [] ++ more ≡ more
none_before true more = refl
none_before false more = refl

-- the cues of a line are its sync and those of its meaning
pub cues_join : (c : SoFar) (said : Option Meaning) → sync_cues c said ++ cues_of_meaning said ≡ cues_for c said
cues_join c None = none_before (is_at_steps c.place) []
cues_join c (Some (meanings.Version n)) = none_before (is_at_steps c.place) []
cues_join c (Some (meanings.Item item)) = none_before (is_at_steps c.place) []
cues_join c (Some meanings.Begin) = none_before (is_at_steps c.place) []
cues_join c (Some (meanings.Step actor step)) = none_before (is_at_steps c.place) (makes actor step ∷ [])
cues_join c (Some meanings.Sync) = none_before (is_at_steps c.place) (makes Player Sync ∷ [])
cues_join c (Some (meanings.Report query)) = refl
cues_join c (Some meanings.End) = append-nil (sync_cues c (Some meanings.End))

-- a sync, if one is needed, and then the meaning: the cues of the line were done
pub does_both : (c : SoFar) (said : Option Meaning) (synced : Bool) (a now b : RunView Widget WidgetCmd) → synced ≡ needs_sync c said →
    Does widgets widget_words a now (cond synced (makes Player Sync ∷ []) []) → Does widgets widget_words now b (cues_of_meaning said) →
    Does widgets widget_words a b (cues_for c said)
does_both c said synced a now b is first last =
    subst (λ (done : List (Cue WidgetCmd)). Does widgets widget_words a b done)
    (ap (λ (needed : Bool). cond needed (makes Player Sync ∷ []) [] ++ cues_of_meaning said) is ∙ cues_join c said)
    (Does-append widgets widget_words a now b (cond synced (makes Player Sync ∷ []) []) (cues_of_meaning said) first last)

-- ---- the outcome

get_last : {X : Type 0} (xs : List X) (x : X) → slice_get (xs ++ x ∷ []) (length xs) ≡ Some x
get_last [] x = refl
get_last (y ∷ ys) x = get_last ys x

pub last_is : {X : Type 0} (xs : List X) (x : X) → slice_get (xs ++ x ∷ []) (length (xs ++ x ∷ []) - 1) ≡ Some x
last_is xs x =
    let place : length (xs ++ x ∷ []) - 1 ≡ length xs = omega (arith, length-append xs (x ∷ [])) in
    ap (λ n. slice_get (xs ++ x ∷ []) n) place ∙ get_last xs x

-- the outcome that was appended is that of the last line
pub outcome_of_last : (b : RunView Widget WidgetCmd) (earlier : List (JournalLine WidgetCmd)) (line : JournalLine WidgetCmd) (old new : List ℕ) →
    b.stage.journal ≡ earlier ++ line ∷ [] → HasOutcome b old new → new ≡ old ++ outcome_text b.names line
outcome_of_last b earlier line old new is has =
    let at_end : slice_get b.stage.journal (length b.stage.journal - 1) ≡ Some line =
    ap (λ (ls : List (JournalLine WidgetCmd)). slice_get ls (length ls - 1)) is ∙ last_is earlier line in
    let P : Option (JournalLine WidgetCmd) → Type 0 = λ found. IsSomeAnd found (λ l. new ≡ old ++ outcome_text b.names l) in
    subst P at_end has
