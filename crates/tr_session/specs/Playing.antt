-- Private contracts alone cite this file.
-- The effect of a line on the stage of a session.
use Rattle.std.specs.Prelude.{◌≡◌, ⊤, ℕ, ◌-◌, Bool, true, false, List, [], ◌∷◌, ◌++◌, length, slice_get, Option, Some, Result, Ok, Err, IfErr, IsSomeAnd, codes, if◌then◌else◌}
use Rattle.tr_screen.specs.Pictures.{IsPicture}
use Rattle.tr_client.specs.declared.Client.{Ghosts}
use Rattle.tr_forest.specs.Nodes.{Nodes}
use Rattle.tr_grammar.specs.declared.Meaning.{Meaning}
use Rattle.tr_grammar.specs.declared.Meaning.TheVariants as meanings
use Rattle.tr_grammar.specs.Scripts.{after_all_lines}
use Rattle.tr_grammar.specs.States.{SoFar, nothing_yet}
use Rattle.tr_journal.specs.Names.{Names}
use Rattle.tr_journal.specs.Reports.{is_report}
use Rattle.tr_journal.specs.Steps.{IsOwn, IsQuery}
use Rattle.tr_journal.specs.declared.Actor.TheVariants.{Player}
use Rattle.tr_journal.specs.declared.Step.TheVariants.{Sync}
use Rattle.tr_widget.specs.declared.Widget.{Widget}
use Rattle.tr_widget.specs.declared.WidgetCmd.{WidgetCmd}
use Rattle.tr_widget.specs.Widgets.{widget_words}
use Rattle.tr_machine.specs.Promises.{Agrees}
use Rattle.tr_stage.specs.Stages.{StageView, state}
use Rattle.tr_run.specs.declared.Mode.TheVariants.{Serial}
use Rattle.tr_run.specs.Runs.{Cue, makes, reporting}
use Rattle.tr_run.specs.Views.{Does, RunView}
use Rattle.tr_dump.specs.Reports.{outcome_text}
use Rattle.tr_serial.specs.Outputs.{widgets}
use Rattle.tr_session.specs.declared.errors.Unanswered.{Unanswered}
use Rattle.tr_session.specs.declared.errors.Unanswered.TheVariants as unanswered
use Rattle.tr_session.specs.declared.playing.Followed.{Followed}

-- the stage of a session, and the names of its nodes and leaves
pub record PlayedView : Type 0 where
  pub names : Names
  pub stage : StageView Widget WidgetCmd

-- the script of these lines, one more line, and the end
abbrev pub begun_by : List (List ℕ) → List ℕ → SoFar
begun_by lines line = after_all_lines nothing_yet (lines ++ line ∷ codes "end" ∷ [])

-- the stage is that of an opening, before any step, and its screen is right
pub record HasStarted (p : PlayedView) (c : SoFar) : Type 0 where
  pub opening : p.stage.opening ≡ c.items
  pub names : p.names ≡ c.names
  pub journal : p.stage.journal ≡ []
  pub picture : IsPicture p.stage.screen
  pub shows : Agrees widgets (state widgets p.stage) p.stage.screen

-- a run of the stage, before a line
abbrev pub as_run : PlayedView → RunView Widget WidgetCmd
as_run p = record { stage = p.stage; names = p.names; mode = Serial; text = []; sum = 0 }

-- the stage can do this meaning of a line after `begin`
abbrev pub IsMeant : Nodes → Option Meaning → Type 0
IsMeant t (Some (meanings.Step actor step)) = IsOwn t actor step × (is_report step ≡ false)
IsMeant t (Some (meanings.Report query)) = IsQuery t query
IsMeant t said = ⊤

-- the cues of this meaning
abbrev pub cues_of_meaning : Option Meaning → List (Cue WidgetCmd)
cues_of_meaning (Some (meanings.Step actor step)) = makes actor step ∷ []
cues_of_meaning (Some meanings.Sync) = makes Player Sync ∷ []
cues_of_meaning (Some (meanings.Report query)) = reporting query
cues_of_meaning said = []

-- a stage has no more lines than before; the bad points of its screen may have other pixels
pub record KeepsLines {C M : Type 0} (old new : StageView C M) : Type 0 where
  pub opening : new.opening ≡ old.opening
  pub journal : new.journal ≡ old.journal

-- a line was not done for want of memory
abbrev pub IsWantOfMemory : Unanswered → Type 0
IsWantOfMemory (unanswered.Fault code) = ⊥
IsWantOfMemory e = ⊤

-- the outcome of the last line of the journal was appended
abbrev pub HasOutcome : {C : Type 0} → RunView C WidgetCmd → List ℕ → List ℕ → Type 0
HasOutcome run old new =
    IsSomeAnd (slice_get run.stage.journal (length run.stage.journal - 1)) (λ line. new ≡ old ++ outcome_text run.names line)

-- a step or a sync: it has an outcome
abbrev pub has_outcome : Option Meaning → Bool
has_outcome (Some (meanings.Step actor step)) = true
has_outcome (Some meanings.Sync) = true
has_outcome said = false

-- a line with this meaning was done; after want of memory the stage is unchanged, unless the session is lost
pub record Acts {C : Type 0} (client : Ghosts C WidgetCmd) (a b : RunView C WidgetCmd) (said : Option Meaning)
    (result : Result Unit Unanswered) (old new : List ℕ) : Type 0 where
  pub names : b.names ≡ a.names
  pub did : result ≡ Ok tt → Does client widget_words a b (cues_of_meaning said)
  pub outcome : result ≡ Ok tt → has_outcome said ≡ true → HasOutcome b old new
  pub whole : result ≡ Err unanswered.NoMemory → KeepsLines a.stage b.stage
  pub fault : IfErr result IsWantOfMemory

-- the same, after a sync if one is needed
pub record ActsBehindSync {C : Type 0} (client : Ghosts C WidgetCmd) (a b : RunView C WidgetCmd) (said : Option Meaning) (needs : Bool)
    (result : Result Unit Unanswered) (old new : List ℕ) : Type 0 where
  pub names : b.names ≡ a.names
  pub begun : RunView C WidgetCmd
  pub sync : result ≡ Ok tt → Does client widget_words a begun (if needs then makes Player Sync ∷ [] else [])
  pub did : result ≡ Ok tt → Does client widget_words begun b (cues_of_meaning said)
  pub outcome : result ≡ Ok tt → has_outcome said ≡ true → HasOutcome b old new
  pub whole : result ≡ Err unanswered.NoMemory → KeepsLines a.stage b.stage
  pub fault : IfErr result IsWantOfMemory

-- a line was followed: its cues were done, and the texts are theirs, unless the session is lost
pub record FollowsLine (p q : PlayedView) (said : Option Meaning) (needs : Bool) (f : Followed) (old new : List ℕ) : Type 0 where
  pub names : q.names ≡ p.names
  pub now : RunView Widget WidgetCmd
  pub acts : ActsBehindSync widgets (as_run p) now said needs f.result old new
  pub stage : q.stage ≡ now.stage
  pub text : f.text ≡ now.text
  pub picture : IsPicture q.stage.screen
  pub shows : Agrees widgets (state widgets q.stage) q.stage.screen
