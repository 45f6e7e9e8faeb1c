-- The model of a run.
use Rattle.std.specs.Prelude.{◌≡◌, ◌⊎◌, ℕ, true, false, List, [], ◌∷◌, ◌++◌, length, All}
use Rattle.tr_client.specs.declared.clients.Client.{Ghosts}
use Rattle.tr_forest.specs.Nodes.{Nodes, leaf_count}
use Rattle.tr_desk.specs.Desks.{IsKnown}
use Rattle.tr_mail.specs.Mails.{Mails}
use Rattle.tr_journal.specs.Journals.{JournalLine}
use Rattle.tr_journal.specs.Openings.{tree_of}
use Rattle.tr_journal.specs.Names.{Names}
use Rattle.tr_journal.specs.Reports.{is_report}
use Rattle.tr_dump.specs.Names.{IsNamedLine}
use Rattle.tr_stage.specs.Stages.{StageView, is_note, state}
use Rattle.tr_run.specs.declared.modes.Mode.{Mode}
use Rattle.tr_run.specs.Runs.{Cue, run_lines}
use Rattle.tr_run.specs.Texts.{is_check, sum_after, sum_from, texts_from, text_of_step}

-- each node and each leaf has a name
pub record AreNamed (names : Names) (t : Nodes) : Type 0 where
  pub nodes : length names.nodes ≡ length t.entries
  pub leaves : length names.leaves ≡ leaf_count t

-- there are `count` inboxes, one for each leaf, and the owners of the mouse and of the selections are among these leaves
pub record IsKnowing (count : ℕ) (m : Mails) : Type 0 where
  pub inboxes : length m.inboxes ≡ count
  pub focus : IsKnown count m.desk.focus
  pub key : IsKnown count m.desk.key
  pub source : IsKnown count m.desk.source
  pub target : IsKnown count m.desk.target

-- the stage so far, the names of its nodes and leaves in texts, the mode of the run, the text so far, and the sum so far
pub record RunView (C M : Type 0) : Type 0 where
  pub stage : StageView C M
  pub names : Names
  pub mode : Mode
  pub text : List ℕ
  pub sum : ℕ

-- a run hasn't changed, except perhaps for the room in its stage's journal
pub record IsUnchanged {C M : Type 0} (old new : RunView C M) : Type 0 where
  pub opening : new.stage.opening ≡ old.stage.opening
  pub journal : new.stage.journal ≡ old.stage.journal
  pub screen : new.stage.screen ≡ old.stage.screen
  pub names : new.names ≡ old.names
  pub mode : new.mode ≡ old.mode
  pub text : new.text ≡ old.text
  pub sum : new.sum ≡ old.sum

-- in a check, the journal has one more line, of a step that is no report and no sync, and the text doesn't have the screen's lag
pub record AddsUntold {C M : Type 0} (old new : RunView C M) (line : JournalLine M) : Type 0 where
  pub check : is_check old.mode ≡ true
  pub step : is_note line.entry.step ≡ false
  pub opening : new.stage.opening ≡ old.stage.opening
  pub names : new.names ≡ old.names
  pub mode : new.mode ≡ old.mode
  pub journal : new.stage.journal ≡ old.stage.journal ++ line ∷ []
  pub text : new.text ≡ old.text
  pub sum : new.sum ≡ old.sum

-- a run without its stage
pub record PausedView : Type 0 where
  pub names : Names
  pub mode : Mode
  pub text : List ℕ
  pub sum : ℕ

-- each node and each leaf of a stage has a name, and so have those in the lines of its journal
pub record IsNamed {C M : Type 0} (client : Ghosts C M) (names : Names) (s : StageView C M) : Type 0 where
  pub tree : AreNamed names (tree_of s.opening).nodes
  pub lines : All (IsNamedLine names) s.journal
  pub mail : IsKnowing (leaf_count (tree_of s.opening).nodes) (state client s).mail

module _ {C M : Type 0} (client : Ghosts C M) (words : M → List ℕ) where
  -- from one moment of a run to a later one: the journal has these additional lines, and the text has theirs
  pub record AddsLines (old new : RunView C M) (lines : List (JournalLine M)) : Type 0 where
    pub opening : new.stage.opening ≡ old.stage.opening
    pub names : new.names ≡ old.names
    pub mode : new.mode ≡ old.mode
    pub journal : new.stage.journal ≡ old.stage.journal ++ lines
    pub text : new.text ≡ old.text ++ texts_from client words old.names old.mode old.stage.journal (state client old.stage) lines
    pub sum : new.sum ≡ sum_from client old.mode (state client old.stage) old.sum lines

  -- meanwhile these cues were done
  abbrev pub Does : RunView C M → RunView C M → List (Cue M) → Type 0
  Does old new cues = AddsLines old new (run_lines client (state client old.stage) cues)

  -- the text of a report was added, and its line wasn't
  pub record TellsUnmade (old new : RunView C M) (line : JournalLine M) : Type 0 where
    pub report : is_report line.entry.step ≡ true
    pub told : IsUnchanged (record old {
      text = old.text ++ text_of_step client words old.names old.mode old.stage.journal (state client old.stage) line.entry.step;
      sum = sum_after client old.mode (state client old.stage) old.sum line.entry.step;
    }) new

  -- want of memory at a line: neither it nor its text was added, or only the line, or only the text
  abbrev pub StopsAtLine : RunView C M → RunView C M → JournalLine M → Type 0
  StopsAtLine old new line = IsUnchanged old new ⊎ (AddsUntold old new line ⊎ TellsUnmade old new line)

  -- want of memory at one of the lines that were due: those before it were added, and none after it
  pub record AddsSome (old new : RunView C M) (due : List (JournalLine M)) : Type 0 where
    pub before : List (JournalLine M)
    pub line : JournalLine M
    pub behind : List (JournalLine M)
    pub are : due ≡ before ++ line ∷ behind
    pub now : RunView C M
    pub adds : AddsLines old now before
    pub stops : StopsAtLine now new line

  -- want of memory at one of the lines that these cues make
  abbrev pub DoesSome : RunView C M → RunView C M → List (Cue M) → Type 0
  DoesSome old new cues = AddsSome old new (run_lines client (state client old.stage) cues)
