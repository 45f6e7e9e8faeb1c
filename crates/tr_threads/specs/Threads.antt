-- The result of a script that threads play.
use Rattle.std.specs.Prelude.{◌≡◌, ℕ, List, ◌++◌, Option, Some, None, codes}
use Rattle.tr_journal.specs.declared.differences.Difference.{Difference}
use Rattle.tr_journal.specs.Names.{Names}
use Rattle.tr_widget.specs.declared.Widget.{Widget}
use Rattle.tr_widget.specs.declared.WidgetCmd.{WidgetCmd}
use Rattle.tr_widget.specs.Widgets.{widget_words}
use Rattle.tr_grammar.specs.Scripts.{Script}
use Rattle.tr_dump.specs.Differs.{differs_text}
use Rattle.tr_stage.specs.Stages.{StageView}
use Rattle.tr_serial.specs.Outputs.{widgets, serial_journal, out_text}
use Rattle.tr_server.specs.Differing.{DiffersView}
use Rattle.tr_parts.specs.Plays.{HasInterleaved, journal_texts, played_threads}
use Rattle.tr_play.specs.Plays.{DiffersInPart}
use Rattle.tr_threads.specs.declared.plays.Threaded.{Threaded}

-- the text of a journal that threads made: the texts of its reports, and the line that says that threads played
unfoldable pub threads_text : Script → StageView Widget WidgetCmd → List ℕ
threads_text s stage = journal_texts widgets widget_words s.names s.opening stage.journal ++ played_threads

-- a script was played by threads: its stage's journal is one of the machine and interleaves the parts of the script, and the text
-- is that of this journal
pub record IsPlayedByThreads (s : Script) (stage : StageView Widget WidgetCmd) (text : List ℕ) : Type 0 where
  pub played : HasInterleaved widgets s.opening s.parts stage
  pub text_is : text ≡ threads_text s stage

-- a session that played a part of the script found this difference
abbrev pub HasDifferedIn : Script → DiffersView Widget WidgetCmd → Type 0
HasDifferedIn s d = DiffersInPart widgets s.opening s.parts d

-- the last two lines, where a script is played again: the difference, and that the script was played again
unfoldable pub last_text : {M : Type 0} → (M → List ℕ) → Names → Difference M → List ℕ
last_text words names difference = differs_text words names difference ++ codes "played again\n"

-- these lines for a script, by what a session found
unfoldable pub again_text : Script → DiffersView Widget WidgetCmd → List ℕ
again_text s d = last_text widget_words s.names d.difference

-- a script was played again on one thread, after this difference
pub record IsPlayedAgain (s : Script) (d : DiffersView Widget WidgetCmd) (stage : StageView Widget WidgetCmd) (text : List ℕ) : Type 0 where
  pub differs : HasDifferedIn s d
  pub opening : stage.opening ≡ s.opening
  pub journal : stage.journal ≡ serial_journal s
  pub text_is : text ≡ out_text s ++ again_text s d

-- a script was played, by threads if nothing differed
abbrev pub IsPlayed : Script → Option (DiffersView Widget WidgetCmd) → StageView Widget WidgetCmd → List ℕ → Type 0
IsPlayed s None stage text = IsPlayedByThreads s stage text
IsPlayed s (Some d) stage text = IsPlayedAgain s d stage text

-- so was the script with this end
abbrev pub IsThreaded : Script → Threaded → Type 0
IsThreaded s end = IsPlayed s end.differs end.stage end.text
