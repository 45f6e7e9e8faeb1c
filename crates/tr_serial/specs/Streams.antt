-- Private contracts alone cite this file.
-- The stream of the screens that were dumped so far.
use Rattle.std.specs.Prelude.{◌≡◌, ℕ, ◌+◌, List, [], ◌∷◌, ◌++◌}
use Rattle.tr_screen.specs.Pictures.{Picture}
use Rattle.tr_client.specs.declared.Client.{Ghosts}
use Rattle.tr_mirror.specs.Records.{spelled}
use Rattle.tr_mirror.specs.Streams.{group_of, stream_of}
use Rattle.tr_mirror.specs.Updates.{HasSent, WriterView}
use Rattle.tr_run.specs.Runs.{Cue, run_lines}
use Rattle.tr_run.specs.Views.{RunView, Does}
use Rattle.tr_stage.specs.Stages.{state}
use Rattle.tr_serial.specs.Screens.{screens_from}

-- the model of such a stream: its writer, and all bytes that the writer has sent
pub record StreamView : Type 0 where
  pub writer : WriterView
  pub bytes : List ℕ

-- the group of this screen was appended, and it is the last one now
pub record IsAppended (s t : StreamView) (now : Picture) : Type 0 where
  pub group : t.bytes ≡ s.bytes ++ spelled (group_of s.writer.last now (s.writer.cuts + 1))
  pub sent : (screens : List Picture) → HasSent s.writer s.bytes screens → HasSent t.writer t.bytes (screens ++ now ∷ [])
  pub cuts : t.writer.cuts ≡ s.writer.cuts + 1

-- the stream of these screens, which shows them
pub record IsStreamOf (s : StreamView) (screens : List Picture) : Type 0 where
  pub bytes : s.bytes ≡ stream_of screens
  pub sent : HasSent s.writer s.bytes screens

-- these screens were appended
abbrev pub Appends : StreamView → StreamView → List Picture → Type 0
Appends old new more = (screens : List Picture) → IsStreamOf old screens → IsStreamOf new (screens ++ more)

-- meanwhile these cues were done in a run, and the screens that they dump were appended
pub record Mirrors {C M : Type 0} (client : Ghosts C M) (words : M → List ℕ) (old new : RunView C M)
    (cues : List (Cue M)) (was is : StreamView) : Type 0 where
  pub did : Does client words old new cues
  pub appended : Appends was is (screens_from client (state client old.stage) (run_lines client (state client old.stage) cues))
