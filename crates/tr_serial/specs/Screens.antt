-- The screens that a script dumps, and the stream of them.
use Rattle.std.specs.Prelude.{ℕ, List, [], ◌∷◌, ◌++◌, length, sum_by}
use Rattle.tr_screen.specs.Pictures.{Picture}
use Rattle.tr_mirror.specs.Streams.{stream_of}
use Rattle.tr_client.specs.declared.Client.{Ghosts}
use Rattle.tr_widget.specs.declared.WidgetCmd.{WidgetCmd}
use Rattle.tr_journal.specs.declared.Query.TheVariants as queries
use Rattle.tr_journal.specs.declared.Step.{Step}
use Rattle.tr_journal.specs.declared.Step.TheVariants as steps
use Rattle.tr_journal.specs.Journals.{JournalLine}
use Rattle.tr_journal.specs.Parts.{Part}
use Rattle.tr_machine.specs.States.{State, start}
use Rattle.tr_machine.specs.Pictures.{render}
use Rattle.tr_machine.specs.Replays.{next}
use Rattle.tr_grammar.specs.Scripts.{Script}
use Rattle.tr_serial.specs.Outputs.{serial_journal, widgets}

module _ {C M : Type 0} (client : Ghosts C M) where
  -- the screen that a step dumps: a dump's is painted from nothing, and no other step dumps one
  abbrev pub dumped : State C M → Step M → List Picture
  dumped m (steps.Report queries.Dump) = render client m ∷ []
  dumped m step = []

  -- the screens that the lines of a journal dump, from a state on
  abbrev pub screens_from : State C M → List (JournalLine M) → List Picture
  screens_from m [] = []
  screens_from m (line ∷ later) = dumped m line.entry.step ++ screens_from (next client m line.entry.step) later

-- the screens that a script dumps, if one thread plays it
abbrev pub dumped_screens : Script → List Picture
dumped_screens s = screens_from widgets (start s.opening) (serial_journal s)

-- the bytes of `mirror`: the stream of these screens
abbrev pub mirror_bytes : Script → List ℕ
mirror_bytes s = stream_of (dumped_screens s)

-- the number of reports
abbrev pub report_count : List (Part WidgetCmd) → ℕ
report_count parts = sum_by (λ part. length part.reports) parts
