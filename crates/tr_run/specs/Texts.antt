-- The text of a run: that of its reports; for a check also the screen's lag after each step; for `gen` the sum of a screen's pixels.
use Rattle.std.specs.Prelude.{ℕ, ◌+◌, Bool, true, false, not, ◌&&◌, if◌then◌else◌, List, [], ◌∷◌, ◌++◌, length, codes, decimal, sum_by}
use Rattle.tr_base.specs.declared.Spot.{Spot}
use Rattle.tr_base.specs.declared.Spot.TheVariants as spots
use Rattle.tr_screen.specs.Pictures.{Picture}
use Rattle.tr_paint.specs.Batches.{touches}
use Rattle.tr_client.specs.declared.clients.Client.{Ghosts}
use Rattle.tr_spot.specs.Spots.{spot}
use Rattle.tr_surface.specs.Counts.{count_on}
use Rattle.tr_mail.specs.Mails.{inbox_of}
use Rattle.tr_journal.specs.declared.steps.Query.{Query}
use Rattle.tr_journal.specs.declared.steps.Query.TheVariants as queries
use Rattle.tr_journal.specs.declared.steps.Step.{Step}
use Rattle.tr_journal.specs.declared.steps.Step.TheVariants as steps
use Rattle.tr_journal.specs.Journals.{JournalLine}
use Rattle.tr_machine.specs.States.{State, leaf_batch}
use Rattle.tr_machine.specs.Pictures.{render, bad_count, waiting_count, stale_count, is_stale}
use Rattle.tr_machine.specs.Replays.{next}
use Rattle.tr_stage.specs.Stages.{is_note}
use Rattle.tr_journal.specs.declared.Peek3.{Peek3}
use Rattle.tr_dump.specs.Values.{line_text}
use Rattle.tr_journal.specs.Names.{Names}
use Rattle.tr_dump.specs.Reports.{dump_text, peek_text, journal_text, place_text, inbox_text}
use Rattle.tr_run.specs.declared.modes.Mode.{Mode}
use Rattle.tr_run.specs.declared.modes.Mode.TheVariants.{Serial, Check, Gen}

-- the sum of all pixels of a picture
abbrev pub pixel_sum : Picture → ℕ
pixel_sum p = sum_by (λ row. sum_by (λ pixel. pixel) row) p.rows

-- the mode writes the screen's lag after each step
abbrev pub is_check : Mode → Bool
is_check Check = true
is_check mode = false

module _ {C M : Type 0} (client : Ghosts C M) where
  -- the screen's lag
  abbrev pub lag : State C M → Peek3
  lag m = record { bad = bad_count m; waiting = waiting_count client m; stale = stale_count client m }

  -- a paint command that waits for the leaf of a spot touches the spot
  abbrev pub is_awaited : State C M → Spot → Bool
  is_awaited m (spots.Leaf leaf at size kind) = touches (leaf_batch client m leaf) at
  is_awaited m spot = false

  -- the number of stale points that no waiting command of their leaf touches
  abbrev pub outside_count : State C M → ℕ
  outside_count m = count_on m.tree.size (λ p. is_stale client m p && not (is_awaited m (spot m.tree p)))

  -- the line that a check adds to the entry of this number: the screen's lag after it
  abbrev pub lag_line : ℕ → State C M → List ℕ
  lag_line number m =
      line_text (codes "step" ∷ decimal number
      ∷ codes "bad" ∷ decimal (bad_count m)
      ∷ codes "stale" ∷ decimal (stale_count client m)
      ∷ codes "outside" ∷ decimal (outside_count m)
      ∷ [])

  -- the lag of a step; a sync and a report get no such line
  abbrev pub lag_text : ℕ → State C M → Step M → List ℕ
  lag_text number m step = if is_note step then [] else lag_line number m

  module _ (words : M → List ℕ) (names : Names) where
    -- the text of a report on a state after these lines
    abbrev pub report_text : List (JournalLine M) → State C M → Query → List ℕ
    report_text lines m queries.Dump = dump_text (render client m)
    report_text lines m queries.Peek = peek_text (lag m)
    report_text lines m queries.Journal = journal_text words names lines
    report_text lines m (queries.Where p) = place_text names p (spot m.tree p)
    report_text lines m (queries.Inbox leaf) = inbox_text names leaf (inbox_of m.mail leaf)

    -- a step that isn't a report has no text
    abbrev pub told_text : List (JournalLine M) → State C M → Step M → List ℕ
    told_text lines m (steps.Report query) = report_text lines m query
    told_text lines m step = []

    -- the text of a step that is made in a state after these lines
    abbrev pub text_of_step : Mode → List (JournalLine M) → State C M → Step M → List ℕ
    text_of_step Serial lines m step = told_text lines m step
    text_of_step Check lines m step = told_text lines m step ++ lag_text (length lines + 1) (next client m step) step
    text_of_step Gen lines m step = []

    -- the text of later lines of a journal, in the state after the earlier ones
    abbrev pub texts_from : Mode → List (JournalLine M) → State C M → List (JournalLine M) → List ℕ
    texts_from mode earlier m [] = []
    texts_from mode earlier m (line ∷ later) =
        text_of_step mode earlier m line.entry.step ++ texts_from mode (earlier ++ line ∷ []) (next client m line.entry.step) later

  -- the sum of the pixels of the last dump
  abbrev pub sum_after : Mode → State C M → ℕ → Step M → ℕ
  sum_after Gen m sum (steps.Report queries.Dump) = pixel_sum (render client m)
  sum_after mode m sum step = sum

  -- that sum after some lines of a journal
  abbrev pub sum_from : Mode → State C M → ℕ → List (JournalLine M) → ℕ
  sum_from mode m sum [] = sum
  sum_from mode m sum (line ∷ later) =
      sum_from mode (next client m line.entry.step) (sum_after mode m sum line.entry.step) later
