-- The screen of a stage that was just dumped.
use Rattle.std.proofs.Common.{◌≡◌, ℕ, List, [], ◌∷◌, ◌++◌, refl, sym, ap, subst, ◌∙◌}
use Rattle.tr_screen.specs.Pictures.{Picture}
use Rattle.tr_client.specs.declared.Client.{Ghosts}
use Rattle.tr_journal.specs.declared.Actor.TheVariants.{Player}
use Rattle.tr_journal.specs.declared.Query.TheVariants.{Dump}
use Rattle.tr_journal.specs.declared.Step.TheVariants.{Report}
use Rattle.tr_journal.specs.Journals.{JournalLine}
use Rattle.tr_machine.specs.States.{State}
use Rattle.tr_machine.specs.Pictures.{render}
use Rattle.tr_machine.specs.Replays.{replay_from}
use Rattle.tr_machine.specs.SettleSteps.{settling_lines}
use Rattle.tr_machine.proofs.JournalLemmas.{replay-append, replay_from-append}
use Rattle.tr_machine.proofs.SettleLemmas.{IsSettled}
use Rattle.tr_stage.specs.Stages.{StageView, state}
use Rattle.tr_stage.specs.Standings.{Stands}
use Rattle.tr_stage.proofs.SettleLemmas.{settled_is, settled_screen}
use Rattle.tr_run.specs.Runs.{makes, reporting, run_lines}
use Rattle.tr_run.specs.Views.{Does, RunView}
use Rattle.tr_run.proofs.RunLemmas.{state_adds}
use Rattle.tr_serial.specs.Streams.{Appends, IsAppended, Mirrors, StreamView}
use Rattle.tr_serial.proofs.ScreenLemmas.{dump_one}
use Rattle.tr_serial.proofs.StreamLemmas.{appends_one}

module _ {C M : Type 0} (client : Ghosts C M) (words : M → List ℕ) (a b : RunView C M) (did : Does client words a b (reporting Dump)) where
  abbrev pub was : State C M
  was = state client a.stage

  abbrev pub lines : List (JournalLine M)
  lines = settling_lines client was

  -- the report leaves the settled state
  pub dumped_state : state client b.stage ≡ replay_from client was lines
  dumped_state =
      state_adds client a b (run_lines client was (reporting Dump)) did
      ∙ replay_from-append client was lines (run_lines client (replay_from client was lines) (makes Player (Report Dump) ∷ []))

  -- so the screen is the picture of that state
  pub dumped_screen : Stands client a.stage → Stands client b.stage → b.stage.screen ≡ render client (state client b.stage)
  dumped_screen stood stands =
      settled_screen client a.stage b.stage stands
      (subst (λ (m : State C M). IsSettled client was m) (same ∙ sym dumped_state) (settled_is client a.stage settled stood refl refl))
    where
      settled : StageView C M
      settled = record {
        opening = a.stage.opening;
        journal = a.stage.journal ++ lines;
        screen = b.stage.screen;
        spare = b.stage.spare;
      }

      same : state client settled ≡ replay_from client was lines
      same = replay-append client a.stage.opening a.stage.journal lines

  -- it was appended
  pub mirrors_dump : (s t : StreamView) → Stands client a.stage → Stands client b.stage → IsAppended s t b.stage.screen →
      Mirrors client words a b (reporting Dump) s t
  mirrors_dump s t stood stands appended = record {
    did = did;
    appended = subst (λ (l : List Picture). Appends s t l)
        (ap (λ (p : Picture). p ∷ []) (dumped_screen stood stands ∙ ap (λ (m : State C M). render client m) dumped_state) ∙ sym (dump_one client was))
        (appends_one s t b.stage.screen appended);
  }
