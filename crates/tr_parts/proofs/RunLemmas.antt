-- Reports of a stage.
use Rattle.std.proofs.Common.{◌≡◌, Bool, true, false, List, [], ◌∷◌, length, refl, sym, ap, subst, ◌∙◌}
use Rattle.tr_base.proofs.RectLemmas.{false-true}
use Rattle.tr_client.specs.declared.clients.Client.{Ghosts}
use Rattle.tr_forest.specs.Nodes.{leaf_count}
use Rattle.tr_levels.specs.declared.Level.{Level}
use Rattle.tr_levels.specs.declared.Level.TheVariants.{Mu}
use Rattle.tr_journal.specs.declared.steps.Actor.TheVariants as actors
use Rattle.tr_journal.specs.declared.steps.Query.{Query}
use Rattle.tr_journal.specs.declared.steps.Query.TheVariants as queries
use Rattle.tr_journal.specs.declared.steps.Step.{Step}
use Rattle.tr_journal.specs.declared.steps.Step.TheVariants as steps
use Rattle.tr_journal.specs.Journals.{JournalLine}
use Rattle.tr_machine.specs.States.{State}
use Rattle.tr_machine.specs.Replays.{line_of_step, lines_of_steps, next, replay_from}
use Rattle.tr_machine.specs.SettleSteps.{settling, settling_lines}
use Rattle.tr_machine.proofs.JournalLemmas.{replay_from-lines_of}
use Rattle.tr_machine.proofs.SettleLemmas.{settles, legal_settling}
use Rattle.tr_machine.proofs.SettleLemmas as below
use Rattle.tr_interleaves.specs.Interleaves.{IsSettled, steps_in}
use Rattle.tr_interleaves.specs.Stretches.{AreReports, HasNoMaker}
use Rattle.tr_interleaves.proofs.StretchLemmas.{AreOthers, others, reports-append}
use Rattle.tr_stage.specs.Stages.{StageView, state}
use Rattle.tr_stage.specs.Standings.{Stands}
use Rattle.tr_run.specs.Runs.{reporting, run_lines}

-- the step is a dump
abbrev is_dump : {M : Type 0} → Step M → Bool
is_dump (steps.Report queries.Dump) = true
is_dump step = false

module _ {C M : Type 0} (client : Ghosts C M) where
  -- the painter's lines are no leaf's and not the desk's
  painters_lines : (held : List Level) (m : State C M) (xs : List (Step M)) → HasNoMaker (lines_of_steps client actors.Painter held m xs)
  painters_lines held m [] = tt
  painters_lines held m (x ∷ xs) = (refl, painters_lines held (next client m x) xs)

  -- nor the player's
  painters_steps : (held : List Level) (m : State C M) (xs : List (Step M)) → steps_in actors.Player (lines_of_steps client actors.Painter held m xs) ≡ []
  painters_steps held m [] = refl
  painters_steps held m (x ∷ xs) = painters_steps held (next client m x) xs

  -- the lines that settle a sound state report nothing
  settling_reports : (m : State C M) → length m.windows ≡ leaf_count m.tree.nodes → AreReports client m [] (settling_lines client m)
  settling_reports m many =
      let none : steps_in actors.Player (settling_lines client m) ≡ [] = painters_steps (Mu ∷ []) m (settling client m) in
      let other : AreOthers client m (settling_lines client m) =
      others client m.tree.nodes m (settling_lines client m) (legal_settling client m.tree.nodes m many) none in
      record { makers = painters_lines (Mu ∷ []) m (settling client m); syncs = other.syncs; player = none; dumps = other.dumps }

  other_dump : (query : Query) → is_dump {M = M} (steps.Report query) ≡ false →
      (let dumped : Step M = steps.Report queries.Dump in steps.Report query ≡ dumped) → ⊥
  other_dump query not is = false-true (sym not ∙ ap (λ (s : Step M). is_dump s) is)

  -- a report of a stage
  pub reported : (s : StageView C M) (query : Query) → Stands client s →
      AreReports client (state client s) (query ∷ []) (run_lines client (state client s) (reporting query))
  reported s queries.Dump stands =
      reports-append client m [] (queries.Dump ∷ []) (settling_lines client m) (line ∷ []) (settling_reports m stands.sound.windows) (record {
        makers = (refl, tt);
        syncs = (refl, tt);
        player = refl;
        dumps = (λ is. settled, tt);
      })
    where
      m : State C M
      m = state client s

      after : State C M
      after = replay_from client m (settling_lines client m)

      line : JournalLine M
      line = line_of_step client after actors.Player (Mu ∷ []) (steps.Report queries.Dump)

      settled : IsSettled client after
      settled =
          let there : below.IsSettled client m after = subst (λ (n : State C M). below.IsSettled client m n)
          (sym (replay_from-lines_of client actors.Painter (Mu ∷ []) m (settling client m)))
          (settles client m stands.forest stands.root stands.sound) in
          record { good = there.good; batches = there.batches }
  reported s queries.Peek stands =
      record { makers = (refl, tt); syncs = (refl, tt); player = refl; dumps = (λ is. absurd (other_dump queries.Peek refl is), tt) }
  reported s queries.Journal stands =
      record { makers = (refl, tt); syncs = (refl, tt); player = refl; dumps = (λ is. absurd (other_dump queries.Journal refl is), tt) }
  reported s (queries.Where at) stands =
      record { makers = (refl, tt); syncs = (refl, tt); player = refl; dumps = (λ is. absurd (other_dump (queries.Where at) refl is), tt) }
  reported s (queries.Inbox leaf) stands =
      record { makers = (refl, tt); syncs = (refl, tt); player = refl; dumps = (λ is. absurd (other_dump (queries.Inbox leaf) refl is), tt) }
