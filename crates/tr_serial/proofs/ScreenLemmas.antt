-- The screens that cues dump.
use Rattle.std.proofs.Common.{◌≡◌, ℕ, zero, suc, Bool, true, false, cond, List, [], ◌∷◌, ◌++◌, length, refl, sym, ap, ◌∙◌, append_assoc}
use Rattle.std.specs.Prelude.{All, map}
use Rattle.std.specs.List.{AllByRecursion}
use Rattle.std.proofs.lemmas.List.Elements.{recursion_from_All}
use Rattle.tr_base.specs.declared.LeafId.{LeafId}
use Rattle.tr_base.proofs.RectLemmas.{false-true}
use Rattle.tr_screen.specs.Pictures.{Picture}
use Rattle.tr_client.specs.declared.Client.{Ghosts}
use Rattle.tr_levels.specs.declared.Level.{Level}
use Rattle.tr_levels.specs.declared.Level.TheVariants.{Mu}
use Rattle.tr_journal.specs.declared.Actor.{Actor}
use Rattle.tr_journal.specs.declared.Actor.TheVariants.{Painter, Player}
use Rattle.tr_journal.specs.declared.Query.{Query}
use Rattle.tr_journal.specs.declared.Query.TheVariants as queries
use Rattle.tr_journal.specs.declared.Step.{Step}
use Rattle.tr_journal.specs.declared.Step.TheVariants as steps
use Rattle.tr_journal.specs.Journals.{JournalLine}
use Rattle.tr_journal.specs.Reports.{is_report}
use Rattle.tr_machine.specs.States.{State}
use Rattle.tr_machine.specs.Pictures.{render}
use Rattle.tr_machine.specs.Replays.{lines_of_steps, next, replay_from}
use Rattle.tr_machine.specs.SettleSteps.{frame_steps, is_frame_bad, is_unsettled, repaint_steps, repaints_below, settling, settling_lines}
use Rattle.tr_run.specs.Runs.{makes, reporting, run_lines}
use Rattle.tr_serial.specs.Screens.{dumped, screens_from}

module _ {C M : Type 0} (client : Ghosts C M) where
  -- those of some lines, and then of more
  pub screens_from-append : (m : State C M) (xs ys : List (JournalLine M)) →
      screens_from client m (xs ++ ys) ≡ screens_from client m xs ++ screens_from client (replay_from client m xs) ys
  screens_from-append m [] ys = refl
  screens_from-append m (x ∷ xs) ys =
      let now : List Picture = dumped client m x.entry.step in
      let after : State C M = next client m x.entry.step in
      ap (λ (l : List Picture). now ++ l) (screens_from-append after xs ys)
      ∙ sym (append_assoc now (screens_from client after xs) (screens_from client (replay_from client after xs) ys))

  -- ---- steps that aren't reports

  dumped-none : (m : State C M) (step : Step M) → is_report step ≡ false → dumped client m step ≡ []
  dumped-none m (steps.Report query) h = absurd (false-true (sym h))
  dumped-none m step h = refl

  -- they dump nothing, whoever makes them
  pub made_none : (m : State C M) (made : List (Actor × Step M)) → AllByRecursion (λ made. is_report made.1 ≡ false) made →
      screens_from client m (run_lines client m (map (λ made. makes made.0 made.1) made)) ≡ []
  made_none m [] other = refl
  made_none m (x ∷ xs) other =
      let after : State C M = next client m x.1 in
      ap (λ (l : List Picture). l ++ screens_from client after (run_lines client after (map (λ made. makes made.0 made.1) xs)))
      (dumped-none m x.1 other.0)
      ∙ made_none after xs other.1

  pub steps_none : (m : State C M) (made : List (Actor × Step M)) → All (λ made. is_report made.1 ≡ false) made →
      screens_from client m (run_lines client m (map (λ made. makes made.0 made.1) made)) ≡ []
  steps_none m made other = made_none m made (recursion_from_All (λ (x : Actor × Step M). is_report x.1 ≡ false) made other)

  -- steps none of which is a report
  abbrev AreOther : List (Step M) → Type 0
  AreOther ss = AllByRecursion (λ step. is_report step ≡ false) ss

  AreOther-append : (xs ys : List (Step M)) → AreOther xs → AreOther ys → AreOther (xs ++ ys)
  AreOther-append [] ys a b = b
  AreOther-append (x ∷ xs) ys a b = (a.0, AreOther-append xs ys a.1 b)

  others_none : (actor : Actor) (level : List Level) (m : State C M) (ss : List (Step M)) → AreOther ss →
      screens_from client m (lines_of_steps client actor level m ss) ≡ []
  others_none actor level m [] other = refl
  others_none actor level m (s ∷ ss) other =
      let after : State C M = next client m s in
      ap (λ (l : List Picture). l ++ screens_from client after (lines_of_steps client actor level after ss)) (dumped-none m s other.0)
      ∙ others_none actor level after ss other.1

  repaint_other : (m : State C M) (leaf : LeafId) → AreOther (repaint_steps client m leaf)
  repaint_other m leaf = by_test (is_unsettled client m leaf)
    where
      by_test : (b : Bool) → AreOther (cond b (steps.Repaint leaf ∷ []) [])
      by_test true = (refl, tt)
      by_test false = tt

  repaints_other : (n : ℕ) (m : State C M) → AreOther (repaints_below client n m)
  repaints_other zero m = tt
  repaints_other (suc n) m =
      AreOther-append (repaints_below client n m) (repaint_steps client m (record { 0 = n })) (repaints_other n m) (repaint_other m (record { 0 = n }))

  frames_other : (m : State C M) → AreOther (frame_steps m)
  frames_other m = by_test (is_frame_bad m)
    where
      by_test : (b : Bool) → AreOther (cond b (steps.PaintFrame ∷ []) [])
      by_test true = (refl, tt)
      by_test false = tt

  -- settling dumps nothing
  settling_none : (m : State C M) → screens_from client m (settling_lines client m) ≡ []
  settling_none m =
      others_none Painter (Mu ∷ []) m (settling client m)
      (AreOther-append (repaints_below client (length m.windows) m) (frame_steps m) (repaints_other (length m.windows) m) (frames_other m))

  -- ---- reports

  -- a report other than a dump dumps nothing
  pub report_none : (m : State C M) (query : Query) → (query ≡ queries.Dump → ⊥) →
      screens_from client m (run_lines client m (reporting query)) ≡ []
  report_none m queries.Dump other = absurd (other refl)
  report_none m query other = refl

  -- and a dump the picture of the state that is settled
  pub dump_one : (m : State C M) →
      screens_from client m (run_lines client m (reporting queries.Dump)) ≡ render client (replay_from client m (settling_lines client m)) ∷ []
  dump_one m =
      let after : State C M = replay_from client m (settling_lines client m) in
      screens_from-append m (settling_lines client m) (run_lines client after (makes Player (steps.Report queries.Dump) ∷ []))
      ∙ ap (λ (l : List Picture). l ++ render client after ∷ []) (settling_none m)
