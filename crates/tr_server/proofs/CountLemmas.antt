-- How many entries are handed over.
use Rattle.std.proofs.Common.{◌≡◌, ℕ, suc, ◌+◌, List, [], ◌∷◌, length, refl, ap, ◌∙◌, arith}
use Rattle.std.proofs.lemmas.List.{length-append}
use Rattle.tr_base.specs.declared.LeafId.{LeafId}
use Rattle.tr_client.specs.declared.clients.Client.{Ghosts}
use Rattle.tr_levels.specs.declared.Level.{Level}
use Rattle.tr_journal.specs.declared.steps.Actor.{Actor}
use Rattle.tr_journal.specs.declared.steps.Actor.TheVariants.{Leaf}
use Rattle.tr_journal.specs.declared.steps.Step.{Step}
use Rattle.tr_journal.specs.Journals.{JournalLine}
use Rattle.tr_machine.specs.CommandSteps.{act_steps}
use Rattle.tr_machine.specs.Replays.{lines_by, next}
use Rattle.tr_machine.specs.States.{State}
use Rattle.tr_stage.specs.Stages.{StageView, state}
use Rattle.tr_server.specs.Handing.{with_acts}

-- each step makes a line
lines_count : {C M : Type 0} (client : Ghosts C M) (actor : Actor) (m : State C M) (made : List (List Level × Step M)) →
    length (lines_by client actor m made) ≡ length made
lines_count client actor m [] = refl
lines_count client actor m (x ∷ xs) = ap suc (lines_count client actor (next client m x.1) xs)

-- each command a step
acts_count : {M : Type 0} (leaf : LeafId) (commands : List M) (levels : List (List Level)) → length levels ≡ length commands →
    length (act_steps leaf commands levels) ≡ length commands
acts_count leaf [] levels same = refl
acts_count leaf (c ∷ commands) [] same = absurd (omega arith)
acts_count leaf (c ∷ commands) (l ∷ levels) same = ap suc (acts_count leaf commands levels (omega arith))

-- a journal to which commands were handed over grew by as many lines
pub grown : {C M : Type 0} (client : Ghosts C M) (s : StageView C M) (leaf : LeafId) (commands : List M) (levels : List (List Level))
    (new : List (JournalLine M)) → new ≡ (with_acts client s leaf commands levels).journal → length levels ≡ length commands →
    length new ≡ length s.journal + length commands
grown client s leaf commands levels new is same =
    let made = act_steps leaf commands levels in
    ap length is
    ∙ length-append s.journal (lines_by client (Leaf leaf) (state client s) made)
    ∙ ap (λ (n : ℕ). length s.journal + n) (lines_count client (Leaf leaf) (state client s) made ∙ acts_count leaf commands levels same)
