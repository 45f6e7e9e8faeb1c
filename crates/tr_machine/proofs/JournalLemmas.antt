-- Journals that grow, and the lines that steps in a row make.
use Rattle.std.proofs.Common.{◌≡◌, ℕ, zero, suc, ◌+◌, ◌<◌, arith, length, take, get_or, List, [], ◌∷◌, ◌++◌, refl, ◌∙◌, ap}
use Rattle.std.specs.List.{AllByRecursion}
use Rattle.std.proofs.lemmas.List.{take_more}
use Rattle.tr_client.specs.declared.clients.Client.{Ghosts}
use Rattle.tr_forest.specs.Nodes.{Nodes}
use Rattle.tr_levels.specs.declared.Level.{Level}
use Rattle.tr_journal.specs.declared.items.Item.{Item}
use Rattle.tr_journal.specs.declared.steps.Actor.{Actor}
use Rattle.tr_journal.specs.declared.steps.Step.{Step}
use Rattle.tr_journal.specs.Journals.{JournalLine}
use Rattle.tr_journal.specs.Openings.{tree_of}
use Rattle.tr_journal.specs.Steps.{IsFor}
use Rattle.tr_machine.specs.States.{State, start}
use Rattle.tr_machine.specs.Replays.{after_steps, line_of_step, lines_by, lines_of_steps, next, replay_from, replay, IsLegalLine, IsLegalFrom, IsLegal}

-- what holds of all elements of a list holds of each
pub all_at : {A : Type 0} (P : A → Type 0) (xs : List A) (k : ℕ) (d : A) → AllByRecursion P xs → k < length xs → P (get_or xs k d)
all_at P [] k d all lt = absurd (omega arith)
all_at P (x ∷ xs) zero d all lt = all.0
all_at P (x ∷ xs) (suc k) d all lt = all_at P xs k d all.1 (omega arith)

module _ {C M : Type 0} (client : Ghosts C M) where
  -- ---- replays

  -- the lines of two journals in a row
  pub replay_from-append : (m : State C M) (xs ys : List (JournalLine M)) →
      replay_from client m (xs ++ ys) ≡ replay_from client (replay_from client m xs) ys
  replay_from-append m [] ys = refl
  replay_from-append m (x ∷ xs) ys = replay_from-append (next client m x.entry.step) xs ys

  -- one line more
  pub replay_from-more : (m : State C M) (lines : List (JournalLine M)) (line : JournalLine M) →
      replay_from client m (lines ++ line ∷ []) ≡ next client (replay_from client m lines) line.entry.step
  replay_from-more m lines line = replay_from-append m lines (line ∷ [])

  -- the replay of a journal and of one line more
  pub replay-more : (items : List (Item C)) (lines : List (JournalLine M)) (line : JournalLine M) →
      replay client items (lines ++ line ∷ []) ≡ next client (replay client items lines) line.entry.step
  replay-more items lines line = replay_from-more (start items) lines line

  -- the replay of a journal and of more lines
  pub replay-append : (items : List (Item C)) (xs ys : List (JournalLine M)) →
      replay client items (xs ++ ys) ≡ replay_from client (replay client items xs) ys
  replay-append items xs ys = replay_from-append (start items) xs ys

  -- ---- legal journals

  -- lines that the machine makes, and then more from the state after them
  pub legal_from-append : (t : Nodes) (m : State C M) (xs ys : List (JournalLine M)) → IsLegalFrom client t m xs →
      IsLegalFrom client t (replay_from client m xs) ys → IsLegalFrom client t m (xs ++ ys)
  legal_from-append t m [] ys first second = second
  legal_from-append t m (x ∷ xs) ys first second = (first.0, legal_from-append t (next client m x.entry.step) xs ys first.1 second)

  -- more lines of a journal
  pub legal-append : (items : List (Item C)) (xs ys : List (JournalLine M)) → IsLegal client items xs →
      IsLegalFrom client (tree_of items).nodes (replay client items xs) ys → IsLegal client items (xs ++ ys)
  legal-append items xs ys first second = legal_from-append (tree_of items).nodes (start items) xs ys first second

  -- one line more of a journal
  pub one_more : (items : List (Item C)) (lines : List (JournalLine M)) (line : JournalLine M) → IsLegal client items lines →
      IsLegalLine client (tree_of items).nodes (replay client items lines) line → IsLegal client items (lines ++ line ∷ [])
  one_more items lines line legal made = legal-append items lines (line ∷ []) legal (made, tt)

  -- ---- steps in a row

  -- steps, and then more
  pub after_steps-append : (m : State C M) (xs ys : List (Step M)) →
      after_steps client m (xs ++ ys) ≡ after_steps client (after_steps client m xs) ys
  after_steps-append m [] ys = refl
  after_steps-append m (x ∷ xs) ys = after_steps-append (next client m x) xs ys

  -- their lines
  pub lines_of-append : (actor : Actor) (held : List Level) (m : State C M) (xs ys : List (Step M)) →
      lines_of_steps client actor held m (xs ++ ys) ≡ lines_of_steps client actor held m xs ++ lines_of_steps client actor held (after_steps client m xs) ys
  lines_of-append actor held m [] ys = refl
  lines_of-append actor held m (x ∷ xs) ys =
      ap (λ (ls : List (JournalLine M)). line_of_step client m actor held x ∷ ls) (lines_of-append actor held (next client m x) xs ys)

  -- the lines of one step more
  pub lines_of-more : (actor : Actor) (held : List Level) (m : State C M) (xs : List (Step M)) (step : Step M) →
      lines_of_steps client actor held m (xs ++ step ∷ [])
      ≡ lines_of_steps client actor held m xs ++ line_of_step client (after_steps client m xs) actor held step ∷ []
  lines_of-more actor held m xs step = lines_of-append actor held m xs (step ∷ [])

  -- and their lines
  pub lines_of-take : (actor : Actor) (held : List Level) (m : State C M) (steps : List (Step M)) (k : ℕ) (d : Step M) → k < length steps →
      lines_of_steps client actor held m (take (k + 1) steps)
      ≡ lines_of_steps client actor held m (take k steps) ++ line_of_step client (after_steps client m (take k steps)) actor held (get_or steps k d) ∷ []
  lines_of-take actor held m steps k d lt =
      ap (λ (xs : List (Step M)). lines_of_steps client actor held m xs) (take_more steps k d lt)
      ∙ lines_of-more actor held m (take k steps) (get_or steps k d)

  -- the replay of the lines of steps is the state after the steps
  pub replay_from-lines_of : (actor : Actor) (held : List Level) (m : State C M) (xs : List (Step M)) →
      replay_from client m (lines_of_steps client actor held m xs) ≡ after_steps client m xs
  replay_from-lines_of actor held m [] = refl
  replay_from-lines_of actor held m (x ∷ xs) = replay_from-lines_of actor held (next client m x) xs

  -- the lines of steps in a row, each with its levels, and then of more
  pub lines_by-append : (actor : Actor) (m : State C M) (xs ys : List (List Level × Step M)) →
      lines_by client actor m (xs ++ ys)
      ≡ lines_by client actor m xs ++ lines_by client actor (replay_from client m (lines_by client actor m xs)) ys
  lines_by-append actor m [] ys = refl
  lines_by-append actor m (x ∷ xs) ys =
      ap (λ (ls : List (JournalLine M)). line_of_step client m actor x.0 x.1 ∷ ls) (lines_by-append actor (next client m x.1) xs ys)

  -- a step that is for its actor makes a legal line
  pub legal_line : (t : Nodes) (m : State C M) (actor : Actor) (held : List Level) (step : Step M) → IsFor t actor held step →
      IsLegalLine client t m (line_of_step client m actor held step)
  legal_line t m actor held step is = record { allowed = is; made = refl }

  -- steps in a row that are for their actor make legal lines
  pub legal_lines : (t : Nodes) (m : State C M) (actor : Actor) (held : List Level) (steps : List (Step M)) →
      AllByRecursion (IsFor t actor held) steps → IsLegalFrom client t m (lines_of_steps client actor held m steps)
  legal_lines t m actor held [] all = tt
  legal_lines t m actor held (x ∷ xs) all = (legal_line t m actor held x all.0, legal_lines t (next client m x) actor held xs all.1)
