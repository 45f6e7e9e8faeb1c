-- Journals as runs of the machine.
use Rattle.std.specs.Prelude.{◌≡◌, ⊤, List, [], ◌∷◌, length, map}
use Rattle.tr_client.specs.declared.clients.Client.{Ghosts}
use Rattle.tr_forest.specs.Nodes.{Nodes}
use Rattle.tr_levels.specs.declared.Level.{Level}
use Rattle.tr_journal.specs.declared.items.Item.{Item}
use Rattle.tr_journal.specs.declared.steps.Actor.{Actor}
use Rattle.tr_journal.specs.declared.steps.Step.{Step}
use Rattle.tr_journal.specs.Journals.{JournalLine}
use Rattle.tr_journal.specs.Openings.{tree_of}
use Rattle.tr_journal.specs.Steps.{IsFor}
use Rattle.tr_machine.specs.States.{State, start}
use Rattle.tr_machine.specs.Machines as machine

-- each of these steps, with the same levels held
abbrev pub under : {M : Type 0} → List Level → List (Step M) → List (List Level × Step M)
under level steps = map (λ step. (level, step)) steps

module _ {C M : Type 0} (client : Ghosts C M) where
  -- the state after a step
  abbrev pub next : State C M → Step M → State C M
  next m step = (machine.step client m step).state

  -- the line of a step in a journal: its actor, the levels held, its answer, and its deliveries
  abbrev pub line_of_step : State C M → Actor → List Level → Step M → JournalLine M
  line_of_step m actor level step =
      let out = machine.step client m step in
      record {
        entry = record {
          actor = actor;
          level = level;
          step = step;
          reply = record { answer = out.answer; sent = length out.sent };
        };
        sent = out.sent;
      }

  -- the lines of steps in a row, all by one actor, each with its levels held
  abbrev pub lines_by : Actor → State C M → List (List Level × Step M) → List (JournalLine M)
  lines_by actor m [] = []
  lines_by actor m (made ∷ later) = line_of_step m actor made.0 made.1 ∷ lines_by actor (next m made.1) later

  -- the lines of steps with the same levels held
  abbrev pub lines_of_steps : Actor → List Level → State C M → List (Step M) → List (JournalLine M)
  lines_of_steps actor level m steps = lines_by actor m (under level steps)

  -- the state after steps in a row
  abbrev pub after_steps : State C M → List (Step M) → State C M
  after_steps m [] = m
  after_steps m (step ∷ steps) = after_steps (next m step) steps

  -- the state after the steps of some lines
  abbrev pub replay_from : State C M → List (JournalLine M) → State C M
  replay_from m [] = m
  replay_from m (line ∷ lines) = replay_from (next m line.entry.step) lines

  -- the state after a journal, from its opening
  abbrev pub replay : List (Item C) → List (JournalLine M) → State C M
  replay items lines = replay_from (start items) lines

  -- a line of the machine: its actor may make its step with the held levels, and its answer and deliveries are the
  -- machine's
  pub record IsLegalLine (t : Nodes) (m : State C M) (line : JournalLine M) : Type 0 where
    pub allowed : IsFor t line.entry.actor line.entry.level line.entry.step
    pub made : line ≡ line_of_step m line.entry.actor line.entry.level line.entry.step

  -- each line is one of the machine, from a state on
  abbrev pub IsLegalFrom : Nodes → State C M → List (JournalLine M) → Type 0
  IsLegalFrom t m [] = ⊤
  IsLegalFrom t m (line ∷ lines) = IsLegalLine t m line × IsLegalFrom t (next m line.entry.step) lines

  -- a journal of the machine, from an opening on
  abbrev pub IsLegal : List (Item C) → List (JournalLine M) → Type 0
  IsLegal items lines = IsLegalFrom (tree_of items).nodes (start items) lines
