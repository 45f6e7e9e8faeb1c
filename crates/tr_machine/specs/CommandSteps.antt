-- Commands that are handed over: their steps, and their entries.
use Rattle.std.specs.Prelude.{List, [], ◌∷◌, ◌++◌, map}
use Rattle.tr_base.specs.declared.LeafId.{LeafId}
use Rattle.tr_levels.specs.declared.Level.{Level}
use Rattle.tr_levels.specs.declared.Level.TheVariants.{Win}
use Rattle.tr_journal.specs.declared.answers.Answer.TheVariants.{Done}
use Rattle.tr_journal.specs.declared.steps.Actor.TheVariants as actors
use Rattle.tr_journal.specs.declared.steps.Step.{Step}
use Rattle.tr_journal.specs.declared.steps.Step.TheVariants.{Act}
use Rattle.tr_journal.specs.declared.entries.Entry.{Entry}

-- the steps of commands in a row, each with the levels held when its command was posted, and the window's level
abbrev pub act_steps : {M : Type 0} → LeafId → List M → List (List Level) → List (List Level × Step M)
act_steps leaf (cmd ∷ cmds) (level ∷ levels) = (level ++ Win leaf ∷ [], Act leaf cmd) ∷ act_steps leaf cmds levels
act_steps leaf cmds levels = []

-- the entry of a command of the leaf's client: it is done, and sends nothing
abbrev pub act_entry : {M : Type 0} → LeafId → (List Level × Step M) → Entry M
act_entry leaf made = record {
  actor = actors.Leaf leaf;
  level = made.0;
  step = made.1;
  reply = record { answer = Done; sent = 0 };
}

-- the entries of commands in a row
abbrev pub act_entries : {M : Type 0} → LeafId → List M → List (List Level) → List (Entry M)
act_entries leaf cmds levels = map (act_entry leaf) (act_steps leaf cmds levels)
