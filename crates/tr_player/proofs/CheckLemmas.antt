-- The limits of a check, as the loops try them.
use Rattle.std.proofs.Common.{ℕ, List, take}
use Rattle.tr_widget.specs.declared.WidgetCmd.{WidgetCmd}
use Rattle.tr_journal.specs.Parts.{Part}
use Rattle.tr_player.specs.Checks.{step_count}

-- the steps of the first parts
abbrev pub steps_before : ℕ → List (Part WidgetCmd) → ℕ
steps_before i parts = step_count (take i parts)
