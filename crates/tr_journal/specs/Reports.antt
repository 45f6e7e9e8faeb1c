-- Steps that are reports.
use Rattle.std.specs.Prelude.{Bool, true, false}
use Rattle.tr_journal.specs.declared.steps.Step.{Step}
use Rattle.tr_journal.specs.declared.steps.Step.TheVariants as steps

-- the step is a report
abbrev pub is_report : {M : Type 0} → Step M → Bool
is_report (steps.Report query) = true
is_report step = false
