-- Parts of a script: what is made from one sync to the next.
use Rattle.std.specs.Prelude.{List}
use Rattle.tr_journal.specs.declared.steps.Actor.{Actor}
use Rattle.tr_journal.specs.declared.steps.Query.{Query}
use Rattle.tr_journal.specs.declared.steps.Step.{Step}

-- a part of a script: its reports, and then its steps, each with its actor
pub record Part (M : Type 0) : Type 0 where
  pub reports : List Query
  pub steps : List (Actor × Step M)
