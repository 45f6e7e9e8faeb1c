-- Lines that are read separately from those before them.
use Rattle.std.specs.Prelude.{◌≡◌, ℕ, List, All, ◌++◌, Bool, ◌&&◌, Option, Some, None, is_none, if◌then◌else◌}
use Rattle.tr_grammar.specs.declared.Meaning.{Meaning}
use Rattle.tr_grammar.specs.Texts.{is_silent}
use Rattle.tr_grammar.specs.Words.{words_of}
use Rattle.tr_grammar.specs.Forms.{Form, form_of}
use Rattle.tr_grammar.specs.Meanings.{meaning_of}
use Rattle.tr_grammar.specs.States.{SoFar}
use Rattle.tr_grammar.specs.Faults.{fault_of, nodes_so_far}
use Rattle.tr_grammar.specs.Scripts.{after_line, IsPlayable}
use Rattle.tr_journal.specs.declared.Actor.{Actor}
use Rattle.tr_journal.specs.declared.Step.{Step}
use Rattle.tr_widget.specs.declared.WidgetCmd.{WidgetCmd}
use Rattle.tr_reader.specs.Adding.{is_at_steps, with_steps}

-- the meaning of the words, if they have a form
abbrev pub meaning_as : SoFar → Option Form → List (List ℕ) → Option Meaning
meaning_as c None ws = None
meaning_as c (Some f) ws = Some (meaning_of c.names ws f)

-- the meaning of a line after c, if it isn't silent and its words have a form
unfoldable pub meaning_of_line : SoFar → List ℕ → Option Meaning
meaning_of_line c line = if is_silent line then None else meaning_as c (form_of c.version (words_of line)) (words_of line)

-- line n after c, whose last line made a step, has no fault, and is silent or makes a step too
abbrev pub stays_at_steps : SoFar → ℕ → List ℕ → Bool
stays_at_steps c n line = is_none (fault_of c n line) && is_at_steps (after_line c line).place

-- After c, whose last line made a step, any more steps and then the old ones, line n has no fault. The new steps are the old ones and the
-- line's step, if it makes one; if the old ones can be played, the new ones can too.
pub record TakesStep (c : SoFar) (n : ℕ) (line : List ℕ) (old new : List (Actor × Step WidgetCmd)) : Type 0 where
  pub fault : (before : List (Actor × Step WidgetCmd)) → fault_of (with_steps c (before ++ old)) n line ≡ None
  pub script : (before : List (Actor × Step WidgetCmd)) → after_line (with_steps c (before ++ old)) line ≡ with_steps c (before ++ new)
  pub playable : All (IsPlayable (nodes_so_far c)) old → All (IsPlayable (nodes_so_far c)) new
