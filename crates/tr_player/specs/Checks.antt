-- The limits of a check; they are additional to those of all scripts.
use Rattle.std.specs.Prelude.{ℕ, nat_le, ◌*◌, Bool, true, ◌&&◌, List, length, Option, Some, None, if◌then◌else◌, sum_by}
use Rattle.std.specs.List.{list_all}
use Rattle.tr_base.specs.declared.Size.{Size}
use Rattle.tr_forest.specs.declared.Edit.{Edit}
use Rattle.tr_forest.specs.declared.Edit.TheVariants as edits
use Rattle.tr_journal.specs.declared.Actor.{Actor}
use Rattle.tr_journal.specs.Openings.{tree_of}
use Rattle.tr_journal.specs.declared.Step.{Step}
use Rattle.tr_journal.specs.declared.Step.TheVariants as steps
use Rattle.tr_widget.specs.declared.WidgetCmd.{WidgetCmd}
use Rattle.tr_journal.specs.Parts.{Part}
use Rattle.tr_grammar.specs.declared.Code.TheVariants.{B7}
use Rattle.tr_grammar.specs.Scripts.{Refusal, Script, refused_at}

-- a screen of at most 65,536 pixels
abbrev pub is_small : Size → Bool
is_small size = nat_le (size.wide * size.high) 65536

-- an edit after which the screen has at most 65,536 pixels
abbrev pub is_small_edit : Edit → Bool
is_small_edit (edits.Resize size) = is_small size
is_small_edit edit = true

-- a step after which the screen has at most 65,536 pixels
abbrev pub is_small_step : Actor × Step WidgetCmd → Bool
is_small_step (actor, steps.Alter edit) = is_small_edit edit
is_small_step made = true

-- a part of such steps
abbrev pub is_small_part : Part WidgetCmd → Bool
is_small_part part = list_all is_small_step part.steps

-- the number of steps
abbrev pub step_count : List (Part WidgetCmd) → ℕ
step_count parts = sum_by (λ part. length part.steps) parts

-- at most 2,000 steps, and no screen of more than 65,536 pixels
unfoldable pub is_checkable : Script → Bool
is_checkable s =
    nat_le (step_count s.parts) 2000 && (is_small (tree_of s.opening).size && list_all is_small_part s.parts)

-- the refusal of a script that isn't checked: B7 at line 0, which means the whole text
abbrev pub check_refusal : Script → Option Refusal
check_refusal s = if is_checkable s then None else Some (refused_at 0 B7)
