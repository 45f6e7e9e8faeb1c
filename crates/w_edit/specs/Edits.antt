-- Private contracts alone cite this file.
-- An edit of a text: the lines that replace others, and the new place of the caret.
use Rattle.std.specs.Prelude.{◌≡◌, ◌+◌, ◌-◌, ◌<◌, ◌∷◌, ◌++◌, take}
use Rattle.w_edit.specs.declared.changes.Edit.{Edit}
use Rattle.w_edit.specs.declared.changes.Edit.TheVariants.{Line, Joined, Broken, Caret, Clip}
use Rattle.w_edit.specs.Contents.{Contents, above, below, with_lines}

-- the content after an edit
abbrev pub edited_contents : Contents → Edit → Contents
edited_contents x (Line line column) = with_lines x (above x ++ line ∷ below x) x.row column
edited_contents x (Joined line column) = with_lines x (take (x.row - 1) x.lines ++ line ∷ below x) (x.row - 1) column
edited_contents x (Broken front back) = with_lines x (above x ++ front ∷ back ∷ below x) (x.row + 1) 0
edited_contents x (Caret row column) = with_lines x x.lines row column
edited_contents x (Clip text) = record { lines = x.lines; row = x.row; column = x.column; clip = text }

-- lines are joined only if there is a line above the caret's
abbrev pub IsEditOf : Contents → Edit → Type 0
IsEditOf x (Joined line column) = 0 < x.row
IsEditOf x edit = Unit {0}

-- an edit of one content makes another one
abbrev pub MakesContents : Contents → Edit → Contents → Type 0
MakesContents x edit y = IsEditOf x edit × (edited_contents x edit ≡ y)
