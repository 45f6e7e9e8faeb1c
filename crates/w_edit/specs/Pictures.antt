-- The picture of an editor, and the paint commands that lead from one picture to the next.
use Rattle.std.specs.Prelude.{ℕ, ◌+◌, ◌-◌, ◌*◌, ◌==◌, pos, Bool, true, false, not, ◌&&◌, ◌||◌, if◌then◌else◌, List, [], ◌∷◌, ◌++◌, length, take, drop, map}
use Rattle.std.specs.List.{range_with_len}
use Rattle.tr_base.specs.declared.Point.{Point}
use Rattle.tr_base.specs.declared.Size.{Size}
use Rattle.tr_base.specs.declared.Op.TheVariants.{Bg, Exchange}
use Rattle.tr_base.specs.Ops.{exchanged}
use Rattle.tr_base.specs.Rects.{Edges, empty_rect, has_point, meet_of, rect_of, whole_of}
use Rattle.tr_paint.specs.declared.Paint.{Paint}
use Rattle.tr_paint.specs.declared.Paint.TheVariants.{Tint, Text, Scroll}
use Rattle.tr_paint.specs.Traces.{Look}
use Rattle.tr_paint.specs.Batches.{batch_of}
use Rattle.tr_client.specs.Plain.{plain}
use Rattle.tr_client.specs.Texts.{room, begin_of, colour_in, strips_between, upwards, downwards}
use Rattle.w_edit.specs.declared.commands.EditorCmd.{EditorCmd}
use Rattle.w_edit.specs.declared.commands.EditorCmd.TheVariants.{Insert, Erase, Split, Goto, Copy, Paste}
use Rattle.w_edit.specs.Contents.{Contents, line_at, acts, effect}

-- the row at the top of the window: the first row, or the one from which on the caret's row is the last that has room
abbrev pub top : Size → Contents → ℕ
top size x = if room size == 0 then 0 else x.row + 1 - room size

-- the lines that the window shows, from north to south
abbrev pub shown_lines : Size → Contents → List (List ℕ)
shown_lines size x = take (room size) (drop (top size x) x.lines)

-- the cell of a column, in the strip with `above` others above it
abbrev pub cell : ℕ → ℕ → Edges
cell column over = rect_of (pos (8 * column)) (pos (8 * column + 8)) (pos (8 * over)) (pos (8 * over + 8))

-- the strip of the caret: the number of strips above it
abbrev pub caret_strip : Size → Contents → ℕ
caret_strip size x = x.row - top size x

-- the caret's cell
abbrev pub caret : Size → Contents → Edges
caret size x = cell x.column (caret_strip size x)

-- in the caret's cell background and foreground change places
abbrev pub inverted : Edges → Point → ℕ → ℕ
inverted e q colour = if has_point e q then exchanged 0 1 colour else colour

-- the lines with the caret; if no line has room, all is background
abbrev pub editor_pic : Look → Size → Contents → Point → ℕ
editor_pic look size x q = if room size == 0 then 0 else inverted (caret size x) q (colour_in look (shown_lines size x) q)

-- the strip of a window with `above` others above it
abbrev pub strip : Size → ℕ → Edges
strip size i = strips_between size i (i + 1)

-- the line of a strip is written; a line that the text doesn't have is empty, and so is its area
abbrev pub written : Size → Contents → ℕ → Paint
written size x i = Text plain (strip size i) (begin_of i) (line_at x (top size x + i))

-- the strip becomes background, and its line is written
abbrev pub put : Size → Contents → ℕ → List Paint
put size x i = Tint (strip size i) Bg ∷ written size x i ∷ []

-- background and foreground change places in the caret's cell
abbrev pub mark : Size → Contents → Paint
mark size x = Tint (meet_of (whole_of size) (caret size x)) (Exchange 0 1)

-- each strip from `from` to before `to` gets the pixels of the strip below it; `lowered` takes the strip above it
abbrev pub raised : Size → ℕ → ℕ → Paint
raised size from to = Scroll (strips_between size from to) upwards

abbrev pub lowered : Size → ℕ → ℕ → Paint
lowered size from to = Scroll (strips_between size from to) downwards

-- all becomes background, and each line that is shown is written
abbrev pub whole_painting : Size → Contents → List Paint
whole_painting size y = Tint (whole_of size) Bg ∷ map (written size y) (range_with_len 0 (length (shown_lines size y)))

-- within a line: the caret's strip is painted anew
abbrev pub rewritten : Size → Contents → List Paint
rewritten size y = put size y (caret_strip size y)

-- from one content to another with the same text, by the new top: the same, the next, the one before, or any other
abbrev pub caret_moved : Size → Contents → Contents → List Paint
caret_moved size x y =
    let last = room size - 1 in
    if top size y == top size x then mark size x ∷ []
    else if top size y == top size x + 1 then mark size x ∷ raised size 0 last ∷ put size y last
    else if top size x == top size y + 1 then mark size x ∷ lowered size 1 (room size) ∷ put size y 0
    else whole_painting size y

-- after a line was broken
abbrev pub line_broken : Size → Contents → Contents → List Paint
line_broken size x y =
    let i = caret_strip size y in
    if top size y == top size x then lowered size (i + 1) (room size) ∷ put size y (i - 1) ++ put size y i
    else whole_painting size y

-- after two lines were joined
abbrev pub lines_joined : Size → Contents → Contents → List Paint
lines_joined size x y =
    let i = caret_strip size y in
    let last = room size - 1 in
    if top size y == top size x then raised size (i + 1) last ∷ put size y last ++ put size y i
    else whole_painting size y

-- the paint commands before the mark, from the content x to y
abbrev pub patch_without_mark : Size → Contents → Contents → EditorCmd → List Paint
patch_without_mark size x y (Insert text) = rewritten size y
patch_without_mark size x y Erase = if x.column == 0 then lines_joined size x y else rewritten size y
patch_without_mark size x y Split = line_broken size x y
patch_without_mark size x y (Goto row column) = caret_moved size x y
patch_without_mark size x y (Copy from to) = []
patch_without_mark size x y Paste = rewritten size y

-- a copy changes nothing in the picture
abbrev pub is_copy : EditorCmd → Bool
is_copy (Copy from to) = true
is_copy cmd = false

-- a command's patch; it is empty if no line has room, for a copy, and if the command isn't effective
abbrev pub editor_patch : Look → Size → Contents → EditorCmd → List Paint
editor_patch look size x cmd =
    if room size == 0 || is_copy cmd || not (acts x cmd) then []
    else let y = effect x cmd in batch_of (patch_without_mark size x y cmd ++ mark size y ∷ [])

-- the points in both windows, if they show the same lines, and else no point
abbrev pub editor_keeps : Contents → Size → Size → Edges
editor_keeps x from to =
    if top from x == top to x && length (shown_lines from x) == length (shown_lines to x)
    then meet_of (whole_of from) (whole_of to) else empty_rect
