-- Windows that show the last lines of a typescript.
use Rattle.std.specs.Prelude.{ℕ, ◌-◌, ◌<◌, ◌≤◌, ◌==◌, nat_lt, min, if◌then◌else◌, List, [], ◌∷◌, ◌++◌, length, drop, slice_index_or, All, Option, Some, None, codes}
use Rattle.tr_base.specs.declared.Point.{Point}
use Rattle.tr_base.specs.declared.Size.{Size}
use Rattle.tr_base.specs.declared.Event.{Event}
use Rattle.tr_base.specs.declared.Event.TheVariants.{Key}
use Rattle.tr_base.specs.declared.Op.TheVariants.{Bg}
use Rattle.tr_base.specs.Rects.{Edges, empty_rect, meet_of, whole_of}
use Rattle.tr_base.specs.Lines.{IsLine, is_printable}
use Rattle.tr_paint.specs.declared.Paint.{Paint}
use Rattle.tr_paint.specs.declared.Paint.TheVariants.{Tint, Text, Scroll}
use Rattle.tr_paint.specs.Traces.{Look}
use Rattle.tr_paint.specs.Batches.{batch_of}
use Rattle.tr_client.specs.Plain.{plain}
use Rattle.tr_client.specs.Texts.{room, begin_of, colour_in, strips_between, upwards, cleared, most_lines}
use Rattle.tr_client.specs.Words.{with_text}
use Rattle.w_lines.specs.declared.commands.LinesCmd.{LinesCmd}
use Rattle.w_lines.specs.declared.commands.LinesCmd.TheVariants.{Line, Clear}

-- the last n lines, or all if there are fewer
abbrev pub newest_lines : ℕ → List (List ℕ) → List (List ℕ)
newest_lines n lines = drop (length lines - n) lines

-- there are at most 200 lines, and each has at most 80 bytes, all of them printable
pub record IsLines (lines : List (List ℕ)) : Type 0 where
  pub few : length lines ≤ most_lines
  pub each : All IsLine lines

-- lines lie in a block after fewer than 200 others that are no longer kept
pub record IsBlock (stale : ℕ) (block : List (List ℕ)) : Type 0 where
  pub within : stale ≤ length block
  pub few : stale < most_lines
  pub lines : IsLines (drop stale block)

-- the text of a command is a line
abbrev pub IsLinesCmd : LinesCmd → Type 0
IsLinesCmd (Line line) = IsLine line
IsLinesCmd Clear = Unit {0}

-- the words of a command in a script: the text is the rest of the script's line
abbrev pub lines_words : LinesCmd → List ℕ
lines_words (Line line) = with_text (codes "line") line
lines_words Clear = codes "clear"

-- a window shows as many of the last lines as it has room for
abbrev pub lines_pic : Look → Size → List (List ℕ) → Point → ℕ
lines_pic look size lines q = colour_in look (newest_lines (room size) lines) q

-- a command adds a line after the others, and only the last 200 lines are kept; or it removes all lines
abbrev pub lines_next : List (List ℕ) → LinesCmd → List (List ℕ)
lines_next lines (Line line) = newest_lines most_lines (lines ++ line ∷ [])
lines_next lines Clear = []

-- a line is written below `above` others
abbrev pub written_below : Size → ℕ → List ℕ → List Paint
written_below size above line = batch_of (Text plain (whole_of size) (begin_of above) line ∷ [])

-- the lines of a window that is full with `count` lines move upwards, and a line is written in place of the last one
abbrev pub moved_up : Size → ℕ → List ℕ → List Paint
moved_up size count line =
    let last = count - 1 in
    batch_of (Scroll (strips_between size 0 last) upwards ∷ Tint (strips_between size last count) Bg
    ∷ Text plain (whole_of size) (begin_of last) line ∷ [])

-- the most lines that a window shows
abbrev pub most_shown : Size → ℕ
most_shown size = min (room size) most_lines

-- a new line is written below the others; if there is no room, they move upwards; if no line has room, nothing is painted
abbrev pub line_patch : Size → List (List ℕ) → List ℕ → List Paint
line_patch size lines line =
    let count = most_shown size in
    if count == 0 then [] else if nat_lt (length lines) count then written_below size (length lines) line else moved_up size count line

-- a command's patch: the patch of a line, or all of the window becomes background
abbrev pub lines_patch : Look → Size → List (List ℕ) → LinesCmd → List Paint
lines_patch look size lines (Line line) = line_patch size lines line
lines_patch look size lines Clear = cleared (whole_of size)

-- a printable key asks for a line of its byte
abbrev pub lines_answer : List (List ℕ) → Event → Option LinesCmd
lines_answer lines (Key time code) = if is_printable code then Some (Line (code ∷ [])) else None
lines_answer lines event = None

-- the last line, or an empty one if there is none
abbrev pub lines_value : List (List ℕ) → List ℕ
lines_value lines = slice_index_or lines (length lines - 1) []

-- the points in both windows, if they show the same number of lines, and else no point
abbrev pub lines_keeps : List (List ℕ) → Size → Size → Edges
lines_keeps lines from to =
    if min (length lines) (room from) == min (length lines) (room to) then meet_of (whole_of from) (whole_of to) else empty_rect
