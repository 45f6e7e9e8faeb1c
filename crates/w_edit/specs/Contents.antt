-- Editors: a text of lines with a caret in it, and a clip; and the effects of commands on them.
use Rattle.std.specs.Prelude.{ℕ, ◌+◌, ◌-◌, ◌<◌, ◌≤◌, ◌==◌, nat_lt, nat_le, min, Bool, true, ◌&&◌, not, if◌then◌else◌, List, [], ◌∷◌, ◌++◌, length, take, drop, slice_index_or, All, Option, Some, None, codes, decimal}
use Rattle.tr_base.specs.declared.Event.{Event}
use Rattle.tr_base.specs.declared.Event.TheVariants.{Key}
use Rattle.tr_base.specs.Lines.{IsLine, is_printable}
use Rattle.tr_client.specs.Words.{with_text}
use Rattle.tr_client.specs.Texts.{most_lines}
use Rattle.w_edit.specs.Numbers.{most_bytes, IsRowNumber, IsColumn}
use Rattle.w_edit.specs.declared.commands.EditorCmd.{EditorCmd}
use Rattle.w_edit.specs.declared.commands.EditorCmd.TheVariants.{Insert, Erase, Split, Goto, Copy, Paste}

-- the model of an editor: the lines of its text from north to south, the row and the column of the caret, and the clip
pub record Contents : Type 0 where
  pub lines : List (List ℕ)
  pub row : ℕ
  pub column : ℕ
  pub clip : List ℕ

-- the line of a row, or an empty one if the row has none
abbrev pub line_at : Contents → ℕ → List ℕ
line_at x row = slice_index_or x.lines row []

-- the caret's line, its bytes before and behind the caret, and the lines above and below it
abbrev pub line_of : Contents → List ℕ
line_of x = line_at x x.row

abbrev pub before : Contents → List ℕ
before x = take x.column (line_of x)

abbrev pub behind : Contents → List ℕ
behind x = drop x.column (line_of x)

abbrev pub above : Contents → List (List ℕ)
above x = take x.row x.lines

abbrev pub below : Contents → List (List ℕ)
below x = drop (x.row + 1) x.lines

-- there are at most 200 lines, the caret lies in one of them or at its end, and each of them and the clip has the bytes of a line
pub record IsContents (x : Contents) : Type 0 where
  pub row : x.row < length x.lines
  pub few : length x.lines ≤ most_lines
  pub each : All IsLine x.lines
  pub column : x.column ≤ length (line_of x)
  pub clip : IsLine x.clip

-- the first content of an editor: one empty line
abbrev pub empty_text : Contents
empty_text = record { lines = [] ∷ []; row = 0; column = 0; clip = [] }

-- another text and caret; the clip stays
abbrev pub with_lines : Contents → List (List ℕ) → ℕ → ℕ → Contents
with_lines x lines row column = record { lines = lines; row = row; column = column; clip = x.clip }

-- bytes are inserted at the caret, which moves behind them
abbrev pub inserted : Contents → List ℕ → Contents
inserted x text = with_lines x (above x ++ (before x ++ text ++ behind x) ∷ below x) x.row (x.column + length text)

-- the byte before the caret is removed
abbrev pub erased : Contents → Contents
erased x = with_lines x (above x ++ (take (x.column - 1) (line_of x) ++ behind x) ∷ below x) x.row (x.column - 1)

-- the caret's line is joined to the one above it, and the caret lies at the seam
abbrev pub joined_above : Contents → Contents
joined_above x =
    let upper = line_at x (x.row - 1) in
    with_lines x (take (x.row - 1) x.lines ++ (upper ++ line_of x) ∷ below x) (x.row - 1) (length upper)

-- the line is broken at the caret, which moves to the beginning of the next row
abbrev pub broken : Contents → Contents
broken x = with_lines x (above x ++ before x ∷ behind x ∷ below x) (x.row + 1) 0

-- the caret moves to a row and a column, or to the nearest place of the text
abbrev pub caret_to : Contents → ℕ → ℕ → Contents
caret_to x row column =
    let r = min row (length x.lines - 1) in
    with_lines x x.lines r (min column (length (line_at x r)))

-- the clip becomes the bytes of the caret's line from one place to before another, as far as they exist
abbrev pub copied : Contents → ℕ → ℕ → Contents
copied x from to = record { lines = x.lines; row = x.row; column = x.column; clip = drop from (take to (line_of x)) }

-- the effect of a command
abbrev pub effect : Contents → EditorCmd → Contents
effect x (Insert text) = inserted x text
effect x Erase = if x.column == 0 then joined_above x else erased x
effect x Split = broken x
effect x (Goto row column) = caret_to x row column
effect x (Copy from to) = copied x from to
effect x Paste = inserted x x.clip

-- bytes can be inserted at the caret: there are some, and the line has room for them
abbrev pub fits : Contents → List ℕ → Bool
fits x text = nat_lt 0 (length text) && nat_le (length (line_of x) + length text) most_bytes

-- the caret's line can be joined to the one above it: there is one, and it has room
abbrev pub can_join : Contents → Bool
can_join x = nat_lt 0 x.row && nat_le (length (line_at x (x.row - 1)) + length (line_of x)) most_bytes

-- the caret is at another place
abbrev pub has_moved : Contents → Contents → Bool
has_moved x y = not (y.row == x.row && y.column == x.column)

-- a command is effective: it changes the content, or it copies; a copy of bytes that are the clip already changes nothing
abbrev pub acts : Contents → EditorCmd → Bool
acts x (Insert text) = fits x text
acts x Erase = if x.column == 0 then can_join x else true
acts x Split = nat_lt (length x.lines) most_lines
acts x (Goto row column) = has_moved x (caret_to x row column)
acts x (Copy from to) = true
acts x Paste = fits x x.clip

-- the content after a command
abbrev pub editor_next : Contents → EditorCmd → Contents
editor_next x cmd = if acts x cmd then effect x cmd else x

-- the text of a command is a line, and its numbers are rows and columns
abbrev pub IsEditorCmd : EditorCmd → Type 0
IsEditorCmd (Insert text) = IsLine text
IsEditorCmd (Goto row column) = IsRowNumber row × IsColumn column
IsEditorCmd (Copy from to) = IsColumn from × IsColumn to
IsEditorCmd cmd = Unit {0}

-- the words of a command in a script
abbrev pub editor_words : EditorCmd → List ℕ
editor_words (Insert text) = with_text (codes "insert") text
editor_words Erase = codes "erase"
editor_words Split = codes "split"
editor_words (Goto row column) = codes "goto " ++ decimal row ++ codes " " ++ decimal column
editor_words (Copy from to) = codes "copy " ++ decimal from ++ codes " " ++ decimal to
editor_words Paste = codes "paste"

-- a printable key asks for its byte, Key 8 to erase, and Key 13 to break the line
abbrev pub editor_answer : Contents → Event → Option EditorCmd
editor_answer x (Key time code) =
    if is_printable code then Some (Insert (code ∷ [])) else if code == 8 then Some Erase else if code == 13 then Some Split else None
editor_answer x event = None

-- other leaves read the clip
abbrev pub editor_value : Contents → List ℕ
editor_value x = x.clip
