-- Windows with one line of text.
use Rattle.std.specs.Prelude.{ℕ, ◌&&◌, nat_lt, if◌then◌else◌, List, [], ◌∷◌, ◌++◌, length, Option, Some, None, codes}
use Rattle.tr_base.specs.declared.Point.{Point}
use Rattle.tr_base.specs.declared.Size.{Size}
use Rattle.tr_base.specs.declared.Event.{Event}
use Rattle.tr_base.specs.declared.Event.TheVariants.{Key}
use Rattle.tr_base.specs.declared.Op.TheVariants.{Bg}
use Rattle.tr_base.specs.Rects.{Edges, has_point, meet_of, origin, whole_of}
use Rattle.tr_base.specs.Lines.{IsLine, is_printable}
use Rattle.tr_paint.specs.declared.Paint.{Paint}
use Rattle.tr_paint.specs.declared.Paint.TheVariants.{Tint, Text as Written}
use Rattle.tr_paint.specs.Paints.{cells_of, text_bit}
use Rattle.tr_paint.specs.Traces.{Look}
use Rattle.tr_paint.specs.Batches.{batch_of}
use Rattle.tr_client.specs.Plain.{plain, colour_of}
use Rattle.tr_client.specs.Words.{with_text}
use Rattle.w_plain.specs.declared.labels.Label.{Label}
use Rattle.w_plain.specs.declared.labels.LabelCmd.{LabelCmd}
use Rattle.w_plain.specs.declared.labels.LabelCmd.TheVariants.{Text}

-- the text has at most 80 bytes, and all of them are printable
pub record IsLabel (x : Label) : Type 0 where
  pub text : IsLine x.text

-- the text of a command is the text of a label
abbrev pub IsLabelCmd : LabelCmd → Type 0
IsLabelCmd (Text text) = IsLine text

-- the words of a command in a script: the text is the rest of the line
abbrev pub label_words : LabelCmd → List ℕ
label_words (Text text) = with_text (codes "text") text

-- the text lies in the north-west corner, and all other points are background
abbrev pub label_pic : Look → Size → Label → Point → ℕ
label_pic look size x q =
    if has_point (cells_of origin (length x.text)) q then colour_of (text_bit look.font origin x.text q) else 0

-- a command sets the text
abbrev pub label_next : Label → LabelCmd → Label
label_next x (Text text) = record { text = text }

-- the commands that paint a part of the picture: the background, and the text over it
abbrev pub label_paints : Edges → Label → List Paint
label_paints part x = batch_of (Tint part Bg ∷ Written plain part origin x.text ∷ [])

-- all of the window is painted with the new text
abbrev pub label_patch : Look → Size → Label → LabelCmd → List Paint
label_patch look size x cmd = label_paints (whole_of size) (label_next x cmd)

-- a printable key asks for the text with its byte at the end, if there is room
abbrev pub label_answer : Label → Event → Option LabelCmd
label_answer x (Key time code) =
    if is_printable code && nat_lt (length x.text) 80 then Some (Text (x.text ++ code ∷ [])) else None
label_answer x event = None

-- the text
abbrev pub label_value : Label → List ℕ
label_value x = x.text

-- the points in both windows
abbrev pub label_keeps : Label → Size → Size → Edges
label_keeps x from to = meet_of (whole_of from) (whole_of to)
