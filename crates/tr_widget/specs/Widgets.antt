-- The widgets as one client: each case is that of one widget. A command for another widget changes nothing, and paints nothing.
use Rattle.std.specs.Prelude.{ℕ, List, [], Option}
use Rattle.std.specs.Option.{option_map}
use Rattle.tr_base.specs.declared.Point.{Point}
use Rattle.tr_base.specs.declared.Size.{Size}
use Rattle.tr_base.specs.declared.Event.{Event}
use Rattle.tr_base.specs.Rects.{Edges}
use Rattle.tr_paint.specs.declared.Paint.{Paint}
use Rattle.tr_paint.specs.Traces.{Look}
use Rattle.w_plain.specs.Solids.{IsSolid, IsSolidCmd, solid_words, solid_pic, solid_next, solid_patch, solid_answer, solid_value, solid_keeps}
use Rattle.w_plain.specs.Boards.{IsBoard, IsBoardCmd, board_words, board_pic, board_next, board_patch, board_answer, board_value, board_keeps}
use Rattle.w_plain.specs.Labels.{IsLabel, IsLabelCmd, label_words, label_pic, label_next, label_patch, label_answer, label_value, label_keeps}
use Rattle.w_lines.specs.Lines.{IsLines, IsLinesCmd, lines_words, lines_pic, lines_next, lines_patch, lines_answer, lines_value, lines_keeps}
use Rattle.w_canvas.specs.Canvases.{IsCanvas, IsCanvasCmd, canvas_words, canvas_pic, canvas_next, canvas_patch, canvas_answer, canvas_value, canvas_keeps}
use Rattle.w_meter.specs.Meters.{IsMeter, IsMeterCmd, meter_words, meter_pic, meter_next, meter_patch, meter_answer, meter_value, meter_keeps}
use Rattle.w_edit.specs.Contents.{IsContents, IsEditorCmd, editor_words, editor_next, editor_answer, editor_value}
use Rattle.w_edit.specs.Pictures.{editor_pic, editor_patch, editor_keeps}
use Rattle.tr_widget.specs.declared.widgets.Widget.{Widget}
use Rattle.tr_widget.specs.declared.widgets.Widget.TheVariants.{Solid, Board, Label, Lines, Canvas, Meter, Editor}
use Rattle.tr_widget.specs.declared.commands.WidgetCmd.{WidgetCmd}
use Rattle.tr_widget.specs.declared.commands.WidgetCmd.TheVariants.{Solid as ToSolid, Board as ToBoard, Label as ToLabel, Lines as ToLines, Canvas as ToCanvas, Meter as ToMeter, Editor as ToEditor}

-- the content is valid for its widget
abbrev pub IsWidget : Widget → Type 0
IsWidget (Solid x) = IsSolid x
IsWidget (Board x) = IsBoard x
IsWidget (Label x) = IsLabel x
IsWidget (Lines x) = IsLines x
IsWidget (Canvas x) = IsCanvas x
IsWidget (Meter x) = IsMeter x
IsWidget (Editor x) = IsContents x

-- the numbers and texts of a command are in the ranges of its widget
abbrev pub IsWidgetCmd : WidgetCmd → Type 0
IsWidgetCmd (ToSolid cmd) = IsSolidCmd cmd
IsWidgetCmd (ToBoard cmd) = IsBoardCmd cmd
IsWidgetCmd (ToLabel cmd) = IsLabelCmd cmd
IsWidgetCmd (ToLines cmd) = IsLinesCmd cmd
IsWidgetCmd (ToCanvas cmd) = IsCanvasCmd cmd
IsWidgetCmd (ToMeter cmd) = IsMeterCmd cmd
IsWidgetCmd (ToEditor cmd) = IsEditorCmd cmd

-- the words of a command in a script
abbrev pub widget_words : WidgetCmd → List ℕ
widget_words (ToSolid cmd) = solid_words cmd
widget_words (ToBoard cmd) = board_words cmd
widget_words (ToLabel cmd) = label_words cmd
widget_words (ToLines cmd) = lines_words cmd
widget_words (ToCanvas cmd) = canvas_words cmd
widget_words (ToMeter cmd) = meter_words cmd
widget_words (ToEditor cmd) = editor_words cmd

-- the colour of a point
abbrev pub widget_pic : Look → Size → Widget → Point → ℕ
widget_pic look size (Solid x) q = solid_pic look size x q
widget_pic look size (Board x) q = board_pic look size x q
widget_pic look size (Label x) q = label_pic look size x q
widget_pic look size (Lines x) q = lines_pic look size x q
widget_pic look size (Canvas x) q = canvas_pic look size x q
widget_pic look size (Meter x) q = meter_pic look size x q
widget_pic look size (Editor x) q = editor_pic look size x q

-- the content after a command; a command for another widget leaves it as it is
abbrev pub widget_next : Widget → WidgetCmd → Widget
widget_next (Solid x) (ToSolid cmd) = Solid (solid_next x cmd)
widget_next (Board x) (ToBoard cmd) = Board (board_next x cmd)
widget_next (Label x) (ToLabel cmd) = Label (label_next x cmd)
widget_next (Lines x) (ToLines cmd) = Lines (lines_next x cmd)
widget_next (Canvas x) (ToCanvas cmd) = Canvas (canvas_next x cmd)
widget_next (Meter x) (ToMeter cmd) = Meter (meter_next x cmd)
widget_next (Editor x) (ToEditor cmd) = Editor (editor_next x cmd)
widget_next widget cmd = widget

-- the paint commands that lead from the old picture to the new one; for a command of another widget there are none
abbrev pub widget_patch : Look → Size → Widget → WidgetCmd → List Paint
widget_patch look size (Solid x) (ToSolid cmd) = solid_patch look size x cmd
widget_patch look size (Board x) (ToBoard cmd) = board_patch look size x cmd
widget_patch look size (Label x) (ToLabel cmd) = label_patch look size x cmd
widget_patch look size (Lines x) (ToLines cmd) = lines_patch look size x cmd
widget_patch look size (Canvas x) (ToCanvas cmd) = canvas_patch look size x cmd
widget_patch look size (Meter x) (ToMeter cmd) = meter_patch look size x cmd
widget_patch look size (Editor x) (ToEditor cmd) = editor_patch look size x cmd
widget_patch look size widget cmd = []

-- the command, one of the same widget, that an event asks for
abbrev pub widget_answer : Widget → Event → Option WidgetCmd
widget_answer (Solid x) event = option_map ToSolid (solid_answer x event)
widget_answer (Board x) event = option_map ToBoard (board_answer x event)
widget_answer (Label x) event = option_map ToLabel (label_answer x event)
widget_answer (Lines x) event = option_map ToLines (lines_answer x event)
widget_answer (Canvas x) event = option_map ToCanvas (canvas_answer x event)
widget_answer (Meter x) event = option_map ToMeter (meter_answer x event)
widget_answer (Editor x) event = option_map ToEditor (editor_answer x event)

-- the text that another leaf gets when it reads the content
abbrev pub widget_value : Widget → List ℕ
widget_value (Solid x) = solid_value x
widget_value (Board x) = board_value x
widget_value (Label x) = label_value x
widget_value (Lines x) = lines_value x
widget_value (Canvas x) = canvas_value x
widget_value (Meter x) = meter_value x
widget_value (Editor x) = editor_value x

-- the points that need not be painted again when the window's size changes
abbrev pub widget_keeps : Widget → Size → Size → Edges
widget_keeps (Solid x) from to = solid_keeps x from to
widget_keeps (Board x) from to = board_keeps x from to
widget_keeps (Label x) from to = label_keeps x from to
widget_keeps (Lines x) from to = lines_keeps x from to
widget_keeps (Canvas x) from to = canvas_keeps x from to
widget_keeps (Meter x) from to = meter_keeps x from to
widget_keeps (Editor x) from to = editor_keeps x from to
