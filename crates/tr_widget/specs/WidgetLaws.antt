-- A Widget obeys the laws of clients, since each widget does.
-- These proofs are in specs/ because an impl may cite nothing else of its crate. No contract cites them.
use Rattle.std.proofs.Common.{◌≡◌, [], true, Option, Some, None, refl}
use Rattle.std.specs.Prelude.{IfSome}
use Rattle.std.specs.Option.{option_map}
use Rattle.tr_base.specs.declared.Point.{Point}
use Rattle.tr_base.specs.declared.Size.{Size}
use Rattle.tr_base.specs.declared.Event.{Event}
use Rattle.tr_base.specs.Ops.{IsPixel}
use Rattle.tr_paint.specs.Traces.{Look}
use Rattle.tr_paint.specs.Patches.{IsPatch}
use Rattle.tr_paint.proofs.PatchLemmas.{no_patch}
use Rattle.tr_client.specs.Laws.{IsWindowSize, is_flat, IsEvent, Survives}
use Rattle.w_plain.specs.Solids.{IsSolidCmd, solid_answer}
use Rattle.w_plain.specs.Boards.{IsBoardCmd, board_answer}
use Rattle.w_plain.specs.Labels.{IsLabelCmd, label_answer}
use Rattle.w_lines.specs.Lines.{IsLinesCmd, lines_answer}
use Rattle.w_canvas.specs.Canvases.{IsCanvasCmd, canvas_answer}
use Rattle.w_meter.specs.Meters.{IsMeterCmd, meter_answer}
use Rattle.w_edit.specs.Contents.{IsEditorCmd, editor_answer}
use Rattle.w_plain.specs.SolidLaws.{solid_contents, solid_answers, solid_patches, solid_empty_patches, solid_keeping, solid_kinds}
use Rattle.w_plain.specs.BoardLaws.{board_contents, board_answers, board_patches, board_empty_patches, board_keeping, board_kinds}
use Rattle.w_plain.specs.LabelLaws.{label_contents, label_answers, label_patches, label_empty_patches, label_keeping, label_kinds}
use Rattle.w_lines.specs.LinesLaws.{lines_contents, lines_answers, lines_patches, lines_empty_patches, lines_keeping, lines_kinds}
use Rattle.w_canvas.specs.CanvasLaws.{canvas_contents, canvas_answers, canvas_patches, canvas_empty_patches, canvas_keeping, canvas_kinds}
use Rattle.w_meter.specs.MeterLaws.{meter_contents, meter_answers, meter_patches, meter_empty_patches, meter_keeping, meter_kinds}
use Rattle.w_edit.specs.ContentsLaws.{editor_contents, editor_answers}
use Rattle.w_edit.specs.EditorLaws.{editor_patches, editor_empty_patches, editor_keeping, editor_kinds}
use Rattle.tr_widget.specs.declared.widgets.Widget.{Widget}
use Rattle.tr_widget.specs.declared.widgets.Widget.TheVariants.{Solid, Board, Label, Lines, Canvas, Meter, Editor}
use Rattle.tr_widget.specs.declared.commands.WidgetCmd.{WidgetCmd}
use Rattle.tr_widget.specs.declared.commands.WidgetCmd.TheVariants.{Solid as ToSolid, Board as ToBoard, Label as ToLabel, Lines as ToLines, Canvas as ToCanvas, Meter as ToMeter, Editor as ToEditor}
use Rattle.tr_widget.specs.Widgets.{IsWidget, IsWidgetCmd, widget_pic, widget_next, widget_patch, widget_answer, widget_keeps}

pub widget_contents : (x : Widget) (cmd : WidgetCmd) → IsWidget x → IsWidgetCmd cmd → IsWidget (widget_next x cmd)
widget_contents (Solid x) (ToSolid cmd) valid known = solid_contents x cmd valid known
widget_contents (Board x) (ToBoard cmd) valid known = board_contents x cmd valid known
widget_contents (Label x) (ToLabel cmd) valid known = label_contents x cmd valid known
widget_contents (Lines x) (ToLines cmd) valid known = lines_contents x cmd valid known
widget_contents (Canvas x) (ToCanvas cmd) valid known = canvas_contents x cmd valid known
widget_contents (Meter x) (ToMeter cmd) valid known = meter_contents x cmd valid known
widget_contents (Editor x) (ToEditor cmd) valid known = editor_contents x cmd valid known
widget_contents x cmd valid known = valid

-- a valid command of a widget is a valid command of the widgets
handed_on : {M : Type 0} (to : M → WidgetCmd) (IsCmd : M → Type 0) (asked : Option M) → ((cmd : M) → IsCmd cmd → IsWidgetCmd (to cmd)) →
    IfSome asked IsCmd → IfSome (option_map to asked) (λ cmd. IsWidgetCmd cmd)
handed_on to IsCmd None on known = tt
handed_on to IsCmd (Some cmd) on known = on cmd known

pub widget_answers : (x : Widget) (event : Event) → IsWidget x → IsEvent event → IfSome (widget_answer x event) (λ cmd. IsWidgetCmd cmd)
widget_answers (Solid x) event valid known =
    handed_on ToSolid IsSolidCmd (solid_answer x event) (λ cmd h. h) (solid_answers x event valid known)
widget_answers (Board x) event valid known =
    handed_on ToBoard IsBoardCmd (board_answer x event) (λ cmd h. h) (board_answers x event valid known)
widget_answers (Label x) event valid known =
    handed_on ToLabel IsLabelCmd (label_answer x event) (λ cmd h. h) (label_answers x event valid known)
widget_answers (Lines x) event valid known =
    handed_on ToLines IsLinesCmd (lines_answer x event) (λ cmd h. h) (lines_answers x event valid known)
widget_answers (Canvas x) event valid known =
    handed_on ToCanvas IsCanvasCmd (canvas_answer x event) (λ cmd h. h) (canvas_answers x event valid known)
widget_answers (Meter x) event valid known =
    handed_on ToMeter IsMeterCmd (meter_answer x event) (λ cmd h. h) (meter_answers x event valid known)
widget_answers (Editor x) event valid known =
    handed_on ToEditor IsEditorCmd (editor_answer x event) (λ cmd h. h) (editor_answers x event valid known)

pub widget_patches : (look : Look) (size : Size) (x : Widget) (cmd : WidgetCmd) → IsWidget x → IsWidgetCmd cmd → IsWindowSize size →
    IsPatch look size (widget_patch look size x cmd) (widget_pic look size x) (widget_pic look size (widget_next x cmd))
widget_patches look size (Solid x) (ToSolid cmd) valid known small = solid_patches look size x cmd valid known small
widget_patches look size (Board x) (ToBoard cmd) valid known small = board_patches look size x cmd valid known small
widget_patches look size (Label x) (ToLabel cmd) valid known small = label_patches look size x cmd valid known small
widget_patches look size (Lines x) (ToLines cmd) valid known small = lines_patches look size x cmd valid known small
widget_patches look size (Canvas x) (ToCanvas cmd) valid known small = canvas_patches look size x cmd valid known small
widget_patches look size (Meter x) (ToMeter cmd) valid known small = meter_patches look size x cmd valid known small
widget_patches look size (Editor x) (ToEditor cmd) valid known small = editor_patches look size x cmd valid known small
widget_patches look size x cmd valid known small = no_patch look size (widget_pic look size x) (widget_pic look size x) (λ q h. refl)

pub widget_empty_patches : (look : Look) (size : Size) (x : Widget) (cmd : WidgetCmd) → IsWidget x → IsWidgetCmd cmd → IsWindowSize size →
    is_flat size ≡ true → widget_patch look size x cmd ≡ []
widget_empty_patches look size (Solid x) (ToSolid cmd) valid known small flat =
    solid_empty_patches look size x cmd valid known small flat
widget_empty_patches look size (Board x) (ToBoard cmd) valid known small flat =
    board_empty_patches look size x cmd valid known small flat
widget_empty_patches look size (Label x) (ToLabel cmd) valid known small flat =
    label_empty_patches look size x cmd valid known small flat
widget_empty_patches look size (Lines x) (ToLines cmd) valid known small flat =
    lines_empty_patches look size x cmd valid known small flat
widget_empty_patches look size (Canvas x) (ToCanvas cmd) valid known small flat =
    canvas_empty_patches look size x cmd valid known small flat
widget_empty_patches look size (Meter x) (ToMeter cmd) valid known small flat =
    meter_empty_patches look size x cmd valid known small flat
widget_empty_patches look size (Editor x) (ToEditor cmd) valid known small flat =
    editor_empty_patches look size x cmd valid known small flat
widget_empty_patches look size x cmd valid known small flat = refl

pub widget_keeping : (look : Look) (from to : Size) (x : Widget) → IsWidget x → IsWindowSize from → IsWindowSize to →
    Survives (widget_keeps x from to) from to (widget_pic look from x) (widget_pic look to x)
widget_keeping look from to (Solid x) valid small small' = solid_keeping look from to x valid small small'
widget_keeping look from to (Board x) valid small small' = board_keeping look from to x valid small small'
widget_keeping look from to (Label x) valid small small' = label_keeping look from to x valid small small'
widget_keeping look from to (Lines x) valid small small' = lines_keeping look from to x valid small small'
widget_keeping look from to (Canvas x) valid small small' = canvas_keeping look from to x valid small small'
widget_keeping look from to (Meter x) valid small small' = meter_keeping look from to x valid small small'
widget_keeping look from to (Editor x) valid small small' = editor_keeping look from to x valid small small'

pub widget_kinds : (look : Look) (size : Size) (x : Widget) (p : Point) → IsWidget x → IsWindowSize size →
    IsPixel look.kind (widget_pic look size x p)
widget_kinds look size (Solid x) p valid small = solid_kinds look size x p valid small
widget_kinds look size (Board x) p valid small = board_kinds look size x p valid small
widget_kinds look size (Label x) p valid small = label_kinds look size x p valid small
widget_kinds look size (Lines x) p valid small = lines_kinds look size x p valid small
widget_kinds look size (Canvas x) p valid small = canvas_kinds look size x p valid small
widget_kinds look size (Meter x) p valid small = meter_kinds look size x p valid small
widget_kinds look size (Editor x) p valid small = editor_kinds look size x p valid small
