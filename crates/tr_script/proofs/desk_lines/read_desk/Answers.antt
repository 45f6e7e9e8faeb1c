use Rattle.std.proofs.Common.{refl, [], ◌∷◌}
use Rattle.std.specs.Prelude.{codes}
use Rattle.tr_words.specs.Answers.{texts}
use Rattle.tr_script.specs.Reading.{desk_forms}
use Rattle.tr_grammar.specs.Forms.{Mouse, Motion, Key, Attach, AttachAt, Detach, Tint, Widen, Offset, Fix, Move, Lift, Show, Turn, Reshape, Resize, Rescreen}
use Rattle.tr_script.proofs.FormLemmas.{differs, by_first}
use Rattle.tr_script.proofs.desk_lines.read_desk.Goals as goal

pub returns-in_default : goal.returns-in_default
returns-in_default c =
    let first = c.args.first.now in
    let no_mouse = differs first _ c.in_default.not-mouse in
    let no_motion = differs first _ c.in_default.not-motion in
    let no_key = differs first _ c.in_default.not-key in
    let no_attach = differs first _ c.in_default.not-attach in
    let no_detach = differs first _ c.in_default.not-detach in
    let no_tint = differs first _ c.in_default.not-tint in
    let no_border = differs first _ c.in_default.not-border in
    let no_offset = differs first _ c.in_default.not-offset in
    let no_fix = differs first _ c.in_default.not-fix in
    let no_move = differs first _ c.in_default.not-move in
    let no_lift = differs first _ c.in_default.not-lift in
    let no_show = differs first _ c.in_default.not-show in
    let no_turn = differs first _ c.in_default.not-turn in
    let no_shapes = differs first _ c.in_default.not-shapes in
    let no_resize = differs first _ c.in_default.not-resize in
    let no_rescreen = differs first _ c.in_default.not-rescreen in
    rw (
      no_mouse,
      no_motion,
      no_key,
      no_attach,
      no_detach,
      no_tint,
      no_border,
      no_offset,
      no_fix,
      no_move,
      no_lift,
      no_show,
      no_turn,
      no_shapes,
      no_resize,
      no_rescreen,
    ) refl

pub returns-in-mouse : goal.returns-in-mouse
returns-in-mouse c =
    by_first c.args.reader.now desk_forms (Mouse ∷ []) c.args.first.now (codes "mouse") (texts c.args.words.now) c.read_mouse.result c.in-mouse.is refl
    c.read_mouse.ensures

pub returns-in-motion : goal.returns-in-motion
returns-in-motion c =
    by_first c.args.reader.now desk_forms (Motion ∷ []) c.args.first.now (codes "motion") (texts c.args.words.now) c.read_motion.result c.in-motion.is refl
    c.read_motion.ensures

pub returns-in-key : goal.returns-in-key
returns-in-key c =
    by_first c.args.reader.now desk_forms (Key ∷ []) c.args.first.now (codes "key") (texts c.args.words.now) c.read_key.result c.in-key.is refl
    c.read_key.ensures

pub returns-in-attach : goal.returns-in-attach
returns-in-attach c =
    by_first c.args.reader.now desk_forms (Attach ∷ AttachAt ∷ []) c.args.first.now (codes "attach") (texts c.args.words.now)
    c.read_attach.result c.in-attach.is refl c.read_attach.ensures

pub returns-in-detach : goal.returns-in-detach
returns-in-detach c =
    by_first c.args.reader.now desk_forms (Detach ∷ []) c.args.first.now (codes "detach") (texts c.args.words.now) c.read_detach.result c.in-detach.is refl
    c.read_detach.ensures

pub returns-in-tint : goal.returns-in-tint
returns-in-tint c =
    by_first c.args.reader.now desk_forms (Tint ∷ []) c.args.first.now (codes "tint") (texts c.args.words.now) c.read_tint.result c.in-tint.is refl
    c.read_tint.ensures

pub returns-in-border : goal.returns-in-border
returns-in-border c =
    by_first c.args.reader.now desk_forms (Widen ∷ []) c.args.first.now (codes "border") (texts c.args.words.now) c.read_widen.result c.in-border.is refl
    c.read_widen.ensures

pub returns-in-offset : goal.returns-in-offset
returns-in-offset c =
    by_first c.args.reader.now desk_forms (Offset ∷ []) c.args.first.now (codes "offset") (texts c.args.words.now) c.read_offset.result c.in-offset.is refl
    c.read_offset.ensures

pub returns-in-fix : goal.returns-in-fix
returns-in-fix c =
    by_first c.args.reader.now desk_forms (Fix ∷ []) c.args.first.now (codes "fix") (texts c.args.words.now) c.read_fix.result c.in-fix.is refl
    c.read_fix.ensures

pub returns-in-move : goal.returns-in-move
returns-in-move c =
    by_first c.args.reader.now desk_forms (Move ∷ []) c.args.first.now (codes "move") (texts c.args.words.now) c.read_move.result c.in-move.is refl
    c.read_move.ensures

pub returns-in-lift : goal.returns-in-lift
returns-in-lift c =
    by_first c.args.reader.now desk_forms (Lift ∷ []) c.args.first.now (codes "lift") (texts c.args.words.now) c.read_lift.result c.in-lift.is refl
    c.read_lift.ensures

pub returns-in-show : goal.returns-in-show
returns-in-show c =
    by_first c.args.reader.now desk_forms (Show ∷ []) c.args.first.now (codes "show") (texts c.args.words.now) c.read_show.result c.in-show.is refl
    c.read_show.ensures

pub returns-in-turn : goal.returns-in-turn
returns-in-turn c =
    by_first c.args.reader.now desk_forms (Turn ∷ []) c.args.first.now (codes "turn") (texts c.args.words.now) c.read_turn.result c.in-turn.is refl
    c.read_turn.ensures

pub returns-in-shapes : goal.returns-in-shapes
returns-in-shapes c =
    by_first c.args.reader.now desk_forms (Reshape ∷ []) c.args.first.now (codes "shapes") (texts c.args.words.now) c.read_reshape.result c.in-shapes.is refl
    c.read_reshape.ensures

pub returns-in-resize : goal.returns-in-resize
returns-in-resize c =
    by_first c.args.reader.now desk_forms (Resize ∷ []) c.args.first.now (codes "resize") (texts c.args.words.now) c.read_resize.result c.in-resize.is refl
    c.read_resize.ensures

pub returns-in-rescreen : goal.returns-in-rescreen
returns-in-rescreen c =
    by_first c.args.reader.now desk_forms (Rescreen ∷ []) c.args.first.now (codes "rescreen") (texts c.args.words.now) c.read_rescreen.result c.in-rescreen.is
    refl
    c.read_rescreen.ensures
