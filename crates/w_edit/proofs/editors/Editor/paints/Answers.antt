use Rattle.std.proofs.Common.{◌≡◌, arith}
use Rattle.tr_paint.proofs.NearLemmas.{near-meet}
use Rattle.tr_client.specs.Texts.{room}
use Rattle.w_edit.specs.EditorLaws.{lines_are_painting, caret_is_painting}
use Rattle.w_edit.proofs.editors.Editor.paints.Goals as goal

pub push-requires : goal.push-requires
push-requires c = rw c.meet.ensures.edges (near-meet _ _ c.requires.near)

pub returns-then-room-eq0 : goal.returns-then-room-eq0
returns-then-room-eq0 c = λ look.
    let none : room c.args.size ≡ 0 = omega arith in
    let painted = rw c.shown.ensures at (c.in_ok-batch.ensures look) in
    lines_are_painting look c.args.size c.args.self.now c.args.part.now c.in_ok-batch.batch none painted

pub returns : goal.returns
returns c = λ look.
    let some : room c.args.size ≡ 0 → ⊥ = λ none. absurd (omega arith) in
    let painted = rw c.shown.ensures at (c.in_ok-batch.ensures look) in
    rw (c.in_ok-push.ensures.ok, c.meet.ensures.edges, c.caret.ensures, c.view.ensures)
    (caret_is_painting look c.args.size c.args.self.now c.args.part.now c.in_ok-batch.batch some painted)
