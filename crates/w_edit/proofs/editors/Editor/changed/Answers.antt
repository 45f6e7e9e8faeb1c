use Rattle.std.proofs.Common.{◌≡◌, ap, ◌∙◌}
use Rattle.w_edit.specs.Contents.{Contents, editor_next}
use Rattle.w_edit.specs.Flat.{flat_text}
use Rattle.w_edit.specs.FlatLaws.{flat_steps}
use Rattle.w_edit.proofs.editors.Editor.changed.Goals as goal

pub returns-clause-flat : goal.returns-clause-flat
returns-clause-flat c =
    let next : c.take.new.self ≡ editor_next c.args.self.now c.args.cmd.now = rw c.in_ok-next.ensures at c.in_ok-take.ensures.next in
    ap (λ (y : Contents). flat_text y) next ∙ flat_steps c.args.self.now c.args.cmd.now c.invariant.ensures

pub returns-clause-patch : goal.returns-clause-patch
returns-clause-patch c = λ look. rw (c.new-patch.ensures, c.in_ok-next.ensures) at (c.in_ok-take.ensures.patch look)
