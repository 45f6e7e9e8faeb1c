use Rattle.std.proofs.Common.{sym, ◌∙◌}
use Rattle.tr_base.proofs.RectFacts.{same_edges}
use Rattle.w_canvas.proofs.areas.Area.same.Goals as goal

pub returns : goal.returns
returns c =
    let same = rw (c.rect.ensures.value, c.rect-2.ensures.value) at c.eq.ensures in
    (λ h. (same_edges c.args.self.now c.args.other.now).0 (sym same ∙ h), λ e. same ∙ (same_edges c.args.self.now c.args.other.now).1 e)
