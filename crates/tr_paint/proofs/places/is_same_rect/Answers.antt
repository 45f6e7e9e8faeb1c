use Rattle.std.proofs.Common.{sym, ◌∙◌}
use Rattle.tr_base.proofs.RectFacts.{same_edges}
use Rattle.tr_paint.proofs.places.is_same_rect.Goals as goal

pub returns : goal.returns
returns c = λ h. (same_edges c.args.a.now c.args.b.now).0 (sym c.eq.ensures ∙ h)
