use Rattle.std.proofs.Common.{sym, ◌∙◌}
use Rattle.tr_base.proofs.RectFacts.{same_edges}
use Rattle.tr_journal.proofs.sameness.is_same_rect.Goals as goal

pub returns : goal.returns
returns c =
    let same = same_edges c.args.a.now c.args.b.now in
    (λ h. same.0 (sym c.eq.ensures ∙ h), λ e. c.eq.ensures ∙ same.1 e)
