use Rattle.std.proofs.Common.{sym, ◌∙◌}
use Rattle.tr_base.proofs.RectFacts.{same_edges}
use Rattle.tr_mail.proofs.SizeLemmas.{same_rects}
use Rattle.tr_mail.proofs.positions.is_as_large.Goals as goal

pub returns-then-eq : goal.returns-then-eq
returns-then-eq c =
    let same = (same_edges c.args.a c.args.b).0 (sym c.eq.ensures ∙ c.if-eq.true) in
    c.if-eq.true ∙ sym (same_rects c.args.a c.args.b same)
