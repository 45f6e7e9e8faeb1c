use Rattle.std.proofs.Common.{◌≡◌, sym, ap, ◌∙◌}
use Rattle.tr_base.specs.declared.Point.{Point}
use Rattle.tr_base.specs.Rects.{Edges, before_shift, has_point}
use Rattle.tr_base.proofs.RectFacts.{same_edges}
use Rattle.tr_tree.specs.Places.{domain}
use Rattle.tr_surface.proofs.NearLemmas.{shifted_reach}
use Rattle.tr_surface.proofs.tree_changes.TreeChange.moves.Goals as goal

pub shift-requires : goal.shift-requires
shift-requires c = shifted_reach c.domain.result c.way.result c.domain.ensures.small c.way.ensures.near

pub returns : goal.returns
returns c = λ h p.
    let s = c.args.self.now in
    let same : c.shift.result ≡ c.domain-2.result = (same_edges c.shift.result c.domain-2.result).0 (sym c.eq.ensures ∙ h) in
    ap (λ (e : Edges). has_point e p) (sym c.domain-2.ensures.domain ∙ sym same)
    ∙ c.shift.ensures.points p
    ∙ ap (λ (e : Edges). has_point e (before_shift p c.way.result)) c.domain.ensures.domain
    ∙ ap (λ (d : Point). has_point (domain s.was.now c.args.n) (before_shift p d)) c.way.ensures.value
