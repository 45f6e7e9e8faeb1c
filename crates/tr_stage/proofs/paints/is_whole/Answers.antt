use Rattle.std.proofs.Common.{◌≡◌, true, List, sym, ap, ◌∙◌, arith}
use Rattle.tr_base.specs.declared.Point.{Point}
use Rattle.tr_base.specs.Rects.{Edges, has_point, whole_of}
use Rattle.tr_base.proofs.RectFacts.{same_edges}
use Rattle.tr_region.specs.Points.{holds}
use Rattle.tr_exec.specs.Executions.{screen_point}
use Rattle.tr_spot.specs.Spots.{size_of}
use Rattle.tr_spot.specs.Leaves.{leaf_corner, leaf_domain}
use Rattle.tr_stage.proofs.WholeLemmas.{first_holds, in_domain}
use Rattle.tr_stage.proofs.paints.is_whole.Goals as goal

pub returns-then-rects-eq1 : goal.returns-then-rects-eq1
returns-then-rects-eq1 c = λ same q has.
    let d = c.domain-domain.result in
    let p : Point = screen_point (leaf_corner c.args.tree.now c.args.leaf) q in
    let domain : c.domain-domain.result ≡ leaf_domain c.args.tree.now c.args.leaf = rw c.node_of.ensures.is at c.domain-domain.ensures.domain in
    let inside = in_domain d q c.invariant.ensures (ap (λ (e : Edges). has_point (whole_of (size_of e)) q) domain ∙ has) in
    let there : has_point d p ≡ true =
    ap (λ (e : Edges). has_point d (screen_point (record { h = e.west; v = e.north }) q)) (sym domain) ∙ inside in
    let equal = (same_edges c.index-rects-0.result d).0 (sym c.eq.ensures ∙ same) in
    let rects = c.rects-rects.result.now in
    ap (λ (rs : List Edges). holds rs p) (sym c.rects-rects.ensures.value)
    ∙ first_holds rects c.index-rects-0.result p (omega (arith, c.if-rects-eq1.true)) (sym c.index-rects-0.is)
    (ap (λ (e : Edges). has_point e p) equal ∙ there)
