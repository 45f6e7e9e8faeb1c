use Rattle.std.proofs.Common.{◌≡◌, true, ap, sym, ◌∙◌, arith}
use Rattle.std.proofs.lemmas.Bool.{and_from, and_parts}
use Rattle.tr_base.specs.Rects.{Edges, has_point}
use Rattle.tr_base.proofs.RectFacts.{same_edges}
use Rattle.tr_paint.proofs.NearLemmas.{whole-in_reach}
use Rattle.tr_windows.proofs.costs.brings_own.Goals as goal

pub shift-requires : goal.shift-requires
shift-requires c =
    rw c.window-all.ensures.edges
    (whole-in_reach c.args.size c.args.delta (omega (arith, c.requires.size.wide)) (omega (arith, c.requires.size.high)) c.requires.delta)

pub returns : goal.returns
returns c = λ same q clip whole.
    let all = c.window-all.ensures.edges in
    let part : has_point c.meet-part.result q ≡ true =
    c.meet-part.ensures.points q ∙ and_from _ _ clip (ap (λ (e : Edges). has_point e q) all ∙ whole) in
    let equal = (same_edges c.meet.result c.meet-part.result).0 (sym c.eq.ensures ∙ same) in
    let both = and_parts (has_point c.meet-part.result q) (has_point c.shift.result q)
    (sym (c.meet.ensures.points q) ∙ ap (λ (e : Edges). has_point e q) equal ∙ part) in
    rw all at (sym (c.shift.ensures.points q) ∙ both.1)
