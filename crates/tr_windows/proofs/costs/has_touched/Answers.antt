use Rattle.std.proofs.Common.{◌≡◌, true, ap, sym, ◌∙◌}
use Rattle.std.proofs.lemmas.Bool.{and_from, and_parts}
use Rattle.tr_base.specs.Rects.{Edges, has_point, whole_of}
use Rattle.tr_base.proofs.RectFacts.{same_edges}
use Rattle.tr_base.proofs.RectLemmas.{has_point-meet_of}
use Rattle.tr_windows.proofs.costs.has_touched.Goals as goal

pub returns : goal.returns
returns c = λ same q whole touched.
    let part = c.part_in_window-part.result in
    let here : has_point part q ≡ true =
    ap (λ (e : Edges). has_point e q) c.part_in_window-part.ensures.edges
    ∙ has_point-meet_of c.spanned.result (whole_of c.args.exposure.now.size) q
    ∙ and_from _ _ (c.spanned.ensures.touched q touched) whole in
    let equal = (same_edges c.meet.result part).0 (sym c.eq.ensures ∙ same) in
    let both = and_parts (has_point part q) (has_point c.args.clip.now q)
    (sym (c.meet.ensures.points q) ∙ ap (λ (e : Edges). has_point e q) equal ∙ here) in
    both.1
