use Rattle.std.proofs.Common.{List, take, sym, subst, ◌∙◌}
use Rattle.std.proofs.lemmas.List.{with_items_is}
use Rattle.tr_base.specs.Rects.{Edges}
use Rattle.tr_tree.specs.Laying.{ArePlaced}
use Rattle.tr_tree.proofs.domains.place_first.Goals as goal

pub returns-clause-places : goal.returns-clause-places
returns-clause-places c =
    let p = c.args.parent.now in
    subst (λ (l : List Edges). ArePlaced p.forest.now p.n p.rect (take c.args.count l))
    (sym (with_items_is c.args.places.now c.place_front.new.places (c.place_front.auto.places ∙ c.deref_mut.ensures.len))) c.place_front.ensures
