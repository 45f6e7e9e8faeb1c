use Rattle.tr_tree.proofs.LayoutLemmas.{places_same, places_for_added}
use Rattle.tr_tree.proofs.trees.Tree.add.Goals as goal

pub fill-requires-clause-places : goal.fill-requires-clause-places
fill-requires-clause-places c =
    places_for_added c.self.inside.forest c.add.new.self c.args.kind c.args.tint
    c.self.inside.layout c.grow.new.self c.in_ok-n.ensures.ok
    (λ count places. c.grow.ensures count (places_same c.self.inside.layout c.reserve.new.self count c.reserve.ensures.same places)) c.self.invariant.places
