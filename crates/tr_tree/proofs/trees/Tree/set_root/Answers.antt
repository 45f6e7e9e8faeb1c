use Rattle.tr_tree.proofs.LayoutLemmas.{shapes_rooted}
use Rattle.tr_tree.proofs.trees.Tree.set_root.Goals as goal

pub place-requires-clause-shapes : goal.place-requires-clause-shapes
place-requires-clause-shapes c = shapes_rooted c.self.inside.forest c.set_root.new.self c.args.n c.self.inside.layout c.set_root.ensures c.self.invariant.shapes
