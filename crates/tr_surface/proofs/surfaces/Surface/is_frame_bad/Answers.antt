use Rattle.std.proofs.Common.{length, ap, arith}
use Rattle.tr_tree.specs.Trees.{Seen}
use Rattle.tr_surface.proofs.BadLemmas.{none_framed}
use Rattle.tr_surface.proofs.surfaces.Surface.is_frame_bad.Goals as goal

pub returns-clause-none : goal.returns-clause-none
returns-clause-none c = λ _.
    let same = ap (λ (t : Seen). length t.nodes.entries) c.tree.ensures.value in
    none_framed c.args.self.now c.tree.ensures.invariant.forest (λ m p lt. c.loop-n.invariant m p (omega (arith, lt, c.count-count.ensures.count, same)))
