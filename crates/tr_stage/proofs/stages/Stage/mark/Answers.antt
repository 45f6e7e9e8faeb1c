use Rattle.std.proofs.Common.{sym}
use Rattle.tr_stage.proofs.PartLemmas.{has_window, seen_for}
use Rattle.tr_stage.proofs.ActLemmas.{marks}
use Rattle.tr_stage.proofs.stages.Stage.mark.Goals as goal

pub mark-requires-clause-leaf : goal.mark-requires-clause-leaf
mark-requires-clause-leaf g c κs within =
    let made = seen_for (sym c.self.view_is) c.requires.allowed in
    has_window g.C.Client c.self.invariant made.own.values.0.within

pub invariant_of-self-2 : goal.invariant_of-self-2
invariant_of-self-2 g c =
    let made = seen_for (sym c.self.view_is) c.requires.allowed in
    rw (c.write.ensures.lines, c.in_ok-reserve.ensures.lines, c.entry-entry.ensures)
    (marks g.C.Client c.self.invariant made c.tree.ensures.invariant.forest
    c.tree.ensures.value c.leaf_size-size.ensures.value c.in_ok-mark.ensures.ok)
