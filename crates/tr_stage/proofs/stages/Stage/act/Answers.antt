use Rattle.std.proofs.Common.{sym}
use Rattle.tr_stage.proofs.PartLemmas.{has_window, seen_for}
use Rattle.tr_stage.proofs.ActLemmas.{acts, env_at}
use Rattle.tr_stage.proofs.stages.Stage.act.Goals as goal

pub act-requires-clause-leaf : goal.act-requires-clause-leaf
act-requires-clause-leaf g c κs within =
    let made = seen_for (sym c.self.view_is) c.requires.allowed in
    has_window g.C.Client c.self.invariant made.own.values.within

pub invariant_of-self-2 : goal.invariant_of-self-2
invariant_of-self-2 g c =
    let made = seen_for (sym c.self.view_is) c.requires.allowed in
    rw (c.write.ensures.lines, c.in-Ok.ensures.lines, c.entry-entry.ensures)
    (acts g.C.Client c.self.invariant made c.tree-tree.ensures.invariant.forest
    (env_at c.tree-tree.ensures.value c.kind.ensures c.font.ensures c.leaf_size-size.ensures.value)
    (record { made = c.in-Ok-act.ensures.ok; law = c.act.ensures.patch }))
