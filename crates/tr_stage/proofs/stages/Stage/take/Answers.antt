use Rattle.std.proofs.Common.{Option, sym, ap, ◌∙◌}
use Rattle.tr_machine.specs.Machines.{asked_of}
use Rattle.tr_stage.proofs.PartLemmas.{has_window, seen_for}
use Rattle.tr_stage.proofs.ActLemmas.{env_at, takes, takes_nothing}
use Rattle.tr_stage.proofs.stages.Stage.take.Goals as goal

pub invariant_of-self-in_default : goal.invariant_of-self-in_default
invariant_of-self-in_default g c =
    let made = seen_for (sym c.self.view_is) c.requires.allowed in
    rw (c.write.ensures.lines, c.in_ok-reserve.ensures.lines, c.entry-entry.ensures)
    (takes_nothing g.C.Client c.self.invariant made c.tree-tree.ensures.invariant.forest (sym c.in_default.ensures))

pub content-requires-after_bounds : goal.content-requires-after_bounds
content-requires-after_bounds g c κs within =
    let made = seen_for (sym c.self.view_is) c.requires.allowed in
    has_window g.C.Client c.self.invariant made.own.values.within

pub obey-obeyed-requires-clause-leaf : goal.obey-obeyed-requires-clause-leaf
obey-obeyed-requires-clause-leaf g c κs within =
    let made = seen_for (sym c.self.view_is) c.requires.allowed in
    has_window g.C.Client c.self.invariant made.own.values.within

pub invariant_of-self-2 : goal.invariant_of-self-2
invariant_of-self-2 g c =
    let made = seen_for (sym c.self.view_is) c.requires.allowed in
    let asked = c.in_ok-asked.ensures.answer ∙ ap (λ (o : Option _). asked_of g.C.Client o c.in-Some.event) (sym c.content.ensures.content) in
    rw (c.write-2.ensures.lines, c.in_ok-reserve.ensures.lines, c.entry-entry-2.ensures, c.take-taken.ensures.taken)
    (takes g.C.Client c.self.invariant made c.tree-tree.ensures.invariant.forest (sym c.in-Some.ensures) asked
    (env_at c.tree-tree.ensures.value c.kind.ensures c.font.ensures c.leaf_size-size.ensures.value)
    (record { none = c.obey-obeyed.ensures.none; some = c.in_ok-obeyed.ensures.ok; law = c.obey-obeyed.ensures.patch }))
