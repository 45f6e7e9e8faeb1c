use Rattle.std.proofs.Common.{sym}
use Rattle.tr_stage.proofs.PartLemmas.{seen_for}
use Rattle.tr_stage.proofs.ActLemmas.{reads}
use Rattle.tr_stage.proofs.stages.Stage.read.Goals as goal

pub invariant_of-self-3 : goal.invariant_of-self-3
invariant_of-self-3 g c =
    let made = seen_for (sym c.self.view_is) c.requires.allowed in
    rw (c.write.ensures.lines, c.in_ok-reserve.ensures.lines, c.entry-entry.ensures)
    (reads g.C.Client c.self.invariant made c.invariant.ensures.forest (rw c.in_ok-reserve.ensures.lines at c.in_ok-answer.ensures))
