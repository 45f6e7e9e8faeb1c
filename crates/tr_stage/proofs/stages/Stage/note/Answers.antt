use Rattle.std.proofs.Common.{sym}
use Rattle.tr_stage.proofs.PartLemmas.{seen_for}
use Rattle.tr_stage.proofs.ActLemmas.{notes}
use Rattle.tr_stage.proofs.stages.Stage.note.Goals as goal

pub invariant_of-self-2 : goal.invariant_of-self-2
invariant_of-self-2 g c =
    let made = seen_for (sym c.self.view_is) c.requires.allowed in
    rw (c.write.ensures.lines, c.in_ok-reserve.ensures.lines, c.entry-entry.ensures)
    (notes g.C.Client c.self.invariant made c.invariant.ensures.forest c.requires.note)
