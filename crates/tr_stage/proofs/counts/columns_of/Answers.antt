use Rattle.tr_base.proofs.LayoutLemmas.{ordered}
use Rattle.tr_base.proofs.RectLemmas.{cast-in_reach}
use Rattle.tr_stage.proofs.CountLemmas.{columns_cut, columns_order}
use Rattle.tr_stage.proofs.counts.columns_of.Goals as goal

pub returns-clause-order : goal.returns-clause-order
returns-clause-order c =
    let first = rw (cast-in_reach _ c.west.ensures.reach, c.west.ensures.value) at c.nearest_row-from.ensures in
    let last = rw (cast-in_reach _ c.east.ensures.reach, c.east.ensures.value) at c.nearest_row-to.ensures in
    rw (c.from.ensures, c.from-2.ensures) (columns_order _ _ _ _ _ first last (ordered c.args.rect.now c.invariant.ensures).0)

pub returns-clause-columns : goal.returns-clause-columns
returns-clause-columns c = λ x low.
    let first = rw (cast-in_reach _ c.west.ensures.reach, c.west.ensures.value) at c.nearest_row-from.ensures in
    let last = rw (cast-in_reach _ c.east.ensures.reach, c.east.ensures.value) at c.nearest_row-to.ensures in
    rw (c.from.ensures, c.from-2.ensures) (columns_cut _ _ _ _ _ first last x low)
