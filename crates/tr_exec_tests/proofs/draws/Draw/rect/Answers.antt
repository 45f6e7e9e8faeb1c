use Rattle.std.proofs.Common.{refl}
use Rattle.tr_base.proofs.RectLemmas.{cast-rect}
use Rattle.tr_paint.proofs.NearLemmas.{rect_of-near}
use Rattle.tr_exec.proofs.TracedLemmas.{near-reach}
use Rattle.tr_exec_tests.proofs.draws.Draw.rect.Goals as goal

pub returns : goal.returns
returns c =
    let w = c.sides-west.result.0 in
    let e = c.sides-west.result.1 in
    let n = c.sides-north.result.0 in
    let s = c.sides-north.result.1 in
    let same = cast-rect c.edges.result w e n s w e n s (near-reach w c.sides-west.ensures.low) (near-reach e c.sides-west.ensures.high)
    (near-reach n c.sides-north.ensures.low) (near-reach s c.sides-north.ensures.high) c.edges.ensures.edges refl refl refl refl in
    rw same (rect_of-near w e n s c.sides-west.ensures.low c.sides-west.ensures.high c.sides-north.ensures.low c.sides-north.ensures.high)
