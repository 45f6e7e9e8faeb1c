use Rattle.std.proofs.Common.{◌≡◌, pos, ◌+ℤ◌, w32, to_z, ◌∙◌, arith}
use Rattle.std.proofs.lemmas.Int.{ints}
use Rattle.tr_base.proofs.RectLemmas.{cast-in_reach}
use Rattle.tr_screen.specs.Readings.{row_in}
use Rattle.tr_screen.proofs.ReadingLemmas.{IsRow, row_of_rect}
use Rattle.tr_screen.proofs.RunLemmas.{run_is}
use Rattle.tr_screen.proofs.runs.row_in.Goals as goal

pub overflow_cast-result : goal.overflow_cast-result
overflow_cast-result c =
    let at : IsRow c.args.rect.now c.args.n = row_of_rect c.args.rect.now c.args.n c.invariant.ensures c.requires in
    omega (arith, ints, at.small)

pub overflow_add-result : goal.overflow_add-result
overflow_add-result c =
    let at : IsRow c.args.rect.now c.args.n = row_of_rect c.args.rect.now c.args.n c.invariant.ensures c.requires in
    let n : to_z w32 c.args.n ≡ pos c.args.n = omega (arith, ints, at.small) in
    rw (cast-in_reach c.north.result c.north.ensures.reach, c.north.ensures.value, n) (omega (arith, ints, at.row.low, at.row.high))

pub returns : goal.returns
returns c =
    let r = c.args.rect.now in
    let at : IsRow r c.args.n = row_of_rect r c.args.n c.invariant.ensures c.requires in
    let n : to_z w32 c.args.n ≡ pos c.args.n = omega (arith, ints, at.small) in
    run_is (row_in r c.args.n) _ _ _
    (rw (cast-in_reach c.north.result c.north.ensures.reach, c.north.ensures.value, n) (cast-in_reach (r.north +ℤ pos c.args.n) at.row))
    (cast-in_reach c.west.result c.west.ensures.reach ∙ c.west.ensures.value)
    (cast-in_reach c.east.result c.east.ensures.reach ∙ c.east.ensures.value)
