use Rattle.std.proofs.Common.{◌≡◌, ◌+◌, ◌<◌, ◌≤◌, sym, ap, ◌∙◌, arith}
use Rattle.tr_region.specs.Points.{sum_below}
use Rattle.tr_stage.proofs.CountLemmas.{apart_in, cast_row, few_apart, row_apart, sum_more, sum_none}
use Rattle.tr_stage.proofs.counts.count_apart.Goals.{After-count_columns-count}
use Rattle.tr_stage.proofs.counts.count_apart.Goals as goal

-- the count with the points of one row more
counted : (c : After-count_columns-count) →
    c.loop-v.count + c.count_columns-count.result ≡ sum_below (c.loop-v.v + 1) (apart_in c.args.region.now c.args.a.now c.args.b.now)
counted c =
    let region = c.args.region.now in
    let a = c.args.a.now in
    let b = c.args.b.now in
    let v = c.loop-v.v in
    let low : v < 65536 = omega (arith, c.loop-v-test.true, ap (λ s. s.high) c.size-v-end.ensures.value, c.size-v-end.ensures.invariant.size.high) in
    ap (λ n. n + c.count_columns-count.result) c.loop-v.invariant
    ∙ ap (λ n. sum_below v (apart_in region a b) + n) (c.count_columns-count.ensures
    ∙ row_apart region c.row.result.now a b c.row-in-loop-v.result.now c.row-in-loop-v-2.result.now v
    (λ p is. c.row.ensures.points p (is ∙ sym (cast_row v c.from.result c.from.ensures low)))
    c.row-in-loop-v.ensures.value c.row-in-loop-v-2.ensures.value c.row-in-loop-v.ensures.wide)
    ∙ sym (sum_more v (apart_in region a b))

pub loop-v-init : goal.loop-v-init
loop-v-init c = sum_none (apart_in c.args.region.now c.args.a.now c.args.b.now)

pub overflow_add-count : goal.overflow_add-count
overflow_add-count c =
    let size = c.size-v-end.ensures.invariant.size in
    let few = few_apart c.args.region.now c.args.a.now c.args.b.now (c.loop-v.v + 1) size.wide in
    let low : c.loop-v.v + 1 ≤ 1024 = omega (arith, c.loop-v-test.true, ap (λ s. s.high) c.size-v-end.ensures.value, size.high) in
    omega (arith, few, counted c, low)

pub loop-v-preserved : goal.loop-v-preserved
loop-v-preserved c = counted c
