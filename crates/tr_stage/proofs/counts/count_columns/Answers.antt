use Rattle.std.proofs.Common.{◌≡◌, ◌+◌, ◌≤◌, length, take, sym, ap, ◌∙◌, arith}
use Rattle.tr_stage.proofs.CountLemmas.{columns_all, columns_more, columns_none, count_in, count_in-le, part_few}
use Rattle.tr_stage.proofs.counts.count_columns.Goals.{After-count_row}
use Rattle.tr_stage.proofs.counts.count_columns.Goals as goal

-- the count with the places in the columns of one rectangle more
counted : (c : After-count_row) →
    c.loop-rect.count + c.count_row.result ≡ count_in (take (c.loop-rect.rect-index + 1) c.args.rects.now) c.args.a.now c.args.b.now
counted c =
    let rects = c.args.rects.now in
    let a = c.args.a.now in
    let b = c.args.b.now in
    let columns = c.columns_of-from.result in
    ap (λ n. n + c.count_row.result) c.loop-rect.invariant
    ∙ ap (λ n. count_in (take c.loop-rect.rect-index rects) a b + n) c.count_row.ensures
    ∙ sym (columns_more rects c.loop-rect.rect-index c.rect-item.result a b columns.0 columns.1 c.requires.apart (c.loop-rect-test.true, c.rect-item.is)
    (c.columns_of-from.ensures.order, c.columns_of-from.ensures.within) c.requires.same c.columns_of-from.ensures.columns)

pub loop-rect-init : goal.loop-rect-init
loop-rect-init c = columns_none c.args.rects.now c.args.a.now c.args.b.now

pub overflow_cast-count : goal.overflow_cast-count
overflow_cast-count c =
    let columns = c.columns_of-from.result in
    let few = part_few c.args.a.now c.args.b.now columns.0 columns.1 (c.columns_of-from.ensures.order, c.columns_of-from.ensures.within) c.requires.same in
    omega (arith, few, c.count_row.ensures, c.requires.few)

pub overflow_add-count : goal.overflow_add-count
overflow_add-count c =
    let few = count_in-le (take (c.loop-rect.rect-index + 1) c.args.rects.now) c.args.a.now c.args.b.now in
    omega (arith, few, counted c, c.requires.few)

pub loop-rect-preserved : goal.loop-rect-preserved
loop-rect-preserved c = counted c

pub returns : goal.returns
returns c =
    let all : length c.args.rects.now ≤ c.loop-rect.rect-index = omega (arith, c.loop-rect-test.false) in
    c.loop-rect.invariant ∙ columns_all c.args.rects.now c.loop-rect.rect-index c.args.a.now c.args.b.now all
