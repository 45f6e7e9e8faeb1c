use Rattle.std.proofs.lemmas.List.{take_rest}
use Rattle.tr_region.proofs.CutLemmas.{cut_front, cut_back, swept_first, swept_second}
use Rattle.tr_region.proofs.sweeps.Sweep.begin.Goals as goal

pub of-requires : goal.of-requires
of-requires c = rw take_rest (cut_back c.args.first.now _ c.count_before-at.result c.requires.first c.count_before-at.ensures)

pub begin-requires-clause-lead : goal.begin-requires-clause-lead
begin-requires-clause-lead c = cut_front c.args.first.now _ c.count_before-at.result c.requires.first c.count_before-at.ensures

pub returns-then-at-gt0-clause-made : goal.returns-then-at-gt0-clause-made
returns-then-at-gt0-clause-made c =
    let made = rw c.keeps.ensures at c.in_ok-begin.ensures in
    let swept = swept_first c.args.operation c.args.first.now c.args.second.now _ c.count_before-at.result _ c.requires.first c.requires.second
    c.count_before-at.ensures made.rects made.last in
    let rest = rw take_rest at c.of.ensures in
    rw (rest, c.of-then-at-gt0.ensures) swept.made

pub returns-then-at-gt0-clause-kept : goal.returns-then-at-gt0-clause-kept
returns-then-at-gt0-clause-kept c =
    let made = rw c.keeps.ensures at c.in_ok-begin.ensures in
    let swept = swept_first c.args.operation c.args.first.now c.args.second.now _ c.count_before-at.result _ c.requires.first c.requires.second
    c.count_before-at.ensures made.rects made.last in
    let rest = rw take_rest at c.of.ensures in
    rw (rest, c.of-then-at-gt0.ensures) swept.kept

pub of-requires-3 : goal.of-requires-3
of-requires-3 c = rw take_rest (cut_back c.args.second.now _ c.count_before-at-2.result c.requires.second c.count_before-at-2.ensures)

pub begin-requires-2-clause-lead : goal.begin-requires-2-clause-lead
begin-requires-2-clause-lead c = cut_front c.args.second.now _ c.count_before-at-2.result c.requires.second c.count_before-at-2.ensures

pub returns-clause-made : goal.returns-clause-made
returns-clause-made c =
    let made = rw c.keeps-2.ensures at c.in_ok-begin-2.ensures in
    let swept = swept_second c.args.operation c.args.first.now c.args.second.now _ c.count_before-at-2.result _ c.requires.first c.requires.second
    c.count_before-at-2.ensures made.rects made.last in
    let rest = rw take_rest at c.of-3.ensures in
    rw (rest, c.of-2.ensures) swept.made

pub returns-clause-kept : goal.returns-clause-kept
returns-clause-kept c =
    let made = rw c.keeps-2.ensures at c.in_ok-begin-2.ensures in
    let swept = swept_second c.args.operation c.args.first.now c.args.second.now _ c.count_before-at-2.result _ c.requires.first c.requires.second
    c.count_before-at-2.ensures made.rects made.last in
    let rest = rw take_rest at c.of-3.ensures in
    rw (rest, c.of-2.ensures) swept.kept
