use Rattle.std.proofs.Common.{◌+◌, take, drop, ◌∙◌, arith, length-drop}
use Rattle.std.proofs.lemmas.List.{take_at}
use Rattle.w_lines.proofs.BlockLemmas.{last-from}
use Rattle.w_lines.proofs.typescripts.without_stale.Goals as goal

pub returns-then-stale-lt-MOST_LINES-clause-lines : goal.returns-then-stale-lt-MOST_LINES-clause-lines
returns-then-stale-lt-MOST_LINES-clause-lines c = last-from c.args.block.now.items c.args.stale _ c.requires (omega arith)

pub returns-clause-lines : goal.returns-clause-lines
returns-clause-lines c =
    let xs = c.args.block.now.items in
    let n = c.args.stale + c.saturating_sub.result in
    rw (c.truncate.ensures.items, c.rotate_left.ensures.items)
    (take_at (drop n xs) (take n xs) _ (omega (arith, length-drop n xs)) ∙ last-from xs c.args.stale n c.requires (omega arith))
