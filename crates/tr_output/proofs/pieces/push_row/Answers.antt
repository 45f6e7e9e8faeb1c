use Rattle.std.proofs.Common.{◌≡◌, length, rules}
use Rattle.tr_output.proofs.PieceLemmas.{kept_row, new_row}
use Rattle.tr_output.proofs.pieces.push_row.Goals as goal

pub returns-in-Some-clause-text : goal.returns-in-Some-clause-text
returns-in-Some-clause-text c =
    let kept = rw c.deref-2.ensures.value at c.in-Some.ensures in
    rw c.push_reserved.ensures.items (kept_row c.args.pixels.now.items c.args.pieces.now.items c.in-Some.start c.args.row.now kept)

pub returns-clause-text : goal.returns-clause-text
returns-clause-text c =
    let appended = rw c.unwrap.ensures at c.extend_from_slice.ensures.items in
    let start : c.len-start.result ≡ length c.args.pixels.now.items = search rules in
    rw (c.push_reserved-2.ensures.items, appended, start) (new_row c.args.pixels.now.items c.args.pieces.now.items c.args.row.now c.requires.within)
