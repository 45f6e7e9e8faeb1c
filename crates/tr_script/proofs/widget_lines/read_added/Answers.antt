use Rattle.std.proofs.Common.{rules}
use Rattle.std.proofs.lemmas.List.Splits.{join_with_byte-slice_split}
use Rattle.tr_script.proofs.widget_lines.read_added.Goals as goal

pub returns-in_err-text : goal.returns-in_err-text
returns-in_err-text c = search (rules, join_with_byte-slice_split 32 c.args.added.now)

pub returns-in_err-leaf : goal.returns-in_err-leaf
returns-in_err-leaf c = search (rules, join_with_byte-slice_split 32 c.args.added.now)

pub returns : goal.returns
returns c = search (rules, join_with_byte-slice_split 32 c.args.added.now)
