use Rattle.std.proofs.Common.{arith}
use Rattle.tr_words.proofs.LaneLemmas.{lowest_space, no_space}
use Rattle.tr_words.proofs.lanes.space_from.Goals as goal

pub returns-then-spaces-eq0 : goal.returns-then-spaces-eq0
returns-then-spaces-eq0 c =
    no_space c.args.text.now c.args.at c.spaces_from-spaces.result c.requires c.spaces_from-spaces.ensures (omega arith)

pub returns : goal.returns
returns c =
    lowest_space c.args.text.now c.args.at c.spaces_from-spaces.result c.requires c.spaces_from-spaces.ensures (omega arith)
