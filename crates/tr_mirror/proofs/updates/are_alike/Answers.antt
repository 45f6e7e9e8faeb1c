use Rattle.std.proofs.Common.{◌∙◌}
use Rattle.tr_mirror.proofs.RowLemmas.{alike_is}
use Rattle.tr_mirror.proofs.updates.are_alike.Goals as goal

pub returns-then-pixels-last : goal.returns-then-pixels-last
returns-then-pixels-last c = c.eq.ensures ∙ alike_is c.args.pixels.now c.requires
