use Rattle.std.proofs.Common.{◌∙◌}
use Rattle.tr_mirror.proofs.RunLemmas.{first_is}
use Rattle.tr_mirror.proofs.mirrors.Mirror.restart.Goals as goal

pub returns : goal.returns
returns c = c.restart.ensures ∙ first_is
