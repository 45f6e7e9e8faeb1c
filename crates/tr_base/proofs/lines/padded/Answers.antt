use Rattle.tr_base.proofs.LineLemmas.{padded-written}
use Rattle.tr_base.proofs.lines.padded.Goals as goal

pub returns : goal.returns
returns c = padded-written c.args.bytes.now _ c.copy_from_slice.ensures.after
