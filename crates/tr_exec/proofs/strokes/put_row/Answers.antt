use Rattle.std.proofs.Common.{arith}
use Rattle.tr_exec.proofs.GlyphLemmas.{put_at}
use Rattle.tr_exec.proofs.strokes.put_row.Goals as goal

pub returns : goal.returns
returns c = put_at 640 c.args.at c.args.bits.now c.args.row (omega arith) (omega arith)
