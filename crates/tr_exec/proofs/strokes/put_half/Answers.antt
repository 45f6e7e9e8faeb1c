use Rattle.std.proofs.Common.{arith}
use Rattle.tr_exec.proofs.GlyphLemmas.{put_at}
use Rattle.tr_exec.proofs.strokes.put_half.Goals as goal

pub returns : goal.returns
returns c = put_at 64 c.args.at c.args.bytes.now c.args.half (omega arith) (omega arith)
