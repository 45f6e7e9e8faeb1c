use Rattle.std.proofs.Common.{length}
use Rattle.tr_script.proofs.LineLemmas.{IsReadTo}
use Rattle.tr_chunks.proofs.scripts.read_lines.Given as goal

abbrev pub invariant-loop-rest : goal.invariant-loop-rest
invariant-loop-rest g l = IsReadTo l.bytes l.rest l.number l.reader

abbrev pub decreases-loop-rest : goal.decreases-loop-rest
decreases-loop-rest g l = length l.rest
