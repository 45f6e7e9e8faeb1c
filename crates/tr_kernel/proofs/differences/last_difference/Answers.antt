use Rattle.std.proofs.Common.{◌-◌, ◌*◌, arith, sym, ◌∙◌}
use Rattle.std.proofs.lemmas.Grind.{same_number_lists}
use Rattle.tr_base.proofs.BoolLemmas.{zero_by_test}
use Rattle.tr_kernel.proofs.AgreeLemmas.{agree_earlier, highest}
use Rattle.tr_kernel.proofs.differences.last_difference.Goals as goal

pub returns-then-differ_from-clause-found : goal.returns-then-differ_from-clause-found
returns-then-differ_from-clause-found c =
    highest c.args.a.now c.args.b.now c.requires ((c.loop-chunk.chunk - 1) * 64) (omega arith) c.ilog2.result c.ilog2.ensures.bound
    (rw c.differences_at.ensures at c.ilog2.ensures.power_le)
    (rw c.differences_at.ensures at c.ilog2.ensures.next_power_gt) (c.loop-chunk.chunk * 64) (omega arith) c.loop-chunk.invariant

pub loop-chunk-preserved : goal.loop-chunk-preserved
loop-chunk-preserved c =
    agree_earlier c.args.a.now c.args.b.now c.requires ((c.loop-chunk.chunk - 1) * 64) (omega arith) (zero_by_test _
    (sym c.differ_from.ensures ∙ c.if-differ_from.false)) (c.loop-chunk.chunk * 64)
    (omega arith) c.loop-chunk.invariant

pub returns-clause-equal : goal.returns-clause-equal
returns-clause-equal c = same_number_lists c.args.a.now c.args.b.now c.requires (λ k lt. c.loop-chunk.invariant.same k (omega arith) lt)
