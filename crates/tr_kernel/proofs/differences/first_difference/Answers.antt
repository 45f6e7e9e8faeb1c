use Rattle.std.proofs.Common.{◌*◌, arith, sym, ◌∙◌}
use Rattle.std.proofs.lemmas.Grind.{same_number_lists}
use Rattle.tr_base.proofs.BoolLemmas.{zero_by_test, some_by_test}
use Rattle.tr_kernel.proofs.AgreeLemmas.{agree_further, lowest}
use Rattle.tr_kernel.proofs.differences.first_difference.Goals as goal

pub returns-then-differ_from-clause-found : goal.returns-then-differ_from-clause-found
returns-then-differ_from-clause-found c =
    let some = some_by_test _ (sym c.differ_from.ensures ∙ c.if-differ_from.true) in
    rw c.differences_at.ensures (lowest c.args.a.now c.args.b.now c.requires (c.loop-chunk.chunk * 64) (omega arith)
    some c.loop-chunk.invariant)

pub loop-chunk-preserved : goal.loop-chunk-preserved
loop-chunk-preserved c =
    agree_further c.args.a.now c.args.b.now c.requires (c.loop-chunk.chunk * 64) (omega arith) (zero_by_test _
    (sym c.differ_from.ensures ∙ c.if-differ_from.false)) _ (omega arith) c.loop-chunk.invariant

pub returns-clause-equal : goal.returns-clause-equal
returns-clause-equal c = same_number_lists c.args.a.now c.args.b.now c.requires (λ k lt. c.loop-at.invariant.same k (omega arith))
