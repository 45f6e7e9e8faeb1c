use Rattle.std.proofs.Common.{◌≡◌, ◌+◌, ◌*◌, zip, take, length, count_by, count_ones, ap, ◌∙◌, sym, arith, take_all}
use Rattle.std.proofs.lemmas.List.{length-take-le}
use Rattle.std.proofs.lemmas.List.Sums.{count_by-le-length, count_by_more_yes, count_by_more_no}
use Rattle.tr_base.proofs.BoolLemmas.{zero_by_test}
use Rattle.tr_kernel.specs.Differences.{differ}
use Rattle.tr_kernel.proofs.PairLemmas.{length_pairs, pair_differs, pair_agrees, count_further, no_further}
use Rattle.tr_kernel.proofs.differences.count_row.Goals as goal
use Rattle.tr_kernel.proofs.differences.count_row.Goals.{then-a-at, else-a-at, then-differ_from, else-differ_from}

pub overflow_add-count : goal.overflow_add-count
overflow_add-count c =
    let zs = zip c.args.a.now c.args.b.now in
    let i = c.loop-chunk.chunk * 64 in
    let long : length zs ≡ length c.args.a.now = length_pairs _ _ c.requires in
    let next = count_further c.args.a.now c.args.b.now c.requires i (omega arith) _ _ c.loop-chunk.invariant (ap count_ones c.differences_at.ensures) in
    omega (arith, next, count_by-le-length differ (take (i + 64) zs), length-take-le (i + 64) zs (omega arith))

pub loop-chunk-preserved : goal.loop-chunk-preserved
loop-chunk-preserved c =
    let i = c.loop-chunk.chunk * 64 in
    let on : i + 64 ≡ (c.loop-chunk.chunk + 1) * 64 = omega arith in
    elim c.if-differ_from.branch [
      | then-differ_from w ↦ w.count-is ∙ rw on at (count_further c.args.a.now c.args.b.now c.requires i (omega arith) _ _
          c.loop-chunk.invariant (ap count_ones w.differences_at.ensures))
      | else-differ_from w ↦ w.count-is ∙ rw on at (no_further c.args.a.now c.args.b.now c.requires i (omega arith) _
          c.loop-chunk.invariant (zero_by_test _ (sym c.differ_from.ensures ∙ w.if-differ_from.false)))
    ]

pub loop-at-preserved : goal.loop-at-preserved
loop-at-preserved c =
    let a = c.args.a.now in
    let b = c.args.b.now in
    let i = c.loop-at.at in
    let long : length (zip a b) ≡ length a = length_pairs _ _ c.requires in
    elim c.if-a-at.branch [
      | then-a-at w ↦ w.count-is ∙ ap (λ n. n + 1) c.loop-at.invariant
          ∙ sym (count_by_more_yes differ (zip a b) i (0, 0) (omega arith) (pair_differs a b i (omega arith) c.requires w.if-a-at.true))
      | else-a-at w ↦ w.count-is ∙ c.loop-at.invariant ∙ sym (count_by_more_no differ (zip a b) i (0, 0) (omega arith) (pair_agrees a b i
          (omega arith) c.requires w.if-a-at.false))
    ]

pub returns : goal.returns
returns c =
    let zs = zip c.args.a.now c.args.b.now in
    let long : length zs ≡ length c.args.a.now = length_pairs _ _ c.requires in
    c.loop-at.invariant ∙ ap (count_by differ) (take_all c.loop-at.at zs (omega arith))
