use Rattle.std.proofs.Common.{arith, refl}
use Rattle.std.proofs.lemmas.Bool.{false≢true, iff_false}
use Rattle.std.proofs.lemmas.List.{same_lists}
use Rattle.w_canvas.proofs.FigureLemmas.{lists-differ}
use Rattle.w_canvas.proofs.canvases.are_same.Goals as goal

pub returns-then-not-same : goal.returns-then-not-same
returns-then-not-same c = (
  λ h. absurd (false≢true h),
  λ h. absurd (lists-differ c.args.figures.now c.args.others.now c.loop-i.i _ _ c.loop-i-test.true c.index-figures-i.is c.index-others-i.is
      (iff_false c.same.ensures c.if-not-same.true) h),
)

pub returns : goal.returns
returns c = (λ h. same_lists c.args.figures.now c.args.others.now c.if-figures-others.false (λ k d h. c.loop-i.invariant k d (omega arith)), λ h. refl)
