use Rattle.std.proofs.Common.{◌≡◌, ◌∷◌, ◌++◌, map}
use Rattle.std.specs.List.{range_with_len}
use Rattle.tr_base.specs.declared.Op.TheVariants.{Bg}
use Rattle.tr_base.specs.Rects.{whole_of}
use Rattle.tr_paint.specs.declared.Paint.TheVariants.{Tint}
use Rattle.tr_paint.specs.Batches.{batch_of}
use Rattle.w_edit.specs.Pictures.{written}
use Rattle.w_edit.proofs.views.View.repaint.Given as goal

-- the lines so far are written
abbrev pub invariant-loop-above : goal.invariant-loop-above
invariant-loop-above l =
    l.batch ≡ l.fn.batch ++ batch_of (Tint (whole_of l.size) Bg ∷ map (written l.size l.self) (range_with_len 0 l.above))
