use Rattle.std.proofs.Common.{List, subst}
use Rattle.tr_paint.specs.declared.Paint.{Paint}
use Rattle.tr_windows.specs.Promises.{IsCovered}
use Rattle.tr_windows.proofs.windows.Windows.is_covered.Goals as goal

pub returns : goal.returns
returns g c = λ yes look.
    subst (λ (batch : List Paint). IsCovered look c.args.exposure.now c.args.clip.now batch) c.batch.ensures (c.is_covered.ensures yes look)
