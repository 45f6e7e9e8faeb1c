use Rattle.std.proofs.Common.{subst}
use Rattle.tr_paint.specs.Traces.{look_of}
use Rattle.tr_windows.specs.Presents.{Present}
use Rattle.tr_windows.specs.Promises.{LosesNothingOf}
use Rattle.tr_windows.proofs.present.Window.flushing.Goals as goal

pub returns : goal.returns
returns g c =
    let look = look_of c.args.env.now.kind c.args.env.now.font.now in
    record {
      painting = c.in_ok-painting.ensures;
      good = c.is_replaceable.ensures.good c.if-not-is_replaceable.false;
      keeps = subst (λ (w : Present g.row.C.Denot). LosesNothingOf c.args.exposure.now look w.batch) c.self.view_is
          (c.is_replaceable.ensures.keeps c.if-not-is_replaceable.false look);
    }
