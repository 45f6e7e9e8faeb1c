use Rattle.std.proofs.Common.{◌≡◌, false, List, Option, Some, None, Result, Ok, Err, inl, inr, refl, subst}
use Rattle.std.specs.Prelude.{IfOk, IfSome, unwrap_or}
use Rattle.tr_base.specs.declared.Point.{Point}
use Rattle.tr_base.specs.Rects.{has_point}
use Rattle.tr_paint.specs.declared.Paint.{Paint}
use Rattle.tr_paint.specs.Traces.{Look, look_of}
use Rattle.tr_client.specs.declared.clients.Client.{Ghosts}
use Rattle.tr_windows.specs.declared.exposures.Exposure.{Exposure}
use Rattle.tr_windows.specs.Presents.{Present}
use Rattle.tr_windows.specs.Promises.{FlushesByPainting, LosesNothingOf, RepaintsWindow}
use Rattle.tr_windows.proofs.present.Window.repainting.Goals as goal

-- where nothing is bad or lost, what flushes a window repaints it
by_flush : {C M E : Type 0} (client : Ghosts C M) (look : Look) (e : Exposure) (w : Present C) → ((q : Point) → has_point e.bad q ≡ false) →
    LosesNothingOf e look w.batch → (made : Result (Option (List Paint)) E) →
    IfOk made (λ o. IfSome o (λ cs. FlushesByPainting client look e w cs)) → IfOk made (λ o. RepaintsWindow client look e w (unwrap_or o w.batch))
by_flush client look e w good keeps (Err x) h = h
by_flush client look e w good keeps (Ok None) h = inr (record { waits = refl; good = good; keeps = keeps })
by_flush client look e w good keeps (Ok (Some cs)) h = inl h.painting

pub returns-then-keeps_all : goal.returns-then-keeps_all
returns-then-keeps_all g c =
    let look = look_of c.args.env.now.kind c.args.env.now.font.now in
    by_flush g.C.Client look c.args.exposure.now c.args.self.now (c.keeps_all.ensures.good c.if-keeps_all.true)
    (subst (λ (w : Present g.row.C.Denot). LosesNothingOf c.args.exposure.now look w.batch) c.self.view_is
    (c.keeps_all.ensures.keeps c.if-keeps_all.true look)) c.flushing.result c.flushing.ensures
