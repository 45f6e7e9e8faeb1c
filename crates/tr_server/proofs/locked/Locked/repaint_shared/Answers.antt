use Rattle.std.proofs.Common.{◌∷◌, [], ◌∙◌}
use Rattle.tr_base.proofs.ResultFacts.{on_err}
use Rattle.tr_levels.specs.declared.Level.TheVariants.{Mu}
use Rattle.tr_machine.specs.Replays.{under}
use Rattle.tr_machine.specs.SharedRepaints.{flushing}
use Rattle.tr_stage.specs.Stages.{state}
use Rattle.tr_stage.proofs.SharedLemmas.{AreShared, shared_good, shared_idle, shared_screen}
use Rattle.tr_server.proofs.MadeLemmas.{begun_more, made_actor}
use Rattle.tr_server.proofs.ShareLemmas.{are_shared, begun_frames, begun_shares, flushed_none, made_sharing}
use Rattle.tr_server.proofs.locked.Locked.repaint_shared.Given.{Over}
use Rattle.tr_server.proofs.locked.Locked.repaint_shared.Goals.{After-invariant-3}
use Rattle.tr_server.proofs.locked.Locked.repaint_shared.Goals as goal

shared : (g : Over) (c : After-invariant-3 g) → AreShared g.C.Client c.args.self.now c.flush_all.new.self c.paint_shares.new.self c.paint_frames.new.self
shared g c =
    are_shared g.C.Client c.args.self.now c.flush_all.new.self c.paint_shares.new.self c.paint_frames.new.self
    c.args.pass.now c.flush_all.new.pass c.paint_shares.new.pass c.paint_frames.new.pass (record {
      stands1 = c.invariant.ensures.stands;
      stands2 = c.invariant-2.ensures.stands;
      stands3 = c.invariant-3.ensures.stands;
      flushes = c.in_ok-flush_all.ensures.ok;
      shares = c.in_ok-paint_shares.ensures.ok;
      frames = c.in_ok-paint_frames.ensures.ok;
    })

pub paint_shares-requires-clause-painter : goal.paint_shares-requires-clause-painter
paint_shares-requires-clause-painter g c κs within =
    made_actor g.C.Client c.args.self.now c.flush_all.new.self c.args.pass.now c.flush_all.new.pass _ c.in_ok-flush_all.ensures.ok ∙ c.requires

pub paint_shares-requires-clause-idle : goal.paint_shares-requires-clause-idle
paint_shares-requires-clause-idle g c κs within =
    flushed_none g.C.Client c.args.self.now c.flush_all.new.self c.args.pass.now c.flush_all.new.pass c.in_ok-flush_all.ensures.ok

pub paint_frames-requires-after_bounds : goal.paint_frames-requires-after_bounds
paint_frames-requires-after_bounds g c κs within =
    made_actor g.C.Client c.flush_all.new.self c.paint_shares.new.self c.flush_all.new.pass c.paint_shares.new.pass _ c.in_ok-paint_shares.ensures.ok
    ∙ (made_actor g.C.Client c.args.self.now c.flush_all.new.self c.args.pass.now c.flush_all.new.pass _ c.in_ok-flush_all.ensures.ok ∙ c.requires)

pub returns-in_err-flush_all-clause-err : goal.returns-in_err-flush_all-clause-err
returns-in_err-flush_all-clause-err g c =
    on_err c.from_residual.result
    (begun_more g.C.Client c.args.self.now c.flush_all.new.self c.args.pass.now c.flush_all.new.pass
    (under (Mu ∷ []) (flushing g.C.Client (state g.C.Client c.args.self.now))) _ c.in_err-flush_all.ensures.err)

pub returns-in_err-paint_shares-clause-err : goal.returns-in_err-paint_shares-clause-err
returns-in_err-paint_shares-clause-err g c =
    on_err c.from_residual-in_err-paint_shares.result
    (begun_shares g.C.Client c.args.self.now c.flush_all.new.self c.args.pass.now c.flush_all.new.pass c.in_ok-flush_all.ensures.ok
    c.paint_shares.new.self c.paint_shares.new.pass c.in_err-paint_shares.ensures.err)

pub returns-in_err-paint_frames-clause-err : goal.returns-in_err-paint_frames-clause-err
returns-in_err-paint_frames-clause-err g c =
    on_err c.from_residual-in_err-paint_frames.result
    (begun_frames g.C.Client c.args.self.now c.flush_all.new.self c.args.pass.now c.flush_all.new.pass c.in_ok-flush_all.ensures.ok
    c.paint_shares.new.self c.paint_shares.new.pass c.in_ok-paint_shares.ensures.ok
    c.paint_frames.new.self c.paint_frames.new.pass c.in_err-paint_frames.ensures.err)

pub returns-clause-ok : goal.returns-clause-ok
returns-clause-ok g c =
    made_sharing g.C.Client c.args.self.now c.flush_all.new.self c.args.pass.now c.flush_all.new.pass c.in_ok-flush_all.ensures.ok
    c.paint_shares.new.self c.paint_shares.new.pass c.in_ok-paint_shares.ensures.ok
    c.paint_frames.new.self c.paint_frames.new.pass c.in_ok-paint_frames.ensures.ok

pub returns-clause-idle : goal.returns-clause-idle
returns-clause-idle g c =
    shared_idle g.C.Client c.args.self.now c.flush_all.new.self c.paint_shares.new.self c.paint_frames.new.self (shared g c)

pub returns-clause-good : goal.returns-clause-good
returns-clause-good g c =
    shared_good g.C.Client c.args.self.now c.flush_all.new.self c.paint_shares.new.self c.paint_frames.new.self (shared g c)

pub returns-clause-screen : goal.returns-clause-screen
returns-clause-screen g c =
    shared_screen g.C.Client c.args.self.now c.flush_all.new.self c.paint_shares.new.self c.paint_frames.new.self (shared g c)
