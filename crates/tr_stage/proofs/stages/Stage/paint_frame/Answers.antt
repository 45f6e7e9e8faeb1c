use Rattle.std.proofs.Common.{ap, refl}
use Rattle.std.proofs.lemmas.Bool.{and_right}
use Rattle.tr_spot.specs.Spots.{spot}
use Rattle.tr_surface.specs.Surfaces.{is_frame, is_bad}
use Rattle.tr_journal.specs.declared.steps.Step.TheVariants.{PaintFrame}
use Rattle.tr_stage.specs.Stages.{Parts}
use Rattle.tr_stage.proofs.PartLemmas.{kept_others}
use Rattle.tr_stage.proofs.DeviceLemmas.{Before, IsMaking}
use Rattle.tr_stage.proofs.PaintLemmas.{frame_made}
use Rattle.tr_stage.proofs.stages.Stage.paint_frame.Goals as goal

pub invariant_of-self-2 : goal.invariant_of-self-2
invariant_of-self-2 g c =
    let s = c.self.inside in
    let b : Before g.row.C.Denot g.row.C-Cmd.Denot = record {
      opening = s.opening;
      lines = s.journal.lines;
      parts = record { surface = s.surface; windows = s.windows; mail = s.mail };
      actor = c.args.by.now.actor;
      held = c.args.by.now.level;
    } in
    let m : IsMaking g.C.Client b PaintFrame = record {
      is = c.self.invariant;
      shown = c.invariant.ensures;
      view = c.args.self.now;
      same = ap (λ v. v.opening) c.self.view_is;
      allowed = c.requires.allowed;
    } in
    let new : Parts g.row.C.Denot = record { surface = c.paint_frame.new.self; windows = s.windows; mail = s.mail } in
    let done = c.in_ok-paint_frame.ensures in
    rw (c.write.ensures.lines, c.entry-entry.ensures, c.reserve.ensures.lines)
    (frame_made g.C.Client b new m (record {
      shown = c.invariant-2.ensures;
      tree = c.paint_frame.ensures.tree;
      repaired = record { bad_is = done.bad; painted = done.painted; others = done.others };
      windows = refl;
      mail = refl;
    }))

pub returns-clause-others : goal.returns-clause-others
returns-clause-others g c =
    let was = c.self.inside.surface in
    kept_others g.C.Client PaintFrame c.paint_frame.new.self.screen c.self.view_is c.self.invariant
    (λ p on still. c.in_ok-paint_frame.ensures.others p on (and_right (is_bad was p) (is_frame (spot was.tree p)) still))
