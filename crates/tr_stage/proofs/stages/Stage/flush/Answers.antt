use Rattle.std.proofs.Common.{ap, refl, ◌∙◌}
use Rattle.tr_journal.specs.declared.steps.Step.TheVariants.{Flush}
use Rattle.tr_stage.specs.Stages.{Parts}
use Rattle.tr_stage.proofs.PartLemmas.{kept_others}
use Rattle.tr_stage.proofs.DeviceLemmas.{Before, IsMaking}
use Rattle.tr_stage.proofs.PaintLemmas.{flush_made, leaf_within}
use Rattle.tr_stage.proofs.stages.Stage.flush.Goals as goal

pub flushing-requires-clause-window : goal.flushing-requires-clause-window
flushing-requires-clause-window g c κs within =
    let s = c.self.inside in
    let b : Before g.row.C.Denot g.row.C-Cmd.Denot = record {
      opening = s.opening;
      lines = s.journal.lines;
      parts = record { surface = s.surface; windows = s.windows; mail = s.mail };
      actor = c.args.by.now.actor;
      held = c.args.by.now.level;
    } in
    leaf_within g.C.Client c.args.self.now b c.args.leaf (ap (λ v. v.opening) c.self.view_is) c.self.invariant c.requires.allowed.own.values

pub batch-requires-after_bounds : goal.batch-requires-after_bounds
batch-requires-after_bounds g c κs within =
    let s = c.self.inside in
    let b : Before g.row.C.Denot g.row.C-Cmd.Denot = record {
      opening = s.opening;
      lines = s.journal.lines;
      parts = record { surface = s.surface; windows = s.windows; mail = s.mail };
      actor = c.args.by.now.actor;
      held = c.args.by.now.level;
    } in
    leaf_within g.C.Client c.args.self.now b c.args.leaf (ap (λ v. v.opening) c.self.view_is) c.self.invariant c.requires.allowed.own.values

pub clear-requires-after_bounds : goal.clear-requires-after_bounds
clear-requires-after_bounds g c κs within =
    let s = c.self.inside in
    let b : Before g.row.C.Denot g.row.C-Cmd.Denot = record {
      opening = s.opening;
      lines = s.journal.lines;
      parts = record { surface = s.surface; windows = s.windows; mail = s.mail };
      actor = c.args.by.now.actor;
      held = c.args.by.now.level;
    } in
    leaf_within g.C.Client c.args.self.now b c.args.leaf (ap (λ v. v.opening) c.self.view_is) c.self.invariant c.requires.allowed.own.values

pub invariant_of-self-2 : goal.invariant_of-self-2
invariant_of-self-2 g c =
    let s = c.self.inside in
    let b : Before g.row.C.Denot g.row.C-Cmd.Denot = record {
      opening = s.opening;
      lines = s.journal.lines;
      parts = record { surface = s.surface; windows = s.windows; mail = s.mail };
      actor = c.args.by.now.actor;
      held = c.args.by.now.level;
    } in
    let m : IsMaking g.C.Client b (Flush c.args.leaf) = record {
      is = c.self.invariant;
      shown = c.invariant.ensures;
      view = c.args.self.now;
      same = ap (λ v. v.opening) c.self.view_is;
      allowed = c.requires.allowed;
    } in
    let new : Parts g.row.C.Denot = record { surface = c.execute-executed.new.self; windows = c.clear.new.self; mail = s.mail } in
    let done = c.in_ok-executed.ensures in
    rw (c.write.ensures.lines, c.entry-entry.ensures, c.reserve.ensures.lines)
    (flush_made g.C.Client b c.args.leaf new m (record {
      shown = c.invariant-2.ensures;
      tree = c.execute-executed.ensures.tree;
      font = c.font-font.result.now;
      font_is = c.font-font.ensures;
      batch = c.either-batch.result.now;
      executed = record { known = done.known; unknown = done.unknown; untouched = done.untouched; pixels = done.pixels; others = done.others };
      windows = c.clear.ensures;
      mail = refl;
    })
    (record {
      painting = c.in_ok-painting.painting;
      flushes = c.in_ok-painting.ensures;
      some = c.either-batch.ensures.painting;
      none = λ h. c.either-batch.ensures.waiting h ∙ c.batch.ensures;
    }))

pub returns-clause-others : goal.returns-clause-others
returns-clause-others g c =
    kept_others g.C.Client (Flush c.args.leaf) c.execute-executed.new.self.screen c.self.view_is c.self.invariant
    c.in_ok-executed.ensures.pixels
