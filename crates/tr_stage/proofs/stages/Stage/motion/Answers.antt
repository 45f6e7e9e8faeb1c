use Rattle.std.proofs.Common.{ap, refl}
use Rattle.tr_mail.specs.Mails.{Sending}
use Rattle.tr_journal.specs.declared.steps.Step.TheVariants.{Motion}
use Rattle.tr_stage.specs.Making.{line_told}
use Rattle.tr_stage.proofs.DeviceLemmas.{Before, IsMaking, IsTold, device_line, device_told, motion, is_motion, makes_line}
use Rattle.tr_stage.proofs.stages.Stage.motion.Goals as goal

pub invariant_of-self : goal.invariant_of-self
invariant_of-self g c =
    let s = c.self.inside in
    let b : Before g.row.C.Denot g.row.C-Cmd.Denot = record {
      opening = s.opening;
      lines = s.journal.lines;
      parts = record { surface = s.surface; windows = s.windows; mail = s.mail };
      actor = c.args.by.now.actor;
      held = c.args.by.now.level;
    } in
    let m : IsMaking g.C.Client b (Motion c.args.time c.args.at) = record {
      is = c.self.invariant;
      shown = c.tree.ensures.invariant;
      view = c.args.self.now;
      same = ap (λ v. v.opening) c.self.view_is;
      allowed = c.requires.allowed;
    } in
    let after : Sending = record { mail = c.motion-told.new.self; sent = c.motion-told.new.out } in
    let told : IsTold b.parts (motion c.args.time c.args.at) c.tree.result.now after c.motion-told.result = record {
      same = c.tree.ensures.value;
      ok = c.motion-told.ensures.ok;
      allowed = c.motion-told.ensures.allowed;
      fault = c.motion-told.ensures.fault;
      err = c.motion-told.ensures.err;
    } in
    rw (c.write_told.ensures.lines)
    (device_told g.C.Client b (Motion c.args.time c.args.at) (motion c.args.time c.args.at) c.tree.result.now after c.motion-told.result m
    (is_motion g.C.Client c.args.time c.args.at) told)

pub returns-clause-made : goal.returns-clause-made
returns-clause-made g c =
    let s = c.self.inside in
    let b : Before g.row.C.Denot g.row.C-Cmd.Denot = record {
      opening = s.opening;
      lines = s.journal.lines;
      parts = record { surface = s.surface; windows = s.windows; mail = s.mail };
      actor = c.args.by.now.actor;
      held = c.args.by.now.level;
    } in
    let m : IsMaking g.C.Client b (Motion c.args.time c.args.at) = record {
      is = c.self.invariant;
      shown = c.tree.ensures.invariant;
      view = c.args.self.now;
      same = ap (λ v. v.opening) c.self.view_is;
      allowed = c.requires.allowed;
    } in
    let after : Sending = record { mail = c.motion-told.new.self; sent = c.motion-told.new.out } in
    let told : IsTold b.parts (motion c.args.time c.args.at) c.tree.result.now after c.motion-told.result = record {
      same = c.tree.ensures.value;
      ok = c.motion-told.ensures.ok;
      allowed = c.motion-told.ensures.allowed;
      fault = c.motion-told.ensures.fault;
      err = c.motion-told.ensures.err;
    } in
    makes_line g.C.Client (line_told b.actor b.held (Motion c.args.time c.args.at) c.motion-told.result c.motion-told.new.out) c.self.view_is
    (device_line g.C.Client b (Motion c.args.time c.args.at) (motion c.args.time c.args.at) c.tree.result.now after c.motion-told.result m
    (is_motion g.C.Client c.args.time c.args.at) told)
    refl c.write_told.ensures.lines c.write_told.ensures.reply
