use Rattle.std.proofs.Common.{ap, refl}
use Rattle.tr_mail.specs.Mails.{Sending}
use Rattle.tr_journal.specs.declared.steps.Step.TheVariants.{Mouse}
use Rattle.tr_stage.specs.Making.{line_told}
use Rattle.tr_stage.proofs.DeviceLemmas.{Before, IsMaking, IsTold, device_line, device_told, mouse, is_mouse, makes_line}
use Rattle.tr_stage.proofs.stages.Stage.mouse.Goals as goal

pub invariant_of-self : goal.invariant_of-self
invariant_of-self g c =
    let s = c.self.inside in
    let b : Before g.row.C.Denot g.row.C-Cmd.Denot = record {
      opening = s.opening;
      lines = s.journal.lines;
      parts = record { surface = s.surface; windows = s.windows; mail = s.mail };
      actor = c.args.by.now.actor;
      held = c.args.by.now.level;
    } in
    let m : IsMaking g.C.Client b (Mouse c.args.time c.args.button c.args.down) = record {
      is = c.self.invariant;
      shown = c.tree.ensures.invariant;
      view = c.args.self.now;
      same = ap (λ v. v.opening) c.self.view_is;
      allowed = c.requires.allowed;
    } in
    let after : Sending = record { mail = c.mouse-told.new.self; sent = c.mouse-told.new.out } in
    let told : IsTold b.parts (mouse c.args.time c.args.button c.args.down) c.tree.result.now after c.mouse-told.result = record {
      same = c.tree.ensures.value;
      ok = c.mouse-told.ensures.ok;
      allowed = c.mouse-told.ensures.allowed;
      fault = c.mouse-told.ensures.fault;
      err = c.mouse-told.ensures.err;
    } in
    rw (c.write_told.ensures.lines)
    (device_told g.C.Client b (Mouse c.args.time c.args.button c.args.down) (mouse c.args.time c.args.button c.args.down)
    c.tree.result.now after c.mouse-told.result m
    (is_mouse g.C.Client c.args.time c.args.button c.args.down) told)

pub returns-clause-made : goal.returns-clause-made
returns-clause-made g c =
    let s = c.self.inside in
    let b : Before g.row.C.Denot g.row.C-Cmd.Denot = record {
      opening = s.opening;
      lines = s.journal.lines;
      parts = record { surface = s.surface; windows = s.windows; mail = s.mail };
      actor = c.args.by.now.actor;
      held = c.args.by.now.level;
    } in
    let m : IsMaking g.C.Client b (Mouse c.args.time c.args.button c.args.down) = record {
      is = c.self.invariant;
      shown = c.tree.ensures.invariant;
      view = c.args.self.now;
      same = ap (λ v. v.opening) c.self.view_is;
      allowed = c.requires.allowed;
    } in
    let after : Sending = record { mail = c.mouse-told.new.self; sent = c.mouse-told.new.out } in
    let told : IsTold b.parts (mouse c.args.time c.args.button c.args.down) c.tree.result.now after c.mouse-told.result = record {
      same = c.tree.ensures.value;
      ok = c.mouse-told.ensures.ok;
      allowed = c.mouse-told.ensures.allowed;
      fault = c.mouse-told.ensures.fault;
      err = c.mouse-told.ensures.err;
    } in
    makes_line g.C.Client (line_told b.actor b.held (Mouse c.args.time c.args.button c.args.down) c.mouse-told.result c.mouse-told.new.out) c.self.view_is
    (device_line g.C.Client b (Mouse c.args.time c.args.button c.args.down) (mouse c.args.time c.args.button c.args.down)
    c.tree.result.now after c.mouse-told.result m
    (is_mouse g.C.Client c.args.time c.args.button c.args.down) told)
    refl c.write_told.ensures.lines c.write_told.ensures.reply
