use Rattle.std.proofs.Common.{ap, refl}
use Rattle.tr_mail.specs.Mails.{Sending}
use Rattle.tr_journal.specs.declared.steps.Step.TheVariants.{Key}
use Rattle.tr_stage.specs.Making.{line_told}
use Rattle.tr_stage.proofs.DeviceLemmas.{Before, IsMaking, IsTold, device_line, device_told, key, is_key, makes_line}
use Rattle.tr_stage.proofs.stages.Stage.key.Goals as goal

pub invariant_of-self : goal.invariant_of-self
invariant_of-self g c =
    let s = c.self.inside in
    let b : Before g.row.C.Denot g.row.C-Cmd.Denot = record {
      opening = s.opening;
      lines = s.journal.lines;
      parts = record { surface = s.surface; windows = s.windows; mail = s.mail };
      actor = c.args.by.now.actor;
      held = c.args.by.now.level;
    } in
    let m : IsMaking g.C.Client b (Key c.args.time c.args.code) = record {
      is = c.self.invariant;
      shown = c.invariant.ensures;
      view = c.args.self.now;
      same = ap (λ v. v.opening) c.self.view_is;
      allowed = c.requires.allowed;
    } in
    let after : Sending = record { mail = c.key-told.new.self; sent = c.key-told.new.out } in
    let told : IsTold b.parts (key c.args.time c.args.code) s.surface.tree after c.key-told.result = record {
      same = refl;
      ok = c.key-told.ensures.ok;
      allowed = c.key-told.ensures.allowed;
      fault = c.key-told.ensures.fault;
      err = c.key-told.ensures.err;
    } in
    rw (c.write_told.ensures.lines)
    (device_told g.C.Client b (Key c.args.time c.args.code) (key c.args.time c.args.code) s.surface.tree after c.key-told.result m
    (is_key g.C.Client c.args.time c.args.code) told)

pub returns-clause-made : goal.returns-clause-made
returns-clause-made g c =
    let s = c.self.inside in
    let b : Before g.row.C.Denot g.row.C-Cmd.Denot = record {
      opening = s.opening;
      lines = s.journal.lines;
      parts = record { surface = s.surface; windows = s.windows; mail = s.mail };
      actor = c.args.by.now.actor;
      held = c.args.by.now.level;
    } in
    let m : IsMaking g.C.Client b (Key c.args.time c.args.code) = record {
      is = c.self.invariant;
      shown = c.invariant.ensures;
      view = c.args.self.now;
      same = ap (λ v. v.opening) c.self.view_is;
      allowed = c.requires.allowed;
    } in
    let after : Sending = record { mail = c.key-told.new.self; sent = c.key-told.new.out } in
    let told : IsTold b.parts (key c.args.time c.args.code) s.surface.tree after c.key-told.result = record {
      same = refl;
      ok = c.key-told.ensures.ok;
      allowed = c.key-told.ensures.allowed;
      fault = c.key-told.ensures.fault;
      err = c.key-told.ensures.err;
    } in
    makes_line g.C.Client (line_told b.actor b.held (Key c.args.time c.args.code) c.key-told.result c.key-told.new.out) c.self.view_is
    (device_line g.C.Client b (Key c.args.time c.args.code) (key c.args.time c.args.code) s.surface.tree after c.key-told.result m
    (is_key g.C.Client c.args.time c.args.code) told)
    refl c.write_told.ensures.lines c.write_told.ensures.reply
