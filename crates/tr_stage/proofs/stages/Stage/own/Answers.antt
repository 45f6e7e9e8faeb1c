use Rattle.std.proofs.Common.{ap, refl}
use Rattle.tr_mail.specs.Mails.{Sending}
use Rattle.tr_journal.specs.declared.steps.Step.TheVariants.{Own}
use Rattle.tr_stage.specs.Making.{line_told}
use Rattle.tr_stage.proofs.DeviceLemmas.{Before, IsMaking, IsTold, device_line, device_told, owning, is_owning, makes_line}
use Rattle.tr_stage.proofs.stages.Stage.own.Goals as goal

pub invariant_of-self-2 : goal.invariant_of-self-2
invariant_of-self-2 g c =
    let s = c.self.inside in
    let b : Before g.row.C.Denot g.row.C-Cmd.Denot = record {
      opening = s.opening;
      lines = s.journal.lines;
      parts = record { surface = s.surface; windows = s.windows; mail = s.mail };
      actor = c.args.by.now.actor;
      held = c.args.by.now.level;
    } in
    let m : IsMaking g.C.Client b (Own c.args.leaf c.args.selection c.args.time) = record {
      is = c.self.invariant;
      shown = c.invariant.ensures;
      view = c.args.self.now;
      same = ap (λ v. v.opening) c.self.view_is;
      allowed = c.requires.allowed;
    } in
    let after : Sending = record { mail = c.own-told.new.self; sent = c.own-told.new.out } in
    let told : IsTold b.parts (owning c.args.leaf c.args.selection c.args.time) s.surface.tree after c.own-told.result = record {
      same = refl;
      ok = c.own-told.ensures.ok;
      allowed = c.own-told.ensures.allowed;
      fault = c.own-told.ensures.fault;
      err = c.own-told.ensures.err;
    } in
    rw (c.write_told.ensures.lines, c.in_ok-reserve.ensures.lines)
    (device_told g.C.Client b (Own c.args.leaf c.args.selection c.args.time) (owning c.args.leaf c.args.selection c.args.time)
    s.surface.tree after c.own-told.result m
    (is_owning g.C.Client c.args.leaf c.args.selection c.args.time) told)

pub returns-clause-made : goal.returns-clause-made
returns-clause-made g c =
    let s = c.self.inside in
    let b : Before g.row.C.Denot g.row.C-Cmd.Denot = record {
      opening = s.opening;
      lines = s.journal.lines;
      parts = record { surface = s.surface; windows = s.windows; mail = s.mail };
      actor = c.args.by.now.actor;
      held = c.args.by.now.level;
    } in
    let m : IsMaking g.C.Client b (Own c.args.leaf c.args.selection c.args.time) = record {
      is = c.self.invariant;
      shown = c.invariant.ensures;
      view = c.args.self.now;
      same = ap (λ v. v.opening) c.self.view_is;
      allowed = c.requires.allowed;
    } in
    let after : Sending = record { mail = c.own-told.new.self; sent = c.own-told.new.out } in
    let told : IsTold b.parts (owning c.args.leaf c.args.selection c.args.time) s.surface.tree after c.own-told.result = record {
      same = refl;
      ok = c.own-told.ensures.ok;
      allowed = c.own-told.ensures.allowed;
      fault = c.own-told.ensures.fault;
      err = c.own-told.ensures.err;
    } in
    makes_line g.C.Client (line_told b.actor b.held (Own c.args.leaf c.args.selection c.args.time) c.own-told.result c.own-told.new.out) c.self.view_is
    (device_line g.C.Client b (Own c.args.leaf c.args.selection c.args.time) (owning c.args.leaf c.args.selection c.args.time)
    s.surface.tree after c.own-told.result m
    (is_owning g.C.Client c.args.leaf c.args.selection c.args.time) told)
    refl (rw c.in_ok-reserve.ensures.lines at c.write_told.ensures.lines) c.write_told.ensures.reply
