use Rattle.std.proofs.Common.{ap, refl}
use Rattle.tr_mail.specs.Mails.{Sending}
use Rattle.tr_journal.specs.declared.steps.Step.TheVariants.{Disown}
use Rattle.tr_stage.specs.Making.{line_told}
use Rattle.tr_stage.proofs.DeviceLemmas.{Before, IsMaking, IsTold, device_line, device_told, disowning, is_disowning, makes_line}
use Rattle.tr_stage.proofs.stages.Stage.disown.Goals as goal

pub invariant_of-self-2 : goal.invariant_of-self-2
invariant_of-self-2 g c =
    let s = c.self.inside in
    let b : Before g.row.C.Denot g.row.C-Cmd.Denot = record {
      opening = s.opening;
      lines = s.journal.lines;
      parts = record { surface = s.surface; windows = s.windows; mail = s.mail };
      actor = c.args.by.now.actor;
      held = c.args.by.now.level;
    } in
    let m : IsMaking g.C.Client b (Disown c.args.leaf c.args.selection) = record {
      is = c.self.invariant;
      shown = c.invariant.ensures;
      view = c.args.self.now;
      same = ap (λ v. v.opening) c.self.view_is;
      allowed = c.requires.allowed;
    } in
    let after : Sending = record { mail = c.disown-told.new.self; sent = c.disown-told.new.out } in
    let told : IsTold b.parts (disowning c.args.leaf c.args.selection) s.surface.tree after c.disown-told.result = record {
      same = refl;
      ok = c.disown-told.ensures.ok;
      allowed = c.disown-told.ensures.allowed;
      fault = c.disown-told.ensures.fault;
      err = c.disown-told.ensures.err;
    } in
    rw (c.write_told.ensures.lines, c.in_ok-reserve.ensures.lines)
    (device_told g.C.Client b (Disown c.args.leaf c.args.selection) (disowning c.args.leaf c.args.selection)
    s.surface.tree after c.disown-told.result m
    (is_disowning g.C.Client c.args.leaf c.args.selection) told)

pub returns-clause-made : goal.returns-clause-made
returns-clause-made g c =
    let s = c.self.inside in
    let b : Before g.row.C.Denot g.row.C-Cmd.Denot = record {
      opening = s.opening;
      lines = s.journal.lines;
      parts = record { surface = s.surface; windows = s.windows; mail = s.mail };
      actor = c.args.by.now.actor;
      held = c.args.by.now.level;
    } in
    let m : IsMaking g.C.Client b (Disown c.args.leaf c.args.selection) = record {
      is = c.self.invariant;
      shown = c.invariant.ensures;
      view = c.args.self.now;
      same = ap (λ v. v.opening) c.self.view_is;
      allowed = c.requires.allowed;
    } in
    let after : Sending = record { mail = c.disown-told.new.self; sent = c.disown-told.new.out } in
    let told : IsTold b.parts (disowning c.args.leaf c.args.selection) s.surface.tree after c.disown-told.result = record {
      same = refl;
      ok = c.disown-told.ensures.ok;
      allowed = c.disown-told.ensures.allowed;
      fault = c.disown-told.ensures.fault;
      err = c.disown-told.ensures.err;
    } in
    makes_line g.C.Client (line_told b.actor b.held (Disown c.args.leaf c.args.selection) c.disown-told.result c.disown-told.new.out) c.self.view_is
    (device_line g.C.Client b (Disown c.args.leaf c.args.selection) (disowning c.args.leaf c.args.selection)
    s.surface.tree after c.disown-told.result m
    (is_disowning g.C.Client c.args.leaf c.args.selection) told)
    refl (rw c.in_ok-reserve.ensures.lines at c.write_told.ensures.lines) c.write_told.ensures.reply
