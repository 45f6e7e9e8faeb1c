use Rattle.std.proofs.Common.{ap, refl}
use Rattle.tr_journal.specs.declared.steps.Step.TheVariants.{SetCage}
use Rattle.tr_stage.proofs.DeviceLemmas.{Before, IsMaking, device_sent, cage_of, is_cage}
use Rattle.tr_stage.proofs.stages.Stage.set_cage.Goals as goal

pub invariant_of-self : goal.invariant_of-self
invariant_of-self g c =
    let s = c.self.inside in
    let b : Before g.row.C.Denot g.row.C-Cmd.Denot = record {
      opening = s.opening;
      lines = s.journal.lines;
      parts = record { surface = s.surface; windows = s.windows; mail = s.mail };
      actor = c.args.by.now.actor;
      held = c.args.by.now.level;
    } in
    let m : IsMaking g.C.Client b (SetCage c.args.leaf c.args.cage) = record {
      is = c.self.invariant;
      shown = c.tree.ensures.invariant;
      view = c.args.self.now;
      same = ap (λ v. v.opening) c.self.view_is;
      allowed = c.requires.allowed;
    } in
    rw (c.write.ensures.lines, c.entry-entry.ensures, c.as_slice.ensures.deliveries, c.len.ensures.count)
    (device_sent g.C.Client b (SetCage c.args.leaf c.args.cage) (cage_of c.args.leaf c.args.cage) m
    (is_cage g.C.Client c.args.leaf c.args.cage) (record {
      tree = c.tree.result.now;
      mail = c.set_cage.new.self;
      sent = c.set_cage.new.out;
      same = c.tree.ensures.value;
      allowed = refl;
      makes = rw c.same_cage-same.ensures at c.set_cage.ensures.sent;
    }))
