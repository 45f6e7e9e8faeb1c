use Rattle.std.proofs.Common.{sym, ap, ◌∙◌, pos}
use Rattle.tr_forest.specs.Edits.{refusal}
use Rattle.tr_forest.proofs.refusals.refusal.Goals as goal

pub returns-in-Attach : goal.returns-in-Attach
returns-in-Attach c = c.attach_fault.ensures c.in-Attach.at ∙ ap (refusal c.args.family.now) (sym c.in-Attach.is)

pub returns-in-Move : goal.returns-in-Move
returns-in-Move c = c.z_fault.ensures c.in-Move.at ∙ ap (refusal c.args.family.now) (sym c.in-Move.is)

pub returns-in-Lift : goal.returns-in-Lift
returns-in-Lift c = c.z_fault-in-Lift.ensures (record { h = pos 0; v = pos 0 }) ∙ ap (refusal c.args.family.now) (sym c.in-Lift.is)
