use Rattle.w_edit.specs.FlatLaws.{flat_says_all, flat_runs}
use Rattle.w_edit.proofs.editors.Editor.obeys_flat.Goals as goal

pub returns-clause-all : goal.returns-clause-all
returns-clause-all c = flat_says_all c.args.self.now c.invariant.ensures

pub returns-clause-commands : goal.returns-clause-commands
returns-clause-commands c = λ cmds known. flat_runs c.args.self.now cmds c.invariant.ensures known
