use Rattle.tr_windows.specs.Presents.{taken_over}
use Rattle.tr_windows.proofs.HeldLemmas.{held_changed}
use Rattle.tr_windows.proofs.windows.Windows.take_all.Goals as goal

pub invariant_of-self : goal.invariant_of-self
invariant_of-self g c =
    rw c.take_all_at.ensures
    (held_changed g.C.Client (taken_over c.args.content c.args.batch) c.self.inside.windows.items c.args.leaf.0 c.self.invariant
    (λ w is. c.requires.valid))
