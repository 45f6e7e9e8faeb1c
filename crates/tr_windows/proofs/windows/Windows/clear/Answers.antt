use Rattle.tr_windows.specs.Presents.{without_batch}
use Rattle.tr_windows.proofs.HeldLemmas.{held_changed}
use Rattle.tr_windows.proofs.windows.Windows.clear.Goals as goal

pub invariant_of-self : goal.invariant_of-self
invariant_of-self g c =
    rw c.clear_at.ensures
    (held_changed g.C.Client without_batch c.self.inside.windows.items c.args.leaf.0 c.self.invariant
    (λ w is. c.self.invariant.contents c.args.leaf.0 w is))
