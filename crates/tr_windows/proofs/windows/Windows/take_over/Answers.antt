use Rattle.tr_windows.specs.Presents.{taken_over}
use Rattle.tr_windows.proofs.HeldLemmas.{held_changed}
use Rattle.tr_windows.proofs.windows.Windows.take_over.Goals as goal

pub invariant_of-self-2 : goal.invariant_of-self-2
invariant_of-self-2 g c =
    rw c.in_ok-take_over_at.ensures.ok
    (held_changed g.C.Client (taken_over c.args.content c.args.batch.now) c.self.inside.windows.items c.args.leaf.0 c.self.invariant
    (λ w is. c.requires.valid))
