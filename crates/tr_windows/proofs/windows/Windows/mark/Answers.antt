use Rattle.tr_windows.specs.Presents.{mark_on}
use Rattle.tr_windows.proofs.HeldLemmas.{held_changed}
use Rattle.tr_windows.proofs.windows.Windows.mark.Goals as goal

pub invariant_of-self-2 : goal.invariant_of-self-2
invariant_of-self-2 g c =
    rw c.in_ok-mark_at.ensures.ok
    (held_changed g.C.Client (mark_on c.args.size c.args.clip.now) c.self.inside.windows.items c.args.leaf.0 c.self.invariant
    (λ w is. c.self.invariant.contents c.args.leaf.0 w is))
