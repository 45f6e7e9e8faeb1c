use Rattle.tr_paint.specs.Traces.{look_of}
use Rattle.tr_windows.specs.Presents.{act_on}
use Rattle.tr_windows.proofs.HeldLemmas.{held_changed}
use Rattle.tr_windows.proofs.windows.Windows.act.Goals as goal

pub invariant_of-self-2 : goal.invariant_of-self-2
invariant_of-self-2 g c =
    let laws = g.met.C.Client g.world.𝓛 g.world.𝓜 g.world.𝓡 ((λ s x. x), (λ x. x), (λ x. x), (λ x. x)) in
    let change = act_on g.C.Client (look_of c.args.env.now.kind c.args.env.now.font.now) c.args.size c.args.cmd.now in
    rw c.in_ok-act_at.ensures.ok
    (held_changed g.C.Client change c.self.inside.windows.items c.args.leaf.0 c.self.invariant
    (λ w is. laws.contents w.content c.args.cmd.now (c.self.invariant.contents c.args.leaf.0 w is) c.known.ensures))
