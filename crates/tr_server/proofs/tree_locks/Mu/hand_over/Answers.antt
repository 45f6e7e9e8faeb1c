use Rattle.std.proofs.Common.{◌≡◌, rules}
use Rattle.std.proofs.lemmas.Result.{on_ok_weaker}
use Rattle.tr_server.proofs.HandingLemmas.{handed_over}
use Rattle.tr_server.proofs.tree_locks.Mu.hand_over.Goals as goal

pub returns-clause-ok : goal.returns-clause-ok
returns-clause-ok g c =
    let same : c.deref_mut-locked.result.now ≡ c.args.self.now = search rules in
    on_ok_weaker c.hand_over.result
    (handed_over g.C.Client c.args.window.now c.leaf-leaf.result c.args.self.now c.deref_mut-locked.result.now c.hand_over.new.self
    c.deref_mut-basket.result.now c.leaf-leaf.ensures.value same c.invariant-2.ensures)
    c.hand_over.ensures.ok
