use Rattle.std.proofs.Common.{◌≡◌, ℕ, ◌∙◌, subst, arith}
use Rattle.std.proofs.lemmas.Result.{on_ok_weaker}
use Rattle.tr_server.proofs.PassLemmas.{AreClients, all_fresh}
use Rattle.tr_server.proofs.servers.add_workers.Goals as goal

pub returns-clause-workers : goal.returns-clause-workers
returns-clause-workers g c =
    let clients = c.loop-n.workers.items in
    let before = c.loop-n.invariant in
    let end : c.loop-n.n ≡ c.args.leaves = omega (arith, c.loop-n.auto.n-end, c.loop-n-test.false) in
    let are = subst (λ (n : ℕ). AreClients n clients) end before.fresh in
    on_ok_weaker c.add_worker-3.result
    (λ painter. all_fresh c.args.leaves clients c.add_worker-2.new.workers.items c.add_worker-3.new.workers.items
    (before.count ∙ end) are c.in_ok-add_worker-2.ensures.ok painter)
    c.add_worker-3.ensures.ok
