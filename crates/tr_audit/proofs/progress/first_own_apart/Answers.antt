use Rattle.std.proofs.Common.{◌∙◌, ap}
use Rattle.tr_journal.specs.Actors.{entries_of}
use Rattle.tr_audit.specs.Progress.{actor_at}
use Rattle.tr_audit.proofs.AuditLemmas.{own_same, apart_at}
use Rattle.tr_audit.proofs.progress.first_own_apart.Goals as goal

pub returns-in_default-clause-none : goal.returns-in_default-clause-none
returns-in_default-clause-none g c =
    let so_far = rw (← c.deref.ensures.value) at c.in_ok-progress.ensures in
    own_same c.args.lists.now (entries_of c.args.journal.now.lines) c.args.from c.deref.result.now so_far c.in_default.ensures.none

pub returns-clause-some : goal.returns-clause-some
returns-clause-some g c =
    let first = rw c.deref.ensures.value at c.in-Some.ensures.some in
    apart_at c.args.lists.now (entries_of c.args.journal.now.lines) c.args.from c.in_ok-progress.progress.items c.in-Some.rank c.actor_at-actor.result
    c.index.result.now c.in_ok-progress.ensures first (c.actor_at-actor.ensures.actor ∙ ap (λ n. actor_at n c.in-Some.rank) c.leaves.ensures) c.index.ensures
