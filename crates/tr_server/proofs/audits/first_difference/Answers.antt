use Rattle.std.proofs.Common.{◌≡◌, drop, rules, subst}
use Rattle.std.specs.Prelude.{IfNone, IfOk, IfSome}
use Rattle.tr_audit.specs.Audits.{HaveSameSteps, IsOwnDifference}
use Rattle.tr_journal.specs.Actors.{entries_of}
use Rattle.tr_server.proofs.BeginLemmas.{all_match, first_apart}
use Rattle.tr_server.proofs.audits.first_difference.Goals as goal

pub returns-clause-none : goal.returns-clause-none
returns-clause-none g c =
    let same : c.args.opening.now ≡ c.args.stage.now.opening = search rules in
    all_match c.args.opening.now c.args.stage.now.opening c.args.entries c.args.stage.now.journal c.args.lists.now c.requires same c.own_difference.result
    (subst (λ lines. IfOk c.own_difference.result (λ d. IfNone d (HaveSameSteps c.args.lists.now (drop c.args.entries (entries_of lines)))))
    c.journal.ensures.value c.own_difference.ensures.none)

pub returns-clause-some : goal.returns-clause-some
returns-clause-some g c =
    let same : c.args.opening.now ≡ c.args.stage.now.opening = search rules in
    first_apart c.args.opening.now c.args.stage.now.opening c.args.entries c.args.stage.now.journal c.args.lists.now c.requires same c.own_difference.result
    (subst (λ lines. IfOk c.own_difference.result (λ d. IfSome d (IsOwnDifference c.args.lists.now (drop c.args.entries (entries_of lines)))))
    c.journal.ensures.value c.own_difference.ensures.some)
