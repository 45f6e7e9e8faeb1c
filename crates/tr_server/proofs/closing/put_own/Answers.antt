use Rattle.std.proofs.Common.{ℕ, length, sym, ap, subst, ◌∙◌}
use Rattle.tr_base.proofs.RectLemmas.{false-true}
use Rattle.tr_journal.specs.Lists.{HasList, ListsView, list_of}
use Rattle.tr_server.proofs.GatherLemmas.{put_count, put_nowhere, put_there}
use Rattle.tr_server.proofs.closing.put_own.Goals as goal

pub returns-then-has_list-clause-count : goal.returns-then-has_list-clause-count
returns-then-has_list-clause-count g c =
    ap (λ (l : ListsView _). length l.leaves) c.put.ensures ∙ put_count c.args.lists.now c.args.who c.args.steps.items

pub returns-then-has_list-clause-lists : goal.returns-then-has_list-clause-lists
returns-then-has_list-clause-lists g c actor has =
    let there = subst (λ (n : ℕ). HasList n c.args.who) c.leaves.ensures (c.has_list.ensures.0 c.if-has_list.true) in
    ap (λ (l : ListsView _). list_of l actor) c.put.ensures
    ∙ put_there c.args.lists.now c.args.who c.args.steps.items actor there has

pub returns-else-has_list-clause-lists : goal.returns-else-has_list-clause-lists
returns-else-has_list-clause-lists g c actor has =
    put_nowhere c.args.lists.now c.args.who c.args.steps.items actor
    (λ own. false-true (sym c.if-has_list.false
    ∙ c.has_list.ensures.1 (subst (λ (n : ℕ). HasList n c.args.who) (sym c.leaves.ensures) own))) has
