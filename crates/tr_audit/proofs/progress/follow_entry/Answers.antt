use Rattle.std.proofs.Common.{◌≡◌, ℕ, ◌<◌, ◌+◌, ap, sym, ◌∙◌, get_or, length, Some, None, arith}
use Rattle.std.proofs.lemmas.List.{get_or_read}
use Rattle.tr_journal.specs.declared.steps.Actor.{Actor}
use Rattle.tr_journal.specs.Actors.{entries_of}
use Rattle.tr_audit.specs.Progress.{no_progress, rank_of}
use Rattle.tr_audit.proofs.RankLemmas.{rank_within}
use Rattle.tr_audit.proofs.ProgressLemmas.{followed_none, followed_more}
use Rattle.tr_audit.proofs.progress.follow_entry.Goals as goal

pub returns-in-Some : goal.returns-in-Some
returns-in-Some g c = λ from order so_far.
    let n : ℕ = length c.args.lists.now.leaves in
    let actor : Actor = c.get.result.now.actor in
    let is : rank_of n actor ≡ Some c.in-Some.rank =
    ap (λ m. rank_of m actor) (sym c.leaves.ensures) ∙ sym c.rank_of.ensures ∙ c.in-Some.is in
    let low : c.in-Some.rank < n + 2 = rank_within n actor c.in-Some.rank is in
    let read : c.index-so_far.result.now ≡ get_or c.args.progress.now.items c.in-Some.rank no_progress =
    get_or_read c.args.progress.now.items c.in-Some.rank c.index-so_far.result.now (omega (arith, c.requires.count)) c.index-so_far.ensures no_progress in
    let follows = rw (c.of.ensures, read) at c.follow.ensures in
    followed_more c.args.lists.now (entries_of c.args.journal.now.lines) from c.args.k c.get.result.now c.args.progress.now.items c.in-Some.rank
    c.follow.result order c.get.ensures is follows so_far

pub returns-in_default : goal.returns-in_default
returns-in_default g c = λ from order so_far.
    let n : ℕ = length c.args.lists.now.leaves in
    let actor : Actor = c.get.result.now.actor in
    let none : rank_of n actor ≡ None =
    ap (λ m. rank_of m actor) (sym c.leaves.ensures) ∙ sym c.rank_of.ensures ∙ c.in_default.is in
    followed_none c.args.lists.now (entries_of c.args.journal.now.lines) from c.args.k c.get.result.now c.args.progress.now.items order
    c.get.ensures none so_far
