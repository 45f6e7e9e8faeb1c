use Rattle.std.proofs.Common.{sym, ◌∙◌}
use Rattle.std.proofs.lemmas.Bool.{iff_false}
use Rattle.tr_journal.specs.Actors.{entries_of}
use Rattle.tr_audit.proofs.ProgressLemmas.{follows_stopped, follows_same, follows_apart}
use Rattle.tr_audit.proofs.progress.follow.Goals as goal

pub returns-then-is_some : goal.returns-then-is_some
returns-then-is_some g c =
    follows_stopped c.args.list.now (entries_of c.args.journal.now.lines) c.args.k c.args.progress (sym c.is_some.ensures ∙ c.if-is_some.true)

pub returns-then-is_at : goal.returns-then-is_at
returns-then-is_at g c =
    follows_same c.args.list.now (entries_of c.args.journal.now.lines) c.args.k c.args.progress c.get.result.now
    (sym c.is_some.ensures ∙ c.if-is_some.false) c.get.ensures (c.is_at.ensures.there.0 c.if-is_at.true)

pub returns-else-is_at : goal.returns-else-is_at
returns-else-is_at g c =
    follows_apart c.args.list.now (entries_of c.args.journal.now.lines) c.args.k c.args.progress c.get.result.now
    (sym c.is_some.ensures ∙ c.if-is_some.false) c.get.ensures (iff_false c.is_at.ensures.there c.if-is_at.false)
