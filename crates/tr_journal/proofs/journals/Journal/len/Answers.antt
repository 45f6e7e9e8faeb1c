use Rattle.std.proofs.Common.{arith, ap, subst, length}
use Rattle.std.specs.Prelude.{All}
use Rattle.tr_journal.specs.Journals.{IsCounted}
use Rattle.tr_journal.proofs.JournalLemmas.{length-lines_of, counted-lines_of}
use Rattle.tr_journal.proofs.journals.Journal.len.Goals as goal

pub returns-clause-count : goal.returns-clause-count
returns-clause-count g c =
    let fields = c.self.inside in
    omega (arith, ap (λ v. length v.lines) c.self.view_is, length-lines_of fields.entries.items fields.sent.items, fields.entries.ok.0)

pub returns-clause-invariant : goal.returns-clause-invariant
returns-clause-invariant g c =
    let fields = c.self.inside in
    subst (λ v. All IsCounted v.lines) c.self.view_is (counted-lines_of fields.entries.items fields.sent.items c.self.invariant.all)
