use Rattle.std.proofs.Common.{arith, ap, sym, ◌∙◌, ◌<◌, length}
use Rattle.std.specs.Prelude.{map, slice_get, Some}
use Rattle.tr_journal.proofs.JournalLemmas.{length-lines_of, within-kept, sent-kept}
use Rattle.tr_journal.proofs.journals.Journal.sent.Goals as goal

pub part-requires : goal.part-requires
part-requires g c =
    let fields = c.self.inside in
    let within : c.args.k < length fields.entries.items =
    omega (arith, ap (λ v. length v.lines) c.self.view_is, length-lines_of fields.entries.items fields.sent.items) in
    let bounds = within-kept fields.entries.items fields.ends.items fields.sent.items c.args.k c.self.invariant within in
    rw (c.deref.ensures.value, c.deref-2.ensures.value)
    (record { entry = omega (arith, c.self.invariant.count); order = bounds.0; end = bounds.1 })

pub returns : goal.returns
returns g c =
    let fields = c.self.inside in
    let within : c.args.k < length fields.entries.items =
    omega (arith, ap (λ v. length v.lines) c.self.view_is, length-lines_of fields.entries.items fields.sent.items) in
    let part = rw (c.deref.ensures.value, c.deref-2.ensures.value) at c.part.ensures in
    ap (λ v. slice_get (map (λ line. line.sent) v.lines) c.args.k) (sym c.self.view_is)
    ∙ sent-kept fields.entries.items fields.ends.items fields.sent.items c.args.k c.self.invariant within
    ∙ ap (λ ds. Some ds) (sym part)
