use Rattle.std.proofs.Common.{arith, refl, ap, sym, ◌∙◌, length, ◌<◌}
use Rattle.std.specs.Prelude.{map, slice_get}
use Rattle.std.proofs.lemmas.Option.{slice_get_read}
use Rattle.tr_journal.proofs.JournalLemmas.{length-lines_of, entries-lines_of}
use Rattle.tr_journal.proofs.journals.Journal.get.Goals as goal

pub index-requires : goal.index-requires
index-requires g c =
    let fields = c.self.inside in
    omega (arith, ap (λ v. length v.lines) c.self.view_is, length-lines_of fields.entries.items fields.sent.items, fields.entries.ok.0)

pub returns : goal.returns
returns g c =
    let fields = c.self.inside in
    let within : c.args.k < length fields.entries.items =
    omega (arith, ap (λ v. length v.lines) c.self.view_is, length-lines_of fields.entries.items fields.sent.items) in
    ap (λ v. slice_get (map (λ line. line.entry) v.lines) c.args.k) (sym c.self.view_is)
    ∙ ap (λ es. slice_get es c.args.k) (entries-lines_of fields.entries.items fields.sent.items)
    ∙ slice_get_read fields.entries.items (length fields.entries.items) c.args.k c.index.result.now refl within c.index.ensures
