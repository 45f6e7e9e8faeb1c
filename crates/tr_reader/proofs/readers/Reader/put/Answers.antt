use Rattle.std.proofs.Common.{[], refl, sym, ◌∙◌}
use Rattle.tr_forest.specs.declared.Edit.TheVariants as edits
use Rattle.tr_forest.specs.Edits.{refusal}
use Rattle.tr_journal.specs.Openings.{tree_of}
use Rattle.tr_journal.specs.declared.Item.TheVariants as items
use Rattle.tr_reader.proofs.Keeping.{kept_item, not_refused}
use Rattle.tr_reader.proofs.readers.Reader.put.Goals as goal

pub invariant_of-self-2 : goal.invariant_of-self-2
invariant_of-self-2 c =
    rw c.replace.ensures.after
    (kept_item c.self.inside c.args.self.now c.in-Some.declared _ [] (items.Put c.args.child c.args.parent c.args.at) c.self.view_is c.self.invariant
    (record { before = sym c.take.ensures.value ∙ c.in-Some.is; opening = c.in_ok-added.ensures.ok; names = refl; glyphs = refl; sort = refl; reports = refl })
    c.requires.place c.requires.edit
    (not_refused c.self.inside c.args.self.now c.in-Some.declared
    (λ xs. refusal (tree_of xs).nodes (edits.Attach c.args.child c.args.parent c.args.at))
    c.self.view_is (sym c.take.ensures.value ∙ c.in-Some.is) c.in_ok-added.ensures.allowed))
