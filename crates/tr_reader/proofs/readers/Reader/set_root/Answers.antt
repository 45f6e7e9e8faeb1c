use Rattle.std.proofs.Common.{[], refl, sym, ◌∙◌}
use Rattle.tr_journal.specs.Openings.{tree_of, root_refusal}
use Rattle.tr_journal.specs.declared.Item.TheVariants as items
use Rattle.tr_reader.proofs.Keeping.{kept_item, not_refused}
use Rattle.tr_reader.proofs.readers.Reader.set_root.Goals as goal

pub invariant_of-self-2 : goal.invariant_of-self-2
invariant_of-self-2 c =
    rw c.replace.ensures.after (kept_item c.self.inside c.args.self.now c.in-Some.declared _ [] (items.Root c.args.node) c.self.view_is c.self.invariant
    (record { before = sym c.take.ensures.value ∙ c.in-Some.is; opening = c.in_ok-added.ensures.ok; names = refl; glyphs = refl; sort = refl; reports = refl })
    c.requires.place c.requires.node
    (not_refused c.self.inside c.args.self.now c.in-Some.declared (λ xs. root_refusal (tree_of xs).nodes c.args.node)
    c.self.view_is (sym c.take.ensures.value ∙ c.in-Some.is) c.in_ok-added.ensures.allowed))
