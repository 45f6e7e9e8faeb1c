use Rattle.std.proofs.Common.{refl, sym, ◌∙◌}
use Rattle.tr_journal.specs.declared.Item.TheVariants as items
use Rattle.tr_reader.proofs.Keeping.{kept_item}
use Rattle.tr_reader.proofs.readers.Reader.add_node.Goals as goal

pub invariant_of-self-2 : goal.invariant_of-self-2
invariant_of-self-2 c =
    rw c.replace.ensures.after
    (kept_item c.self.inside c.args.self.now c.in-Some.declared c.add_node-added.new.self c.args.name.now (items.Node c.args.kind c.args.tint)
    c.self.view_is c.self.invariant
    (record {
      before = sym c.take.ensures.value ∙ c.in-Some.is;
      opening = rw c.in_ok-added.ensures.ok refl;
      names = rw c.in_ok-added.ensures.ok refl;
      glyphs = refl;
      sort = refl;
      reports = refl;
    })
    c.requires.sound.place c.requires.sound.value refl)
