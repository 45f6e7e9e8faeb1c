use Rattle.std.proofs.Common.{◌≤◌, length, refl, arith}
use Rattle.tr_journal.specs.declared.items.Item.TheVariants.{Root}
use Rattle.tr_journal.specs.Kept.{loose_count}
use Rattle.tr_journal.proofs.OpeningLemmas.{kept_other, loose_few}
use Rattle.tr_journal.proofs.openings.Opening.root.Goals as goal

pub invariant_of-self-2 : goal.invariant_of-self-2
invariant_of-self-2 g c =
    let kept = c.self.invariant.0 in
    let t = c.self.inside.tree.nodes in
    let few : loose_count t ≤ length t.entries = loose_few t in
    let most : length t.entries ≤ 256 = kept.nodes in (
      rw (c.push_reserved.ensures.items, c.make_room.ensures.items, c.set_root.ensures) (kept_other (Root c.args.node) kept refl kept.nodes refl),
      rw c.set_root.ensures record { room = omega (arith, c.in_ok-make_room.ensures.ok) },
    )
