use Rattle.std.proofs.Common.{◌≡◌, ◌+◌, ◌<◌, ◌≤◌, ◌∷◌, [], length, refl, ap, sym, ◌∙◌, subst, arith, length-append}
use Rattle.tr_forest.specs.Nodes.{new_entry}
use Rattle.tr_tree.specs.Trees.{Seen}
use Rattle.tr_journal.specs.declared.items.Item.TheVariants.{Node}
use Rattle.tr_journal.specs.Openings.{tree_of, with_node}
use Rattle.tr_journal.specs.Kept.{loose_count}
use Rattle.tr_journal.proofs.OpeningLemmas.{kept_other, loose_few, node_leaves}
use Rattle.tr_journal.proofs.openings.Opening.node.Goals as goal

pub invariant_of-self-2 : goal.invariant_of-self-2
invariant_of-self-2 g c =
    let kept = c.self.invariant.0 in
    let s = c.self.inside.tree in
    let is : s ≡ tree_of c.args.self.now = kept.tree_is ∙ ap tree_of c.self.view_is in
    let room : length s.nodes.entries < 256 = subst (λ (t : Seen). length t.nodes.entries < 256) (sym is) c.requires.room in
    let new = with_node c.args.kind c.args.tint s in
    let more : length new.nodes.entries ≡ length s.nodes.entries + 1 = length-append s.nodes.entries (new_entry c.args.kind c.args.tint ∷ []) in
    let most : length new.nodes.entries ≤ 256 = omega arith in
    let few : loose_count new.nodes ≤ length new.nodes.entries = loose_few new.nodes in (
      rw (c.push_reserved.ensures.items, c.make_room.ensures.items, c.in_ok-n.ensures.ok, c.same_kind.ensures)
          (kept_other (Node c.args.kind c.args.tint) kept refl most (node_leaves s c.args.kind c.args.tint c.requires.inner)),
      rw (c.in_ok-n.ensures.ok, c.same_kind.ensures) record { room = omega (arith, c.in_ok-make_room.ensures.ok) },
    )
