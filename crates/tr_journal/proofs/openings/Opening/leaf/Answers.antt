use Rattle.std.proofs.Common.{◌≡◌, ◌+◌, ◌<◌, ◌≤◌, ◌∷◌, [], length, refl, ap, sym, ◌∙◌, subst, rules, arith, length-append}
use Rattle.std.specs.Prelude.{vec_len}
use Rattle.tr_forest.specs.declared.NodeKind.TheVariants as kinds
use Rattle.tr_forest.specs.Nodes.{new_entry, leaf_count}
use Rattle.tr_tree.specs.Trees.{Seen}
use Rattle.tr_journal.specs.Openings.{tree_of}
use Rattle.tr_journal.specs.Kept.{loose_count}
use Rattle.tr_journal.proofs.OpeningLemmas.{with_leaf, kept_leaf, loose_few, leaf_leaves}
use Rattle.tr_journal.proofs.openings.Opening.leaf.Goals as goal

pub invariant_of-self-2 : goal.invariant_of-self-2
invariant_of-self-2 g c =
    let kept = c.self.invariant.0 in
    let s = c.self.inside.tree in
    let is : s ≡ tree_of c.args.self.now = kept.tree_is ∙ ap tree_of c.self.view_is in
    let room : length s.nodes.entries < 256 = subst (λ (t : Seen). length t.nodes.entries < 256) (sym is) c.requires.room in
    let kind = kinds.Leaf (record { 0 = leaf_count s.nodes }) c.args.shapes in
    let new = with_leaf c.args.shapes s in
    let made : c.add.new.self ≡ new = rw (c.in_ok-add.ensures.ok, c.leaf_kind.ensures, c.leaves.ensures) refl in
    let more : length new.nodes.entries ≡ length s.nodes.entries + 1 = length-append s.nodes.entries (new_entry kind 0 ∷ []) in
    let most : length new.nodes.entries ≤ 256 = omega arith in
    let few : loose_count new.nodes ≤ length new.nodes.entries = loose_few new.nodes in
    let all : length c.make_room.new.items.items ≡ vec_len c.make_room.new.items = search rules in
    let count : c.len.result ≡ length c.self.inside.items.items = c.len.ensures ∙ sym all ∙ ap length c.make_room.ensures.items in (
      rw (c.push_reserved-2.ensures.items, c.make_room.ensures.items, c.push_reserved.ensures.items, c.reserve.ensures.items, count, made)
          (kept_leaf c.args.shapes c.args.content kept c.keeps-kept.ensures.valid most (leaf_leaves s (record { 0 = leaf_count s.nodes }) c.args.shapes)),
      rw made record { room = omega (arith, c.in_ok-make_room.ensures.ok) },
    )
