use Rattle.std.proofs.Common.{◌≡◌, ◌+◌, ap, sym, subst, refl, ◌∙◌, arith}
use Rattle.tr_forest.specs.declared.Edit.TheVariants as edits
use Rattle.tr_forest.specs.Nodes.{IsNode}
use Rattle.tr_forest.specs.Edits.{edited}
use Rattle.tr_tree.specs.Trees.{Seen}
use Rattle.tr_journal.specs.declared.items.Item.TheVariants.{Put}
use Rattle.tr_journal.specs.Openings.{tree_of}
use Rattle.tr_journal.specs.Kept.{loose_count}
use Rattle.tr_journal.proofs.OpeningLemmas.{kept_other, loose_put, put_keeps}
use Rattle.tr_journal.proofs.openings.Opening.put.Goals as goal

pub push_reserved-requires : goal.push_reserved-requires
push_reserved-requires g c =
    let t = c.self.inside.tree.nodes in
    let is : c.self.inside.tree ≡ tree_of c.args.self.now = c.self.invariant.0.tree_is ∙ ap tree_of c.self.view_is in
    let child : IsNode t c.args.child = subst (λ (s : Seen). IsNode s.nodes c.args.child) (sym is) c.requires.0 in
    let less : loose_count (edited t (edits.Attach c.args.child c.args.parent c.args.at)) + 1 ≡ loose_count t =
    loose_put t c.args.child c.args.parent c.args.at child c.in_ok-edit.ensures.allowed in
    omega (arith, c.self.invariant.1.room)

pub invariant_of-self-2 : goal.invariant_of-self-2
invariant_of-self-2 g c =
    let kept = c.self.invariant.0 in
    let t = c.self.inside.tree.nodes in
    let is : c.self.inside.tree ≡ tree_of c.args.self.now = kept.tree_is ∙ ap tree_of c.self.view_is in
    let child : IsNode t c.args.child = subst (λ (s : Seen). IsNode s.nodes c.args.child) (sym is) c.requires.0 in
    let parent : IsNode t c.args.parent = subst (λ (s : Seen). IsNode s.nodes c.args.parent) (sym is) c.requires.1 in
    let keeps = put_keeps t c.args.child c.args.parent c.args.at child parent in
    let less : loose_count (edited t (edits.Attach c.args.child c.args.parent c.args.at)) + 1 ≡ loose_count t =
    loose_put t c.args.child c.args.parent c.args.at child c.in_ok-edit.ensures.allowed in (
      rw (c.push_reserved.ensures.items, c.in_ok-edit.ensures.ok)
          (kept_other (Put c.args.child c.args.parent c.args.at) kept refl (let same = keeps.count in let most = kept.nodes in omega arith) keeps.leaf_count),
      rw c.in_ok-edit.ensures.ok record { room = omega (arith, c.self.invariant.1.room) },
    )
