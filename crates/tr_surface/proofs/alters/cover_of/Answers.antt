use Rattle.std.proofs.Common.{◌≡◌, ◌⊎◌, false, None, Option, sym, ap, subst, ◌∙◌, arith}
use Rattle.std.proofs.lemmas.Grind.{common_steps}
use Rattle.tr_base.specs.declared.NodeId.{NodeId}
use Rattle.tr_tree.specs.Trees.{Seen, edited_tree}
use Rattle.tr_spot.specs.Changes.{AreAlikeBut}
use Rattle.tr_surface.specs.TreeSteps.{moved_child}
use Rattle.tr_surface.specs.Survivors.{IsLike, is_hanging}
use Rattle.tr_surface.proofs.EditLemmas.{like_edited, nodes_still}
use Rattle.tr_surface.proofs.PlacedLemmas.{alike_carried, alike_edited, moved_carried}
use Rattle.tr_surface.proofs.alters.cover_of.Goals as goal

pub cover-requires-clause-alike : goal.cover-requires-clause-alike
cover-requires-clause-alike c =
    let was = c.args.change.now.was.now in
    let edit = c.args.edit.now in
    let like : IsLike was (edited_tree was edit) = like_edited was edit c.invariant.ensures.forest c.requires.edit c.requires.allowed in
    let same : c.size.result ≡ c.size-2.result = grind (arith, common_steps) in
    let size : (edited_tree was edit).size ≡ was.size =
    sym (ap (λ (u : Seen). u.size) c.requires.is) ∙ sym c.size-2.ensures ∙ sym same ∙ c.size.ensures in
    let hanging : is_hanging edit ≡ false = sym c.is_hanging.ensures ∙ c.if-is_hanging.false in
    subst (λ (u : Seen). AreAlikeBut c.carried_child.result was u) (sym c.requires.is)
    (subst (λ (o : Option NodeId). AreAlikeBut o was (edited_tree was edit)) (sym c.carried_child.ensures.child)
    (alike_carried was edit hanging (alike_edited was edit c.invariant.ensures.forest c.requires.edit like size)))

pub cover-requires-clause-child : goal.cover-requires-clause-child
cover-requires-clause-child c =
    let was = c.args.change.now.was.now in
    let edit = c.args.edit.now in
    nodes_still was c.args.change.now.is.now
    (subst (λ (u : Seen). IsLike was u) (sym c.requires.is) (like_edited was edit c.invariant.ensures.forest c.requires.edit c.requires.allowed))
    c.carried_child.result c.carried_child.ensures.node

pub cover-requires-clause-moved : goal.cover-requires-clause-moved
cover-requires-clause-moved c =
    let was = c.args.change.now.was.now in
    let edit = c.args.edit.now in
    subst (λ (m : Option NodeId). (m ≡ None) ⊎ (m ≡ c.carried_child.result)) (sym c.requires.moved)
    (subst (λ (k : Option NodeId). (moved_child was edit ≡ None) ⊎ (moved_child was edit ≡ k)) (sym c.carried_child.ensures.child) (moved_carried was edit))
