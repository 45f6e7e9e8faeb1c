use Rattle.std.proofs.Common.{not, cond, Option, subst, ◌∙◌}
use Rattle.std.specs.Prelude.{IfSome}
use Rattle.std.proofs.lemmas.Result.{IfOk-weaker}
use Rattle.tr_region.specs.Points.{holds}
use Rattle.tr_spot.specs.Covers.{lies_under}
use Rattle.tr_spot.specs.Spots.{is_spot_of, spot}
use Rattle.tr_surface.specs.declared.covers.Cover.{Cover}
use Rattle.tr_surface.specs.TreeChanges.{IsCover}
use Rattle.tr_surface.proofs.CoverLemmas.{and_when, cover_own}
use Rattle.tr_surface.proofs.tree_changes.TreeChange.own.Goals as goal

pub returns-in-Some : goal.returns-in-Some
returns-in-Some c = IfOk-weaker c.left_of.result _ _ (λ r h p.
    let s = c.args.self.now in
    let v = c.in-Some.cover in
    let is : IsCover s.was.now s.is.now s.moved v =
    subst (λ (o : Option Cover). IfSome o (IsCover s.was.now s.is.now s.moved)) c.in-Some.is c.requires.cover in
    h p ∙ and_when (holds c.args.part p) (cond (lies_under s.is.now.nodes v.child c.args.n) (holds v.region p) (not (holds v.region p)))
    (is_spot_of s.is.now c.args.n (spot s.is.now p))
    (λ held. cover_own s.was.now s.is.now s.moved v is c.args.n p (c.requires.part p held))) c.left_of.ensures
