use Rattle.std.proofs.Common.{◌≡◌, ℤ, sym, ap, subst, ◌∙◌}
use Rattle.std.proofs.lemmas.Bool.{and_parts}
use Rattle.std.proofs.lemmas.Bool.Decides.{Decides-int_eq}
use Rattle.tr_base.specs.declared.Point.{Point}
use Rattle.tr_base.specs.Rects.{Edges}
use Rattle.tr_base.proofs.RectFacts.{same_edges}
use Rattle.tr_paint.specs.declared.sums.Scrolls.{Scrolls}
use Rattle.tr_paint.specs.declared.sums.Scrolls.TheVariants.{Alike}
use Rattle.tr_paint.specs.Sums as spec
use Rattle.tr_paint.proofs.sums.both_scrolls.Goals as goal

-- scrolls of one clip and one distance are the same
alike : (s t : Scrolls) (a b : Edges) (p q : Point) → s ≡ Alike a p → t ≡ Alike b q → a ≡ b → p.h ≡ q.h → p.v ≡ q.v → t ≡ s
alike s t a b p q first second clip h v =
    let across : p ≡ record { h = q.h; v = p.v } = ap (λ (x : ℤ). record { h = x; v = p.v }) h in
    let down : record { h = q.h; v = p.v } ≡ q = ap (λ (y : ℤ). record { h = q.h; v = y }) v in
    let delta : p ≡ q = across ∙ down in
    cc

pub returns-in-Alike-Alike-clause-others : goal.returns-in-Alike-Alike-clause-others
returns-in-Alike-Alike-clause-others c = λ p is.
    let clip : c.in-Alike-Alike.clip ≡ c.in-Alike-Alike.c = (same_edges _ _).0 (sym c.eq.ensures ∙ c.if-eq.true) in
    let both = and_parts _ _ (sym c.eq-then-eq.ensures ∙ c.if-eq-2.true) in
    let same : c.args.others.now ≡ c.args.some.now =
    alike _ _ _ _ c.in-Alike-Alike.delta c.in-Alike-Alike.d c.in-Alike-Alike.is-0 c.in-Alike-Alike.is-1 clip
    ((Decides-int_eq _ _).0 both.0) ((Decides-int_eq _ _).0 both.1) in
    subst (λ (s : Scrolls). spec.IsOneOf s p) same is
