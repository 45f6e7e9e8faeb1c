use Rattle.std.proofs.Common.{◌≡◌, ℤ, sym, ap, ◌∙◌}
use Rattle.std.proofs.lemmas.Bool.{and_parts}
use Rattle.std.proofs.lemmas.Bool.Decides.{Decides-int_eq}
use Rattle.tr_base.specs.declared.Point.{Point}
use Rattle.tr_base.specs.Rects.{Edges}
use Rattle.tr_base.proofs.RectFacts.{same_edges}
use Rattle.tr_paint.specs.declared.sums.Scrolls.{Scrolls}
use Rattle.tr_paint.specs.declared.sums.Scrolls.TheVariants.{Alike}
use Rattle.tr_paint.proofs.sums.Sums.has_scrolls_like.Goals as goal

-- scrolls of one clip and one distance are those of another clip and distance that are the same
alike : (s : Scrolls) (a b : Edges) (p q : Point) → s ≡ Alike a p → a ≡ b → p.h ≡ q.h → p.v ≡ q.v → s ≡ Alike b q
alike s a b p q is clip h v =
    let across : p ≡ record { h = q.h; v = p.v } = ap (λ (x : ℤ). record { h = x; v = p.v }) h in
    let down : record { h = q.h; v = p.v } ≡ q = ap (λ (y : ℤ). record { h = q.h; v = y }) v in
    let delta : p ≡ q = across ∙ down in
    cc

pub returns-then-eq : goal.returns-then-eq
returns-then-eq c = λ same.
    let clip : c.in-Alike.c ≡ c.args.clip.now = (same_edges _ _).0 (sym c.eq.ensures ∙ c.if-eq.true) in
    let both = and_parts _ _ (sym c.eq-then-eq.ensures ∙ same) in
    alike _ _ _ c.in-Alike.d c.args.delta c.in-Alike.is clip ((Decides-int_eq _ _).0 both.0) ((Decides-int_eq _ _).0 both.1)
