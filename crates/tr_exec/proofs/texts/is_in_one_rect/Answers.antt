use Rattle.std.proofs.Common.{◌≡◌, List, [], ◌∷◌, inr, true, false, ◌||◌, refl, sym, ap, ◌∙◌, subst}
use Rattle.tr_base.specs.Rects.{Edges}
use Rattle.tr_base.proofs.LayoutLemmas.{part-has_point}
use Rattle.tr_region.specs.Points.{holds}
use Rattle.tr_exec.proofs.PaintLemmas.{one_rect}
use Rattle.tr_exec.proofs.texts.is_in_one_rect.Goals as goal

pub returns-then-rects-eq1 : goal.returns-then-rects-eq1
returns-then-rects-eq1 c t p on =
    let r = c.index-rects-0.result in
    let area = c.args.area.now in
    let only = one_rect c.rects-rects.result.now 0 r c.if-rects-eq1.true refl c.index-rects-0.is in
    let held : holds (r ∷ []) p ≡ true = ap (λ b. b || false) (part-has_point area r (inr (c.is_between.ensures t)) p on) in
    subst (λ (rects : List Edges). holds rects p ≡ true) (sym only ∙ c.rects-rects.ensures.value) held
