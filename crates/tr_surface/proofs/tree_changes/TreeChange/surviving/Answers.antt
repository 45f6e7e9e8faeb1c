use Rattle.std.proofs.Common.{◌≡◌, Bool, true, false, ◌&&◌, List, refl, sym, ap, ◌∙◌}
use Rattle.std.proofs.lemmas.Result.{IfOk-weaker}
use Rattle.tr_base.specs.Rects.{Edges, before_shift}
use Rattle.tr_region.specs.Points.{holds}
use Rattle.tr_tree.specs.Places.{domain}
use Rattle.tr_spot.specs.Spots.{from_corner, region_of}
use Rattle.tr_surface.specs.declared.survivors.Survivors.{Survivors}
use Rattle.tr_surface.specs.Survivors.{has_survivor}
use Rattle.tr_surface.proofs.tree_changes.TreeChange.surviving.Goals as goal

and_none : (b x : Bool) → x ≡ false → false ≡ (b && x)
and_none true x h = sym h
and_none false x h = refl

and_all : (b x : Bool) → x ≡ true → b ≡ (b && x)
and_all true x h = sym h
and_all false x h = refl

pub returns-in-Nothing : goal.returns-in-Nothing
returns-in-Nothing g c = λ p.
    let s = c.args.self.now in
    let k = g.K.Keeper.keeping c.args.keeper.now in
    ap (λ (r : List Edges). holds r p) c.empty.ensures
    ∙ and_none (holds (region_of s.good.now c.args.n) (before_shift p c.args.by)) (has_survivor k c.args.survivors (from_corner (domain s.is.now c.args.n) p))
    (ap (λ (w : Survivors). has_survivor k w (from_corner (domain s.is.now c.args.n) p)) c.in-Nothing.is)

pub returns-in-All : goal.returns-in-All
returns-in-All g c = IfOk-weaker c.moved_along.result _ _ (λ r h p.
    let s = c.args.self.now in
    let k = g.K.Keeper.keeping c.args.keeper.now in
    h p
    ∙ and_all (holds (region_of s.good.now c.args.n) (before_shift p c.args.by)) (has_survivor k c.args.survivors (from_corner (domain s.is.now c.args.n) p))
    (ap (λ (w : Survivors). has_survivor k w (from_corner (domain s.is.now c.args.n) p)) c.in-All.is)) c.moved_along.ensures

pub returns-in-Ok : goal.returns-in-Ok
returns-in-Ok g c = IfOk-weaker c.meet-both.result _ _ (λ r h p.
    let s = c.args.self.now in
    let k = g.K.Keeper.keeping c.args.keeper.now in
    let old = holds (region_of s.good.now c.args.n) (before_shift p c.args.by) in
    h p ∙ ap (λ b. b && holds c.in_ok-kept-in-Kept.kept p) (c.in-Ok.ensures p)
    ∙ ap (λ b. old && b)
    (c.in_ok-kept-in-Kept.ensures p ∙ ap (λ (w : Survivors). has_survivor k w (from_corner (domain s.is.now c.args.n) p)) (sym c.in-Kept.is)))
    c.meet-both.ensures.points
