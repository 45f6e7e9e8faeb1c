use Rattle.std.proofs.Common.{◌&&◌, not, List, ap, ◌∙◌}
use Rattle.tr_base.specs.Rects.{Edges}
use Rattle.tr_base.proofs.BoolLemmas.{and_true}
use Rattle.tr_region.specs.Points.{holds}
use Rattle.tr_surface.specs.Surfaces.{is_on}
use Rattle.tr_surface.proofs.GoodLemmas.{any_none, bad_is}
use Rattle.tr_surface.proofs.surfaces.Surface.new.Goals as goal

pub returns-clause-bad_all : goal.returns-clause-bad_all
returns-clause-bad_all c = λ p.
    bad_is _ p
    ∙ ap (λ b. is_on c.args.tree p && not b)
    (any_none c.in-Ok.good.items p (λ i lt. ap (λ (r : List Edges). holds r p) (c.in-Ok.ensures.empty (record { 0 = i }))))
    ∙ and_true (is_on c.args.tree p)
