use Rattle.std.proofs.Common.{◌≡◌, true, not, List, sym, ap, subst, ◌∙◌}
use Rattle.tr_base.specs.declared.Point.{Point}
use Rattle.tr_base.specs.Rects.{Edges}
use Rattle.tr_region.specs.Points.{holds}
use Rattle.tr_spot.proofs.WayLemmas.{and_left}
use Rattle.tr_machine.specs.Paintings.{is_visible}
use Rattle.tr_machine.specs.Replays.{replay}
use Rattle.tr_stage.specs.Stages.{Parts, is_good_in, state}
use Rattle.tr_stage.proofs.StaleLemmas.{good_is}
use Rattle.tr_stage.proofs.stages.Stage.paint_wanted.Goals as goal

pub paint_part-requires-clause-part : goal.paint_part-requires-clause-part
paint_part-requires-clause-part g c κs within =
    let m = replay g.C.Client c.self.inside.opening c.self.inside.journal.lines in
    let leaf = c.args.leaf in
    let parts : Parts g.row.C.Denot = record { surface = c.self.inside.surface; windows = c.self.inside.windows; mail = c.self.inside.mail } in
    let good = good_is g.C.Client m parts leaf c.in_ok-good.good c.self.invariant.kept
    (λ p. ap (λ (r : List Edges). holds r p) c.in_ok-good.ensures ∙ c.good_of.ensures p) in
    subst (λ v. (p : Point) → holds c.in_ok-good.good p ≡ true → is_visible (state g.C.Client v) leaf p ≡ true) c.self.view_is
    (λ p h. and_left (is_visible m leaf p) (not (m.bad p)) (sym (good p) ∙ h))

pub returns-clause-painted : goal.returns-clause-painted
returns-clause-painted g c =
    let m = replay g.C.Client c.self.inside.opening c.self.inside.journal.lines in
    let leaf = c.args.leaf in
    let parts : Parts g.row.C.Denot = record { surface = c.self.inside.surface; windows = c.self.inside.windows; mail = c.self.inside.mail } in
    let good = good_is g.C.Client m parts leaf c.in_ok-good.good c.self.invariant.kept
    (λ p. ap (λ (r : List Edges). holds r p) c.in_ok-good.ensures ∙ c.good_of.ensures p) in
    let points = subst (λ v. (p : Point) → holds c.in_ok-good.good p ≡ is_good_in (state g.C.Client v) leaf p) c.self.view_is good in
    λ p here. c.in_ok-paint_part.ensures.painted p (points p ∙ here)
