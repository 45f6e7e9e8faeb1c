use Rattle.std.proofs.Common.{◌&&◌, ◌||◌, not, ap, sym, ◌∙◌}
use Rattle.std.proofs.lemmas.Bool.{and_parts}
use Rattle.tr_base.specs.Rects.{before_shift}
use Rattle.tr_region.specs.Points.{holds}
use Rattle.tr_exec.proofs.UnknownLemmas.{moved_within, points_same}
use Rattle.tr_exec.proofs.sites.Site.unknown_after_move.Goals as goal

pub moved-requires-clause-region : goal.moved-requires-clause-region
moved-requires-clause-region c = λ p held. c.requires.visible p (and_parts _ _ (sym (c.in_ok-minus.ensures.points p) ∙ held)).0

pub returns : goal.returns
returns c =
    let visible = c.args.self.now.visible.now in
    let unknown = c.args.unknown.now in
    points_same c.union-2.result _ _ c.union-2.ensures.points (λ p.
    let source = before_shift p c.args.delta in
    let known = c.in_ok-known.ensures p ∙ c.in_ok-minus.ensures.points source in
    let lost = c.in_ok-lost.ensures.points p ∙ ap (λ b. b && not (holds c.in_ok-known.known p)) (c.in_ok-meet.ensures.points p)
    ∙ ap (λ b. (holds visible p && holds c.args.area.now p) && not b) known in
    ap (λ b. b || holds c.in_ok-lost.lost p) (c.in_ok-minus-2.ensures.points p) ∙ ap (λ b. (holds unknown p && not (holds c.args.area.now p)) || b) lost
    ∙ moved_within (holds visible p) (holds c.args.area.now p) (holds unknown p) (holds visible source) (holds unknown source) (c.requires.seen p))
