use Rattle.std.proofs.Common.{◌≤◌, length, drop, sym, ap, subst, ◌∙◌, arith}
use Rattle.tr_session.specs.Arrivals.{ArrivalsView}
use Rattle.tr_session.proofs.ArrivalLemmas.{range_behind, range_within}
use Rattle.tr_session.proofs.arrivals.Arrivals.skip.Goals as goal

pub returns-clause-rest : goal.returns-clause-rest
returns-clause-rest c =
    let i = c.self.inside in
    let one = subst (λ (v : ArrivalsView). 1 ≤ length v.rest) (sym c.self.view_is) c.requires in
    let within = range_within i.piece.items i.start i.end 1 c.self.invariant.0 (omega (arith, i.piece.ok.0, c.self.invariant)) one in
    sym (range_behind i.piece.items i.start i.end 1 within) ∙ ap (λ (v : ArrivalsView). drop 1 v.rest) c.self.view_is
