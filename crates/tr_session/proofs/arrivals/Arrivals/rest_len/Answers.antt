use Rattle.std.proofs.Common.{length, ap, ◌∙◌, arith}
use Rattle.tr_session.specs.Arrivals.{ArrivalsView}
use Rattle.tr_session.proofs.ArrivalLemmas.{range_length}
use Rattle.tr_session.proofs.arrivals.Arrivals.rest_len.Goals as goal

pub returns : goal.returns
returns c =
    let i = c.self.inside in
    range_length i.piece.items i.start i.end c.self.invariant.0 (omega (arith, i.piece.ok.0, c.self.invariant))
    ∙ ap (λ (v : ArrivalsView). length v.rest) c.self.view_is
