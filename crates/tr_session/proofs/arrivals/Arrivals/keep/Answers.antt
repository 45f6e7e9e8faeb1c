use Rattle.std.proofs.Common.{◌≡◌, ◌-◌, ◌≤◌, ◌++◌, length, min, take, drop, sym, ap, subst, ◌∙◌, rules, arith}
use Rattle.std.specs.Prelude.{slice_range}
use Rattle.std.proofs.lemmas.Grind.{common_steps}
use Rattle.tr_session.specs.Arrivals.{ArrivalsView, first_bytes}
use Rattle.tr_session.proofs.ArrivalLemmas.{front_kept, range_behind, range_within}
use Rattle.tr_session.proofs.arrivals.Arrivals.keep.Goals as goal

pub returns-clause-begun : goal.returns-clause-begun
returns-clause-begun c =
    let i = c.self.inside in
    let rest = slice_range i.piece.items i.start i.end in
    let few : length i.line.items ≤ 1025 = omega (arith, i.line.ok.0, c.self.invariant) in
    let is : c.min-kept.result ≡ min c.args.count (1025 - length i.line.items) = omega (arith, i.line.ok.0, c.min-kept.ensures, c.len.ensures) in
    let added : c.extend_from_slice.new.self.items ≡ i.line.items ++ take c.min-kept.result rest = first_of (search rules, grind (arith, common_steps)) in
    added
    ∙ front_kept i.line.items rest c.args.count c.min-kept.result few is
    ∙ ap (λ (v : ArrivalsView). first_bytes (v.begun ++ take c.args.count v.rest)) c.self.view_is

pub returns-clause-rest : goal.returns-clause-rest
returns-clause-rest c =
    let i = c.self.inside in
    let count = subst (λ (v : ArrivalsView). c.args.count ≤ length v.rest) (sym c.self.view_is) c.requires in
    let within = range_within i.piece.items i.start i.end c.args.count c.self.invariant.0 (omega (arith, i.piece.ok.0, c.self.invariant)) count in
    sym (range_behind i.piece.items i.start i.end c.args.count within) ∙ ap (λ (v : ArrivalsView). drop c.args.count v.rest) c.self.view_is
