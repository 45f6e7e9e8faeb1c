use Rattle.std.proofs.Common.{◌≡◌, ℕ, inl, inr, ap, subst, arith}
use Rattle.std.proofs.lemmas.Bool.{cases_lt}
use Rattle.tr_base.specs.declared.LeafId.{LeafId}
use Rattle.tr_stage.specs.Stages.{state}
use Rattle.tr_serial.specs.Values.{IsPaintable}
use Rattle.tr_serial.proofs.values.have_contents.Goals as goal

pub loop-n-preserved : goal.loop-n-preserved
loop-n-preserved g c = λ leaf below. elim (cases_lt leaf.0 c.loop-n.n) [
  | inl before ↦ c.loop-n.invariant leaf before
  | inr beyond ↦
      let numbered : ℕ → LeafId = λ n. record { 0 = n } in
      let last : c.loop-n.n ≡ leaf.0 = omega (arith, below, beyond) in
      let this : numbered c.loop-n.n ≡ leaf = ap numbered last in
      subst (λ (l : LeafId). IsPaintable g.C.Client (state g.C.Client c.args.stage.now) l) this c.has_content.ensures
]
