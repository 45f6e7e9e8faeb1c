use Rattle.std.proofs.Common.{◌≡◌, inl, inr, sym, subst, arith}
use Rattle.tr_forest.proofs.FamilyLemmas.{same_id}
use Rattle.std.proofs.lemmas.Bool.{cases_lt}
use Rattle.tr_base.specs.declared.NodeId.{NodeId}
use Rattle.tr_base.specs.Rects.{before_shift, has_point}
use Rattle.tr_tree.specs.Places.{domain}
use Rattle.tr_surface.specs.Survivors.{way_from}
use Rattle.tr_surface.proofs.tree_changes.TreeChange.moves_all.Goals as goal

pub loop-i-preserved : goal.loop-i-preserved
loop-i-preserved c = λ m p lt.
    let s = c.args.self.now in
    let here : NodeId = record { 0 = c.loop-i.i } in
    elim (cases_lt m.0 c.loop-i.i) [
      | inl before ↦ c.loop-i.invariant m p before
      | inr not_before ↦
          let same : m.0 ≡ c.loop-i.i = omega (arith, lt, not_before) in
          subst (λ (n : NodeId). has_point (domain s.is.now n) p ≡ has_point (domain s.was.now n) (before_shift p (way_from s.was.now s.is.now s.moved n)))
          (sym (same_id m here same)) (c.moves.ensures c.if-not-moves.false p)
    ]

pub returns : goal.returns
returns c = λ h n p inside. c.loop-i.invariant n p (omega (arith, inside.within, c.count-i-end.ensures.count))
