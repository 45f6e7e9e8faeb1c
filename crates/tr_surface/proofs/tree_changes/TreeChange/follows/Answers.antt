use Rattle.std.proofs.Common.{◌≡◌, ℕ, false, List, Option, length, refl, sym, ap, ◌∙◌, arith}
use Rattle.tr_base.specs.declared.NodeId.{NodeId}
use Rattle.tr_base.specs.Rects.{Edges}
use Rattle.tr_region.specs.Points.{holds}
use Rattle.tr_spot.specs.Spots.{region_of}
use Rattle.tr_spot.proofs.GainLemmas.{read_region}
use Rattle.tr_surface.specs.Survivors.{follows, in_moved}
use Rattle.tr_surface.proofs.TreeChangeLemmas.{moved_none, moved_past}
use Rattle.tr_surface.proofs.tree_changes.TreeChange.follows.Goals as goal
use Rattle.tr_surface.proofs.tree_changes.TreeChange.follows.Goals.{then-not-is_empty+in_ok-points, else-not-is_empty}

pub loop-i-init : goal.loop-i-init
loop-i-init c = λ p.
    ap (λ (r : List Edges). holds r p) c.empty-points.ensures
    ∙ sym (moved_none c.args.self.now.is.now.nodes c.in-Some.child c.args.good.now p)

pub loop-i-preserved : goal.loop-i-preserved
loop-i-preserved c = λ p.
    let s = c.args.self.now in
    let n : NodeId = record { 0 = c.loop-i.i } in
    elim c.if-not-is_empty.branch [
      | then-not-is_empty+in_ok-points w ↦ (rw w.points-is (w.in_ok-points.ensures p))
      | else-not-is_empty w ↦ (
          let own = read_region c.args.good.now n c.loop-i.i c.index-good-i.result c.index-good-i.is refl
          (omega (arith, c.requires, c.loop-i-test.true, c.count-i-end.ensures.count)) in
          let none : holds (region_of c.args.good.now n) p ≡ false =
          sym (ap (λ (r : List Edges). holds r p) own) ∙ c.is_empty.ensures.points.0 w.if-not-is_empty.false p in
          rw w.points-is (c.loop-i.invariant p ∙ moved_past n s.is.now.nodes c.in-Some.child c.args.good.now p none))
    ]

pub returns : goal.returns
returns c = λ p.
    let s = c.args.self.now in
    let all : c.loop-i.i ≡ length s.is.now.nodes.entries = omega (arith, c.count-i-end.ensures.count) in
    c.loop-i.invariant p
    ∙ ap (λ (i : ℕ). in_moved i s.is.now.nodes c.in-Some.child c.args.good.now p) all
    ∙ ap (λ (o : Option NodeId). follows s.is.now.nodes o c.args.good.now p) (sym c.in-Some.is)
