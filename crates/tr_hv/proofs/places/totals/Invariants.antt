use Rattle.std.proofs.Common.{◌≡◌, ◌-◌, ◌*◌, take, map}
use Rattle.std.specs.Prelude.{sum_by}
use Rattle.tr_base.specs.Shapes.{Lengths}
use Rattle.tr_base.specs.Layouts.{longest, along}
use Rattle.tr_hv.specs.Sums.{AreAtMost}
use Rattle.tr_hv.proofs.places.totals.Given as goal

-- the sums over the children so far
abbrev pub invariant-loop-child : goal.invariant-loop-child
invariant-loop-child l = record {
  lo : l.all.lo ≡ sum_by (λ (c : Lengths). c.lo) (map (along l.vertical) (take l.child-index l.children));
  pref : l.all.pref ≡ sum_by (λ (c : Lengths). c.pref - c.lo) (map (along l.vertical) (take l.child-index l.children));
  small : AreAtMost (longest * l.child-index) l.all;
}
