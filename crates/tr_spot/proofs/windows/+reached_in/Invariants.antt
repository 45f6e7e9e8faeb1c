use Rattle.tr_forest.specs.Families.{depth}
use Rattle.tr_spot.proofs.windows.+reached_in.Given as goal

abbrev pub decreases-reached_in : goal.decreases-reached_in
decreases-reached_in l = depth l.tree.now.nodes l.n
