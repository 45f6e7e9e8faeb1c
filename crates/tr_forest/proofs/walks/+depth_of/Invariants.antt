use Rattle.tr_forest.proofs.walks.+depth_of.Given as goal

abbrev pub decreases-depth_of : goal.decreases-depth_of
decreases-depth_of l = l.levels
