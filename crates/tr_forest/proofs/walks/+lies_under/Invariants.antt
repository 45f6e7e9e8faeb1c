use Rattle.tr_forest.proofs.walks.+lies_under.Given as goal

abbrev pub decreases-lies_under : goal.decreases-lies_under
decreases-lies_under l = l.levels
