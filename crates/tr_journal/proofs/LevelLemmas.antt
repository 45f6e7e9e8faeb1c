-- Levels whose leaves are leaves of a tree.
use Rattle.std.proofs.Common.{[], ◌∷◌}
use Rattle.std.specs.List.{AllByRecursion}
use Rattle.std.proofs.lemmas.List.Elements.{All-from_recursion}
use Rattle.tr_base.specs.declared.LeafId.{LeafId}
use Rattle.tr_forest.specs.Nodes.{Nodes}
use Rattle.tr_levels.specs.declared.Level.TheVariants.{Mu, Share}
use Rattle.tr_journal.specs.declared.steps.Step.{Step}
use Rattle.tr_journal.specs.declared.steps.Step.TheVariants as steps
use Rattle.tr_journal.specs.Steps.{AreLevels, IsLeaf, IsLevel, IsStep, stated}

-- the tree's lock is no leaf's
pub lock_level : (t : Nodes) → AreLevels t (Mu ∷ [])
lock_level t = All-from_recursion (IsLevel t) (Mu ∷ []) (tt, tt)

-- a share is its leaf's
pub share_level : (t : Nodes) (leaf : LeafId) → IsLeaf t leaf → AreLevels t (Share leaf ∷ [])
share_level t leaf is = All-from_recursion (IsLevel t) (Share leaf ∷ []) (is, tt)

-- the levels of a step are those of leaves, if its numbers are
pub stated_levels : {M : Type 0} (t : Nodes) (step : Step M) → IsStep t step → AreLevels t (stated step)
stated_levels {M} t step values = All-from_recursion (IsLevel t) (stated step) (each step values)
  where
    each : (step : Step M) → IsStep t step → AllByRecursion (IsLevel t) (stated step)
    each (steps.Act leaf cmd) is = (is, tt)
    each (steps.Mark leaf clip) is = (tt, (is.0, tt))
    each (steps.Take leaf) is = (tt, (is, tt))
    each (steps.SetCage leaf cage) is = (tt, (is.0, tt))
    each (steps.Own leaf selection time) is = (tt, (is.0, tt))
    each (steps.Disown leaf selection) is = (tt, (is, tt))
    each (steps.Read leaf selection) is = (tt, (is, tt))
    each step is = (tt, tt)
