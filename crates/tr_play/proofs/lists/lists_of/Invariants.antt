use Rattle.tr_play.proofs.ListLemmas.{ArePlaced}
use Rattle.tr_play.proofs.lists.lists_of.Given as goal

-- the steps so far have their places
abbrev pub invariant-loop-place : goal.invariant-loop-place
invariant-loop-place g l = ArePlaced l.leaves l.steps l.place l.places
