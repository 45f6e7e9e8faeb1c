-- A property of each stage.
use Rattle.tr_screen.specs.Pictures.{IsPicture}
use Rattle.tr_client.specs.declared.clients.Client.{Ghosts}
use Rattle.tr_forest.specs.Forests.{IsForest}
use Rattle.tr_spot.specs.Spots.{HasRoot}
use Rattle.tr_machine.specs.Promises.{Agrees, IsSound}
use Rattle.tr_stage.specs.Stages.{StageView, state}

-- a stage's nodes are a forest with a root, its state is sound, and its screen is a picture that agrees with the state
pub record Stands {C M : Type 0} (client : Ghosts C M) (s : StageView C M) : Type 0 where
  pub forest : IsForest (state client s).tree.nodes
  pub root : HasRoot (state client s).tree
  pub sound : IsSound client (state client s)
  pub agrees : Agrees client (state client s) s.screen
  pub picture : IsPicture s.screen
