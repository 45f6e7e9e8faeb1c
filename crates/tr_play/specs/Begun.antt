-- Private contracts alone cite this file.
-- Sessions that found a difference, in a run that plays parts.
use Rattle.std.specs.Prelude.{◌≡◌, ℕ, Bool, List, [], ◌∷◌, ◌++◌}
use Rattle.tr_client.specs.declared.clients.Client.{Ghosts}
use Rattle.tr_journal.specs.Parts.{Part}
use Rattle.tr_machine.specs.Replays.{IsLegal}
use Rattle.tr_run.specs.Views.{RunView}
use Rattle.tr_parts.specs.Runs.{HasBegunPart, HasPlayedParts}
use Rattle.tr_server.specs.Differing.{DiffersView}
use Rattle.tr_play.specs.Plays.{HasLeft, begun_part}

module _ {C M : Type 0} (client : Ghosts C M) (words : M → List ℕ) where
  -- the session of the next part found a difference, on the stage of a run in which that part had begun
  pub record DiffersNext (old : RunView C M) (is_later : Bool) (part : Part M) (d : DiffersView C M) : Type 0 where
    pub run : RunView C M
    pub begun : HasBegunPart client words old run is_later part.reports
    pub legal : IsLegal client run.stage.opening run.stage.journal
    pub left : HasLeft run.stage part.steps d

  -- the session of one of these parts found a difference, on the stage of a run that had played the parts before it and begun this one
  pub record DiffersAmong (old : RunView C M) (parts : List (Part M)) (d : DiffersView C M) : Type 0 where
    pub before : List (Part M)
    pub part : Part M
    pub later : List (Part M)
    pub are : parts ≡ before ++ part ∷ later
    pub run : RunView C M
    pub played : HasPlayedParts client words old run (before ++ begun_part part ∷ [])
    pub legal : IsLegal client run.stage.opening run.stage.journal
    pub left : HasLeft run.stage part.steps d
