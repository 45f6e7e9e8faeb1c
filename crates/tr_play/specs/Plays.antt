-- The results of the parts of a script that threads play.
use Rattle.std.specs.Prelude.{◌≡◌, List, [], ◌∷◌, ◌++◌}
use Rattle.tr_client.specs.declared.clients.Client.{Ghosts}
use Rattle.tr_forest.specs.Nodes.{leaf_count}
use Rattle.tr_journal.specs.declared.items.Item.{Item}
use Rattle.tr_journal.specs.declared.steps.Actor.{Actor}
use Rattle.tr_journal.specs.declared.steps.Step.{Step}
use Rattle.tr_journal.specs.Openings.{tree_of}
use Rattle.tr_journal.specs.Parts.{Part}
use Rattle.tr_stage.specs.Stages.{StageView}
use Rattle.tr_parts.specs.Plays.{HasInterleaved}
use Rattle.tr_server.specs.Differing.{DiffersView, IsDifference}
use Rattle.tr_play.specs.Lists.{AreListed}

-- a part reduced to its reports, without its steps
abbrev pub begun_part : {M : Type 0} → Part M → Part M
begun_part part = record { reports = part.reports; steps = [] }

-- The difference that a session found after these steps were made on a stage. The session began with the stage's opening and journal;
-- each list has its actor's steps, in their order, and the player's is empty; and `d` has the first difference.
pub record HasLeft {C M : Type 0} (s : StageView C M) (steps : List (Actor × Step M)) (d : DiffersView C M) : Type 0 where
  pub opening : d.opening ≡ s.opening
  pub kept : d.kept ≡ s.journal
  pub lists : AreListed (leaf_count (tree_of s.opening).nodes) steps d.lists
  pub player : d.lists.player ≡ []
  pub first : IsDifference d

module _ {C M : Type 0} (client : Ghosts C M) where
  -- a session found this difference in one of the parts of a script, on a stage that had played the parts before it and made this part's
  -- reports
  pub record DiffersInPart (items : List (Item C)) (parts : List (Part M)) (d : DiffersView C M) : Type 0 where
    pub before : List (Part M)
    pub part : Part M
    pub later : List (Part M)
    pub of_script : parts ≡ before ++ part ∷ later
    pub stage : StageView C M
    pub played : HasInterleaved client items (before ++ begun_part part ∷ []) stage
    pub left : HasLeft stage part.steps d
