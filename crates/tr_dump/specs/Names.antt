-- The names of nodes and leaves that a text needs.
use Rattle.std.specs.Prelude.{⊤, All, IfSome}
use Rattle.tr_base.specs.declared.spots.Spot.{Spot}
use Rattle.tr_base.specs.declared.spots.Spot.TheVariants as spots
use Rattle.tr_forest.specs.declared.edits.Edit.{Edit}
use Rattle.tr_forest.specs.declared.edits.Edit.TheVariants as edits
use Rattle.tr_levels.specs.declared.levels.Level.{Level}
use Rattle.tr_levels.specs.declared.levels.Level.TheVariants as levels
use Rattle.tr_journal.specs.declared.steps.Actor.{Actor}
use Rattle.tr_journal.specs.declared.steps.Actor.TheVariants as actors
use Rattle.tr_journal.specs.declared.steps.Query.{Query}
use Rattle.tr_journal.specs.declared.steps.Query.TheVariants as queries
use Rattle.tr_journal.specs.declared.steps.Step.{Step}
use Rattle.tr_journal.specs.declared.steps.Step.TheVariants as steps
use Rattle.tr_journal.specs.declared.entries.Entry.{Entry}
use Rattle.tr_journal.specs.declared.differences.Difference.{Difference}
use Rattle.tr_journal.specs.declared.differences.Apart.{Apart}
use Rattle.tr_journal.specs.declared.differences.Apart.TheVariants as apart
use Rattle.tr_journal.specs.Journals.{JournalLine}
use Rattle.tr_journal.specs.Names.{Names, HasNode, HasLeaf}

-- the leaf or node of a point has a name
abbrev pub IsNamedSpot : Names → Spot → Type 0
IsNamedSpot names (spots.Leaf leaf at size kind) = HasLeaf names leaf
IsNamedSpot names (spots.Frame node tint kind) = HasNode names node
IsNamedSpot names spots.Off = ⊤

-- the actor has a name, if it is a leaf's
abbrev pub IsNamedActor : Names → Actor → Type 0
IsNamedActor names (actors.Leaf leaf) = HasLeaf names leaf
IsNamedActor names actor = ⊤

-- the level has a name, if it is a leaf's
abbrev pub IsNamedLevel : Names → Level → Type 0
IsNamedLevel names levels.Mu = ⊤
IsNamedLevel names (levels.Share leaf) = HasLeaf names leaf
IsNamedLevel names (levels.Win leaf) = HasLeaf names leaf

-- the nodes of an edit have names
abbrev pub IsNamedEdit : Names → Edit → Type 0
IsNamedEdit names (edits.Attach child parent at) = HasNode names child × HasNode names parent
IsNamedEdit names (edits.Detach child) = HasNode names child
IsNamedEdit names (edits.Tint node tint) = HasNode names node
IsNamedEdit names (edits.Border node width) = HasNode names node
IsNamedEdit names (edits.Offset node by) = HasNode names node
IsNamedEdit names (edits.Fix node size) = HasNode names node
IsNamedEdit names (edits.Move child at) = HasNode names child
IsNamedEdit names (edits.Lift child) = HasNode names child
IsNamedEdit names (edits.Show node child) = HasNode names node × HasNode names child
IsNamedEdit names (edits.Turn node page) = HasNode names node
IsNamedEdit names (edits.Shapes node shapes) = HasNode names node
IsNamedEdit names edit = ⊤

-- the leaf of a report has a name
abbrev pub IsNamedQuery : Names → Query → Type 0
IsNamedQuery names (queries.Inbox leaf) = HasLeaf names leaf
IsNamedQuery names query = ⊤

-- the nodes and leaves of a step have names; the leaf of a flush or repaint is the step's, or the actor's
abbrev pub IsNamedStep : {M : Type 0} → Names → Step M → Type 0
IsNamedStep names (steps.Alter edit) = IsNamedEdit names edit
IsNamedStep names (steps.Flush leaf) = HasLeaf names leaf
IsNamedStep names (steps.Repaint leaf) = HasLeaf names leaf
IsNamedStep names (steps.Report query) = IsNamedQuery names query
IsNamedStep names step = ⊤

-- the nodes and leaves in the text of an entry have names
pub record IsNamedEntry {M : Type 0} (names : Names) (entry : Entry M) : Type 0 where
  pub actor : IsNamedActor names entry.actor
  pub levels : All (IsNamedLevel names) entry.level
  pub step : IsNamedStep names entry.step

-- and so have those in the text of its deliveries
pub record IsNamedLine {M : Type 0} (names : Names) (line : JournalLine M) : Type 0 where
  pub entry : IsNamedEntry names line.entry
  pub sent : All (λ delivery. HasLeaf names delivery.leaf) line.sent

-- the nodes and leaves of a differing part have names
abbrev pub IsNamedApart : {M : Type 0} → Names → Apart M → Type 0
IsNamedApart names apart.Opening = ⊤
IsNamedApart names (apart.Kept made found) = IfSome made (IsNamedEntry names) × IfSome found (IsNamedEntry names)
IsNamedApart names (apart.Own actor made found) =
    IsNamedActor names actor × IfSome made (IsNamedStep names) × IfSome found (IsNamedStep names)

-- so have all those in the text of a difference
abbrev pub IsNamedDifference : {M : Type 0} → Names → Difference M → Type 0
IsNamedDifference names d = IsNamedApart names d.what
