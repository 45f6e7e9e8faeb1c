-- The steps of each actor, the levels that they require, and the ranges of their values.
use Rattle.std.specs.Prelude.{◌≡◌, ℕ, ℤ, pos, neg_ℤ, ◌<◌, ◌≤◌, ◌≤ℤ◌, ⊤, Bool, true, false, ◌||◌, ◌==◌, List, [], ◌∷◌, All, length}
use Rattle.std.specs.List.{list_all, list_any}
use Rattle.tr_base.specs.declared.LeafId.{LeafId}
use Rattle.tr_base.specs.declared.Point.{Point}
use Rattle.tr_base.specs.Rects.{Edges}
use Rattle.tr_cage.specs.declared.Cage.{Cage}
use Rattle.tr_cage.specs.declared.Cage.TheVariants.{Everywhere, Only}
use Rattle.tr_forest.specs.Nodes.{Nodes, leaf_count}
use Rattle.tr_forest.specs.Edits.{IsEdit}
use Rattle.tr_levels.specs.declared.Level.{Level}
use Rattle.tr_levels.specs.declared.Level.TheVariants.{Mu, Share, Win}
use Rattle.tr_journal.specs.declared.steps.Actor.{Actor}
use Rattle.tr_journal.specs.declared.steps.Actor.TheVariants as actors
use Rattle.tr_journal.specs.declared.steps.Query.{Query}
use Rattle.tr_journal.specs.declared.steps.Query.TheVariants as queries
use Rattle.tr_journal.specs.declared.steps.Step.{Step}
use Rattle.tr_journal.specs.declared.steps.Step.TheVariants as steps

-- the actor is this leaf's
abbrev pub is_leaf_actor : LeafId → Actor → Bool
is_leaf_actor leaf (actors.Leaf own) = own.0 == leaf.0
is_leaf_actor leaf actor = false

-- the actor is the desk
abbrev pub is_desk : Actor → Bool
is_desk actors.Desk = true
is_desk actor = false

-- the actor is the painter
abbrev pub is_painter : Actor → Bool
is_painter actors.Painter = true
is_painter actor = false

-- the actor is the player
abbrev pub is_player : Actor → Bool
is_player actors.Player = true
is_player actor = false

-- the actor has the right to make the step
abbrev pub may : {M : Type 0} → Actor → Step M → Bool
may actor (steps.Act leaf cmd) = is_leaf_actor leaf actor
may actor (steps.Mark leaf clip) = is_leaf_actor leaf actor
may actor (steps.Take leaf) = is_leaf_actor leaf actor
may actor (steps.SetCage leaf cage) = is_leaf_actor leaf actor
may actor (steps.Own leaf selection time) = is_leaf_actor leaf actor
may actor (steps.Disown leaf selection) = is_leaf_actor leaf actor
may actor (steps.Read leaf selection) = is_leaf_actor leaf actor
may actor (steps.Mouse time button down) = is_desk actor
may actor (steps.Motion time at) = is_desk actor
may actor (steps.Key time code) = is_desk actor
may actor (steps.Alter edit) = is_desk actor
may actor (steps.Flush leaf) = is_leaf_actor leaf actor || is_painter actor
may actor (steps.Repaint leaf) = is_leaf_actor leaf actor || is_painter actor
may actor steps.PaintFrame = is_painter actor
may actor steps.Sync = is_player actor
may actor (steps.Report query) = is_player actor

-- both are the same level
abbrev pub is_level : Level → Level → Bool
is_level Mu Mu = true
is_level (Share a) (Share b) = a.0 == b.0
is_level (Win a) (Win b) = a.0 == b.0
is_level a b = false

-- the level is one of those that are held
abbrev pub is_level_held : List Level → Level → Bool
is_level_held held level = list_any (is_level level) held

-- the levels that a step requires
abbrev pub stated : {M : Type 0} → Step M → List Level
stated (steps.Act leaf cmd) = Win leaf ∷ []
stated (steps.Mark leaf clip) = Mu ∷ Win leaf ∷ []
stated (steps.Take leaf) = Mu ∷ Win leaf ∷ []
stated (steps.SetCage leaf cage) = Mu ∷ Win leaf ∷ []
stated (steps.Own leaf selection time) = Mu ∷ Win leaf ∷ []
stated (steps.Disown leaf selection) = Mu ∷ Win leaf ∷ []
stated (steps.Read leaf selection) = Mu ∷ Win leaf ∷ []
stated step = Mu ∷ []

-- all levels that a step requires are held; for a repaint, the leaf's share may replace the tree's lock
abbrev pub covers : {M : Type 0} → List Level → Step M → Bool
covers held (steps.Repaint leaf) = is_level_held held Mu || is_level_held held (Share leaf)
covers held step = list_all (is_level_held held) (stated step)

-- the number is that of a leaf
pub record IsLeaf (t : Nodes) (leaf : LeafId) : Type 0 where
  pub within : leaf.0 < leaf_count t

-- the leaf of a level, if it has one, is a leaf of the tree
abbrev pub IsLevel : Nodes → Level → Type 0
IsLevel t Mu = ⊤
IsLevel t (Share leaf) = IsLeaf t leaf
IsLevel t (Win leaf) = IsLeaf t leaf

-- the leaf of each level is a leaf of the tree
abbrev pub AreLevels : Nodes → List Level → Type 0
AreLevels t levels = All (IsLevel t) levels

-- both have the same number of nodes, and of leaves
pub record AreAsMany (t new : Nodes) : Type 0 where
  pub nodes : length new.entries ≡ length t.entries
  pub leaves : leaf_count new ≡ leaf_count t

-- times of input devices begin at 1
pub record IsTime (time : ℕ) : Type 0 where
  pub low : 1 ≤ time

-- the buttons of a mouse are numbered from 1 to 5
pub record IsButton (button : ℕ) : Type 0 where
  pub low : 1 ≤ button
  pub high : button ≤ 5

-- a coordinate of the cursor, on the screen or off it: -8192 to 8191
pub record IsPlace (x : ℤ) : Type 0 where
  pub low : neg_ℤ (pos 8192) ≤ℤ x
  pub high : x ≤ℤ pos 8191

-- both coordinates of a point are coordinates of the cursor
pub record IsPosition (at : Point) : Type 0 where
  pub across : IsPlace at.h
  pub down : IsPlace at.v

-- an edge of a rectangle that a client names: -8192 to 8192
pub record IsEdge (x : ℤ) : Type 0 where
  pub low : neg_ℤ (pos 8192) ≤ℤ x
  pub high : x ≤ℤ pos 8192

-- all edges of a rectangle are within -8192 to 8192
pub record IsClip (e : Edges) : Type 0 where
  pub west : IsEdge e.west
  pub east : IsEdge e.east
  pub north : IsEdge e.north
  pub south : IsEdge e.south

-- the edges of a cage's rectangle are within -8192 to 8192, and the cage holds cursors that are here, or gone, or both
abbrev pub IsCage : Cage → Type 0
IsCage Everywhere = ⊤
IsCage (Only rect here gone) = IsClip rect × ((here || gone) ≡ true)

-- a report's point is one that the cursor can have, and its leaf is a leaf of the tree
abbrev pub IsQuery : Nodes → Query → Type 0
IsQuery t (queries.Where at) = IsPosition at
IsQuery t (queries.Inbox leaf) = IsLeaf t leaf
IsQuery t query = ⊤

-- the numbers of a step are those of leaves and nodes, and its values are within ranges that their types don't keep
abbrev pub IsStep : {M : Type 0} → Nodes → Step M → Type 0
IsStep t (steps.Act leaf cmd) = IsLeaf t leaf
IsStep t (steps.Mark leaf clip) = IsLeaf t leaf × IsClip clip
IsStep t (steps.Take leaf) = IsLeaf t leaf
IsStep t (steps.SetCage leaf cage) = IsLeaf t leaf × IsCage cage
IsStep t (steps.Own leaf selection time) = IsLeaf t leaf × IsTime time
IsStep t (steps.Disown leaf selection) = IsLeaf t leaf
IsStep t (steps.Read leaf selection) = IsLeaf t leaf
IsStep t (steps.Mouse time button down) = IsTime time × IsButton button
IsStep t (steps.Motion time at) = IsTime time × IsPosition at
IsStep t (steps.Key time code) = IsTime time
IsStep t (steps.Alter edit) = IsEdit t edit
IsStep t (steps.Flush leaf) = IsLeaf t leaf
IsStep t (steps.Repaint leaf) = IsLeaf t leaf
IsStep t steps.PaintFrame = ⊤
IsStep t steps.Sync = ⊤
IsStep t (steps.Report query) = IsQuery t query

-- a step is the actor's own: the actor has the right to make it, and its numbers and values are those of a step
pub record IsOwn {M : Type 0} (t : Nodes) (actor : Actor) (step : Step M) : Type 0 where
  pub may : may actor step ≡ true
  pub values : IsStep t step

-- an actor may make a step: it is the actor's own, and its levels are among those that are held, which are levels of leaves of the tree
pub record IsFor {M : Type 0} (t : Nodes) (actor : Actor) (held : List Level) (step : Step M) : Type 0 where
  pub own : IsOwn t actor step
  pub covers : covers held step ≡ true
  pub levels : AreLevels t held
