-- The order in which a thread takes locks.
use Rattle.std.specs.Prelude.{◌≡◌, ℕ, ◌<◌, ⊤, List, length, All, AllPairs}
use Rattle.tr_levels.specs.declared.levels.Level.{Level}
use Rattle.tr_levels.specs.declared.levels.Level.TheVariants.{Mu, Share, Win}

-- the sorts of levels in order: the tree's lock, then shares, then windows
abbrev pub level_sort : Level → ℕ
level_sort Mu = 0
level_sort (Share leaf) = 1
level_sort (Win leaf) = 2

-- a level comes before another: the tree's lock before all others, then shares by their number, then windows by theirs
abbrev pub IsBelow : Level → Level → Type 0
IsBelow Mu (Share b) = ⊤
IsBelow Mu (Win b) = ⊤
IsBelow (Share a) (Share b) = a.0 < b.0
IsBelow (Share a) (Win b) = ⊤
IsBelow (Win a) (Win b) = a.0 < b.0
IsBelow a b = ⊥

-- each level comes before all that follow it
abbrev pub IsRising : List Level → Type 0
IsRising levels = AllPairs IsBelow levels

-- no level of this one's sort or of a later one is held
abbrev pub Admits : List Level → Level → Type 0
Admits held level = All (λ l. level_sort l < level_sort level) held

-- the level is the tree's lock, and no leaf's share or window
abbrev pub IsTreeLock : Level → Type 0
IsTreeLock Mu = ⊤
IsTreeLock (Share leaf) = ⊥
IsTreeLock (Win leaf) = ⊥

-- no share and no window is held
abbrev pub HoldsNoLeaf : List Level → Type 0
HoldsNoLeaf held = All IsTreeLock held

-- each command has the levels that its caller held; among them are no share and no window
pub record HaveLevels {M : Type 0} (commands : List M) (levels : List (List Level)) : Type 0 where
  pub counts : length levels ≡ length commands
  pub free : All HoldsNoLeaf levels
