-- The part of the screen that a group of records changes.
use Rattle.std.specs.Prelude.{◌≡◌, ℕ, ◌+◌, ◌<◌, ◌≤◌, ◌||◌, min, max, Bool, true, false, List, [], ◌∷◌, if◌then◌else◌, slice_index}
use Rattle.tr_screen.specs.Pictures.{Picture, row_of}
use Rattle.tr_mirror.specs.declared.changes.Bounds.{Bounds}
use Rattle.tr_mirror.specs.declared.changes.Change.{Change}
use Rattle.tr_mirror.specs.declared.changes.Change.TheVariants as changes
use Rattle.tr_mirror.specs.declared.headers.Segment.{Segment}
use Rattle.tr_mirror.specs.declared.headers.Header.{Header}
use Rattle.tr_mirror.specs.declared.headers.Header.TheVariants as headers
use Rattle.tr_mirror.specs.Records.{Record}

-- the rectangle has the pixel in column h of row v
pub record Has (b : Bounds) (h v : ℕ) : Type 0 where
  pub west : b.west ≤ h
  pub east : h < b.east
  pub north : b.north ≤ v
  pub south : v < b.south

-- the least rectangle around two
abbrev pub around_of : Bounds → Bounds → Bounds
around_of a b = record {
  west = min a.west b.west;
  east = max a.east b.east;
  north = min a.north b.north;
  south = max a.south b.south;
}

-- the pixels of a Run or a Fill
abbrev pub bounds_of : Segment → Bounds
bounds_of segment = record { west = segment.west; east = segment.west + segment.count; north = segment.v; south = segment.v + 1 }

-- the pixels of a segment lie on the largest screen
pub record IsOnLargest (segment : Segment) : Type 0 where
  pub row : segment.v < 1024
  pub columns : segment.west + segment.count ≤ 1024

-- the pixels that a record writes lie on the largest screen
abbrev pub WritesOnLargest : Header → Type 0
WritesOnLargest (headers.Screen wide high kind) = Unit {0}
WritesOnLargest (headers.Run segment) = IsOnLargest segment
WritesOnLargest (headers.Fill segment) = IsOnLargest segment
WritesOnLargest (headers.Cut number) = Unit {0}

-- a change and one rectangle more
abbrev pub joined_of : Bounds → Change → Change
joined_of b changes.Nothing = changes.Within b
joined_of b (changes.Within more) = changes.Within (around_of b more)
joined_of b changes.Screen = changes.Screen

-- a change and one record more
abbrev pub change_with : Header → Change → Change
change_with (headers.Screen wide high kind) change = changes.Screen
change_with (headers.Run segment) change = joined_of (bounds_of segment) change
change_with (headers.Fill segment) change = joined_of (bounds_of segment) change
change_with (headers.Cut number) change = change

-- the change by records: all if one is a Screen, else the least rectangle with the pixels of all Runs and Fills, or nothing
abbrev pub change_by : List Record → Change
change_by [] = changes.Nothing
change_by (r ∷ rs) = change_with r.header (change_by rs)

abbrev pub is_cut : Header → Bool
is_cut (headers.Cut number) = true
is_cut (headers.Screen wide high kind) = false
is_cut (headers.Run segment) = false
is_cut (headers.Fill segment) = false

-- a Cut comes before the last record
abbrev pub has_inner_cut : List Record → Bool
has_inner_cut [] = false
has_inner_cut (r ∷ []) = false
has_inner_cut (r ∷ q ∷ rs) = is_cut r.header || has_inner_cut (q ∷ rs)

-- the last group that has begun: the records after the last Cut that another record follows
abbrev pub last_group : List Record → List Record
last_group [] = []
last_group (r ∷ rs) = if has_inner_cut (r ∷ rs) then last_group rs else r ∷ rs

-- the pictures have one size and one kind, and the same pixels outside of the rectangle
pub record IsSameOutside (b : Bounds) (before now : Picture) : Type 0 where
  pub size : now.size ≡ before.size
  pub kind : now.kind ≡ before.kind
  pub pixels : (h v : ℕ) → (Has b h v → ⊥) → slice_index (row_of now v) h ≡ slice_index (row_of before v) h

-- outside of the change the screen is as before
abbrev pub Covers : Change → Picture → Picture → Type 0
Covers changes.Nothing before now = now ≡ before
Covers (changes.Within b) before now = IsSameOutside b before now
Covers changes.Screen before now = Unit {0}
