-- The cut of a packing node's children into rows.
use Rattle.std.specs.Prelude.{◌≡◌, ℕ, ◌+◌, ◌-◌, ◌*◌, ◌<◌, ◌≤◌, min, Bool, not, List, [], ◌∷◌, ◌++◌, map, take, length, sum_by, nat_le, if◌then◌else◌}
use Rattle.tr_base.specs.declared.shapes.Shapes.{Shapes}
use Rattle.tr_base.specs.Layouts.{along}
use Rattle.tr_base.specs.Lists.{joined}

-- the length of a child along its row, and its depth across the row
pub record Extent : Type 0 where
  pub long : ℕ
  pub deep : ℕ

-- a child is as long as it prefers, but no longer than the room in a row, and as deep as it prefers
abbrev pub extent_of : Bool → ℕ → Shapes → Extent
extent_of down room c = record { long = min (along down c).pref room; deep = (along (not down) c).pref }

-- the extents of all children, for rows that go across or down
abbrev pub extents : Bool → ℕ → List Shapes → List Extent
extents down room cs = map (extent_of down room) cs

-- a row is as long as its children together, with a gap between neighbours
abbrev pub row_length : ℕ → List Extent → ℕ
row_length gap row = sum_by (λ x. x.long) row + gap * (length row - 1)

-- a row has some child, and with two or more it fits into the room
pub record IsRow (room gap : ℕ) (row : List Extent) : Type 0 where
  pub some : 1 ≤ length row
  pub fits : 2 ≤ length row → row_length gap row ≤ room

-- the first child of the next row would not have fitted after this row
abbrev pub IsFull : ℕ → ℕ → List Extent → List (List Extent) → Type 0
IsFull room gap row [] = Unit {0}
IsFull room gap row (next ∷ rows) = room < row_length gap (row ++ take 1 next)

-- each row is right, also with regard to the next one
abbrev pub AreRows : ℕ → ℕ → List (List Extent) → Type 0
AreRows room gap [] = Unit {0}
AreRows room gap (row ∷ rows) = IsRow room gap row × IsFull room gap row rows × AreRows room gap rows

-- the rows are the right cut of the children
pub record IsRowCut (room gap : ℕ) (children : List Extent) (rows : List (List Extent)) : Type 0 where
  pub whole : joined rows ≡ children
  pub right : AreRows room gap rows

-- the rows of some children: the first of them continue a row that was begun
abbrev pub cut_from : ℕ → ℕ → List Extent → List Extent → List (List Extent)
cut_from room gap row [] = row ∷ []
cut_from room gap row (x ∷ xs) =
    if nat_le (row_length gap (row ++ x ∷ [])) room then cut_from room gap (row ++ x ∷ []) xs
    else row ∷ cut_from room gap (x ∷ []) xs

-- the right cut, as a function: it is the only one that `IsRowCut` allows
abbrev pub cut : ℕ → ℕ → List Extent → List (List Extent)
cut room gap [] = []
cut room gap (x ∷ xs) = cut_from room gap (x ∷ []) xs
