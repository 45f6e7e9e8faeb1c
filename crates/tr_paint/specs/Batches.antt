-- Batches: lists of paint commands whose areas aren't empty.
use Rattle.std.specs.Prelude.{◌≡◌, Bool, true, if◌then◌else◌, List, [], ◌∷◌, flat_map}
use Rattle.std.specs.List.{AllByRecursion, list_any}
use Rattle.tr_base.specs.declared.Point.{Point}
use Rattle.tr_base.specs.Rects.{has_point}
use Rattle.tr_paint.specs.declared.paints.Paint.{Paint}
use Rattle.tr_paint.specs.Paints.{IsNearPaint, area, has_area}

-- the command in a list, or an empty list if its area is empty
abbrev pub kept : Paint → List Paint
kept c = if has_area c then c ∷ [] else []

-- the commands of a list whose areas aren't empty
abbrev pub batch_of : List Paint → List Paint
batch_of commands = flat_map kept commands

-- a command of a batch: its coordinates are near, and its area isn't empty
pub record IsKept (c : Paint) : Type 0 where
  pub near : IsNearPaint c
  pub some : has_area c ≡ true

-- the commands are those of a batch
abbrev pub IsBatch : List Paint → Type 0
IsBatch commands = AllByRecursion IsKept commands

-- a point lies in the area of one of the commands
abbrev pub touches : List Paint → Point → Bool
touches commands q = list_any (λ c. has_point (area c) q) commands
