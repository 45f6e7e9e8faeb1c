-- Letters side by side, each eight points wide and eight high.
use Rattle.std.specs.Prelude.{ℕ, ◌*◌, pos, ◌+ℤ◌, Bool, ◌&&◌}
use Rattle.tr_base.specs.declared.points.Point.{Point}
use Rattle.tr_base.specs.Rects.{between}
use Rattle.tr_screen.specs.declared.runs.Run.{Run}

-- the first row of `count` letters that begin at the point
abbrev pub first_row : Point → ℕ → Run
first_row at count = record { v = at.v; west = at.h; east = at.h +ℤ pos (8 * count) }

-- `count` letters that begin at a point have the other point
abbrev pub in_letters : Point → ℕ → Point → Bool
in_letters at count p = between at.h (at.h +ℤ pos (8 * count)) p.h && between at.v (at.v +ℤ pos 8) p.v
