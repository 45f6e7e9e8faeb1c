-- Private contracts alone cite this file.
-- The place of the next child while children are placed one after another.
use Rattle.std.specs.Prelude.{ℕ, ◌+◌, min, max, nat_le, if◌then◌else◌}
use Rattle.tr_pack.specs.declared.packs.Pen.{Pen}

-- the place for the next child of this length: in the row, or at the beginning of the next one
abbrev pub moved_for : ℕ → ℕ → ℕ → Pen → ℕ → Pen
moved_for room side gap pen long =
    if nat_le (pen.along + long) room then pen
    else record { along = 0; start = min (pen.start + pen.deep + gap) side; deep = 0 }

-- the place after a child
abbrev pub passed : ℕ → Pen → ℕ → ℕ → Pen
passed gap pen long deep = record {
  along = pen.along + long + gap;
  start = pen.start;
  deep = max pen.deep deep;
}
