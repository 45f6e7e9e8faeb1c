-- Rows that are copied from one screen to another.
use Rattle.std.proofs.Common.{◌≡◌, ℕ, ◌+◌, ◌<◌, min, Bool, ◌&&◌, ◌||◌, pos, refl, arith}
use Rattle.std.proofs.lemmas.Int.{ints}
use Rattle.tr_base.specs.declared.points.Point.{Point}
use Rattle.tr_base.specs.declared.sizes.Size.{Size}
use Rattle.tr_base.specs.Rects.{has_point, whole_of}
use Rattle.tr_base.proofs.RectLemmas.{has_point-rect_of}
use Rattle.tr_screen.specs.Pictures.{Picture, pixel_of}
use Rattle.tr_screen.specs.Runs.{in_run, in_rows, row_start, IsOn, Repaints}
use Rattle.tr_screen.proofs.RunLemmas.{there}
use Rattle.tr_screen.proofs.Repainting.{repaints_more}

-- the point is on the other screen too, in one of the rows before v
abbrev pub in_common : Size → ℕ → Point → Bool
in_common other v p = in_rows 0 v p && has_point (whole_of other) p

-- one row more
pub common_more : (src old mid new : Picture) (v wide : ℕ) → wide ≡ min old.size.wide src.size.wide → v < src.size.high →
    Repaints (in_common src.size v) (pixel_of src) old mid → Repaints (in_run (row_start v wide)) (pixel_of src) mid new →
    Repaints (in_common src.size (v + 1)) (pixel_of src) old new
common_more src old mid new v wide is below h k =
    repaints_more (in_common src.size v) (in_run (row_start v wide)) (in_common src.size (v + 1))
    (pixel_of src) (pixel_of src) old mid new h k (λ p on e. refl) grown
  where
    grown : (p : Point) → IsOn old.size p → in_common src.size (v + 1) p ≡ in_run (row_start v wide) p || in_common src.size v p
    grown p on =
        let at = there old.size p on in
        let west = at.west in
        let east = at.east in
        let north = at.north in
        rw (has_point-rect_of (pos 0) (pos src.size.wide) (pos 0) (pos src.size.high) p) (grind (arith, ints))
