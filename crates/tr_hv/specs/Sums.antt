-- Private contracts alone cite this file.
-- Bounds of sums of wishes.
use Rattle.std.specs.Prelude.{ℕ, ◌≤◌}
use Rattle.tr_hv.specs.declared.places.Wishes.{Wishes}

-- each of the three is at most `most`
pub record AreAtMost (most : ℕ) (w : Wishes) : Type 0 where
  pub lo : w.lo ≤ most
  pub pref : w.pref ≤ most
  pub hi : w.hi ≤ most
