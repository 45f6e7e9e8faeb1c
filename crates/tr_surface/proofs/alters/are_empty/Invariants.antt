use Rattle.std.proofs.Common.{◌≡◌, ◌<◌, ℕ, [], get_or}
use Rattle.tr_surface.proofs.alters.are_empty.Given as goal

-- the regions so far have no point
abbrev pub invariant-loop-region : goal.invariant-loop-region
invariant-loop-region l = (i : ℕ) → i < l.region-index → get_or l.regions i [] ≡ []
