use Rattle.std.proofs.Common.{drop}
use Rattle.std.specs.List.{AllByRecursion}
use Rattle.tr_region.specs.Points.{IsInSquare}
use Rattle.tr_base_tests.proofs.regions.is_in_square.Given as goal

abbrev pub invariant-loop-rect : goal.invariant-loop-rect
invariant-loop-rect l = AllByRecursion IsInSquare (drop l.rect-index l.rect-items) → AllByRecursion IsInSquare l.region
