use Rattle.std.proofs.Common.{◌≡◌, ◌++◌, drop, map, take}
use Rattle.tr_screen.specs.Pictures.{blank_of}
use Rattle.tr_session.specs.Cuts.{fitted_pixel}
use Rattle.tr_session.proofs.cuts.fitted.Given as goal

-- the rows so far are fitted
abbrev pub invariant-loop-v : goal.invariant-loop-v
invariant-loop-v l = l.copy ≡ record (blank_of l.screen.size l.screen.kind) {
  rows = map (map (fitted_pixel l.screen.kind)) (take l.v l.screen.rows) ++ drop l.v (blank_of l.screen.size l.screen.kind).rows;
}
