use Rattle.std.proofs.Common.{◌≡◌, ◌++◌, drop, map, min, take}
use Rattle.tr_session.proofs.cuts.fit_row.Given as goal

-- the pixels so far are fitted
abbrev pub invariant-loop-pixel : goal.invariant-loop-pixel
invariant-loop-pixel l = l.to ≡ map (λ pixel. min pixel l.most) (take l.pixel-index l.from) ++ drop l.pixel-index l.from
