use Rattle.std.proofs.Common.{◌≡◌, length, arith}
use Rattle.tr_region.proofs.StripLemmas.{appended_of}
use Rattle.tr_region.proofs.sweeps.Made.add.Goals as goal

pub join-requires-clause-band : goal.join-requires-clause-band
join-requires-clause-band c =
    let at : c.len-at.result ≡ length c.args.self.now.rects.items = omega (arith, c.args.self.now.rects.ok.0) in
    (appended_of _ _ _ _ _ _ c.in_ok-merge.ensures at).rows

pub returns-clause-rows : goal.returns-clause-rows
returns-clause-rows c =
    let at : c.len-at.result ≡ length c.args.self.now.rects.items = omega (arith, c.args.self.now.rects.ok.0) in
    let appended = appended_of _ _ _ _ _ _ c.in_ok-merge.ensures at in
    record { spans = _; rows = rw appended.before at c.join.ensures.rows; points = appended.points }
