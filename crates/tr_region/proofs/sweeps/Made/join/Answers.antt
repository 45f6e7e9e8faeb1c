use Rattle.std.proofs.Common.{take, drop, arith}
use Rattle.std.proofs.lemmas.Bool.{iff_false}
use Rattle.std.proofs.lemmas.List.{take_rest}
use Rattle.tr_base.proofs.RectLemmas.{cast-in_reach}
use Rattle.tr_region.specs.Bands.{spans_of}
use Rattle.tr_region.proofs.JoinLemmas.{appended_none, appended_apart, joins_longer}
use Rattle.tr_region.proofs.sweeps.Made.join.Goals as goal

pub returns-then-len-at : goal.returns-then-len-at
returns-then-len-at c =
    let made = c.args.self.now in
    appended_none made.rects.items c.args.at made.last c.args.rows.north c.args.rows.south (omega (arith, made.rects.ok.0)) c.requires.made c.args.rows.down

pub returns-then-not-continues : goal.returns-then-not-continues
returns-then-not-continues c =
    let made = c.args.self.now in
    let same = rw (c.as_slice-rects.ensures.value, take_rest, cast-in_reach _ c.args.rows.north_reach) at c.continues.ensures.same in
    appended_apart made.rects.items c.args.at made.last c.args.rows (omega (arith, made.rects.ok.0)) c.requires.made c.requires.band
    (iff_false same c.if-not-continues.true)

pub returns : goal.returns
returns c =
    let rows = c.args.rows in
    let made = c.args.self.now in
    let same = rw (c.as_slice-rects.ensures.value, take_rest, cast-in_reach _ rows.north_reach) at c.continues.ensures.same in
    let end = rw (c.truncate.ensures.items, cast-in_reach _ rows.south_reach) at c.end_from.ensures in
    rw end (joins_longer (take c.args.at made.rects.items) rows.north rows.south (spans_of (drop c.args.at made.rects.items)) made.last
    c.requires.made rows.down rows.south_reach (same.0 c.if-not-continues.false))
