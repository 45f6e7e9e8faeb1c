use Rattle.std.proofs.Common.{◌<◌, pos, ◌<ℤ◌, get_or, length, refl, subst, rules, arith}
use Rattle.std.specs.Prelude.{int_le}
use Rattle.std.proofs.lemmas.Int.{ints}
use Rattle.std.proofs.lemmas.List.{get_or_default}
use Rattle.std.proofs.lemmas.List.Sorted.{IsPartitionPoint-from_clause}
use Rattle.tr_base.specs.Rects.{Edges, empty_rect}
use Rattle.tr_region.specs.RowParts.{AreInOrder}
use Rattle.tr_base.proofs.RectFacts.{between-before}
use Rattle.tr_region.proofs.RowLemmas.{AreInOrder-canonical, full_at, parted_by_south, none_before}
use Rattle.tr_region.proofs.BandRows.{band_points, cut_south, north_of_band}
use Rattle.tr_region.proofs.regions.Region.first_band.Goals as goal

pub returns-then-at-rects-clause-points : goal.returns-then-at-rects-clause-points
returns-then-at-rects-clause-points c = λ p from to.
    let rects = c.rects-rects.result.now in
    let order : AreInOrder rects = rw c.rects-rects.ensures.value (AreInOrder-canonical c.args.self.now c.rects-rects.ensures.invariant) in
    let parted = IsPartitionPoint-from_clause (λ (r : Edges). int_le r.south (pos c.args.north)) rects _
    c.partition_point-at.ensures.partitioned (parted_by_south (pos c.args.north) rects order) (λ a r f' k. search rules) in
    rw (← c.rects-rects.ensures.value, between-before (pos c.args.south) (pos c.args.south) p.v to)
    (none_before rects c.partition_point-at.result p.v order c.partition_point-at.ensures.bound (pos c.args.north) parted from
    (λ d lt. absurd (omega (arith, c.if-at-rects.true))) p refl)

pub returns-clause-from : goal.returns-clause-from
returns-clause-from c = (c.band_at.ensures.band empty_rect).north.from

pub returns-clause-to : goal.returns-clause-to
returns-clause-to c = (c.band_at.ensures.band empty_rect).south.to

pub returns-clause-further : goal.returns-clause-further
returns-clause-further c = λ some.
    let rects = c.rects-rects.result.now in
    let at = c.partition_point-at.result in
    let r = get_or rects at empty_rect in
    let order : AreInOrder rects = rw c.rects-rects.ensures.value (AreInOrder-canonical c.args.self.now c.rects-rects.ensures.invariant) in
    let parted = IsPartitionPoint-from_clause (λ (r : Edges). int_le r.south (pos c.args.north)) rects _
    c.partition_point-at.ensures.partitioned (parted_by_south (pos c.args.north) rects order) (λ a r f' k. search rules) in
    let fits : at < length rects = search rules in
    let full = full_at rects at empty_rect order fits in
    let left = parted.1 at empty_rect (omega arith) fits in
    let south : pos c.args.north <ℤ r.south = grind (arith, ints, left) in
    let band = rw (← c.rects-rects.ensures.value) at (c.band_at.ensures.band empty_rect) in
    cut_south r.north r.south c.args.north c.args.south _ _ full.1 band.north band.south south some

pub returns-clause-points : goal.returns-clause-points
returns-clause-points c = λ p from to.
    let rects = c.rects-rects.result.now in
    let at = c.partition_point-at.result in
    let r = get_or rects at empty_rect in
    let order : AreInOrder rects = rw c.rects-rects.ensures.value (AreInOrder-canonical c.args.self.now c.rects-rects.ensures.invariant) in
    let parted = IsPartitionPoint-from_clause (λ (r : Edges). int_le r.south (pos c.args.north)) rects _
    c.partition_point-at.ensures.partitioned (parted_by_south (pos c.args.north) rects order) (λ a r f' k. search rules) in
    let band = rw (← c.rects-rects.ensures.value) at (c.band_at.ensures.band empty_rect) in
    let high : p.v <ℤ pos c.args.south = omega (arith, ints, band.south.to, to) in
    rw (← c.rects-rects.ensures.value) (band_points rects r c.args.north c.args.south c.band_at.result band p from high
    (λ outside. none_before rects at p.v order c.partition_point-at.ensures.bound (pos c.args.north) parted from
    (λ d lt. subst (λ (e : Edges). p.v <ℤ e.north) (get_or_default rects at empty_rect d lt)
    (north_of_band rects r c.args.north c.args.south c.band_at.result band p.v from high outside to)) p refl))
