use Rattle.std.proofs.Common.{◌-◌, ◌<◌, pos, ◌≤ℤ◌, ◌<ℤ◌, get_or, length, refl, subst, rules, arith}
use Rattle.std.specs.Prelude.{int_lt}
use Rattle.std.proofs.lemmas.Int.{ints}
use Rattle.std.proofs.lemmas.List.{get_or_default}
use Rattle.std.proofs.lemmas.List.Sorted.{IsPartitionPoint-from_clause}
use Rattle.tr_base.specs.Rects.{Edges, empty_rect}
use Rattle.tr_region.specs.RowParts.{AreInOrder}
use Rattle.tr_base.proofs.RectFacts.{between-beyond}
use Rattle.tr_region.proofs.RowLemmas.{AreInOrder-canonical, full_at, parted_before_north, none_after}
use Rattle.tr_region.proofs.BandRows.{band_points, cut_north, south_of_band}
use Rattle.tr_region.proofs.regions.Region.last_band.Goals as goal

pub returns-then-count-eq0-clause-points : goal.returns-then-count-eq0-clause-points
returns-then-count-eq0-clause-points c = λ p from to.
    let rects = c.rects-rects.result.now in
    let order : AreInOrder rects = rw c.rects-rects.ensures.value (AreInOrder-canonical c.args.self.now c.rects-rects.ensures.invariant) in
    let parted = IsPartitionPoint-from_clause (λ (r : Edges). int_lt r.north (pos c.args.south)) rects _
    c.partition_point-count.ensures.partitioned (parted_before_north (pos c.args.south) rects order) (λ a r f' k. search rules) in
    rw (← c.rects-rects.ensures.value, between-beyond (pos c.args.north) (pos c.args.north) p.v from)
    (none_after rects c.partition_point-count.result p.v order c.partition_point-count.ensures.bound (pos c.args.south) parted to
    (λ d lt. absurd (omega (arith, c.if-count-eq0.true))) p refl)

pub returns-clause-from : goal.returns-clause-from
returns-clause-from c = (c.band_at.ensures.band empty_rect).north.from

pub returns-clause-to : goal.returns-clause-to
returns-clause-to c = (c.band_at.ensures.band empty_rect).south.to

pub returns-clause-further : goal.returns-clause-further
returns-clause-further c = λ some.
    let rects = c.rects-rects.result.now in
    let at = c.partition_point-count.result - 1 in
    let r = get_or rects at empty_rect in
    let order : AreInOrder rects = rw c.rects-rects.ensures.value (AreInOrder-canonical c.args.self.now c.rects-rects.ensures.invariant) in
    let parted = IsPartitionPoint-from_clause (λ (r : Edges). int_lt r.north (pos c.args.south)) rects _
    c.partition_point-count.ensures.partitioned (parted_before_north (pos c.args.south) rects order) (λ a r f' k. search rules) in
    let begun = parted.0 at empty_rect (omega arith) (omega (arith, c.if-count-eq0.false)) in
    let north : r.north <ℤ pos c.args.south = grind (arith, ints, begun) in
    let full = full_at rects at empty_rect order (omega (arith, c.if-count-eq0.false, c.partition_point-count.ensures.bound)) in
    let band = rw (← c.rects-rects.ensures.value) at (c.band_at.ensures.band empty_rect) in
    cut_north r.north r.south c.args.north c.args.south _ _ full.1 band.north band.south north some

pub returns-clause-points : goal.returns-clause-points
returns-clause-points c = λ p from to.
    let rects = c.rects-rects.result.now in
    let count = c.partition_point-count.result in
    let r = get_or rects (count - 1) empty_rect in
    let order : AreInOrder rects = rw c.rects-rects.ensures.value (AreInOrder-canonical c.args.self.now c.rects-rects.ensures.invariant) in
    let parted = IsPartitionPoint-from_clause (λ (r : Edges). int_lt r.north (pos c.args.south)) rects _
    c.partition_point-count.ensures.partitioned (parted_before_north (pos c.args.south) rects order) (λ a r f' k. search rules) in
    let band = rw (← c.rects-rects.ensures.value) at (c.band_at.ensures.band empty_rect) in
    let low : pos c.args.north ≤ℤ p.v = omega (arith, ints, band.north.from, from) in
    let fits : count - 1 < length rects = omega (arith, c.if-count-eq0.false, c.partition_point-count.ensures.bound) in
    rw (← c.rects-rects.ensures.value) (band_points rects r c.args.north c.args.south c.band_at.result band p low to
    (λ outside. none_after rects count p.v order c.partition_point-count.ensures.bound (pos c.args.south) parted to
    (λ d lt. subst (λ (e : Edges). e.south ≤ℤ p.v) (get_or_default rects (count - 1) empty_rect d fits)
    (south_of_band rects r c.args.north c.args.south c.band_at.result band p.v low to outside from)) p refl))
