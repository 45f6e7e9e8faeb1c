use Rattle.std.proofs.Common.{w32}
use Rattle.std.proofs.lemmas.Int.{to_z-of_z}
use Rattle.tr_region.proofs.RowLemmas.{AreInOrder-canonical, part_alike, part_points, part_apart}
use Rattle.tr_region.proofs.regions.Region.row.Goals as goal

pub row_part-start-requires : goal.row_part-start-requires
row_part-start-requires c = rw c.rects-rects.ensures.value (AreInOrder-canonical c.args.self.now c.rects-rects.ensures.invariant)

pub returns-clause-points : goal.returns-clause-points
returns-clause-points c =
    let part = rw (to_z-of_z w32 c.args.v c.ranges.v, c.rects-rects.ensures.value) at c.row_part-start.ensures in
    rw c.rects-rects.ensures.value (part_points c.args.self.now c.args.v _ _ part)

pub returns-clause-apart : goal.returns-clause-apart
returns-clause-apart c =
    let part = rw c.rects-rects.ensures.value at c.row_part-start.ensures in
    rw c.rects-rects.ensures.value (part_apart c.args.self.now _ _ _ (AreInOrder-canonical c.args.self.now c.rects-rects.ensures.invariant) part)

pub returns-clause-alike : goal.returns-clause-alike
returns-clause-alike c = λ k d fits north south y low high.
    let order = AreInOrder-canonical c.args.self.now c.rects-rects.ensures.invariant in
    let part = rw (to_z-of_z w32 c.args.v c.ranges.v, c.rects-rects.ensures.value) at c.row_part-start.ensures in
    rw c.rects-rects.ensures.value (part_points c.args.self.now y _ _ (part_alike c.args.v y c.args.self.now _ _ k order part fits d north south low high))
