use Rattle.std.proofs.Common.{◌≡◌, ◌<◌, length, rules}
use Rattle.std.specs.Prelude.{int_lt}
use Rattle.std.proofs.lemmas.List.Sorted.{IsPartitionPoint-from_clause}
use Rattle.tr_base.specs.Rects.{Edges}
use Rattle.tr_region.proofs.RowLemmas.{AreInOrder-canonical, parted_before_north}
use Rattle.tr_region.proofs.CutLemmas.{last_none, last_at}
use Rattle.tr_region.proofs.sweeps.last_band.Goals as goal

pub returns-then-is_empty : goal.returns-then-is_empty
returns-then-is_empty c =
    let none : length c.args.rects.now ≡ 0 = search rules in
    last_none c.args.rects.now none

pub returns : goal.returns
returns c =
    let rects = c.args.rects.now in
    let some : 0 < length c.args.rects.now = search rules in
    let north = c.north-north.result in
    let parted = IsPartitionPoint-from_clause (λ (r : Edges). int_lt r.north north) rects _ c.partition_point.ensures.partitioned
    (parted_before_north north rects (AreInOrder-canonical rects c.requires)) (λ a r f' k. search rules) in
    last_at rects c.index-rects-rects.result north c.partition_point.result c.requires some c.index-rects-rects.is c.north-north.ensures.value
    c.partition_point.ensures.bound parted
