use Rattle.std.proofs.Common.{rules}
use Rattle.std.specs.Prelude.{int_le}
use Rattle.std.proofs.lemmas.List.Sorted.{IsPartitionPoint-from_clause}
use Rattle.tr_base.specs.Rects.{Edges}
use Rattle.tr_region.proofs.RowLemmas.{parted_by_south, parted_by_north, row_part-found}
use Rattle.tr_region.proofs.rows.row_part.Goals as goal

pub returns : goal.returns
returns c =
    let rects = c.args.rects.now in
    let v = c.args.v in
    let south = IsPartitionPoint-from_clause (λ (r : Edges). int_le r.south v) rects _
    c.partition_point-start.ensures.partitioned (parted_by_south v rects c.requires) (λ a r f' k. search rules) in
    let north = IsPartitionPoint-from_clause (λ (r : Edges). int_le r.north v) rects _
    c.partition_point-end.ensures.partitioned (parted_by_north v rects c.requires) (λ a r f' k. search rules) in
    row_part-found v rects c.requires _ _ c.partition_point-start.ensures.bound c.partition_point-end.ensures.bound south north
