use Rattle.std.proofs.Common.{◌≡◌, ◌-◌, take, drop, length, rules, arith}
use Rattle.std.specs.Prelude.{int_le, int_lt}
use Rattle.std.proofs.lemmas.List.{take_all, length-drop}
use Rattle.std.proofs.lemmas.List.Sorted.{IsPartitionPoint-from_clause}
use Rattle.tr_base.specs.Rects.{Edges}
use Rattle.tr_region.proofs.ColumnLemmas.{parted_by_east, parted_by_west, apart-drop, between-columns, between-apart, between-meet}
use Rattle.tr_region.proofs.rows.Band.between.Goals as goal

pub returns : goal.returns
returns c =
    let rects = c.args.self.now.rects.now in
    let west = c.args.west in
    let east = c.args.east in
    let start = c.partition_point-start.result in
    let rest : take (length rects - start) (drop start rects) ≡ drop start rects =
    take_all (length rects - start) (drop start rects) (omega (arith, length-drop start rects)) in
    let ended = IsPartitionPoint-from_clause (λ (r : Edges). int_le r.east west) rects _
    c.partition_point-start.ensures.partitioned (parted_by_east rects c.requires west) (λ a r f' k. search rules) in
    let clause = rw rest at c.partition_point.ensures in
    let begun = IsPartitionPoint-from_clause (λ (r : Edges). int_lt r.west east) (drop start rects) _
    clause.partitioned (parted_by_west (drop start rects) (apart-drop rects start c.requires) east) (λ a r f' k. search rules) in
    rw rest (record {
      columns = between-columns rects west east start _ c.requires c.partition_point-start.ensures.bound clause.bound ended begun;
      apart = between-apart rects west east start _ c.requires c.partition_point-start.ensures.bound clause.bound ended begun;
      meet = between-meet rects west east start _ c.requires c.partition_point-start.ensures.bound clause.bound ended begun;
    })
