use Rattle.std.proofs.Common.{sym, ◌∙◌, rules}
use Rattle.std.specs.Prelude.{int_le}
use Rattle.std.proofs.lemmas.List.Sorted.{IsPartitionPoint-from_clause}
use Rattle.tr_base.specs.Rects.{Edges}
use Rattle.tr_region.proofs.SweepLemmas.{north_of-bands_of}
use Rattle.tr_region.proofs.RowLemmas.{AreInOrder-canonical, parted_by_south}
use Rattle.tr_region.proofs.CutLemmas.{cut_none, cut_at}
use Rattle.tr_region.proofs.sweeps.count_before.Goals as goal

pub returns-in-None : goal.returns-in-None
returns-in-None c = cut_none _ _

pub returns-in-Some : goal.returns-in-Some
returns-in-Some c =
    let rects = c.args.rects.now in
    let row = c.north-row.result in
    let at = c.north-row.ensures.value ∙ sym (north_of-bands_of c.args.others.now _ (sym c.in-Some.ensures.value)) in
    let south = IsPartitionPoint-from_clause (λ (r : Edges). int_le r.south row) rects _ c.partition_point.ensures.partitioned
    (parted_by_south row rects (AreInOrder-canonical rects c.requires)) (λ a r f' k. search rules) in
    rw (← at) (cut_at rects row c.partition_point.result c.requires c.partition_point.ensures.bound south)
