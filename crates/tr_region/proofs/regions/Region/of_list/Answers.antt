use Rattle.std.proofs.Common.{◌∙◌}
use Rattle.tr_region.proofs.RegionLemmas.{only_rect, some_rect}
use Rattle.tr_region.proofs.regions.Region.of_list.Goals as goal

pub returns-in-len1 : goal.returns-in-len1
returns-in-len1 c =
    let only = only_rect c.as_slice.result.now c.rect-item.result c.in-len1.len_at_least c.in-len1.len_below c.rect-item.is ∙ c.as_slice.ensures.value in
    c.single.ensures.one (some_rect c.rect-item.result c.args.rects.items only c.requires) ∙ only
