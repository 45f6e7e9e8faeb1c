use Rattle.std.proofs.Common.{◌+◌, ◌∙◌, ap, arith}
use Rattle.tr_kernel.specs.Letters.{inked}
use Rattle.tr_kernel.proofs.LetterLemmas.{both_long, lane_inked, length-ink_lanes, near_lane, far_lane}
use Rattle.tr_kernel.proofs.letters.pair_pixels.Goals as goal

pub returns-clause-lanes : goal.returns-clause-lanes
returns-clause-lanes c =
    let a = c.args in
    let both = c.side_by_side-both.result in
    length-ink_lanes 16 a.inks both (both_long a.source.now a.near a.far both c.requires.near c.requires.far c.side_by_side-both.ensures)

pub returns-clause-near : goal.returns-clause-near
returns-clause-near c h lt =
    let a = c.args in
    let both = c.side_by_side-both.result in
    lane_inked 16 a.inks both h (both_long a.source.now a.near a.far both c.requires.near c.requires.far c.side_by_side-both.ensures) (omega arith)
    ∙ ap (inked a.inks) (near_lane a.source.now a.near a.far both c.requires.near c.side_by_side-both.ensures h lt)

pub returns-clause-far : goal.returns-clause-far
returns-clause-far c h lt =
    let a = c.args in
    let both = c.side_by_side-both.result in
    lane_inked 16 a.inks both (8 + h) (both_long a.source.now a.near a.far both c.requires.near c.requires.far c.side_by_side-both.ensures) (omega arith)
    ∙ ap (inked a.inks) (far_lane a.source.now a.near a.far both c.requires.near c.side_by_side-both.ensures h lt)
