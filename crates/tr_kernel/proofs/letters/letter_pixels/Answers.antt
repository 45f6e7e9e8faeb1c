use Rattle.std.proofs.Common.{◌∙◌, ap}
use Rattle.std.proofs.lemmas.Simd.{get_or-chunk, length-chunk}
use lib.Lanes.{chunk}
use Rattle.tr_kernel.specs.Letters.{inked}
use Rattle.tr_kernel.proofs.LetterLemmas.{lane_inked, length-ink_lanes}
use Rattle.tr_kernel.proofs.letters.letter_pixels.Goals as goal

pub returns-clause-lanes : goal.returns-clause-lanes
returns-clause-lanes c =
    let a = c.args in length-ink_lanes 8 a.inks (chunk a.place 8 a.source.now) (length-chunk a.place 8 a.source.now c.requires)

pub returns-clause-each : goal.returns-clause-each
returns-clause-each c h lt =
    let a = c.args in
    lane_inked 8 a.inks (chunk a.place 8 a.source.now) h (length-chunk a.place 8 a.source.now c.requires) lt
    ∙ ap (inked a.inks) (get_or-chunk a.place 8 a.source.now h 0 lt)
