use Rattle.std.proofs.Common.{◌∙◌}
use Rattle.tr_base.proofs.RectLemmas.{cast-rect}
use Rattle.w_canvas.proofs.AreaLemmas.{reach-edge, long-edge}
use Rattle.w_canvas.proofs.areas.Area.rect.Goals as goal

pub returns-clause-value : goal.returns-clause-value
returns-clause-value c =
    let area = c.self.invariant.range in
    let west = long-edge _ _ area.west c.from.ensures in
    let east = long-edge _ _ area.east c.from-2.ensures in
    let north = long-edge _ _ area.north c.from-3.ensures in
    let south = long-edge _ _ area.south c.from-4.ensures in
    cast-rect _ _ _ _ _ _ _ _ _
    (rw west (reach-edge _ area.west)) (rw east (reach-edge _ area.east)) (rw north (reach-edge _ area.north)) (rw south (reach-edge _ area.south))
    c.edges.ensures.edges west east north south
    ∙ c.self.invariant.edges ∙ c.self.view_is
