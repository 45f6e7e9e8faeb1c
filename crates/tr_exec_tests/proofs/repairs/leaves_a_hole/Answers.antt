use Rattle.std.proofs.Common.{sym, ◌∙◌}
use Rattle.std.specs.Prelude.{not}
use Rattle.std.proofs.lemmas.Bool.{and_parts}
use Rattle.tr_region.specs.Points.{holds}
use Rattle.tr_exec_tests.proofs.repairs.leaves_a_hole.Goals as goal

-- a part of the points that can be moved
pub move_pixels-requires : goal.move_pixels-requires
move_pixels-requires g c = λ p t.
    let within = rw c.made-within.ensures at c.minus.ensures.points in
    let both = and_parts (holds c.movable-all.result p) (not (holds c.made-hole.result p)) (sym (within p) ∙ t) in
    rw (← c.size.ensures.value) (c.movable-all.ensures p both.0)
