use Rattle.std.proofs.Common.{◌≡◌, pos, true, ◌&&◌, sym, ◌∙◌, arith}
use Rattle.std.specs.Prelude.{not}
use Rattle.std.proofs.lemmas.Int.{ints}
use Rattle.std.proofs.lemmas.Bool.{and_parts}
use Rattle.tr_base.specs.declared.points.Point.{Point}
use Rattle.tr_base.specs.Rects.{between}
use Rattle.tr_region.specs.Points.{holds}
use Rattle.tr_repair.specs.Near.{IsAround}
use Rattle.tr_exec_tests.proofs.repairs.corner.Goals as goal

screen_around : (p : Point) → between (pos 0) (pos 4) p.h && between (pos 0) (pos 3) p.v ≡ true → IsAround p
screen_around p h = record { west = grind (arith, ints); east = grind (arith, ints); north = grind (arith, ints); south = grind (arith, ints) }

pub returns : goal.returns
returns g c = λ p held.
    let all = rw c.made-all.ensures at c.of_rect.ensures.points in
    let corner = rw c.made.ensures at c.minus.ensures.points in
    let both = and_parts (holds c.made-all.result p) (not (holds c.made-rest.result p)) (sym (corner p) ∙ held) in
    screen_around p (sym (c.edges.ensures.points p) ∙ (sym (all p) ∙ both.0))
