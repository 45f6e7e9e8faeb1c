use Rattle.std.proofs.Common.{sym, ◌∙◌}
use Rattle.tr_base.specs.Rects.{has_point}
use Rattle.tr_region.specs.Points.{holds}
use Rattle.tr_region.proofs.ApartLemmas.{apart_extents}
use Rattle.tr_region.proofs.RowLemmas.{AreInOrder-canonical}
use Rattle.tr_region.proofs.regions.Region.is_apart_from.Goals as goal

pub returns-then-is_empty : goal.returns-then-is_empty
returns-then-is_empty c = λ h p.
    apart_extents (holds c.args.self.now p) (holds c.args.other.now p) (has_point c.extents.result p) (has_point c.extents-2.result p)
    (c.extents.ensures.points p) (c.extents-2.ensures.points p)
    (sym (c.meet.ensures.points p) ∙ c.is_empty.ensures.points.0 c.if-is_empty.true p)

pub are_apart-requires-clause-first : goal.are_apart-requires-clause-first
are_apart-requires-clause-first c = rw c.rects.ensures.value (AreInOrder-canonical c.args.self.now c.rects.ensures.invariant)

pub are_apart-requires-clause-second : goal.are_apart-requires-clause-second
are_apart-requires-clause-second c = rw c.rects-2.ensures.value (AreInOrder-canonical c.args.other.now c.rects-2.ensures.invariant)

pub returns : goal.returns
returns c = λ h p. rw (c.rects.ensures.value, c.rects-2.ensures.value) at (c.are_apart.ensures h p)
