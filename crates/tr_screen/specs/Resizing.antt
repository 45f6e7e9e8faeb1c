-- The pixels that a screen keeps when it gets another size or kind.
use Rattle.std.specs.Prelude.{ℕ, ◌&&◌, if◌then◌else◌}
use Rattle.tr_base.specs.declared.points.Point.{Point}
use Rattle.tr_base.specs.declared.ops.Kind.{Kind}
use Rattle.tr_base.specs.Rects.{has_point, whole_of}
use Rattle.tr_base.specs.Ops.{same_kind}
use Rattle.tr_screen.specs.Pictures.{Picture, pixel_of}

-- the pixel at a point of the new screen of this kind: the pixel of the old picture if that has the same kind and the point,
-- and else 0
abbrev pub kept_pixel : Picture → Kind → Point → ℕ
kept_pixel old kind p = if same_kind kind old.kind && has_point (whole_of old.size) p then pixel_of old p else 0
