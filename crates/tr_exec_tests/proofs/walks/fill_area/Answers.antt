use Rattle.std.proofs.lemmas.Bool.{and_parts}
use Rattle.tr_base.specs.Rects.{has_point}
use Rattle.tr_region.specs.Points.{holds}
use Rattle.tr_exec_tests.proofs.walks.fill_area.Goals as goal

pub paint_within-requires : goal.paint_within-requires
paint_within-requires c = λ p t. c.requires p (and_parts (holds c.args.region.now p) (has_point c.args.area p) t).0
