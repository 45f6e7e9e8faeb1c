-- The part of a rectangle that lies in a near one.
use Rattle.tr_base.specs.Rects.{Edges, meet_of}
use Rattle.tr_base.proofs.RectFacts.{int_min_comm, int_max_comm}
use Rattle.tr_paint.specs.Paints.{IsNearRect}
use Rattle.tr_paint.proofs.NearLemmas.{near-meet}

-- the part of any rectangle that lies in a near one is near
pub near-part : (a b : Edges) → IsNearRect b → IsNearRect (meet_of a b)
near-part a b near =
    rw (int_max_comm a.west b.west, int_min_comm a.east b.east, int_max_comm a.north b.north, int_min_comm a.south b.south) (near-meet b a near)
