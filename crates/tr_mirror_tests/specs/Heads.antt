-- Private contracts alone cite this file.
-- The header of a record, as the mirror's definitions have it.
use Rattle.tr_mirror_tests.specs.declared.heads.Place.{Place}
use Rattle.tr_mirror_tests.specs.declared.heads.Head.{Head}
use Rattle.tr_mirror_tests.specs.declared.heads.Head.TheVariants.{Screen as ScreenHead, Run as RunHead, Fill as FillHead, Cut as CutHead}
use Rattle.tr_mirror.specs.declared.headers.Segment.{Segment}
use Rattle.tr_mirror.specs.declared.headers.Header.{Header}
use Rattle.tr_mirror.specs.declared.headers.Header.TheVariants.{Screen, Run, Fill, Cut}

abbrev pub segment : Place → Segment
segment place = record { west = place.west; v = place.v; count = place.count }

abbrev pub header : Head → Header
header (ScreenHead wide high kind) = Screen wide high kind
header (RunHead place) = Run (segment place)
header (FillHead place) = Fill (segment place)
header (CutHead number) = Cut number
