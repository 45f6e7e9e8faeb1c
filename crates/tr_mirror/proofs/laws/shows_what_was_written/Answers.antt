use Rattle.std.proofs.lemmas.List.Elements.{recursion_from_All}
use Rattle.tr_mirror.specs.Streams.{IsShowable}
use Rattle.tr_mirror.proofs.StreamLemmas.{stream_of-shows}
use Rattle.tr_mirror.proofs.laws.shows_what_was_written.Goals as goal

pub returns : goal.returns
returns c screens few each = stream_of-shows screens few (recursion_from_All IsShowable screens each)
