use Rattle.tr_mirror.proofs.GrammarLemmas.{stream_to_groups, groups_to_stream}
use Rattle.tr_mirror.proofs.laws.streams_are_groups.Goals as goal

pub returns : goal.returns
returns c = λ stream screens k. (λ s. stream_to_groups stream screens k s.0 s.1, groups_to_stream stream screens)
