use Rattle.tr_session.proofs.CutLemmas as lemmas
use Rattle.tr_session.proofs.CutsWrittenLemmas.{writes_cuts}
use Rattle.tr_session.proofs.laws.cuts_are_shown.Goals as goal

pub returns : goal.returns
returns c = record { shown = lemmas.cuts_are_shown; written = writes_cuts }
