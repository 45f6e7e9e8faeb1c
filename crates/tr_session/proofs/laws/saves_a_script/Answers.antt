use Rattle.tr_session.proofs.SavedLemmas as lemmas
use Rattle.tr_session.proofs.laws.saves_a_script.Goals as goal

pub returns : goal.returns
returns c = record { script = lemmas.saves_a_script; beyond = lemmas.refuses_beyond }
