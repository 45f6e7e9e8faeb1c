use Rattle.tr_session.proofs.FitLemmas.{fitted_point, fitted_same, fitted_shows}
use Rattle.tr_session.proofs.laws.screens_are_fitted.Goals as goal

pub returns : goal.returns
returns c = record { shown = fitted_shows; points = fitted_point; same = fitted_same }
