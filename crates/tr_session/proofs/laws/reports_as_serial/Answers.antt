use Rattle.tr_session.proofs.ReportLemmas.{reports_all, reports_one}
use Rattle.tr_session.proofs.WrittenLemmas.{writes_as_serial}
use Rattle.tr_session.proofs.laws.reports_as_serial.Goals as goal

pub returns : goal.returns
returns c = record { one = reports_one; all = reports_all; written = writes_as_serial }
