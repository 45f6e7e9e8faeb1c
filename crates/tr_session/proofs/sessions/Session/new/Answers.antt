use Rattle.std.proofs.Common.{refl}
use Rattle.tr_session.proofs.SessionLemmas.{empty_view, together_empty}
use Rattle.tr_session.proofs.sessions.Session.new.Goals as goal

pub returns-clause-view : goal.returns-clause-view
returns-clause-view c = empty_view _ _ c.new-script.ensures.lines c.new-cuts.ensures

pub returns-clause-holds : goal.returns-clause-holds
returns-clause-holds c =
    together_empty _ c.new-script.ensures.lines refl c.new-cuts.ensures c.new-script.ensures.reader c.new-script.ensures.ended c.new-script.ensures.behind
