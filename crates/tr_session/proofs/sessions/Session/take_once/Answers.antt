use Rattle.std.proofs.Common.{true, false, sym, ◌∙◌}
use Rattle.tr_session.proofs.PlayedLemmas.{begun_if_played}
use Rattle.tr_session.proofs.sessions.Session.take_once.Goals as goal

pub play-requires-clause-begun : goal.play-requires-clause-begun
play-requires-clause-begun c = begun_if_played c.args.self.now true c.requires (sym c.is_some.ensures ∙ c.if-is_some.true)

pub open-requires-clause-early : goal.open-requires-clause-early
open-requires-clause-early c = begun_if_played c.args.self.now false c.requires (sym c.is_some.ensures ∙ c.if-is_some.false)
