use Rattle.tr_player.proofs.responses.Response.write_to.Goals as goal

pub returns-in-Usage-clause-ok : goal.returns-in-Usage-clause-ok
returns-in-Usage-clause-ok g c = rw c.in-Usage.is c.write_at_once.ensures.ok

pub returns-in-Usage-clause-failed : goal.returns-in-Usage-clause-failed
returns-in-Usage-clause-failed g c = rw c.in-Usage.is c.write_at_once.ensures.failed

pub returns-in-ReadFault-clause-ok : goal.returns-in-ReadFault-clause-ok
returns-in-ReadFault-clause-ok g c = rw c.in-ReadFault.is c.write_at_once-in-ReadFault.ensures.ok

pub returns-in-ReadFault-clause-failed : goal.returns-in-ReadFault-clause-failed
returns-in-ReadFault-clause-failed g c = rw c.in-ReadFault.is c.write_at_once-in-ReadFault.ensures.failed

pub returns-in-Refused-clause-ok : goal.returns-in-Refused-clause-ok
returns-in-Refused-clause-ok g c = rw (c.in-Refused.is, ← c.deref.ensures.value) c.write_at_once-in-Refused.ensures.ok

pub returns-in-Refused-clause-failed : goal.returns-in-Refused-clause-failed
returns-in-Refused-clause-failed g c = rw (c.in-Refused.is, ← c.deref.ensures.value) c.write_at_once-in-Refused.ensures.failed

pub returns-in-Shown-clause-ok : goal.returns-in-Shown-clause-ok
returns-in-Shown-clause-ok g c = rw c.in-Shown.is c.write_to.ensures.ok

pub returns-in-Shown-clause-failed : goal.returns-in-Shown-clause-failed
returns-in-Shown-clause-failed g c = rw c.in-Shown.is c.write_to.ensures.failed

pub returns-in-Played-clause-ok : goal.returns-in-Played-clause-ok
returns-in-Played-clause-ok g c = rw c.in-Played.is c.write_to-in-Played.ensures.ok

pub returns-in-Played-clause-failed : goal.returns-in-Played-clause-failed
returns-in-Played-clause-failed g c = rw c.in-Played.is c.write_to-in-Played.ensures.failed

pub returns-in-Threaded-clause-ok : goal.returns-in-Threaded-clause-ok
returns-in-Threaded-clause-ok g c = rw c.in-Threaded.is c.write_to-in-Threaded.ensures.ok

pub returns-in-Threaded-clause-failed : goal.returns-in-Threaded-clause-failed
returns-in-Threaded-clause-failed g c = rw c.in-Threaded.is c.write_to-in-Threaded.ensures.failed
