use Rattle.tr_reader.proofs.items.put.Goals as goal

pub returns-in-Err-clause-cause : goal.returns-in-Err-clause-cause
returns-in-Err-clause-cause g c = c.refused.ensures _ c.in-Err.ensures.cause
