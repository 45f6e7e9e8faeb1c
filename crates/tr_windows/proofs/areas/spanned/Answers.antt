use Rattle.tr_windows.proofs.areas.spanned.Goals as goal

pub returns-clause-touched : goal.returns-clause-touched
returns-clause-touched c = λ q h. c.hull.ensures.second q (c.hull-touched.ensures.touched q h)

pub returns-clause-least : goal.returns-clause-least
returns-clause-least c = λ e bad touched. c.hull.ensures.least e bad (c.hull-touched.ensures.least e touched)
