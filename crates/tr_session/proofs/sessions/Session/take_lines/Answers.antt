use Rattle.std.proofs.Common.{◌≡◌, length, refl, rules, arith}
use Rattle.std.proofs.lemmas.Grind.{common_steps}
use Rattle.tr_session.proofs.TakenAgainLemmas.{taken_all, takes_on}
use Rattle.tr_session.proofs.sessions.Session.take_lines.Goals as goal

pub loop-rest-init : goal.loop-rest-init
loop-rest-init c = record { holds = c.requires.holds; taken = c.requires.taken; lines = refl; cuts = refl }

pub loop-rest-preserved : goal.loop-rest-preserved
loop-rest-preserved c =
    takes_on _ _ _ _ _ _ _ _ c.loop-rest.invariant c.first_line.ensures.lines c.in-Ok.ensures.takes (c.in-Ok.ensures.holds (λ lost. cc))

pub returns-clause-lines : goal.returns-clause-lines
returns-clause-lines c =
    let none : length c.loop-rest.rest.now ≡ 0 = first_of (search rules, grind (arith, common_steps)) in
    taken_all _ _ _ c.loop-rest.rest.now none c.loop-rest.invariant
