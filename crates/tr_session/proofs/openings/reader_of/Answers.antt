use Rattle.std.proofs.Common.{◌≡◌, length, rules, arith}
use Rattle.std.proofs.lemmas.Grind.{common_steps}
use Rattle.tr_session.proofs.OpeningLemmas.{read_all, read_on}
use Rattle.tr_session.proofs.openings.reader_of.Goals as goal

pub loop-rest-preserved : goal.loop-rest-preserved
loop-rest-preserved c =
    read_on c.loop-rest.reader _ _ c.loop-rest.rest.now c.first_line.result.0.now c.first_line.result.1.now c.first_line.ensures.lines c.in-Ok.ensures.next
    c.loop-rest.invariant

pub returns : goal.returns
returns c =
    let none : length c.loop-rest.rest.now ≡ 0 = first_of (search rules, grind (arith, common_steps)) in
    read_all c.loop-rest.reader _ c.loop-rest.rest.now none c.loop-rest.invariant
