use Rattle.std.proofs.lemmas.Bool.{not-false}
use Rattle.tr_mirror.specs.Standings.{is_segment_on}
use Rattle.tr_mirror.proofs.HeaderLemmas.{no_fault, screen_range}
use Rattle.tr_mirror_tests.specs.Heads.{segment}
use Rattle.tr_mirror_tests.proofs.plain_standings.PlainStanding.put.Goals as goal

pub begin-requires : goal.begin-requires
begin-requires c =
    let h = rw c.in-Screen.is at c.requires.sound in
    (screen_range c.args.self.now c.in-Screen.wide c.in-Screen.high c.in-Screen.kind h).0

pub write-requires-clause-on : goal.write-requires-clause-on
write-requires-clause-on c =
    let h = rw c.in-Run.is at c.requires.sound in
    not-false (is_segment_on c.args.self.now.screen (segment c.in-Run.place)) (no_fault _ _ h).2

pub write-requires-in-Fill-clause-on : goal.write-requires-in-Fill-clause-on
write-requires-in-Fill-clause-on c =
    let h = rw c.in-Fill.is at c.requires.sound in
    not-false (is_segment_on c.args.self.now.screen (segment c.in-Fill.place)) (no_fault _ _ h).2

pub cut-requires : goal.cut-requires
cut-requires c =
    let h = rw c.in-Cut.is at c.requires.sound in
    (no_fault _ _ h).0
