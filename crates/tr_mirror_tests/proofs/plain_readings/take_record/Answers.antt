use Rattle.std.proofs.Common.{ap, ◌∙◌}
use Rattle.tr_mirror.specs.Standings.{header_fault}
use Rattle.tr_mirror_tests.proofs.PlainLemmas.{is_ready}
use Rattle.tr_mirror_tests.proofs.plain_readings.take_record.Goals as goal

pub put-requires-clause-sound : goal.put-requires-clause-sound
put-requires-clause-sound c =
    let s = c.args.standing.now in
    ap (λ h. header_fault s h) c.head_of.ensures ∙ (is_ready s c.args.bytes.now c.requires).sound
