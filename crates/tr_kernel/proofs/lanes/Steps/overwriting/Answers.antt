use Rattle.std.proofs.Common.{true, false, sym, ◌∙◌}
use Rattle.tr_kernel.specs.Steps.{flipped}
use Rattle.tr_kernel.proofs.Bytes.{overwritten}
use Rattle.tr_kernel.proofs.lanes.Steps.overwriting.Goals as goal

pub returns-clause-same : goal.returns-clause-same
returns-clause-same c true old =
    let s = c.args.self.one in
    c.write.ensures.value old ∙ sym (overwritten (flipped s.x s.y old) s.kept s.written c.requires.one)
returns-clause-same c false old =
    let s = c.args.self.zero in
    c.write-2.ensures.value old ∙ sym (overwritten (flipped s.x s.y old) s.kept s.written c.requires.zero)
