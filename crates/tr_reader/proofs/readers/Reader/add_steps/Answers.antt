use Rattle.std.proofs.Common.{refl}
use Rattle.tr_reader.proofs.Keeping.{kept_behind_steps}
use Rattle.tr_reader.proofs.readers.Reader.add_steps.Goals as goal

pub invariant_of-self-2 : goal.invariant_of-self-2
invariant_of-self-2 c =
    kept_behind_steps c.self.inside _ c.args.self.now c.args.steps c.self.view_is c.self.invariant c.requires.place c.requires.playable
    (rw c.in_ok-append.ensures.ok refl) refl
