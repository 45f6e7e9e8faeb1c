use Rattle.std.proofs.Common.{[], refl}
use Rattle.tr_grammar.specs.declared.Meaning.TheVariants as meanings
use Rattle.tr_reader.proofs.Keeping.{kept_after}
use Rattle.tr_reader.proofs.readers.Reader.add_report.Goals as goal

pub invariant_of-self-2 : goal.invariant_of-self-2
invariant_of-self-2 c =
    kept_after c.self.inside _ c.args.self.now [] (meanings.Report c.args.query) c.self.view_is c.self.invariant c.requires.place c.requires.query refl
    (rw c.in_ok-push.ensures.ok refl) refl
