use Rattle.std.proofs.Common.{[], refl, arith}
use Rattle.tr_grammar.specs.declared.Meaning.TheVariants as meanings
use Rattle.tr_reader.proofs.Keeping.{kept_after}
use Rattle.tr_reader.proofs.readers.Reader.set_version.Goals as goal

pub invariant_of-self : goal.invariant_of-self
invariant_of-self c =
    kept_after c.self.inside _ c.args.self.now [] (meanings.Version c.args.version) c.self.view_is c.self.invariant c.requires tt refl refl (omega arith)
