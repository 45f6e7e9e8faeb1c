use Rattle.std.proofs.Common.{[], refl, arith}
use Rattle.tr_grammar.specs.declared.Meaning.TheVariants as meanings
use Rattle.tr_reader.proofs.Keeping.{kept_after}
use Rattle.tr_reader.proofs.readers.Reader.end_part.Goals as goal

pub invariant_of-self-2 : goal.invariant_of-self-2
invariant_of-self-2 c =
    kept_after c.self.inside _ c.args.self.now [] meanings.Sync c.self.view_is c.self.invariant c.requires tt refl
    (rw (
      c.push_reserved.ensures.items,
      c.in_ok-reserve.ensures.items,
      c.replace-reports.ensures.value,
      c.replace-reports.ensures.after,
      c.into_vec.ensures,
      c.replace-steps.ensures.value,
      c.replace-steps.ensures.after,
      c.new.ensures.items,
      c.new-2.ensures,
    ) refl)
    (omega arith)
