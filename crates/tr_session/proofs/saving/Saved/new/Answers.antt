use Rattle.std.proofs.Common.{sym, ap, ◌∙◌}
use Rattle.std.specs.List.{list_all}
use Rattle.tr_grammar.specs.Texts.{is_plain}
use Rattle.tr_gen.specs.Scripts.{text_of_lines}
use Rattle.tr_session.proofs.SavingLemmas.{no_lines}
use Rattle.tr_session.proofs.saving.Saved.new.Goals as goal

pub invariant_of-result : goal.invariant_of-result
invariant_of-result c =
    let none = no_lines c.new.result.items c.new.ensures.items in
    record { text = ap text_of_lines none ∙ sym c.new.ensures.items; plain = ap (list_all is_plain) none }

pub returns : goal.returns
returns c = no_lines c.new.result.items c.new.ensures.items
