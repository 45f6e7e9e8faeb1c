use Rattle.std.proofs.Common.{◌++◌, ap, subst, ◌∙◌}
use Rattle.std.proofs.lemmas.Result.{on_ok_weaker}
use Rattle.std.specs.Option.{option_copied}
use Rattle.tr_mirror.specs.Records.{spelled}
use Rattle.tr_mirror.specs.Streams.{IsBase}
use Rattle.tr_mirror.proofs.UpdateLemmas.{group_of-is}
use Rattle.tr_mirror.proofs.updates.push_change.Goals as goal

pub returns-clause-group : goal.returns-clause-group
returns-clause-group c =
    let whole = group_of-is (option_copied c.args.last) (option_copied c.base_of.result) c.args.now.now c.args.number c.base_of.ensures.value in
    on_ok_weaker c.push_group.result (λ e. e ∙ ap (λ l. c.args.out.now.items ++ spelled l) whole) c.push_group.ensures.group

pub returns-clause-base : goal.returns-clause-base
returns-clause-base c = subst (λ b. IsBase b c.args.now.now) c.base_of.ensures.value c.base_of.ensures.base
