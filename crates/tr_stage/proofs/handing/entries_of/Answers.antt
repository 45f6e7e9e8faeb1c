use Rattle.std.proofs.Common.{[], ◌∷◌, ◌++◌, sym, ap, ap₂, ◌∙◌}
use Rattle.tr_levels.specs.declared.Level.TheVariants.{Win}
use Rattle.tr_journal.specs.declared.steps.Step.TheVariants.{Act}
use Rattle.tr_machine.specs.CommandSteps.{act_entry}
use Rattle.tr_stage.proofs.HandingLemmas.{entries_more}
use Rattle.tr_stage.proofs.handing.entries_of.Goals as goal

pub loop-k-preserved : goal.loop-k-preserved
loop-k-preserved g c =
    c.in_ok-push.ensures.items
    ∙ ap₂ (λ es e. es ++ e ∷ []) c.loop-k.invariant
    (c.entry_of.ensures ∙ ap (λ x. act_entry c.args.leaf (c.index-levels-k.result ++ Win c.args.leaf ∷ [], Act c.args.leaf x)) c.in_ok-cmd.ensures)
    ∙ sym (entries_more c.args.leaf c.args.commands.now c.args.levels.now c.loop-k.k c.index-commands-k.result c.index-levels-k.result
    c.loop-k-test.true c.requires.counts c.index-commands-k.is c.index-levels-k.is)
