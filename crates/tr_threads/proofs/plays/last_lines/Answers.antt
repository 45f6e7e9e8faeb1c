use Rattle.std.proofs.Common.{ap, subst, sym, ◌∙◌}
use Rattle.std.proofs.lemmas.Result.{IfOk-weaker}
use Rattle.tr_journal.specs.declared.differences.Difference.{Difference}
use Rattle.tr_journal.specs.Names.{Names}
use Rattle.tr_machine.specs.Replays.{IsLegal}
use Rattle.tr_stage.specs.Stages.{StageView}
use Rattle.tr_widget.specs.declared.Widget.{Widget}
use Rattle.tr_widget.specs.declared.WidgetCmd.{WidgetCmd}
use Rattle.tr_dump.specs.Names.{IsNamedDifference}
use Rattle.tr_grammar.specs.Scripts.{Script}
use Rattle.tr_serial.specs.Outputs.{widgets}
use Rattle.tr_threads.proofs.ThreadLemmas.{again_is, differed_named}
use Rattle.tr_threads.proofs.plays.last_lines.Goals as goal

pub again_lines-requires-after_bounds : goal.again_lines-requires-after_bounds
again_lines-requires-after_bounds c κs =
    let s = c.args.script.now in
    subst (λ (d : Difference WidgetCmd). IsNamedDifference c.script.inside.names d) (sym c.difference.ensures.value)
    (subst (λ (ns : Names). IsNamedDifference ns c.args.differs.now.difference) (sym (ap (λ (x : Script). x.names) c.script.view_is))
    (differed_named s c.requires.playable c.args.differs.now c.requires.differs
    (subst (λ (v : StageView Widget WidgetCmd). IsLegal widgets v.opening v.journal) c.stage.ensures c.invariant.ensures.legal)))

pub returns : goal.returns
returns c =
    IfOk-weaker c.again_lines.result _ _
    (λ text is. is
    ∙ again_is c.args.script.now c.args.differs.now _ c.difference.result.now (ap (λ (x : Script). x.names) c.script.view_is)
    c.difference.ensures.value)
    c.again_lines.ensures
