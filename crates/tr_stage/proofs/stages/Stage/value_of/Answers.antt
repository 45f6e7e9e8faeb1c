use Rattle.std.proofs.Common.{ap, ◌∙◌}
use Rattle.tr_desk.specs.Desks.{selection_owner}
use Rattle.tr_journal.specs.declared.answers.Answer.TheVariants.{Value}
use Rattle.tr_machine.specs.Machines as machine
use Rattle.tr_stage.specs.Stages.{StageView, state}
use Rattle.tr_stage.proofs.PartLemmas.{known_window}
use Rattle.tr_stage.proofs.ActLemmas.{value_read}
use Rattle.tr_stage.proofs.stages.Stage.value_of.Goals as goal

pub content-requires-after_bounds : goal.content-requires-after_bounds
content-requires-after_bounds g c κs within =
    known_window g.C.Client c.self.invariant c.invariant.ensures.mail c.desk.ensures c.in-Some.ensures.known

pub returns-in_ok-value-in-Some : goal.returns-in_ok-value-in-Some
returns-in_ok-value-in-Some g c =
    ap Value c.in_ok-value-in-Some.ensures.value
    ∙ value_read g.C.Client c.args.selection c.self.invariant.kept c.desk.ensures c.in-Some.ensures.owner c.content.ensures.content
    ∙ ap (λ (v : StageView _ _). machine.read g.C.Client (selection_owner (state g.C.Client v).mail.desk c.args.selection) (state g.C.Client v)) c.self.view_is
