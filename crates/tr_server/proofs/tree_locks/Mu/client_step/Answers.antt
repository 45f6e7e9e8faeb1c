use Rattle.std.proofs.Common.{◌≡◌, ap, subst, ◌∙◌, rules}
use Rattle.std.specs.Prelude.{OnOk}
use Rattle.std.proofs.lemmas.Result.{IfOk-weaker, on_err_weaker}
use Rattle.tr_stage.specs.Stages.{KeepsOthers, StageView, state}
use Rattle.tr_server.proofs.HandingLemmas.{handed_and_stepped, handed_over}
use Rattle.tr_server.proofs.ResultLemmas.{both_ok, either_way}
use Rattle.tr_server.proofs.tree_locks.Mu.client_step.Goals as goal

pub returns-clause-ok : goal.returns-clause-ok
returns-clause-ok g c =
    let same : c.deref_mut-locked.result.now ≡ c.args.self.now = search rules in
    IfOk-weaker c.client_step.result _ _
    (λ r h. handed_and_stepped g.C.Client c.args.window.now c.leaf-leaf.result c.args.self.now c.deref_mut-locked.result.now c.client_step.new.self
    c.deref_mut-basket.result.now c.leaf-leaf.ensures.value same c.invariant-2.ensures c.args.step r h.0 h.1)
    (both_ok _ _ c.client_step.result c.client_step.ensures.ok c.client_step.ensures.reply)

pub returns-clause-err : goal.returns-clause-err
returns-clause-err g c =
    let same : c.deref_mut-locked.result.now ≡ c.args.self.now = search rules in
    on_err_weaker c.client_step.result
    (either_way (λ h. h.0 ∙ ap (λ (s : StageView _ _). s.journal) same)
    (λ h. handed_over g.C.Client c.args.window.now c.leaf-leaf.result c.args.self.now c.deref_mut-locked.result.now c.client_step.new.self
    c.deref_mut-basket.result.now c.leaf-leaf.ensures.value same c.invariant-2.ensures h.0))
    c.client_step.ensures.err

pub returns-clause-others : goal.returns-clause-others
returns-clause-others g c =
    let same : c.deref_mut-locked.result.now ≡ c.args.self.now = search rules in
    subst (λ (s : StageView _ _).
    OnOk c.client_step.result (KeepsOthers (state g.C.Client s).tree c.args.step s.screen c.client_step.new.self.screen)) same
    c.client_step.ensures.others
