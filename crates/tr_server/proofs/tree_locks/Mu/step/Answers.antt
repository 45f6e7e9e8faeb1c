use Rattle.std.proofs.Common.{◌≡◌, List, ◌∷◌, [], ◌++◌, subst, ap, ◌∙◌, rules}
use Rattle.std.specs.Prelude.{OnOk}
use Rattle.tr_levels.specs.declared.Level.{Level}
use Rattle.tr_levels.specs.declared.Level.TheVariants.{Mu}
use Rattle.tr_stage.specs.Making.{Makes}
use Rattle.tr_stage.specs.Stages.{KeepsOthers, StageView, state}
use Rattle.tr_server.proofs.tree_locks.Mu.step.Goals as goal

pub returns-clause-made : goal.returns-clause-made
returns-clause-made g c =
    let same : c.deref_mut-locked.result.now ≡ c.args.self.now = search rules in
    let held : c.with-level.result ≡ Mu ∷ [] = c.with-level.ensures.held ∙ ap (λ ls. ls ++ Mu ∷ []) c.none.ensures in
    subst (λ (s : StageView _ _). Makes g.C.Client s c.step.new.self c.args.pass.now.actor (Mu ∷ []) c.args.step c.step.result) same
    (subst (λ (levels : List Level).
    Makes g.C.Client c.deref_mut-locked.result.now c.step.new.self c.args.pass.now.actor levels c.args.step c.step.result) held
    c.step.ensures.made)

pub returns-clause-others : goal.returns-clause-others
returns-clause-others g c =
    let same : c.deref_mut-locked.result.now ≡ c.args.self.now = search rules in
    subst (λ (s : StageView _ _). OnOk c.step.result (KeepsOthers (state g.C.Client s).tree c.args.step s.screen c.step.new.self.screen)) same
    c.step.ensures.others
