use Rattle.std.proofs.Common.{◌≡◌, ◌+◌, ◌*◌, ◌++◌, ap, drop, take, ◌∙◌, arith, rules}
use Rattle.std.proofs.lemmas.List.Elements.{All-drop, All-take}
use Rattle.tr_journal.specs.declared.steps.Step.{Step}
use Rattle.tr_journal.specs.Openings.{tree_of}
use Rattle.tr_parts.specs.Turns.{IsPartStep}
use Rattle.tr_play.proofs.WorkerLemmas.{made_on, worked_on}
use Rattle.tr_play.proofs.contexts.Context.work.Goals as goal

pub make_slice-after-requires-clause-ready : goal.make_slice-after-requires-clause-ready
make_slice-after-requires-clause-ready g c κs within =
    let from = c.loop-n.n * 16 in
    let list = c.args.list.now in
    let P : Step g.row.C-Cmd.Denot → Type 0 = λ step. IsPartStep (tree_of c.args.self.now.server.now.opening).nodes (c.args.pass.now.actor, step) in
    rw (c.slice-slice.ensures, c.loop-n.invariant.0) (All-take P 16 (drop from list) (All-drop P from list c.requires.ready))

pub returns-in_default-clause-worked : goal.returns-in_default-clause-worked
returns-in_default-clause-worked g c =
    worked_on c.args.pass.now c.loop-n.pass c.make_slice-after.new.pass c.args.list.now c.slice-slice.result (c.loop-n.n * 16) 16
    c.slice-slice.ensures c.loop-n.invariant.0 c.loop-n.invariant.1 c.make_slice-after.ensures.worked

pub loop-n-preserved : goal.loop-n-preserved
loop-n-preserved g c =
    let from = c.loop-n.n * 16 in
    let before = c.args.pass.now.mine in
    let list = c.args.list.now in
    let made : c.make_slice-after.new.pass.mine ≡ c.loop-n.pass.mine ++ c.slice-slice.result = search rules in
    let next : from + 16 ≡ (c.loop-n.n + 1) * 16 = omega arith in (
      c.make_slice-after.ensures.worked.actor ∙ c.loop-n.invariant.0,
      made
          ∙ made_on before c.loop-n.pass.mine list c.slice-slice.result from 16 c.slice-slice.ensures c.loop-n.invariant.1
          ∙ ap (λ m. before ++ take m list) next,
      c.make_slice-after.ensures.ladder,
    )
