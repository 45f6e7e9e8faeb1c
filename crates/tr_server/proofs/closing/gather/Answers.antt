use Rattle.std.proofs.Common.{◌≡◌, ◌+◌, List, [], ◌∷◌, length, refl, sym, ap, subst, ◌∙◌, sum_by, arith, rules}
use Rattle.std.specs.Prelude.{IfSome}
use Rattle.std.proofs.lemmas.List.{append-nil, length-append}
use Rattle.tr_server.specs.Closing.{made_by}
use Rattle.tr_server.specs.Passes.{PassView}
use Rattle.tr_server.proofs.GatherLemmas.{all_gathered, more_gathered, none_gathered}
use Rattle.tr_server.proofs.closing.gather.Goals as goal

pub loop-k-init : goal.loop-k-init
loop-k-init g c = record {
  left = search rules;
  gathered = none_gathered _ _ _ _ _ refl c.requires (sym (append-nil _));
}

pub loop-k-preserved : goal.loop-k-preserved
loop-k-preserved g c =
    let takes = c.take_last-actor.ensures in
    let left = c.take_last-actor.new.workers.items in
    let before = c.loop-k.invariant in
    let many : length c.loop-k.workers.items ≡ length left + 1 = ap length takes.passes ∙ length-append left (takes.pass ∷ []) in
    let size : c.len.result ≡ length c.take_last-actor.result.1.items = search rules in
    record {
      left = omega (arith, many, before.left);
      gathered = more_gathered _ _ _ _ _ _ _ _ _ _ _ _ _ _ _ before.gathered takes
          (record { count = c.put_own.ensures.count; lists = c.put_own.ensures.lists }) size c.due_with-all_due.ensures;
    }

pub returns-clause-lists : goal.returns-clause-lists
returns-clause-lists g c actor has =
    let none : length c.loop-k.workers.items ≡ 0 = omega (arith, c.loop-k.invariant.left, c.loop-k.auto.k-end, c.loop-k-test.false) in
    let all = all_gathered _ _ _ _ _ _ _ _ c.loop-k.invariant.gathered none in
    all.steps actor has ∙ ap (λ (ps : List (PassView _)). made_by actor ps) (sym all.passes)

pub returns-clause-made : goal.returns-clause-made
returns-clause-made g c =
    let none : length c.loop-k.workers.items ≡ 0 = omega (arith, c.loop-k.invariant.left, c.loop-k.auto.k-end, c.loop-k-test.false) in
    let all = all_gathered _ _ _ _ _ _ _ _ c.loop-k.invariant.gathered none in
    all.made ∙ ap (λ (ps : List (PassView _)). c.args.all.now.amount + sum_by (λ pass. pass.made) ps) (sym all.passes)

pub returns-clause-due : goal.returns-clause-due
returns-clause-due g c n is =
    let none : length c.loop-k.workers.items ≡ 0 = omega (arith, c.loop-k.invariant.left, c.loop-k.auto.k-end, c.loop-k-test.false) in
    let all = all_gathered _ _ _ _ _ _ _ _ c.loop-k.invariant.gathered none in
    subst (λ (ps : List (PassView _)). IfSome c.loop-k.all_due (λ d. d ≡ n + sum_by (λ pass. length pass.mine) ps)) (sym all.passes)
    (all.steps_due n is)
