use Rattle.std.proofs.Common.{◌≡◌, ◌<◌, ◌≤◌, List, length, get_or, refl, subst, rules}
use Rattle.std.specs.Prelude.{IsTrue}
use Rattle.std.proofs.lemmas.List.{take_all}
use Rattle.tr_server.specs.Passes.{PassView}
use Rattle.tr_play.specs.Sessions.{AreWhole}
use Rattle.tr_play.proofs.WorkerLemmas.{whole_more}
use Rattle.tr_play.proofs.sessions.are_whole.Goals as goal

pub loop-pass-preserved : goal.loop-pass-preserved
loop-pass-preserved g c =
    let k = c.loop-pass.pass-index in
    let pass = c.pass-item.result in
    let same = c.deref-pass-items.ensures.value in
    let is : IsTrue c.is_whole.result = search rules in
    whole_more c.args.workers.now.items k c.args.lists.now pass (
      subst (λ (xs : List (PassView _)). k < length xs) same c.loop-pass-test.true,
      subst (λ (xs : List (PassView _)). pass ≡ get_or xs k pass) same c.pass-item.is,
    )
    c.loop-pass.invariant (c.is_whole.ensures.0 is)

pub returns : goal.returns
returns g c =
    let k = c.loop-pass.pass-index in
    let past = subst (λ (xs : List (PassView _)). length xs ≤ k) c.deref-pass-items.ensures.value c.loop-pass-test.false in
    let whole =
    subst (λ (passes : List (PassView _)). AreWhole passes c.args.lists.now)
    (take_all k c.args.workers.now.items past) c.loop-pass.invariant in
    (λ is. whole, λ are. refl)
