use Rattle.std.proofs.Common.{[], ◌∷◌, length, ap, subst, ◌∙◌, arith}
use Rattle.std.proofs.lemmas.Iterator.Adapters.{YieldsList-from_vec}
use Rattle.std.proofs.lemmas.Iterator.Consumers.{YieldsList-end, YieldsList-turn}
use Rattle.std.proofs.lemmas.List.{length_push, take_all}
use Rattle.tr_base.proofs.ResultFacts.{on_err}
use Rattle.tr_levels.specs.declared.Level.TheVariants.{Share}
use Rattle.tr_journal.specs.declared.steps.Step.TheVariants.{Repaint}
use Rattle.tr_machine.specs.SharedRepaints.{all_bad_leaves, at_shares}
use Rattle.tr_machine.proofs.SharedRepaintLemmas.{bad_apart}
use Rattle.tr_stage.specs.Stages.{state}
use Rattle.tr_stage.proofs.SharedLemmas.{painted_at, painted_length, put_idle, put_ready, put_within}
use Rattle.tr_server.specs.Shares.{HasMade}
use Rattle.tr_server.proofs.MadeLemmas.{made_more, made_one, made_same, shares_length}
use Rattle.tr_server.proofs.ShareLemmas.{has_put, map_at}
use Rattle.tr_server.proofs.locked.Locked.put_all.Goals as goal

pub put_painted-requires-clause-leaf : goal.put_painted-requires-clause-leaf
put_painted-requires-clause-leaf g c κs within =
    let gives = c.into_iter-painted-iterator.ensures.into_iter_gives in
    let items = YieldsList-from_vec {s = c.into_iter-painted-iterator.result} _ gives.0 (gives.1 ∙ c.args.all.ok.0) in
    let turn = YieldsList-turn items c.loop-painted.yielded c.loop-painted.painted-iterator c.loop-painted.yielded_by c.next.result c.next.new.self
    c.in-Some.painted c.in-Some.is c.next.ensures.steps in
    let m = state g.C.Client c.args.self.now in
    let low = put_within g.C.Client m (length m.windows) c.args.all.items (length c.loop-painted.yielded) c.in-Some.painted c.requires.all turn in
    rw c.loop-painted.invariant.opening (omega (arith, low, c.invariant.ensures.leaves))

pub put_painted-requires-clause-idle : goal.put_painted-requires-clause-idle
put_painted-requires-clause-idle g c κs within =
    let m = state g.C.Client c.args.self.now in
    put_idle g.C.Client c.args.self.now c.loop-painted.self (all_bad_leaves m) (length c.loop-painted.yielded) c.in-Some.painted.leaf
    (has_put g.C.Client c.args.self.now c.loop-painted.self c.args.pass.now c.loop-painted.pass (all_bad_leaves m) (length c.loop-painted.yielded)
    c.loop-painted.invariant.made) c.requires.idle

pub put_painted-requires-clause-painted : goal.put_painted-requires-clause-painted
put_painted-requires-clause-painted g c κs within =
    let gives = c.into_iter-painted-iterator.ensures.into_iter_gives in
    let items = YieldsList-from_vec {s = c.into_iter-painted-iterator.result} _ gives.0 (gives.1 ∙ c.args.all.ok.0) in
    let turn = YieldsList-turn items c.loop-painted.yielded c.loop-painted.painted-iterator c.loop-painted.yielded_by c.next.result c.next.new.self
    c.in-Some.painted c.in-Some.is c.next.ensures.steps in
    let m = state g.C.Client c.args.self.now in
    put_ready g.C.Client c.args.self.now c.loop-painted.self (all_bad_leaves m) c.args.all.items (length c.loop-painted.yielded) c.in-Some.painted
    (has_put g.C.Client c.args.self.now c.loop-painted.self c.args.pass.now c.loop-painted.pass (all_bad_leaves m) (length c.loop-painted.yielded)
    c.loop-painted.invariant.made) c.requires.all (bad_apart (length m.windows) m) turn

pub loop-painted-preserved : goal.loop-painted-preserved
loop-painted-preserved g c =
    let gives = c.into_iter-painted-iterator.ensures.into_iter_gives in
    let items = YieldsList-from_vec {s = c.into_iter-painted-iterator.result} _ gives.0 (gives.1 ∙ c.args.all.ok.0) in
    let turn = YieldsList-turn items c.loop-painted.yielded c.loop-painted.painted-iterator c.loop-painted.yielded_by c.next.result c.next.new.self
    c.in-Some.painted c.in-Some.is c.next.ensures.steps in
    let m = state g.C.Client c.args.self.now in
    let k = length c.loop-painted.yielded in
    let has = c.loop-painted.invariant in
    let leaf = c.in-Some.painted.leaf in
    let here = painted_at g.C.Client m (all_bad_leaves m) c.args.all.items k c.in-Some.painted c.requires.all (bad_apart (length m.windows) m) turn.0 turn.1 in
    let one = made_one g.C.Client c.loop-painted.self c.put_painted.new.self c.loop-painted.pass c.put_painted.new.pass (Share leaf ∷ []) (Repaint leaf)
    c.put_painted.ensures.made.opening c.in_ok-put_painted.ensures.made.ok c.in_ok-put_painted.ensures.pass.mine in
    record {
      can_next = tt;
      is_finite = tt;
      opening = c.put_painted.ensures.made.opening ∙ has.opening;
      actor = ap (λ p. p.actor) c.in_ok-put_painted.ensures.pass.mine ∙ has.actor;
      made = rw (length_push c.loop-painted.yielded c.in-Some.painted)
          (made_more g.C.Client c.args.self.now c.loop-painted.self c.put_painted.new.self c.args.pass.now c.loop-painted.pass c.put_painted.new.pass
          (at_shares (all_bad_leaves m)) k (Share leaf ∷ [], Repaint leaf) has.made one
          (map_at (λ l. (Share l ∷ [], Repaint l)) (all_bad_leaves m) k leaf (here.within, here.leaf)));
    }

pub returns-in_err-put_painted-clause-err : goal.returns-in_err-put_painted-clause-err
returns-in_err-put_painted-clause-err g c =
    on_err c.from_residual.result (record {
      steps = length c.loop-painted.yielded;
      first = made_same g.C.Client c.args.self.now c.loop-painted.self c.put_painted.new.self c.args.pass.now c.loop-painted.pass c.put_painted.new.pass _
          c.loop-painted.invariant.made c.put_painted.ensures.made.opening c.in_err-put_painted.ensures.made.err_journal c.in_err-put_painted.ensures.pass.err;
    })

pub returns-clause-ok : goal.returns-clause-ok
returns-clause-ok g c =
    let gives = c.into_iter-painted-iterator.ensures.into_iter_gives in
    let items = YieldsList-from_vec {s = c.into_iter-painted-iterator.result} _ gives.0 (gives.1 ∙ c.args.all.ok.0) in
    let end = YieldsList-end items c.loop-painted.yielded c.loop-painted.painted-iterator c.loop-painted.yielded_by c.next.result c.next.new.self
    c.in-None.is c.next.ensures.steps in
    let m = state g.C.Client c.args.self.now in
    let many = painted_length g.C.Client m (all_bad_leaves m) c.args.all.items c.requires.all in
    subst (λ row. HasMade g.C.Client c.args.self.now c.loop-painted.self c.args.pass.now c.loop-painted.pass row)
    (take_all (length c.loop-painted.yielded) (at_shares (all_bad_leaves m))
    (omega (arith, end.1, many, shares_length g.row.C-Cmd.Denot (all_bad_leaves m))))
    c.loop-painted.invariant.made
