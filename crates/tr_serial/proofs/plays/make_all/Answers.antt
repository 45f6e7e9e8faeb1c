use Rattle.std.proofs.Common.{◌≡◌, ◌+◌, List, ◌∷◌, [], false, take, sym, subst, ◌∙◌}
use Rattle.std.specs.Prelude.{map}
use Rattle.tr_journal.specs.declared.Actor.{Actor}
use Rattle.tr_journal.specs.declared.Item.{Item}
use Rattle.tr_journal.specs.declared.Step.{Step}
use Rattle.tr_journal.specs.Openings.{tree_of}
use Rattle.tr_journal.specs.Reports.{is_report}
use Rattle.tr_journal.specs.Steps.{IsOwn}
use Rattle.tr_run.specs.Runs.{makes}
use Rattle.tr_run.specs.Views.{Does}
use Rattle.tr_run.proofs.RunLemmas.{Does-none}
use Rattle.tr_serial.proofs.CueLemmas.{goes_on, map_next}
use Rattle.tr_serial.proofs.ListLemmas.{all_left, all_taken, none_taken, one_taken, taken}
use Rattle.tr_serial.proofs.plays.make_all.Goals as goal

pub loop-actor-init : goal.loop-actor-init
loop-actor-init g c = record {
  left = all_left c.args.steps.items c.reverse.new.self.items c.reverse.ensures.items;
  did = subst (λ (none : List (Actor × Step _)). Does g.C.Client g.C.Cmd.Command.words c.args.run.now c.args.run.now
      (map (λ (made : Actor × Step _). makes made.0 made.1) none))
      (sym (none_taken c.args.steps.items c.reverse.new.self.items c.reverse.ensures.items))
      (Does-none g.C.Client g.C.Cmd.Command.words c.args.run.now);
}

pub make-requires-clause-own : goal.make-requires-clause-own
make-requires-clause-own g c = λ κs lives.
    let xs = c.args.steps.items in
    let next = one_taken xs c.loop-actor.left.items c.pop.new.self.items (c.in-Some.actor, c.in-Some.step) c.loop-actor.invariant.left
    c.in-Some.ensures.items in
    subst (λ (items : List (Item _)). IsOwn (tree_of items).nodes c.in-Some.actor c.in-Some.step) (sym c.loop-actor.invariant.did.opening)
    (subst (λ (made : Actor × Step _). IsOwn (tree_of c.args.run.now.stage.opening).nodes made.0 made.1) (sym next.at.is)
    (c.requires.own (taken xs c.loop-actor.left.items) (c.in-Some.actor, c.in-Some.step) next.at.within))

pub make-requires-clause-other : goal.make-requires-clause-other
make-requires-clause-other g c = λ κs lives.
    let xs = c.args.steps.items in
    let next = one_taken xs c.loop-actor.left.items c.pop.new.self.items (c.in-Some.actor, c.in-Some.step) c.loop-actor.invariant.left
    c.in-Some.ensures.items in
    subst (λ (made : Actor × Step _). is_report made.1 ≡ false) (sym next.at.is)
    (c.requires.other (taken xs c.loop-actor.left.items) (c.in-Some.actor, c.in-Some.step) next.at.within)

pub loop-actor-preserved : goal.loop-actor-preserved
loop-actor-preserved g c =
    let xs = c.args.steps.items in
    let k = taken xs c.loop-actor.left.items in
    let next = one_taken xs c.loop-actor.left.items c.pop.new.self.items (c.in-Some.actor, c.in-Some.step) c.loop-actor.invariant.left
    c.in-Some.ensures.items in
    rw c.give_back.ensures (record {
      left = next.others;
      did = rw next.more
          (goes_on g.C.Client g.C.Cmd.Command.words c.args.run.now c.loop-actor.run c.make.new.self
          (map (λ (made : Actor × Step _). makes made.0 made.1) (take k xs))
          (makes c.in-Some.actor c.in-Some.step ∷ [])
          (map (λ (made : Actor × Step _). makes made.0 made.1) (take (k + 1) xs))
          c.loop-actor.invariant.did c.in_ok-make.ensures.ok
          (map_next (λ (made : Actor × Step _). makes made.0 made.1) xs k (c.in-Some.actor, c.in-Some.step) next.at));
    })

pub returns : goal.returns
returns g c =
    let xs = c.args.steps.items in
    subst (λ (all : List (Actor × Step _)). Does g.C.Client g.C.Cmd.Command.words c.args.run.now c.loop-actor.run
    (map (λ (made : Actor × Step _). makes made.0 made.1) all))
    (all_taken xs c.loop-actor.left.items (sym c.loop-actor.left.ok.0 ∙ c.in_default.ensures.cases.0)) c.loop-actor.invariant.did
