use Rattle.std.proofs.Common.{◌≡◌, ℕ, subst, sym, ◌∙◌, rules}
use Rattle.tr_forest.specs.Nodes.{leaf_count}
use Rattle.tr_journal.specs.declared.steps.Actor.TheVariants.{Player}
use Rattle.tr_journal.specs.Openings.{tree_of}
use Rattle.tr_play.specs.Lists.{AreListed, HaveLists}
use Rattle.tr_play.proofs.WorkerLemmas.{have_lists, lists_ready, no_player, ran_nothing}
use Rattle.tr_play.proofs.SessionLemmas.{has_run, left_by}
use Rattle.tr_play.proofs.threads.make_side_by_side.Goals as goal

pub lists_of-requires-after_bounds : goal.lists_of-requires-after_bounds
lists_of-requires-after_bounds g c κs within =
    let count : c.leaves-leaves.result ≡ leaf_count (tree_of c.args.stage.opening).nodes = search rules in
    subst (λ (n : ℕ). HaveLists n c.args.steps.now) (sym count) (have_lists (tree_of c.args.stage.opening).nodes c.args.steps.now c.requires)

pub session-requires-clause-player : goal.session-requires-clause-player
session-requires-clause-player g c κs within =
    c.in-Ok.ensures.steps Player tt ∙ no_player (tree_of c.args.stage.opening).nodes c.args.steps.now c.requires

pub session-requires-clause-ready : goal.session-requires-clause-ready
session-requires-clause-ready g c κs within =
    let count : c.leaves-leaves.result ≡ leaf_count (tree_of c.args.stage.opening).nodes = search rules in
    lists_ready (tree_of c.args.stage.opening).nodes c.args.steps.now c.in-Ok.lists
    (subst (λ (n : ℕ). AreListed n c.args.steps.now c.in-Ok.lists) count c.in-Ok.ensures) c.requires

pub returns-clause-differs : goal.returns-clause-differs
returns-clause-differs g c =
    let count : c.leaves-leaves.result ≡ leaf_count (tree_of c.args.stage.opening).nodes = search rules in
    left_by c.args.stage c.args.steps.now c.in-Ok.lists c.in-Err.refused
    (subst (λ (n : ℕ). AreListed n c.args.steps.now c.in-Ok.lists) count c.in-Ok.ensures)
    (c.in-Ok.ensures.steps Player tt ∙ no_player (tree_of c.args.stage.opening).nodes c.args.steps.now c.requires)
    c.in-Err.ensures.differs

pub returns-in-Ok-session-clause-ok : goal.returns-in-Ok-session-clause-ok
returns-in-Ok-session-clause-ok g c =
    let count : c.leaves-leaves.result ≡ leaf_count (tree_of c.args.stage.opening).nodes = search rules in
    has_run g.C.Client c.args.stage c.in-Ok-session.stage c.args.steps.now c.in-Ok.lists
    (record {
      before = c.invariant.ensures.legal;
      after = c.invariant-in-Ok-session.ensures.legal;
      matches = c.in-Ok-session.ensures.ok;
      are_listed = subst (λ (n : ℕ). AreListed n c.args.steps.now c.in-Ok.lists) count c.in-Ok.ensures;
      player = c.in-Ok.ensures.steps Player tt ∙ no_player (tree_of c.args.stage.opening).nodes c.args.steps.now c.requires;
      made = c.requires;
    })

pub returns-then-is_settled-clause-ok : goal.returns-then-is_settled-clause-ok
returns-then-is_settled-clause-ok g c =
    ran_nothing c.args.stage c.args.steps.now (sym c.is_empty.ensures ∙ c.if-is_empty.true)
