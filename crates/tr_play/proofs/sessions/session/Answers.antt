use Rattle.std.proofs.Common.{◌≡◌, ℕ, ◌<◌, List, length, vec_len, get_or, arith, ap, subst, sym, ◌∙◌, rules}
use Rattle.std.specs.Prelude.{All, IsTrue}
use Rattle.std.proofs.lemmas.Result.{IfErr-weaker, IfOk-weaker}
use Rattle.tr_journal.specs.declared.items.Item.{Item}
use Rattle.tr_journal.specs.Openings.{tree_of}
use Rattle.tr_server.specs.Closing.{lists_of}
use Rattle.tr_server.specs.Passes.{PassView}
use Rattle.tr_play.specs.Workers.{AreReady, HasTaken, IsWorker}
use Rattle.tr_play.proofs.WorkerLemmas.{still_workers}
use Rattle.tr_play.proofs.SessionLemmas.{HasEnded, are_workers, closed_differs, closed_matches, made_all}
use Rattle.tr_play.proofs.sessions.session.Goals as goal

pub all_at_work-requires-clause-workers : goal.all_at_work-requires-clause-workers
all_at_work-requires-clause-workers g c κs within =
    let before = c.in-Ok.passes.workers.items in
    subst (λ (n : ℕ). All (λ (p : PassView _). IsWorker n p.actor) before) (sym c.requires.count)
    (are_workers g.L.Session.leaves before c.in-Ok.ensures.workers)

pub all_at_work-requires-clause-ready : goal.all_at_work-requires-clause-ready
all_at_work-requires-clause-ready g c κs within =
    subst (λ (items : List (Item _)). AreReady (tree_of items).nodes c.args.lists.now) (sym c.in-Ok.ensures.opening) c.requires.ready

pub are_whole-is_whole-requires-after_bounds : goal.are_whole-is_whole-requires-after_bounds
are_whole-is_whole-requires-after_bounds g c κs within =
    let before = c.in-Ok.passes.workers.items in
    let after = c.all_at_work.new.workers.items in
    let many : length after ≡ length before = search rules in
    let size : length before ≡ vec_len c.in-Ok.passes.workers = search rules in
    let taken : (i : ℕ) (d : PassView _) → i < length before → HasTaken c.args.lists.now (get_or before i d) (get_or after i d) =
    λ i d low. c.all_at_work.ensures.taken i d (omega (arith, low, size)) in
    subst (λ (n : ℕ). All (λ (p : PassView _). IsWorker n p.actor) after) (sym c.requires.count)
    (still_workers g.L.Session.leaves before after c.args.lists.now (are_workers g.L.Session.leaves before c.in-Ok.ensures.workers) many taken)

pub returns : goal.returns
returns g c =
    let before = c.in-Ok.passes.workers.items in
    let after = c.all_at_work.new.workers.items in
    let many : length after ≡ length before = search rules in
    let size : length before ≡ vec_len c.in-Ok.passes.workers = search rules in
    let taken : (i : ℕ) (d : PassView _) → i < length before → HasTaken c.args.lists.now (get_or before i d) (get_or after i d) =
    λ i d low. c.all_at_work.ensures.taken i d (omega (arith, low, size)) in
    let is : IsTrue c.are_whole-is_whole.result = search rules in
    let made = made_all g.L.Session.leaves before after c.args.lists.now
    (record {
      fresh = c.in-Ok.ensures.workers;
      many = many;
      taken = taken;
      are_whole = c.are_whole-is_whole.ensures.0 is;
      count = c.requires.count;
      player = c.requires.player;
    }) in
    let ended : HasEnded c.in-Ok.server c.args.stage (lists_of g.L.Session.leaves after c.in-Ok.passes.player) c.args.lists.now =
    record {
      opening = c.in-Ok.ensures.opening;
      kept = c.in-Ok.ensures.kept;
      lists_are = ap (λ (p : PassView _). lists_of g.L.Session.leaves after p) c.in-Ok.ensures.player ∙ made;
    } in
    record {
      ok = IfOk-weaker c.close-closed.result _ _ (λ s closed. closed_matches c.in-Ok.server c.args.stage s _ _ _ ended closed)
          c.close-closed.ensures.ok;
      differs = IfErr-weaker c.close-closed.result _ _ (λ e closed. closed_differs c.in-Ok.server c.args.stage _ _ _ e ended closed)
          c.close-closed.ensures.differs;
    }
