use Rattle.std.proofs.Common.{◌≡◌, ◌+◌, ◌≤◌, length, take, refl, ap, ◌∙◌, arith, rules}
use Rattle.std.proofs.lemmas.Result.{IfErr-weaker, IfOk-weaker}
use Rattle.tr_server.specs.Closing.{lists_of, made_with}
use Rattle.tr_server.specs.Servers.{ServerView}
use Rattle.tr_server.proofs.CloseLemmas.{due_whole, has_differed, if_differs_weaker, is_closed, lists_gathered, still_empty}
use Rattle.tr_server.proofs.ResultLemmas.{both_ok}
use Rattle.tr_server.proofs.servers.Server.close.Goals as goal

pub gather-due-requires-after_bounds : goal.gather-due-requires-after_bounds
gather-due-requires-after_bounds g c κs within = still_empty g.L.Session.leaves c.in-Ok.lists c.in-Ok.ensures

pub compare-requires-after_bounds : goal.compare-requires-after_bounds
compare-requires-after_bounds g c κs within = omega (arith, c.end-stage.ensures.counted, c.self.invariant.3)

pub returns : goal.returns
returns g c =
    let n = g.L.Session.leaves in
    let workers = c.args.passes.workers.items in
    let player = c.args.passes.player in
    let lists = lists_gathered n workers player c.in-Ok.lists c.gather-due.new.lists c.put_own.new.lists _ _
    c.in-Ok.ensures c.gather-due.ensures.count c.gather-due.ensures.lists
    (record { count = c.put_own.ensures.count; lists = c.put_own.ensures.lists })
    c.actor-who.ensures c.spend-steps.ensures.mine in
    let opening = ap (λ (v : ServerView _ _). v.opening) c.self.view_is in
    let first = ap (λ n. take n c.end-stage.result.journal) c.self.invariant.3
    ∙ (c.end-stage.ensures.kept ∙ ap (λ (v : ServerView _ _). v.kept) c.self.view_is) in
    let kept : c.self.inside.entries ≡ length c.args.self.kept =
    omega (arith, c.self.invariant.3, c.self.invariant.1, ap (λ (v : ServerView _ _). length v.kept) c.self.view_is) in
    let counted : length c.args.self.kept + made_with workers player ≤ length c.end-stage.result.journal =
    omega (arith, c.end-stage.ensures.counted, c.gather-due.ensures.made, c.spend-steps.ensures.made, c.self.invariant.3, kept) in
    let own : c.len.result ≡ length c.spend-steps.result.0.items = search rules in
    let mine = ap length c.spend-steps.ensures.mine in
    let all = c.gather-due.ensures.due (c.self.inside.entries + c.len.result) (c.due_with-due.ensures c.self.inside.entries refl) in
    record {
      ok = IfOk-weaker c.compare.result _ _
          (λ s h. is_closed c.args.self (lists_of n workers player) (made_with workers player) c.end-stage.result _ _ c.put_own.new.lists
          opening first lists counted s h.0 h.1)
          (both_ok _ _ c.compare.result c.compare.ensures.matches c.compare.ensures.stage);
      whole = IfOk-weaker c.compare.result _ _
          (λ s h. let whole = due_whole c.end-stage.result s _ _ all h.0 h.1 in omega (arith, whole, kept, own, mine))
          (both_ok _ _ c.compare.result c.compare.ensures.due c.compare.ensures.stage);
      differs = IfErr-weaker c.compare.result _ _
          (λ e. if_differs_weaker e _ _
          (has_differed c.args.self (lists_of n workers player) (made_with workers player) c.end-stage.result _ _ c.put_own.new.lists
          opening first lists counted))
          c.compare.ensures.differs;
    }
