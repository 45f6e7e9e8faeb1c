use Rattle.std.proofs.Common.{◌≡◌, ◌<◌, length, ◌^◌, sym, ap, ◌∙◌, arith, rules}
use Rattle.tr_book.specs.Books.{PreparedView}
use Rattle.tr_server.proofs.BeginLemmas.{kept_more}
use Rattle.tr_server.proofs.CountLemmas.{grown}
use Rattle.tr_server.proofs.locked.Locked.hand_over_copies.Goals as goal

pub take_over-taken-requires-clause-levels : goal.take_over-taken-requires-clause-levels
take_over-taken-requires-clause-levels g c κs within =
    let all : length c.prepared-2.result.now.commands.items ≡ length c.fit.new.book.prepared.commands =
    ap (λ (p : PreparedView _ _). length p.commands) c.prepared-2.ensures in
    rw c.levels.ensures (record {
      counts = c.waiting-more.ensures.invariant.counts ∙ sym all;
      free = c.waiting-more.ensures.invariant.free;
    })

pub restart-requires-clause-count : goal.restart-requires-clause-count
restart-requires-clause-count g c κs within =
    let cmds = c.prepared-2.result.now.commands.items in
    let all : length cmds ≡ length c.fit.new.book.prepared.commands = ap (λ (p : PreparedView _ _). length p.commands) c.prepared-2.ensures in
    let same : length c.levels.result.now ≡ length cmds = rw c.levels.ensures (c.waiting-more.ensures.invariant.counts ∙ sym all) in
    let more = grown g.C.Client c.self.inside.stage c.args.leaf cmds c.levels.result.now c.take_over-taken.new.self.journal c.in-Ok.ensures.ok same in
    let small : c.len.result < 2 ^ 64 = search rules in
    let many : c.len.result ≡ length c.take_over-taken.new.self.journal = c.len.ensures.count ∙ ap length c.journal.ensures.value in
    omega (arith, small, many, more, all, c.fit.ensures.handed, c.basket.invariant.1, c.audit.ensures.bound, c.self.invariant.0)

pub invariant_of-self-2 : goal.invariant_of-self-2
invariant_of-self-2 g c =
    let cmds = c.prepared-2.result.now.commands.items in
    let all : length cmds ≡ length c.fit.new.book.prepared.commands = ap (λ (p : PreparedView _ _). length p.commands) c.prepared-2.ensures in
    let same : length c.levels.result.now ≡ length cmds = rw c.levels.ensures (c.waiting-more.ensures.invariant.counts ∙ sym all) in
    let more = grown g.C.Client c.self.inside.stage c.args.leaf cmds c.levels.result.now c.take_over-taken.new.self.journal c.in-Ok.ensures.ok same in (
      omega (arith, more, all, c.add.ensures.total, c.waiting-more.ensures.waiting, c.audit.ensures.total, c.self.invariant.0),
      rw c.take_over-taken.ensures.opening c.self.invariant.1,
      kept_more g.L.Session.entries c.self.inside.counted.total c.self.inside.stage.journal c.take_over-taken.new.self.journal _ g.L.Session.kept
          c.self.invariant.0 c.in-Ok.ensures.ok c.self.invariant.2,
      rw c.take_over-taken.ensures.opening c.self.invariant.3,
    )
