use Rattle.std.proofs.Common.{◌≡◌, ◌<◌, length, ◌^◌, ap, ◌∙◌, arith, rules}
use Rattle.tr_book.specs.Books.{PreparedView}
use Rattle.tr_server.proofs.BeginLemmas.{kept_more}
use Rattle.tr_server.proofs.CountLemmas.{grown}
use Rattle.tr_server.proofs.locked.Locked.hand_over_all.Goals as goal

pub count-requires-after_bounds : goal.count-requires-after_bounds
count-requires-after_bounds g c κs within =
    let cmds = c.give-prepared.result.0.commands.items in
    let all : length cmds ≡ length c.basket.inside.book.prepared.commands = ap (λ (p : PreparedView _ _). length p.commands) c.give-prepared.ensures.given in
    let same : length c.deref.result.now ≡ length cmds = ap length c.deref.ensures.value ∙ c.give-prepared.ensures.invariant.counts in
    let more = grown g.C.Client c.self.inside.stage c.args.leaf cmds c.deref.result.now c.take_all.new.self.journal c.in_default.ensures.ok same in
    let small : c.len.result < 2 ^ 64 = search rules in
    let many : c.len.result ≡ length c.take_all.new.self.journal = c.len.ensures.count ∙ ap length c.journal.ensures.value in
    omega (
      arith,
      small,
      many,
      more,
      all,
      c.give-prepared.ensures.handed,
      c.waiting-more.ensures.waiting,
      c.basket.invariant.1,
      c.audit.ensures.bound,
      c.self.invariant.0,
    )

pub invariant_of-self-2 : goal.invariant_of-self-2
invariant_of-self-2 g c =
    let cmds = c.give-prepared.result.0.commands.items in
    let all : length cmds ≡ length c.basket.inside.book.prepared.commands = ap (λ (p : PreparedView _ _). length p.commands) c.give-prepared.ensures.given in
    let same : length c.deref.result.now ≡ length cmds = ap length c.deref.ensures.value ∙ c.give-prepared.ensures.invariant.counts in
    let more = grown g.C.Client c.self.inside.stage c.args.leaf cmds c.deref.result.now c.take_all.new.self.journal c.in_default.ensures.ok same in (
      omega (arith, more, all, c.add.ensures.total, c.waiting-more.ensures.waiting, c.audit.ensures.total, c.self.invariant.0),
      rw c.take_all.ensures.opening c.self.invariant.1,
      kept_more g.L.Session.entries c.self.inside.counted.total c.self.inside.stage.journal c.take_all.new.self.journal _ g.L.Session.kept
          c.self.invariant.0 c.in_default.ensures.ok c.self.invariant.2,
      rw c.take_all.ensures.opening c.self.invariant.3,
    )
