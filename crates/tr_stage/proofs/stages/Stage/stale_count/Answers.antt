use Rattle.std.proofs.Common.{◌≡◌, ◌+◌, length, sym, ap, ◌∙◌, arith}
use Rattle.tr_stage.specs.Stages.{state}
use Rattle.tr_stage.proofs.SettleLemmas.{windows_of}
use Rattle.tr_stage.proofs.StaleLemmas.{batch_seen, count_stale, few_stale, no_batches, quiet_stage, stale_counted, stale_more, stale_none, windows_seen}
use Rattle.tr_stage.proofs.stages.Stage.stale_count.Given.{Over}
use Rattle.tr_stage.proofs.stages.Stage.stale_count.Goals.{In_ok-count}
use Rattle.tr_stage.proofs.stages.Stage.stale_count.Goals as goal

-- the count with the stale points of one leaf more
counted : (g : Over) (c : In_ok-count g) → c.loop-n.count + c.in_ok-count.field-0 ≡ count_stale g.C.Client (state g.C.Client c.args.self.now) (c.loop-n.n + 1)
counted g c =
    let m = state g.C.Client c.args.self.now in
    ap (λ n. n + c.in_ok-count.field-0) c.loop-n.invariant.count
    ∙ ap (λ n. count_stale g.C.Client m c.loop-n.n + n) c.in_ok-count.ensures.count
    ∙ sym (stale_more g.C.Client m c.loop-n.n)

pub returns-then-waiting-eq0 : goal.returns-then-waiting-eq0
returns-then-waiting-eq0 g c =
    quiet_stage g.C.Client c.args.self.now c.invariant.ensures.stands
    (λ leaf. sym (batch_seen g.C.Client c.args.self.now leaf c.self.invariant (record { spare = c.self.inside.journal.spare; is = c.self.view_is }))
    ∙ no_batches c.self.inside.windows leaf (sym c.waiting.ensures ∙ c.if-waiting-eq0.true))

pub loop-n-init : goal.loop-n-init
loop-n-init g c = record {
  count = stale_none g.C.Client (state g.C.Client c.args.self.now);
  size = ap (λ s. s.size) c.in_ok-wanted.ensures ∙ c.size.ensures.value ∙ ap (λ s. s.size) c.screen-screen.ensures ∙ ap (λ v. v.screen.size) c.self.view_is;
  kind = ap (λ s. s.kind) c.in_ok-wanted.ensures ∙ c.kind.ensures.value ∙ ap (λ s. s.kind) c.screen-screen.ensures ∙ ap (λ v. v.screen.kind) c.self.view_is;
}

pub stale_in-requires-clause-leaf : goal.stale_in-requires-clause-leaf
stale_in-requires-clause-leaf g c κs within =
    omega (
      arith,
      c.count-n-end.ensures.count,
      c.loop-n-test.true,
      windows_of g.C.Client c.args.self.now c.self.invariant (record { spare = c.self.inside.journal.spare; is = c.self.view_is }),
    )

pub overflow_add-count : goal.overflow_add-count
overflow_add-count g c = omega (arith, counted g c, few_stale g.C.Client c.args.self.now (c.loop-n.n + 1) c.invariant.ensures.stands)

pub loop-n-preserved : goal.loop-n-preserved
loop-n-preserved g c = record {
  count = counted g c;
  size = c.stale_in.ensures.size ∙ c.loop-n.invariant.size;
  kind = c.stale_in.ensures.kind ∙ c.loop-n.invariant.kind;
}

pub returns : goal.returns
returns g c =
    let all : c.loop-n.n ≡ length c.self.inside.windows = omega (arith, c.count-n-end.ensures.count, c.loop-n-test.false, c.loop-n.auto.n-end) in
    c.loop-n.invariant.count
    ∙ stale_counted g.C.Client c.args.self.now c.loop-n.n c.invariant.ensures.stands
    (all ∙ windows_seen g.C.Client c.args.self.now c.self.invariant (record { spare = c.self.inside.journal.spare; is = c.self.view_is }))
