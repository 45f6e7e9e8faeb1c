use Rattle.std.proofs.Common.{◌≡◌, ◌+◌, true, false, length, rules}
use Rattle.tr_base.specs.Rects.{has_point}
use Rattle.tr_region.specs.Points.{holds}
use Rattle.tr_paint.specs.Traces.{look_of}
use Rattle.tr_exec.specs.Executions.{screen_point, base_of}
use Rattle.tr_exec.proofs.TracedLemmas.{batch_split, near_point, near-origin, traced_hidden}
use Rattle.tr_exec_tests.proofs.traces.Ground.+traced.Goals as goal

pub returns-then-not-has : goal.returns-then-not-has
returns-then-not-has t c =
    let self = c.args.self.now in
    let has : holds self.visible.now c.place-p.result ≡ false = search rules in
    let hidden : holds self.visible.now (screen_point self.origin c.args.q) ≡ false = rw c.place-p.ensures at has in
    traced_hidden (look_of self.env.kind self.env.font.now)
    (base_of self.origin self.visible.now self.bad.now self.screen.now) c.args.paints.now c.args.q hidden

pub area-requires : goal.area-requires
area-requires t c = (batch_split c.args.paints.now c.in-Some.before.now c.in-Some.paint.now c.in-Some.ensures.cases.0 c.requires.batch).1.near

pub traced-requires : goal.traced-requires
traced-requires t c =
    let fewer : length c.in-Some.before.now + 1 ≡ length c.args.paints.now = c.in-Some.ensures.cases.1 in
    let parts = batch_split c.args.paints.now c.in-Some.before.now c.in-Some.paint.now c.in-Some.ensures.cases.0 c.requires.batch in
    (search rules, (parts.0, c.requires.reach))

pub earlier-requires-clause-delta : goal.earlier-requires-clause-delta
earlier-requires-clause-delta t c =
    let parts = batch_split c.args.paints.now c.in-Some.before.now c.in-Some.paint.now c.in-Some.ensures.cases.0 c.requires.batch in
    near-origin c.in-Scroll.delta (rw c.in-Scroll.is at parts.1.near).1

pub traced-requires-in-Scroll : goal.traced-requires-in-Scroll
traced-requires-in-Scroll t c =
    let fewer : length c.in-Some.before.now + 1 ≡ length c.args.paints.now = c.in-Some.ensures.cases.1 in
    let parts = batch_split c.args.paints.now c.in-Some.before.now c.in-Some.paint.now c.in-Some.ensures.cases.0 c.requires.batch in
    (search rules, (parts.0, c.earlier.ensures.reach))

pub op_at-op-requires : goal.op_at-op-requires
op_at-op-requires t c =
    let parts = batch_split c.args.paints.now c.in-Some.before.now c.in-Some.paint.now c.in-Some.ensures.cases.0 c.requires.batch in
    let has : has_point c.area.result c.args.q ≡ true = search rules in
    let near = near_point c.area.result c.args.q c.area.ensures.near has in
    record { near = parts.1.near; h = near.0; v = near.1; area = rw c.area.ensures.value at has }

pub traced-requires-in_default-paint : goal.traced-requires-in_default-paint
traced-requires-in_default-paint t c =
    let fewer : length c.in-Some.before.now + 1 ≡ length c.args.paints.now = c.in-Some.ensures.cases.1 in
    let parts = batch_split c.args.paints.now c.in-Some.before.now c.in-Some.paint.now c.in-Some.ensures.cases.0 c.requires.batch in
    (search rules, (parts.0, c.requires.reach))
