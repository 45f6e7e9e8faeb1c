use Rattle.std.proofs.Common.{cond, ap, ◌∙◌}
use Rattle.tr_region.specs.Points.{holds}
use Rattle.std.specs.Prelude.{is_none}
use Rattle.tr_paint.specs.Traces.{look_of}
use Rattle.tr_exec.specs.Executions.{base_of, colour_after}
use Rattle.tr_exec.proofs.SiteLemmas.{on_greatest}
use Rattle.tr_exec.proofs.execs.execute.Goals as goal

pub plan-requires-clause-visible : goal.plan-requires-clause-visible
plan-requires-clause-visible c = on_greatest c.args.screen.now.size c.args.visible.now c.invariant.ensures.size c.requires.visible

pub returns-clause-known : goal.returns-clause-known
returns-clause-known c = λ p x seen is. (c.paint_all.ensures c.args.bad.now).shown p x seen is

pub returns-clause-untouched : goal.returns-clause-untouched
returns-clause-untouched c = λ p seen none. (c.paint_all.ensures c.args.bad.now).untouched p seen none

pub returns-clause-pixels : goal.returns-clause-pixels
returns-clause-pixels c = λ p on hidden. (c.paint_all.ensures c.args.bad.now).others p on hidden

pub returns-clause-others : goal.returns-clause-others
returns-clause-others c = λ p hidden.
    let look = look_of c.args.env.now.kind c.args.env.now.font.now in
    let lost = is_none (colour_after look (base_of c.args.origin c.args.visible.now c.args.bad.now c.args.screen.now) c.args.batch.now c.args.origin p) in
    c.in_ok-plan.ensures.bad look c.args.screen.now p ∙ ap (λ b. cond b lost (holds c.args.bad.now p)) hidden

pub returns-clause-size : goal.returns-clause-size
returns-clause-size c = (c.paint_all.ensures c.args.bad.now).size

pub returns-clause-kind : goal.returns-clause-kind
returns-clause-kind c = (c.paint_all.ensures c.args.bad.now).kind
