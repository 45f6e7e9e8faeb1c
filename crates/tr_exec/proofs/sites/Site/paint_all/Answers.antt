use Rattle.std.proofs.Common.{◌≡◌, [], take, sym, subst, arith}
use Rattle.std.proofs.lemmas.List.{take_all}
use Rattle.std.proofs.lemmas.Option.{get_or_from_slice_get, slice_get_within}
use Rattle.tr_base.specs.declared.Size.{Size}
use Rattle.tr_paint.specs.Traces.{look_of}
use Rattle.tr_paint.specs.Views.{viewed}
use Rattle.tr_paint.proofs.BatchLemmas.{take_next}
use Rattle.tr_exec.specs.Executions.{RegionLiesOn}
use Rattle.tr_exec.proofs.ShownLemmas.{shown_none, shown_more}
use Rattle.tr_exec.proofs.PaintingLemmas.{zip_at}
use Rattle.tr_exec.proofs.sites.Site.paint_all.Goals as goal

pub loop-i-init : goal.loop-i-init
loop-i-init c = λ bad.
    shown_none (look_of c.args.env.now.kind c.args.env.now.font.now)
    c.args.self.now.origin c.args.self.now.visible.now bad c.args.screen.now c.requires.visible

pub paint-requires-clause-visible : goal.paint-requires-clause-visible
paint-requires-clause-visible c =
    let P : Size → Type 0 = λ s. RegionLiesOn s c.args.self.now.visible.now in subst P (sym (c.loop-i.invariant []).size) c.requires.visible

pub paint-requires-clause-moved : goal.paint-requires-clause-moved
paint-requires-clause-moved c =
    let paint = viewed c.get-paint.result in
    zip_at _ c.args.batch.now c.args.moves.now c.loop-i.i paint c.index-moves-i.result c.requires.moves
    (slice_get_within c.args.batch.now c.loop-i.i paint c.get-paint.ensures.value)
    (sym (get_or_from_slice_get c.args.batch.now c.loop-i.i paint paint c.get-paint.ensures.value)) c.index-moves-i.is

pub loop-i-preserved : goal.loop-i-preserved
loop-i-preserved c = λ bad.
    let items = c.args.batch.now in
    let i = c.loop-i.i in
    let item = viewed c.get-paint.result in
    rw (take_next items i item c.get-paint.ensures.value) (shown_more _ _ _ bad c.args.screen.now c.requires.visible (take i items) item
    c.loop-i.screen c.paint.new.screen (c.loop-i.invariant bad) c.paint.ensures)

pub returns : goal.returns
returns c = λ bad.
    let all : take c.loop-i.i c.args.batch.now ≡ c.args.batch.now = take_all _ c.args.batch.now (omega (arith, c.loop-i-test.false)) in
    rw all at (c.loop-i.invariant bad)
