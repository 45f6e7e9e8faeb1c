use Rattle.std.proofs.Common.{[], ◌∷◌, ◌++◌, List, take, refl, sym, ap, ◌∙◌, arith}
use Rattle.std.proofs.lemmas.List.{append-nil, append_assoc, take_all, take_at}
use Rattle.tr_paint.specs.declared.paints.Paint.{Paint}
use Rattle.tr_paint.specs.Views.{viewed}
use Rattle.tr_paint.proofs.BatchLemmas.{take_next}
use Rattle.tr_paint.proofs.TraceLemmas.{after-append}
use Rattle.tr_paint.proofs.batches.Batch.append.Goals as goal

pub loop-i-init : goal.loop-i-init
loop-i-init c = c.in_ok-make_room.ensures ∙ sym (append-nil c.args.self.now)

pub loop-i-preserved : goal.loop-i-preserved
loop-i-preserved c =
    let others = c.args.other.now in
    let paint = viewed c.get-paint.result in
    c.in_default.ensures.ok
    ∙ ap (λ (cs : List Paint). cs ++ paint ∷ []) c.loop-i.invariant
    ∙ append_assoc c.args.self.now (take c.loop-i.i others) (paint ∷ [])
    ∙ ap (λ (cs : List Paint). c.args.self.now ++ cs) (sym (take_next others c.loop-i.i paint c.get-paint.ensures.value))

pub returns-in_err-make_room-clause-in_a_row : goal.returns-in_err-make_room-clause-in_a_row
returns-in_err-make_room-clause-in_a_row c = λ look base q. after-append look base c.args.self.now c.args.other.now q

pub returns-in-Err-clause-err : goal.returns-in-Err-clause-err
returns-in-Err-clause-err c =
    rw (c.truncate.ensures, c.len-before.ensures.value, c.in_ok-make_room.ensures, c.in-Err.ensures.err, c.loop-i.invariant)
    (take_at c.args.self.now (take c.loop-i.i c.args.other.now) _ refl)

pub returns-in-Err-clause-in_a_row : goal.returns-in-Err-clause-in_a_row
returns-in-Err-clause-in_a_row c = λ look base q. after-append look base c.args.self.now c.args.other.now q

pub returns-clause-ok : goal.returns-clause-ok
returns-clause-ok c =
    c.loop-i.invariant
    ∙ ap (λ (cs : List Paint). c.args.self.now ++ cs) (take_all c.loop-i.i c.args.other.now (omega (arith, c.loop-i-test.false)))

pub returns-clause-in_a_row : goal.returns-clause-in_a_row
returns-clause-in_a_row c = λ look base q. after-append look base c.args.self.now c.args.other.now q
