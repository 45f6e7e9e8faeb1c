use Rattle.std.proofs.Common.{◌≡◌, ◌<◌, ◌&&◌, ◌||◌, [], sym, ap, ◌∙◌, length, refl, arith}
use Rattle.std.proofs.lemmas.List.{get_or_default}
use Rattle.tr_region.specs.Points.{holds}
use Rattle.tr_repair.specs.Good.{any_below, held_by, stays_below}
use Rattle.tr_repair.proofs.GoodLemmas.{any_below-more, stays_exactly}
use Rattle.tr_repair.proofs.good.still_good.Goals as goal

pub loop-i-init : goal.loop-i-init
unfolding any_below
loop-i-init c = λ p. rw c.empty-all.ensures refl

pub loop-i-preserved : goal.loop-i-preserved
loop-i-preserved c = λ p.
    let i = c.loop-i.i in
    let olds = c.args.old.now in
    let news = c.args.new.now in
    let below : i < length olds = omega (arith, c.requires, c.loop-i-test.true) in
    let old = c.index-old-i.is ∙ get_or_default olds i c.index-old-i.result [] below in
    let new = c.index-new-i.is ∙ get_or_default news i c.index-new-i.result [] c.loop-i-test.true in
    c.in_ok-all.ensures p ∙ rw (c.loop-i.invariant p) (
    ap (λ r. stays_below i olds news p || (holds r p && holds c.index-new-i.result p)) old
    ∙ ap (λ r. stays_below i olds news p || (held_by olds p i && holds r p)) new
    ∙ sym (any_below-more i (λ j. held_by olds p j && held_by news p j)))

pub returns-clause-points : goal.returns-clause-points
returns-clause-points c = λ p.
    let all : c.loop-i.i ≡ length c.args.new.now = omega (arith, c.loop-i-test.false, c.loop-i.auto.i-end) in
    c.in_ok-still.ensures.points p ∙ rw (c.loop-i.invariant p, all) refl

pub returns-clause-exactly : goal.returns-clause-exactly
returns-clause-exactly c = stays_exactly c.args.old.now c.args.new.now (holds c.in_ok-still.still) (holds c.args.good.now) (returns-clause-points c)
