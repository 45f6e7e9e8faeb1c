use Rattle.std.proofs.Common.{◌≡◌, ◌≤ℤ◌, inl, inr, w32, to_z, of_z, ◌∙◌, arith}
use Rattle.std.specs.Int.{int_min}
use Rattle.std.proofs.lemmas.Int.{ints, clamps}
use Rattle.tr_base.proofs.RectLemmas.{cast-in_reach, cast-min}
use Rattle.tr_region.specs.Points.{holds}
use Rattle.tr_region.proofs.ApartLemmas.{none_both, none_begun, ended_first, either_ends}
use Rattle.tr_region.proofs.lists.apart_until.Goals as goal

pub returns-then-south-north : goal.returns-then-south-north
returns-then-south-north c =
    let first = c.args.first.now in
    let second = c.args.second.now in
    let row = c.north-then-south-north.result in
    let from : row ≤ℤ c.index-second-0.result.north = omega (arith, ints) in
    let ends : c.index-first-0.result.south ≤ℤ row = omega (arith, ints, clamps) in
    rw (cast-in_reach _ c.north-then-south-north.ensures.reach) (record {
      reach = c.north-then-south-north.ensures.reach;
      apart = λ p below. none_both (holds first p) (holds second p)
          (λ h k. none_begun second c.index-second-0.result c.requires.some_second c.index-second-0.is c.requires.second row from p below k);
      ended = λ d. inl (ended_first first c.index-first-0.result c.requires.some_first c.index-first-0.is row ends d);
    })

pub returns-then-south-north-2 : goal.returns-then-south-north-2
returns-then-south-north-2 c =
    let first = c.args.first.now in
    let second = c.args.second.now in
    let row = c.north-then-south-north-2.result in
    let from : row ≤ℤ c.index-first-0.result.north = omega (arith, ints) in
    let ends : c.index-second-0.result.south ≤ℤ row = omega (arith, ints, clamps) in
    rw (cast-in_reach _ c.north-then-south-north-2.ensures.reach) (record {
      reach = c.north-then-south-north-2.ensures.reach;
      apart = λ p below. none_both (holds first p) (holds second p)
          (λ h k. none_begun first c.index-first-0.result c.requires.some_first c.index-first-0.is c.requires.first row from p below h);
      ended = λ d. inr (ended_first second c.index-second-0.result c.requires.some_second c.index-second-0.is row ends d);
    })

pub returns : goal.returns
returns c =
    let a = c.index-first-0.result in
    let b = c.index-second-0.result in
    let row = to_z w32 (of_z w32 c.lesser-row.result) in
    let is : row ≡ int_min a.south b.south =
    cast-in_reach _ c.lesser-row.ensures.reach
    ∙ cast-min a.south b.south c.lesser-row.result c.south-3.result c.south-4.result c.south-3.ensures.value c.south-4.ensures.value
    c.south-3.ensures.reach c.south-4.ensures.reach c.lesser-row.ensures.value in
    record {
      reach = rw (cast-in_reach _ c.lesser-row.ensures.reach) c.lesser-row.ensures.reach;
      apart = λ p below. c.share_columns.ensures c.if-share_columns.false p below;
      ended = λ d.
          elim (either_ends a.south b.south row is) [
            | inl h ↦ inl (ended_first c.args.first.now a c.requires.some_first c.index-first-0.is row h d)
            | inr h ↦ inr (ended_first c.args.second.now b c.requires.some_second c.index-second-0.is row h d)
          ];
    }
