use Rattle.std.proofs.Common.{◌≤ℤ◌, ◌<ℤ◌, ◌⊎◌, inl, inr, w32, to_z, of_z, arith}
use Rattle.std.proofs.lemmas.Int.{ints, clamps}
use Rattle.tr_base.proofs.RectLemmas.{cast-in_reach}
use Rattle.tr_region.specs.Points.{holds}
use Rattle.tr_region.proofs.ApartLemmas.{left_all, goes_on, none_left, passed_west, none_past, none_both}
use Rattle.tr_region.proofs.lists.share_columns.Goals as goal
use Rattle.tr_region.proofs.lists.share_columns.Goals.{then-north-row-via-then-north-row, then-north-row-via-else-north-row+then-north-row-2}

pub loop-i-init : goal.loop-i-init
loop-i-init c = rw (cast-in_reach _ c.requires.reach) (record {
  first = left_all c.args.first.now c.args.row c.requires.first c.requires.first_row;
  second = left_all c.args.second.now c.args.row c.requires.second c.requires.second_row;
  common = λ p lt h k. (h, k);
})

pub returns-then-north-row : goal.returns-then-north-row
returns-then-north-row c = λ e p below.
    let now = rw (cast-in_reach _ c.requires.reach) at c.loop-i.invariant in
    let a = c.index-first-i.result in
    let b = c.index-second-j.result in
    let either : (c.args.row ≤ℤ a.north) ⊎ (c.args.row ≤ℤ b.north) =
    elim c.then-north-row.branch [
      | then-north-row-via-then-north-row w ↦ inl (omega (arith, ints, clamps))
      | then-north-row-via-else-north-row+then-north-row-2 w ↦ inr (omega (arith, ints, clamps))
    ] in
    none_both (holds c.args.first.now p) (holds c.args.second.now p) (λ h k.
    let both = now.common p below h k in
    elim either [
      | inl from ↦ none_left c.args.row c.args.first.now c.loop-i.i a now.first c.loop-i-test.true c.index-first-i.is from p below both.0
      | inr from ↦ none_left c.args.row c.args.second.now c.loop-i.j b now.second c.if-j-second.true c.index-second-j.is from p below both.1
    ])

pub returns-else-j-second : goal.returns-else-j-second
returns-else-j-second c = λ e p below.
    let now = rw (cast-in_reach _ c.requires.reach) at c.loop-i.invariant in
    none_both (holds c.args.first.now p) (holds c.args.second.now p) (λ h k.
    none_past c.args.second.now c.loop-i.j p c.if-j-second.false (now.common p below h k).1)

pub returns-after-loop-i : goal.returns-after-loop-i
returns-after-loop-i c = λ e p below.
    let now = rw (cast-in_reach _ c.requires.reach) at c.loop-i.invariant in
    none_both (holds c.args.first.now p) (holds c.args.second.now p) (λ h k.
    none_past c.args.first.now c.loop-i.i p c.loop-i-test.false (now.common p below h k).0)

pub loop-i-preserved-then-east-west : goal.loop-i-preserved-then-east-west
loop-i-preserved-then-east-west c =
    let row = to_z w32 (of_z w32 c.args.row) in
    let now = c.loop-i.invariant in
    let north : c.index-second-j.result.north <ℤ row = omega (arith, ints, clamps) in
    let west : c.index-first-i.result.east ≤ℤ c.index-second-j.result.west = omega (arith, ints, clamps) in
    record {
      first = goes_on row c.args.first.now c.loop-i.i c.index-first-i.result now.first c.loop-i-test.true c.index-first-i.is;
      second = now.second;
      common = λ p lt h k.
          let both = now.common p lt h k in (
            passed_west row c.args.second.now c.loop-i.j c.index-second-j.result now.second c.if-j-second.true c.index-second-j.is
                c.args.first.now c.loop-i.i c.index-first-i.result c.loop-i-test.true c.index-first-i.is north west p lt both.0 both.1,
            both.1,
          );
    }

pub loop-i-preserved : goal.loop-i-preserved
loop-i-preserved c =
    let row = to_z w32 (of_z w32 c.args.row) in
    let now = c.loop-i.invariant in
    let north : c.index-first-i.result.north <ℤ row = omega (arith, ints, clamps) in
    let west : c.index-second-j.result.east ≤ℤ c.index-first-i.result.west = omega (arith, ints, clamps) in
    record {
      first = now.first;
      second = goes_on row c.args.second.now c.loop-i.j c.index-second-j.result now.second c.if-j-second.true c.index-second-j.is;
      common = λ p lt h k.
          let both = now.common p lt h k in (
            both.0,
            passed_west row c.args.first.now c.loop-i.i c.index-first-i.result now.first c.loop-i-test.true c.index-first-i.is
                c.args.second.now c.loop-i.j c.index-second-j.result c.if-j-second.true c.index-second-j.is north west p lt both.1 both.0,
          );
    }
