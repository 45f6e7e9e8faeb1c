-- Corners that are moved, and points that can be.
use Rattle.std.proofs.Common.{◌≡◌, ◌≤◌, ℕ, pos, neg_ℤ, ◌≤ℤ◌, ◌+ℤ◌, Bool, true, false, cond, ◌&&◌, ℤ, ◌-ℤ◌, sym, ap, ◌∙◌, arith, nat_eq, w32, to_z, of_z, SFits, rules}
use Rattle.std.specs.Ordering.{int_eq}
use Rattle.std.proofs.lemmas.Int.{ints, to_z-of_z}
use Rattle.std.proofs.lemmas.Bool.Decides.{Decides-int_eq, Decides-eqb, same_from_decides, Decides-like}
use Rattle.std.specs.Prelude.{unsigned_abs, negsuc, int_lt}
use Rattle.std.proofs.lemmas.Bool.{and_parts}
use Rattle.tr_base.specs.declared.Point.{Point}
use Rattle.tr_base.specs.declared.Size.{Size}
use Rattle.tr_base.specs.Rects.{AreInReach, Edges, InReach, between, empty_rect, has_point, shifted, whole_of}
use Rattle.tr_base.specs.Layouts.{IsDomain}
use Rattle.tr_base.proofs.RectLemmas.{has_point-rect_of}
use Rattle.tr_repair.specs.Near.{IsAround, IsDistance}
use Rattle.tr_spot.specs.Spots.{from_corner}
use Rattle.tr_surface.specs.Survivors.{corner_of}

-- two numbers with equal bits are equal
pub same_bits : (x y : ℤ) → SFits w32 x → SFits w32 y → nat_eq (of_z w32 x) (of_z w32 y) ≡ int_eq x y
same_bits x y h k = same_from_decides _ _ (Decides-like _ there back (Decides-eqb (of_z w32 x) (of_z w32 y))) (Decides-int_eq x y)
  where
    there : of_z w32 x ≡ of_z w32 y → x ≡ y
    there e = sym (to_z-of_z w32 x h) ∙ ap (λ n. to_z w32 n) e ∙ to_z-of_z w32 y k

    back : x ≡ y → of_z w32 x ≡ of_z w32 y
    back e = ap (λ z. of_z w32 z) e

-- a corner less a move is an old one where the code finds equal bits
pub same_difference : (n d o : ℤ) → InReach n → SFits w32 (n -ℤ d) → SFits w32 d → SFits w32 o →
    nat_eq (of_z w32 (to_z w32 (of_z w32 n) -ℤ to_z w32 (of_z w32 d))) (of_z w32 o) ≡ int_eq (n -ℤ d) o
same_difference n d o near within step fits =
    let fn : to_z w32 (of_z w32 n) ≡ n = omega (arith, ints) in
    let fd : to_z w32 (of_z w32 d) ≡ d = to_z-of_z w32 d step in
    rw (fn, fd) (same_bits (n -ℤ d) o within fits)

-- a step from a corner
pub fits_step : (n d : ℤ) → InReach n → neg_ℤ (pos 262144) ≤ℤ d → d ≤ℤ pos 262144 → SFits w32 (n -ℤ d)
fits_step n d near low high = search (rules, arith, ints)

-- the points of a window, or of a screen, are around its corner
pub around_whole : (size : Size) → size.wide ≤ 4096 → size.high ≤ 4096 → (p : Point) → has_point (whole_of size) p ≡ true → IsAround p
around_whole size wide high p on =
    let both =
    and_parts (between (pos 0) (pos size.wide) p.h) (between (pos 0) (pos size.high) p.v)
    (sym (has_point-rect_of (pos 0) (pos size.wide) (pos 0) (pos size.high) p) ∙ on) in
    record {
      west = grind (arith, ints, both.0);
      east = grind (arith, ints, both.0, wide);
      north = grind (arith, ints, both.1);
      south = grind (arith, ints, both.1, high);
    }

-- how far a corner comes
abs_most : (x : ℤ) (n : ℕ) → unsigned_abs x ≤ n → neg_ℤ (pos n) ≤ℤ x
abs_most (pos a) n h = omega (arith, ints)
abs_most (negsuc a) n h = omega (arith, ints)

corner_most : (low high : ℤ) → high ≤ℤ pos 65536 → unsigned_abs (high -ℤ low) ≤ 4096 → low ≤ℤ pos 69632
corner_most low high end side = let most = abs_most (high -ℤ low) 4096 side in omega (arith, ints, most)

pub domain_step : (a b : Edges) → IsDomain a → IsDomain b → IsDistance (from_corner a (corner_of b))
domain_step a b was is =
    let aw : a.west ≤ℤ pos 69632 = corner_most a.west a.east was.east was.wide in
    let an : a.north ≤ℤ pos 69632 = corner_most a.north a.south was.south was.high in
    let bw : b.west ≤ℤ pos 69632 = corner_most b.west b.east is.east is.wide in
    let bn : b.north ≤ℤ pos 69632 = corner_most b.north b.south is.south is.high in
    record { west = omega (arith, ints); east = omega (arith, ints); north = omega (arith, ints); south = omega (arith, ints) }

-- from a window's corner
pub corner_step : (e : Edges) → IsDomain e → IsDistance (corner_of e)
corner_step e d =
    let w : e.west ≤ℤ pos 69632 = corner_most e.west e.east d.east d.wide in
    let n : e.north ≤ℤ pos 69632 = corner_most e.north e.south d.south d.high in
    record { west = omega (arith, ints); east = omega (arith, ints); north = omega (arith, ints); south = omega (arith, ints) }

-- a window's rectangle can be moved by a step
reach_within : (x : ℤ) → neg_ℤ (pos 1048576) ≤ℤ x → x ≤ℤ pos 1048576 → InReach x
reach_within x low high = record { low = low; high = high }

pub shifted_reach : (e : Edges) (d : Point) → IsDomain e → IsDistance d → AreInReach (shifted e d)
shifted_reach e d is step = by_test (int_lt (e.west +ℤ d.h) (e.east +ℤ d.h) && int_lt (e.north +ℤ d.v) (e.south +ℤ d.v))
  where
    west_most : e.west ≤ℤ pos 69632
    west_most = corner_most e.west e.east is.east is.wide

    north_most : e.north ≤ℤ pos 69632
    north_most = corner_most e.north e.south is.south is.high

    least : (low high : ℤ) → neg_ℤ (pos 65536) ≤ℤ low → unsigned_abs (high -ℤ low) ≤ 4096 → neg_ℤ (pos 69632) ≤ℤ high
    least low high begin side = let most = abs_most (high -ℤ low) 4096 side in omega (arith, ints, most)

    east_least : neg_ℤ (pos 69632) ≤ℤ e.east
    east_least = least e.west e.east is.west is.wide

    south_least : neg_ℤ (pos 69632) ≤ℤ e.south
    south_least = least e.north e.south is.north is.high

    by_test : (b : Bool) →
        AreInReach (cond b (record { west = e.west +ℤ d.h; east = e.east +ℤ d.h; north = e.north +ℤ d.v; south = e.south +ℤ d.v }) empty_rect)
    by_test true = record {
      west = reach_within (e.west +ℤ d.h) (omega (arith, ints)) (omega (arith, ints));
      east = reach_within (e.east +ℤ d.h) (omega (arith, ints)) (omega (arith, ints));
      north = reach_within (e.north +ℤ d.v) (omega (arith, ints)) (omega (arith, ints));
      south = reach_within (e.south +ℤ d.v) (omega (arith, ints)) (omega (arith, ints));
    }
    by_test false = record {
      west = reach_within (pos 0) (omega (arith, ints)) (omega (arith, ints));
      east = reach_within (pos 0) (omega (arith, ints)) (omega (arith, ints));
      north = reach_within (pos 0) (omega (arith, ints)) (omega (arith, ints));
      south = reach_within (pos 0) (omega (arith, ints)) (omega (arith, ints));
    }
