-- Two lists in order that are walked together from north to south.
use Rattle.std.proofs.Common.{◌≡◌, ℕ, suc, ◌+◌, ◌<◌, ◌≤◌, ℤ, ◌≤ℤ◌, ◌<ℤ◌, Bool, true, false, ◌&&◌, ◌||◌, ◌⊎◌, inl, inr, List, [], ◌∷◌, length, drop, get_or, refl, sym, ap, ◌∙◌, subst, add-one, arith}
use Rattle.std.specs.Prelude.{int_le}
use Rattle.std.specs.Int.{int_min}
use Rattle.std.specs.List.{AllByRecursion}
use Rattle.std.proofs.Math.Seq.{drop-cons}
use Rattle.std.proofs.lemmas.Int.{ints}
use Rattle.std.proofs.lemmas.Bool.{and_parts}
use Rattle.std.proofs.lemmas.List.{drop_all, get_or_default}
use Rattle.tr_base.specs.declared.Point.{Point}
use Rattle.tr_base.specs.Rects.{Edges, between, has_point}
use Rattle.tr_base.proofs.RectLemmas.{false-true}
use Rattle.tr_base.proofs.RectFacts.{between_parts}
use Rattle.tr_region.specs.Points.{holds}
use Rattle.tr_region.specs.RowParts.{ComesBefore, AreInOrder}
use Rattle.tr_region.proofs.ListLemmas.{AllByRecursion-weaker}

-- sets whose extents have no point in common have none
pub apart_extents : (a b e f : Bool) → (a ≡ true → e ≡ true) → (b ≡ true → f ≡ true) → (e && f) ≡ false → (a && b) ≡ false
apart_extents true true e f g h k = sym (ap (λ t. t && f) (g refl) ∙ h refl) ∙ k
apart_extents true false e f g h k = refl
apart_extents false b e f g h k = refl

-- what holds no point in common where one test fails
pub none_both : (a b : Bool) → (a ≡ true → b ≡ true → false ≡ true) → (a && b) ≡ false
none_both true true h = sym (h refl refl)
none_both true false h = refl
none_both false b h = refl

-- ---- one rectangle

-- the edges between which a rectangle's points lie
pub record LiesIn (r : Edges) (p : Point) : Type 0 where
  pub west : r.west ≤ℤ p.h
  pub east : p.h <ℤ r.east
  pub north : r.north ≤ℤ p.v
  pub south : p.v <ℤ r.south

pub lies_in : (r : Edges) (p : Point) → has_point r p ≡ true → LiesIn r p
lies_in r p h =
    let at = and_parts (between r.west r.east p.h) (between r.north r.south p.v) h in
    let across = between_parts r.west r.east p.h at.0 in
    let down = between_parts r.north r.south p.v at.1 in
    record { west = across.0; east = across.1; north = down.0; south = down.1 }

-- a point of a list that the first rectangle doesn't hold is one of the others
pub held_later : (r : Edges) (rects : List Edges) (p : Point) → (LiesIn r p → ⊥) → holds (r ∷ rects) p ≡ true → holds rects p ≡ true
held_later r rects p out h = by_test (has_point r p) refl h
  where
    by_test : (b : Bool) → has_point r p ≡ b → (b || holds rects p) ≡ true → holds rects p ≡ true
    by_test true e k = absurd (out (lies_in r p e))
    by_test false e k = k

-- a rectangle that has ended at a row holds no point from there on
pub not_ended : (r : Edges) (rects : List Edges) (row : ℤ) (p : Point) → r.south ≤ℤ row → row ≤ℤ p.v → holds (r ∷ rects) p ≡ holds rects p
not_ended r rects row p ends from = by_test (has_point r p) refl
  where
    by_test : (b : Bool) → has_point r p ≡ b → (b || holds rects p) ≡ holds rects p
    by_test true e = let at = lies_in r p e in absurd (omega (arith, ints, at.south))
    by_test false e = refl

-- ---- the rectangles behind the first

-- all begin at its first row, or south of that
all_from : (r : Edges) (rects : List Edges) → AreInOrder (r ∷ rects) → AllByRecursion (λ e. r.north ≤ℤ e.north) rects
all_from r rects h = AllByRecursion-weaker (ComesBefore r) (λ e. r.north ≤ℤ e.north) (λ e k. later e k) rects h.1
  where
    down : r.north <ℤ r.south
    down = h.0.1

    later : (e : Edges) → ComesBefore r e → r.north ≤ℤ e.north
    later e (inl k) = omega (arith, ints, down)
    later e (inr k) = omega (arith, ints, k.0)

none_from : (n : ℤ) (rects : List Edges) (p : Point) → p.v <ℤ n → AllByRecursion (λ e. n ≤ℤ e.north) rects → holds rects p ≡ true → false ≡ true
none_from n [] p lt all h = h
none_from n (r ∷ rects) p lt all h =
    none_from n rects p lt all.1 (held_later r rects p (λ at. absurd (omega (arith, ints, at.north, all.0))) h)

-- north of the first one lies no point
pub none_north : (r : Edges) (rects : List Edges) (row : ℤ) (p : Point) → AreInOrder (r ∷ rects) → row ≤ℤ r.north → p.v <ℤ row →
    holds (r ∷ rects) p ≡ true → false ≡ true
none_north r rects row p h from lt k =
    let north : p.v <ℤ r.north = omega (arith, ints) in
    none_from r.north rects p north (all_from r rects h) (held_later r rects p (λ at. absurd (omega (arith, ints, at.north))) k)

-- in its rows all lie east of it
none_west : (r : Edges) (rects : List Edges) (p : Point) → p.v <ℤ r.south → p.h <ℤ r.east → AllByRecursion (ComesBefore r) rects →
    holds rects p ≡ true → false ≡ true
none_west r [] p lt west all h = h
none_west r (e ∷ rects) p lt west all h = none_west r rects p lt west all.1 (held_later e rects p (λ at. out at all.0) h)
  where
    out : LiesIn e p → ComesBefore r e → ⊥
    out at (inl k) = omega (arith, ints, at.north)
    out at (inr k) = omega (arith, ints, at.west, k.2)

-- a point of its rows lies at its west edge or east of that
pub not_west : (r : Edges) (rects : List Edges) (p : Point) → AreInOrder (r ∷ rects) → p.v <ℤ r.south → p.h <ℤ r.west → holds (r ∷ rects) p ≡ true →
    false ≡ true
not_west r rects p h lt west k =
    let across : r.west <ℤ r.east = h.0.0 in
    none_west r rects p lt (omega (arith, ints)) h.1 (held_later r rects p (λ at. absurd (omega (arith, ints, at.west))) k)

-- ---- rows in which two lists have no column in common

-- each rectangle that begins north of a row reaches the row
abbrev pub ReachesRow : ℤ → Edges → Type 0
ReachesRow row r = r.north <ℤ row → row ≤ℤ r.south

pub all_reach : (r : Edges) (rects : List Edges) (row : ℤ) → AreInOrder (r ∷ rects) → row ≤ℤ r.south → AllByRecursion (ReachesRow row) (r ∷ rects)
all_reach r rects row h ends = (λ k. ends, AllByRecursion-weaker (ComesBefore r) (ReachesRow row) (λ e k. later e k) rects h.1)
  where
    later : (e : Edges) → ComesBefore r e → ReachesRow row e
    later e (inl k) = λ north. absurd (omega (arith, ints))
    later e (inr k) = λ north. omega (arith, ints, k.1)

-- what is left of a list: it is in order, and what begins north of the row reaches the row
pub record IsLeft (row : ℤ) (rects : List Edges) : Type 0 where
  pub order : AreInOrder rects
  pub reach : AllByRecursion (ReachesRow row) rects

pub left_all : (rects : List Edges) (row : ℤ) → AreInOrder rects → ((d : Edges) → row ≤ℤ (get_or rects 0 d).south) → IsLeft row rects
left_all [] row h ends = record { order = tt; reach = tt }
left_all (r ∷ rects) row h ends = record { order = h; reach = all_reach r rects row h (ends r) }

pub left_later : (row : ℤ) (r : Edges) (rects : List Edges) → IsLeft row (r ∷ rects) → IsLeft row rects
left_later row r rects left = record { order = left.order.2; reach = left.reach.1 }

-- the first rectangle of one list lies west of that of the other, so it has no point of the other in these rows
pub west_of : (row : ℤ) (r s : Edges) (rects others : List Edges) (p : Point) → IsLeft row (s ∷ others) → s.north <ℤ row → r.east ≤ℤ s.west → p.v <ℤ row →
    holds (r ∷ rects) p ≡ true → holds (s ∷ others) p ≡ true → holds rects p ≡ true
west_of row r s rects others p left north west lt h k = held_later r rects p out h
  where
    south : row ≤ℤ s.south
    south = left.reach.0 north

    out : LiesIn r p → ⊥
    out at =
        let rows : p.v <ℤ s.south = omega (arith, ints, south) in
        let columns : p.h <ℤ s.west = omega (arith, ints, at.east) in
        false-true (not_west s others p left.order rows columns k)

-- the rectangle at a place of a list, and those behind it
pub drop_here : (rects : List Edges) (k : ℕ) (r : Edges) → k < length rects → r ≡ get_or rects k r → drop k rects ≡ r ∷ drop (k + 1) rects
drop_here rects k r lt is = rw add-one (drop-cons rects k r lt ∙ ap (λ (e : Edges). e ∷ drop (suc k) rects) (sym is))

-- ---- a walk along the first bands of two lists, by places

module _ (row : ℤ) (rects : List Edges) (i : ℕ) (r : Edges) (left : IsLeft row (drop i rects)) (lt : i < length rects) (is : r ≡ get_or rects i r) where
  here : drop i rects ≡ r ∷ drop (i + 1) rects
  here = drop_here rects i r lt is

  at_head : IsLeft row (r ∷ drop (i + 1) rects)
  at_head = subst (IsLeft row) here left

  pub goes_on : IsLeft row (drop (i + 1) rects)
  goes_on = left_later row r (drop (i + 1) rects) at_head

  -- a list whose first rectangle begins at the row has no point north of that
  pub none_left : row ≤ℤ r.north → (p : Point) → p.v <ℤ row → holds (drop i rects) p ≡ true → false ≡ true
  none_left from p below h = none_north r (drop (i + 1) rects) row p at_head.order from below (subst (λ (rs : List Edges). holds rs p ≡ true) here h)

  -- a rectangle of the other list that lies west of the first one has no point of this list
  pub passed_west : (others : List Edges) (j : ℕ) (s : Edges) → j < length others → s ≡ get_or others j s → r.north <ℤ row → s.east ≤ℤ r.west →
      (p : Point) → p.v <ℤ row → holds (drop j others) p ≡ true → holds (drop i rects) p ≡ true → holds (drop (j + 1) others) p ≡ true
  passed_west others j s fits at north west p below h k =
      west_of row s r (drop (j + 1) others) (drop (i + 1) rects) p at_head north west below
      (subst (λ (rs : List Edges). holds rs p ≡ true) (drop_here others j s fits at) h) (subst (λ (rs : List Edges). holds rs p ≡ true) here k)

-- nothing is left of a list that is passed
pub none_past : (rects : List Edges) (i : ℕ) (p : Point) → length rects ≤ i → holds (drop i rects) p ≡ true → false ≡ true
none_past rects i p le h = subst (λ (rs : List Edges). holds rs p ≡ true) (drop_all i rects le) h

-- ---- the rectangles that have ended at a row

module _ (row : ℤ) (rects : List Edges) (at : ℕ) (r : Edges) (lt : at < length rects) (is : r ≡ get_or rects at r) where
  pub order_later : AreInOrder (drop at rects) → AreInOrder (drop (at + 1) rects)
  order_later h = (subst AreInOrder (drop_here rects at r lt is) h).2

  pub held_from : r.south ≤ℤ row → (p : Point) → row ≤ℤ p.v → holds rects p ≡ holds (drop at rects) p → holds rects p ≡ holds (drop (at + 1) rects) p
  held_from ends p from h = h ∙ ap (λ (rs : List Edges). holds rs p) (drop_here rects at r lt is) ∙ not_ended r (drop (at + 1) rects) row p ends from

-- ---- the first rectangle of a list

module _ (rects : List Edges) (r : Edges) (some : 0 < length rects) (is : r ≡ get_or rects 0 r) where
  starts : rects ≡ r ∷ drop 1 rects
  starts = drop_here rects 0 r some is

  pub none_begun : AreInOrder rects → (row : ℤ) → row ≤ℤ r.north → (p : Point) → p.v <ℤ row → holds rects p ≡ true → false ≡ true
  none_begun order row from p below h =
      none_north r (drop 1 rects) row p (subst AreInOrder starts order) from below (subst (λ (rs : List Edges). holds rs p ≡ true) starts h)

  pub first_is : (d : Edges) → get_or rects 0 d ≡ r
  first_is d = get_or_default rects 0 d r some ∙ sym is

  pub ended_first : (row : ℤ) → r.south ≤ℤ row → (d : Edges) → (get_or rects 0 d).south ≤ℤ row
  ended_first row h d = subst (λ (e : Edges). e.south ≤ℤ row) (sym (first_is d)) h

  pub reaches_first : (row : ℤ) → row ≤ℤ r.south → (d : Edges) → row ≤ℤ (get_or rects 0 d).south
  reaches_first row h d = subst (λ (e : Edges). row ≤ℤ e.south) (sym (first_is d)) h

-- the first rectangle of one of two lists ends where the lesser south edge is
pub either_ends : (x y row : ℤ) → row ≡ int_min x y → (x ≤ℤ row) ⊎ (y ≤ℤ row)
either_ends x y row is = by_test (int_le x y) refl
  where
    by_test : (b : Bool) → int_le x y ≡ b → (x ≤ℤ row) ⊎ (y ≤ℤ row)
    by_test true e = inl (grind (arith, ints))
    by_test false e = inr (grind (arith, ints))
