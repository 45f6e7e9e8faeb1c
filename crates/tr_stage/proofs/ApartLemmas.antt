-- Points of a leaf that are painted on a screen of their own, which is as large as their extents: where they lie there, and where their pixels stand.
use Rattle.std.proofs.Common.{◌≡◌, ◌≤◌, ℤ, pos, ◌-ℤ◌, ◌≤ℤ◌, ◌<ℤ◌, true, ⊎_elim, List, [], ◌∷◌, map, refl, sym, ap, subst, ◌∙◌, arith}
use Rattle.std.specs.Prelude.{unsigned_abs}
use Rattle.std.proofs.lemmas.Int.{ints}
use Rattle.std.proofs.lemmas.Bool.{and_from, and_parts}
use Rattle.std.proofs.lemmas.List.Sums.{sum_by-cons}
use Rattle.tr_base.specs.declared.Point.{Point}
use Rattle.tr_base.specs.declared.Size.{Size}
use Rattle.tr_base.specs.declared.LeafId.{LeafId}
use Rattle.tr_base.specs.Layouts.{IsBetween, IsDomain}
use Rattle.tr_base.specs.Rects.{Edges, IsRect, before_shift, between, empty_rect, has_point, shifted, sides_of, whole_of, IsScreenSize}
use Rattle.tr_base.proofs.RectLemmas.{has_point-rect_of}
use Rattle.tr_base.proofs.RectFacts.{abs_is}
use Rattle.tr_region.specs.Areas.{area_of, total_area}
use Rattle.tr_region.specs.Bands.{IsCanonical}
use Rattle.tr_region.specs.Extents.{extents_of}
use Rattle.tr_region.specs.Places.{place_in}
use Rattle.tr_region.specs.Points.{holds}
use Rattle.tr_region.proofs.ExtentsLemmas.{IsFull-some, extents_least, no_extents}
use Rattle.tr_region.proofs.OrderLemmas.{AreInOrder, AreInOrder-canonical, IsFull}
use Rattle.tr_region.proofs.ShiftLemmas.{holds-shifted}
use Rattle.tr_paint.specs.Paints.{IsNearPoint}
use Rattle.tr_exec.specs.Executions.{IsOrigin, RegionLiesOn, greatest_screen, screen_point}
use Rattle.tr_exec.proofs.PlacedLemmas.{points}
use Rattle.tr_exec.proofs.SiteLemmas.{on_greatest}
use Rattle.tr_client.specs.declared.clients.Client.{Ghosts}
use Rattle.tr_forest.specs.Forests.{IsForest}
use Rattle.tr_tree.specs.Trees.{Seen}
use Rattle.tr_spot.specs.Leaves.{in_leaf, leaf_domain}
use Rattle.tr_spot.specs.Spots.{from_corner, is_in_leaf, size_of, spot}
use Rattle.tr_surface.proofs.PutLemmas.{area-moved, place-moved}
use Rattle.tr_machine.specs.Paintings.{is_visible}
use Rattle.tr_machine.proofs.BaseLemmas.{leaf_within, placed-in_leaf}
use Rattle.tr_stage.specs.Stages.{StageView, state}
use Rattle.tr_stage.specs.Standings.{Stands}
use Rattle.tr_stage.proofs.SharingLemmas.{part_on}
use Rattle.tr_stage.proofs.WholeLemmas.{in_domain}

-- ---- a list that is moved

-- it has as many points
pub total_area-moved : (d : Point) (rects : List Edges) → AreInOrder rects → total_area (map (λ e. shifted e d) rects) ≡ total_area rects
total_area-moved d [] order = refl
total_area-moved d (r ∷ rects) order =
    sum_by-cons area_of (shifted r d) (map (λ (e : Edges). shifted e d) rects)
    ∙ rw (area-moved d r order.0, total_area-moved d rects order.2) refl
    ∙ sym (sum_by-cons area_of r rects)

-- and each stands where it stood
pub place_in-moved : (d : Point) (rects : List Edges) (q : Point) → AreInOrder rects →
    place_in (map (λ e. shifted e d) rects) q ≡ place_in rects (before_shift q d)
place_in-moved d [] q order = refl
place_in-moved d (r ∷ rects) q order =
    rw (holds-shifted d rects q, area-moved d r order.0, place_in-moved d rects q order.2, place-moved d r q order.0) refl

-- ---- the extents of some points of a leaf on the screen

-- the screen's corner
abbrev pub zero_point : Point
zero_point = record { h = pos 0; v = pos 0 }

-- they hold points, and lie in the greatest screen and in the leaf's window
pub record IsPlaced (area domain : Edges) : Type 0 where
  pub full : IsFull area
  pub on : IsBetween area (whole_of greatest_screen)
  pub within : IsBetween area domain

-- extents that aren't empty lie between the edges of each rectangle that has all points
pub extents_between : (rects : List Edges) (outer : Edges) → AreInOrder rects → (extents_of rects ≡ empty_rect → ⊥) →
    ((p : Point) → holds rects p ≡ true → has_point outer p ≡ true) → IsBetween (extents_of rects) outer
extents_between rects outer order some all = ⊎_elim (λ e. absurd (some e)) (λ b. b) (extents_least rects order outer all)

-- the lengths of their sides
wide_is : (area : Edges) → IsFull area → pos (sides_of area).0 ≡ area.east -ℤ area.west
wide_is area full = let across : area.west <ℤ area.east = full.across in abs_is (area.east -ℤ area.west) (omega (arith, ints))

high_is : (area : Edges) → IsFull area → pos (sides_of area).1 ≡ area.south -ℤ area.north
high_is area full = let down : area.north <ℤ area.south = full.down in abs_is (area.south -ℤ area.north) (omega (arith, ints))

-- a screen may have their size
pub placed_size : (area domain : Edges) → IsPlaced area domain → IsScreenSize (size_of area)
placed_size area domain is =
    let across : area.west <ℤ area.east = is.full.across in
    let down : area.north <ℤ area.south = is.full.down in
    let west : pos 0 ≤ℤ area.west = is.on.west in
    let east : area.east ≤ℤ pos 1024 = is.on.east in
    let north : pos 0 ≤ℤ area.north = is.on.north in
    let south : area.south ≤ℤ pos 1024 = is.on.south in
    let wide = wide_is area is.full in
    let high = high_is area is.full in
    record { some_wide = omega (arith, ints); wide = omega (arith, ints); some_high = omega (arith, ints); high = omega (arith, ints) }

-- they are small
pub placed_small : (area domain : Edges) → IsPlaced area domain → IsDomain area
placed_small area domain is =
    let across : area.west <ℤ area.east = is.full.across in
    let down : area.north <ℤ area.south = is.full.down in
    let west : pos 0 ≤ℤ area.west = is.on.west in
    let east : area.east ≤ℤ pos 1024 = is.on.east in
    let north : pos 0 ≤ℤ area.north = is.on.north in
    let south : area.south ≤ℤ pos 1024 = is.on.south in
    let size = placed_size area domain is in
    let wide : (sides_of area).0 ≤ 1024 = size.wide in
    let high : (sides_of area).1 ≤ 1024 = size.high in
    record {
      west = omega (arith, ints);
      east = omega (arith, ints);
      north = omega (arith, ints);
      south = omega (arith, ints);
      wide = omega (arith, wide);
      high = omega (arith, high);
    }

-- the window's corner is not far from theirs
pub placed_origin : (area domain : Edges) → IsPlaced area domain → IsDomain domain → IsOrigin (from_corner area (record { h = domain.west; v = domain.north }))
placed_origin area domain is small =
    let across : area.west <ℤ area.east = is.full.across in
    let down : area.north <ℤ area.south = is.full.down in
    let west : domain.west ≤ℤ area.west = is.within.west in
    let east : area.east ≤ℤ domain.east = is.within.east in
    let north : domain.north ≤ℤ area.north = is.within.north in
    let south : area.south ≤ℤ domain.south = is.within.south in
    let wide_all : pos (sides_of domain).0 ≡ domain.east -ℤ domain.west = abs_is (domain.east -ℤ domain.west) (omega (arith, ints)) in
    let high_all : pos (sides_of domain).1 ≡ domain.south -ℤ domain.north = abs_is (domain.south -ℤ domain.north) (omega (arith, ints)) in
    let wide : (sides_of domain).0 ≤ 4096 = small.wide in
    let high : (sides_of domain).1 ≤ 4096 = small.high in
    record { west = omega (arith, ints); east = omega (arith, ints); north = omega (arith, ints); south = omega (arith, ints) }

-- nor is the screen's
pub placed_near : (area domain : Edges) → IsPlaced area domain → IsNearPoint (from_corner area zero_point)
placed_near area domain is =
    let across : area.west <ℤ area.east = is.full.across in
    let down : area.north <ℤ area.south = is.full.down in
    let west : pos 0 ≤ℤ area.west = is.on.west in
    let east : area.east ≤ℤ pos 1024 = is.on.east in
    let north : pos 0 ≤ℤ area.north = is.on.north in
    let south : area.south ≤ℤ pos 1024 = is.on.south in
    record {
      h = record { low = omega (arith, ints); high = omega (arith, ints) };
      v = record { low = omega (arith, ints); high = omega (arith, ints) };
    }

-- ---- points there

between_back : (low high x : ℤ) → low <ℤ high → between low high (x -ℤ (pos 0 -ℤ low)) ≡ true →
    between (pos 0) (pos (unsigned_abs (high -ℤ low))) x ≡ true
between_back low high x order h = grind (arith, ints)

-- a point of them, from their corner on, lies on a screen of their size
pub placed_on : (area : Edges) (q : Point) → IsFull area → has_point area (before_shift q (from_corner area zero_point)) ≡ true →
    has_point (whole_of (size_of area)) q ≡ true
placed_on area q full has =
    let both = and_parts (between area.west area.east (q.h -ℤ (pos 0 -ℤ area.west))) (between area.north area.south (q.v -ℤ (pos 0 -ℤ area.north))) has in
    has_point-rect_of (pos 0) (pos (size_of area).wide) (pos 0) (pos (size_of area).high) q
    ∙ and_from _ _ (between_back area.west area.east q.h full.across both.0) (between_back area.north area.south q.v full.down both.1)

-- a region that is moved to there, with its extents
pub record IsMoved (area : Edges) (part here : List Edges) (by : Point) : Type 0 where
  pub full : IsFull area
  pub round : (p : Point) → holds part p ≡ true → has_point area p ≡ true
  pub way : by ≡ from_corner area zero_point
  pub points : (q : Point) → holds here q ≡ holds part (before_shift q by)

-- all of it lies on that screen
pub moved_on : {area : Edges} {part here : List Edges} {by : Point} (size : Size) → size ≡ size_of area → IsMoved area part here by → RegionLiesOn size here
moved_on {area} {part} {here} {by} size same is q held =
    ap (λ (z : Size). has_point (whole_of z) q) same ∙ placed_on area q is.full (ap (λ (d : Point). has_point area (before_shift q d)) (sym is.way) ∙ there)
  where
    there : has_point area (before_shift q by) ≡ true
    there = is.round (before_shift q by) (sym (is.points q) ∙ held)

-- a point of the window is the same point of the screen, whichever way it is found
pub placed_back : (area : Edges) (corner p : Point) →
    before_shift (screen_point (from_corner area corner) (before_shift p corner)) (from_corner area zero_point) ≡ p
placed_back area corner p = points _ _ _ _ (omega (arith, ints)) (omega (arith, ints))

-- ---- visible points of a leaf of a stage

module _ {C M : Type 0} (client : Ghosts C M) where
  -- some visible points of a leaf, by the tree that the stage's surface shows
  pub record AreSeen (s : StageView C M) (t : Seen) (leaf : LeafId) (part : List Edges) : Type 0 where
    pub stands : Stands client s
    pub tree : t ≡ (state client s).tree
    pub list : IsCanonical part
    pub visible : (p : Point) → holds part p ≡ true → is_visible (state client s) leaf p ≡ true

  -- they lie on the greatest screen
  pub seen_on : {s : StageView C M} {t : Seen} {leaf : LeafId} {part : List Edges} → AreSeen s t leaf part → RegionLiesOn greatest_screen part
  seen_on {s} {t} {leaf} {part} are =
      on_greatest s.screen.size part are.stands.picture.size (part_on client (state client s) leaf part s.screen.size are.stands.agrees.size are.visible)

  -- and in the leaf's rectangle
  seen_within : {s : StageView C M} {t : Seen} {leaf : LeafId} {part : List Edges} → AreSeen s t leaf part → IsRect (leaf_domain t leaf) →
      (p : Point) → holds part p ≡ true → has_point (leaf_domain t leaf) p ≡ true
  seen_within {s} {t} {leaf} {part} are rect p held =
      ap (λ (q : Point). has_point (leaf_domain t leaf) q) (sym (placed-in_leaf t leaf p))
      ∙ in_domain (leaf_domain t leaf) (in_leaf t leaf p) rect
      (leaf_within t leaf p (subst (λ (u : Seen). IsForest u.nodes) (sym are.tree) are.stands.forest)
      (ap (λ (u : Seen). is_in_leaf leaf (spot u p)) are.tree ∙ are.visible p held))

  -- so their extents do
  pub seen_placed : {s : StageView C M} {t : Seen} {leaf : LeafId} {part : List Edges} {area : Edges} → AreSeen s t leaf part →
      IsRect (leaf_domain t leaf) → (part ≡ [] → ⊥) → area ≡ extents_of part → IsPlaced area (leaf_domain t leaf)
  seen_placed {s} {t} {leaf} {part} {area} are rect some is =
      let order = AreInOrder-canonical part are.list in
      let full : ((extents_of part) ≡ empty_rect → ⊥) = λ e. some ((no_extents part order).0 e) in
      subst (λ (e : Edges). IsPlaced e (leaf_domain t leaf)) (sym is) (record {
        full = IsFull-some part some order;
        on = extents_between part (whole_of greatest_screen) order full (seen_on are);
        within = extents_between part (leaf_domain t leaf) order full (seen_within are rect);
      })
