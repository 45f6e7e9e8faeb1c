-- A window none of whose visible points is bad, and whose waiting commands lose nothing: these points are known before the commands and after
-- them, so a flush comes to the same as a repaint. Where the window is whole, each of its points is visible.
use Rattle.std.proofs.Common.{◌≡◌, ℤ, pos, ◌+ℤ◌, ◌-ℤ◌, ◌≤ℤ◌, Bool, true, false, cond, not, ◌&&◌, List, ◌∷◌, [], ◌||◌, Option, Some, refl, sym, ap, ◌∙◌, get_or, length, ◌<◌, arith}
use Rattle.std.specs.Prelude.{is_none, unsigned_abs}
use Rattle.std.specs.Option.{option_map}
use Rattle.std.proofs.Math.Path.{fun_ext}
use Rattle.std.proofs.lemmas.Bool.{and_from, and_parts}
use Rattle.std.proofs.lemmas.Int.{ints}
use Rattle.tr_base.specs.declared.Point.{Point}
use Rattle.tr_base.specs.declared.LeafId.{LeafId}
use Rattle.tr_base.specs.Rects.{Edges, IsRect, between, has_point, whole_of}
use Rattle.tr_base.proofs.RectLemmas.{has_point-rect_of}
use Rattle.tr_base.proofs.LayoutLemmas.{ordered}
use Rattle.tr_region.specs.Points.{holds}
use Rattle.tr_paint.specs.Traces.{after}
use Rattle.tr_exec.specs.Executions.{screen_point}
use Rattle.tr_client.specs.declared.clients.Client.{Ghosts}
use Rattle.tr_spot.specs.Spots.{size_of}
use Rattle.tr_spot.specs.Leaves.{leaf_corner, leaf_size, in_leaf}
use Rattle.tr_spot.proofs.WayLemmas.{same_tests}
use Rattle.tr_surface.specs.Surfaces.{IsShown, Shown, is_bad}
use Rattle.tr_machine.specs.Windows.{Window}
use Rattle.tr_machine.specs.States.{State, base, leaf_batch, look, window_of}
use Rattle.tr_machine.specs.Paintings.{flushed, is_visible, repainted}
use Rattle.tr_machine.proofs.BaseLemmas.{base-lies}
use Rattle.tr_machine.proofs.ShownLemmas.{IsShowing, base_good, base_sees}
use Rattle.tr_machine.proofs.FlushLemmas.{brought, forest_of}
use Rattle.tr_windows.specs.declared.exposures.Exposure.{Exposure}
use Rattle.tr_windows.specs.Promises.{IsKnownWhole, LosesNothingOf}

-- ---- rectangles and regions

-- a distance within a length, from an edge on
between-placed : (low high x : ℤ) → low ≤ℤ high → between (pos 0) (pos (unsigned_abs (high -ℤ low))) x ≡ true →
    between low high (x +ℤ low) ≡ true
between-placed low high x order h = grind (arith, ints)

-- a point of a window is one of the window's rectangle, from its corner on
pub in_domain : (e : Edges) (q : Point) → IsRect e → has_point (whole_of (size_of e)) q ≡ true →
    has_point e (screen_point (record { h = e.west; v = e.north }) q) ≡ true
in_domain e q is h =
    let order = ordered e is in
    let both = and_parts (between (pos 0) (pos (size_of e).wide) q.h) (between (pos 0) (pos (size_of e).high) q.v)
    (sym (has_point-rect_of (pos 0) (pos (size_of e).wide) (pos 0) (pos (size_of e).high) q) ∙ h) in
    and_from _ _ (between-placed e.west e.east q.h order.0 both.0) (between-placed e.north e.south q.v order.1 both.1)

-- a region has the points of its first rectangle
pub first_holds : (rects : List Edges) (e : Edges) (p : Point) → 0 < length rects → get_or rects 0 e ≡ e → has_point e p ≡ true →
    holds rects p ≡ true
first_holds [] e p some same has = absurd (omega (arith, some))
first_holds (r ∷ rest) e p some same has = ap (λ b. b || holds rest p) (ap (λ (x : Edges). has_point x p) same ∙ has)

-- what is false where a test passes stays as it is if it is made false there
none_left : (a test : Bool) → (test ≡ true → a ≡ false) → a ≡ (a && not test)
none_left true true h = h refl
none_left true false h = refl
none_left false test h = refl

module _ {C M : Type 0} (client : Ghosts C M) where
  -- each point of a leaf's window is visible
  abbrev pub IsWhole : State C M → LeafId → Type 0
  IsWhole m leaf = (q : Point) → has_point (whole_of (leaf_size m.tree leaf)) q ≡ true → (base client m leaf).visible q ≡ true

  -- a window that has no bad point, and whose waiting commands lose nothing
  pub record IsAllKept (m : State C M) (s : Shown) (leaf : LeafId) (e : Exposure) : Type 0 where
    pub was : IsShown s
    pub showing : IsShowing client m s
    pub window : Window C M
    pub at : window_of m leaf ≡ Some window
    pub size : e.size ≡ leaf_size m.tree leaf
    pub whole : e.is_whole ≡ true → IsWhole m leaf
    pub good : (p : Point) → is_visible m leaf p ≡ true → is_bad s p ≡ false
    pub keeps : LosesNothingOf e (look m) (leaf_batch client m leaf)

  module _ (m : State C M) (s : Shown) (leaf : LeafId) (e : Exposure) (k : IsAllKept m s leaf e) where
    -- a visible point is known
    known_before : (q : Point) → (base client m leaf).visible q ≡ true → is_none ((base client m leaf).known q) ≡ false
    known_before q seen =
        let p : Point = screen_point (leaf_corner m.tree leaf) q in
        let good : m.bad p ≡ false = sym (k.showing.bad p) ∙ k.good p seen in
        ap is_none
        (base_good client m leaf q good
        ∙ ap (λ (o : Option (Window C M)). option_map (λ w. client.pic (look m) (leaf_size m.tree leaf) w.shown q) o) k.at)

    -- and so, where all points are visible, all of the window is
    known_whole : IsWhole m leaf → IsKnownWhole (leaf_size m.tree leaf) (base client m leaf)
    known_whole whole = record {
      visible = λ q. same_tests _ _ (base-lies client m leaf (forest_of client m s k.was k.showing) q) (whole q);
      known = λ q has. known_before q (whole q has);
    }

    -- a visible point is known after the waiting commands
    known_after : (p : Point) → is_visible m leaf p ≡ true →
        is_none (after (look m) (base client m leaf) (leaf_batch client m leaf) (in_leaf m.tree leaf p)) ≡ false
    known_after p seen =
        let q : Point = in_leaf m.tree leaf p in
        let there : (base client m leaf).visible q ≡ true = base_sees client m leaf p seen in
        k.keeps (base client m leaf) (λ whole. rw k.size (known_whole (k.whole whole))) q there (known_before q there)

    -- so none is bad after a flush, which comes to the same as a repaint
    pub flushed_is_repainted : flushed client leaf m ≡ repainted client leaf m
    flushed_is_repainted =
        let found : Point → Bool = λ p. is_none (after (look m) (base client m leaf) (leaf_batch client m leaf) (in_leaf m.tree leaf p)) in
        ap (λ (bad : Point → Bool). brought client leaf bad m)
        (fun_ext λ p. none_left ((flushed client leaf m).bad p) (is_visible m leaf p)
        (λ seen. ap (λ b. cond b (found p) (m.bad p)) seen ∙ known_after p seen))
