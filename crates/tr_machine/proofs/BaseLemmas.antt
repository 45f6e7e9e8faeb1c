-- What is known before and after a leaf's batch: alike bases, the points of a leaf, and what the base of a leaf shows.
use Rattle.std.proofs.Common.{◌≡◌, ℕ, Bool, true, false, cond, List, [], ◌∷◌, Some, None, refl, sym, ap, ◌∙◌}
use mathlib.Core.List.{reverse}
use Rattle.std.specs.Prelude.{IfSome}
use Rattle.std.specs.Option.{option_map}
use Rattle.tr_base.specs.declared.Point.{Point}
use Rattle.tr_base.specs.declared.LeafId.{LeafId}
use Rattle.tr_base.specs.declared.Spot.TheVariants as spots
use Rattle.tr_base.specs.Rects.{has_point, whole_of}
use Rattle.tr_paint.specs.declared.paints.Paint.{Paint}
use Rattle.tr_paint.specs.Traces.{Look, deed, Base, after_deed, trace, after}
use Rattle.tr_paint.specs.Patches.{LiesIn, Shows}
use Rattle.tr_paint.proofs.TraceLemmas.{done-same}
use Rattle.tr_exec.specs.Executions.{screen_point}
use Rattle.tr_exec.proofs.PlacedLemmas.{placed-before, before-placed}
use Rattle.tr_client.specs.declared.clients.Client.{Ghosts}
use Rattle.tr_forest.specs.Forests.{IsForest}
use Rattle.tr_tree.specs.Trees.{Seen}
use Rattle.tr_spot.specs.Spots.{spot, is_in_leaf}
use Rattle.tr_spot.specs.Leaves.{leaf_corner, leaf_size, in_leaf}
use Rattle.tr_spot.proofs.LeafLemmas.{part_of}
use Rattle.tr_machine.specs.Windows.{Window}
use Rattle.tr_machine.specs.States.{State, base, look, shown_at, window_of}
use Rattle.tr_machine.specs.Paintings.{is_visible}

-- ---- alike bases

-- two bases have the same visible points, and know the same of each of them
pub record AreAlike (a b : Base) : Type 0 where
  pub visible : (q : Point) → a.visible q ≡ b.visible q
  pub known : (q : Point) → b.visible q ≡ true → a.known q ≡ b.known q

-- over alike bases, commands traced back give the same colours
trace-alike : (look : Look) (a b : Base) → AreAlike a b → (batch : List Paint) (q : Point) → trace look a batch q ≡ trace look b batch q
trace-alike look a b alike [] q = ap (λ v. cond v (a.known q) None) (alike.visible q) ∙ by_sight (b.visible q) refl
  where
    by_sight : (v : Bool) → b.visible q ≡ v → cond v (a.known q) None ≡ cond v (b.known q) None
    by_sight true seen = alike.known q seen
    by_sight false unseen = refl
trace-alike look a b alike (c ∷ before) q =
    ap (λ v. cond v (after_deed look.kind (deed look c q) (trace look a before) q) None) (alike.visible q)
    ∙ ap (λ o. cond (b.visible q) o None) (done-same look.kind (deed look c q) _ _ q (λ r. trace-alike look a b alike before r))

-- a batch makes the same of alike bases
pub after-alike : (look : Look) (a b : Base) → AreAlike a b → (batch : List Paint) (q : Point) → after look a batch q ≡ after look b batch q
after-alike look a b alike batch q = trace-alike look a b alike (reverse batch) q

-- ---- the points of a leaf

-- a point of the window, placed on the screen and looked at again
pub in_leaf-placed : (t : Seen) (leaf : LeafId) (q : Point) → in_leaf t leaf (screen_point (leaf_corner t leaf) q) ≡ q
in_leaf-placed t leaf q = before-placed (leaf_corner t leaf) q

-- a point of the screen, looked at in the window and placed again
pub placed-in_leaf : (t : Seen) (leaf : LeafId) (p : Point) → screen_point (leaf_corner t leaf) (in_leaf t leaf p) ≡ p
placed-in_leaf t leaf p = placed-before (leaf_corner t leaf) p

-- a visible point of a leaf, by its place on the screen, lies in the leaf's window
pub leaf_within : (t : Seen) (leaf : LeafId) (p : Point) → IsForest t.nodes → is_in_leaf leaf (spot t p) ≡ true →
    has_point (whole_of (leaf_size t leaf)) (in_leaf t leaf p) ≡ true
leaf_within t leaf p forest seen = (part_of t forest leaf p seen).within

-- ---- the base of a leaf

module _ {C M : Type 0} (client : Ghosts C M) where
  -- its visible points are those of the screen that belong to the leaf
  pub base-visible : (m : State C M) (leaf : LeafId) (p : Point) → (base client m leaf).visible (in_leaf m.tree leaf p) ≡ is_visible m leaf p
  base-visible m leaf p = ap (λ (r : Point). is_visible m leaf r) (placed-in_leaf m.tree leaf p)

  -- its visible points lie in the leaf's window
  pub base-lies : (m : State C M) (leaf : LeafId) → IsForest m.tree.nodes → LiesIn (leaf_size m.tree leaf) (base client m leaf)
  base-lies m leaf forest q seen =
      ap (λ (r : Point). has_point (whole_of (leaf_size m.tree leaf)) r) (sym (in_leaf-placed m.tree leaf q))
      ∙ leaf_within m.tree leaf (screen_point (leaf_corner m.tree leaf) q) forest seen

  -- what it knows of them is the shown content's picture
  pub base-shows : (m : State C M) (leaf : LeafId) (w : Window C M) → window_of m leaf ≡ Some w →
      Shows (client.pic (look m) (leaf_size m.tree leaf) w.shown) (base client m leaf)
  base-shows m leaf w is q seen = by_good (m.bad (screen_point (leaf_corner m.tree leaf) q))
    where
      picture : Window C M → ℕ
      picture v = client.pic (look m) (leaf_size m.tree leaf) v.shown q

      by_good : (b : Bool) → IfSome (cond b None (shown_at client m leaf q)) (λ x. x ≡ picture w)
      by_good true = tt
      by_good false = rw is refl

  -- where a leaf has no window, nothing is known
  pub base-nothing : (m : State C M) (leaf : LeafId) → window_of m leaf ≡ None → (q : Point) → (base client m leaf).known q ≡ None
  base-nothing m leaf none q = by_good (m.bad (screen_point (leaf_corner m.tree leaf) q))
    where
      by_good : (b : Bool) → cond b None (shown_at client m leaf q) ≡ None
      by_good true = refl
      by_good false = ap (λ o. option_map (λ (w : Window C M). client.pic (look m) (leaf_size m.tree leaf) w.shown q) o) none
