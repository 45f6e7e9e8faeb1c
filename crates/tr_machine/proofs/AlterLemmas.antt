-- An edit of the tree: the good points show what they are to show in the edited tree.
use Rattle.std.proofs.Common.{◌≡◌, ℕ, Bool, true, false, cond, not, ◌&&◌, ◌||◌, ◌==◌, ◌⊎◌, inl, inr, Option, Some, None, refl, sym, ap, subst, ◌∙◌, arith}
use Rattle.std.specs.Option.{option_map}
use Rattle.std.proofs.Math.Path.{fun_ext}
use Rattle.std.proofs.lemmas.Bool.Decides.{nat_tests}
use Rattle.tr_base.specs.declared.Point.{Point}
use Rattle.tr_base.specs.declared.Size.{Size}
use Rattle.tr_base.specs.declared.Kind.{Kind}
use Rattle.tr_base.specs.declared.LeafId.{LeafId}
use Rattle.tr_base.specs.declared.NodeId.{NodeId}
use Rattle.tr_base.specs.declared.Spot.{Spot}
use Rattle.tr_base.specs.declared.Spot.TheVariants as spots
use Rattle.tr_base.specs.declared.Op.TheVariants.{Set}
use Rattle.tr_base.specs.Ops.{eff, same_kind}
use Rattle.tr_base.specs.Layouts.{IsDomain}
use Rattle.tr_base.specs.Rects.{has_point}
use Rattle.tr_base.proofs.RectLemmas.{false-true}
use Rattle.tr_base.proofs.KindLemmas.{kinds_equal}
use Rattle.tr_screen.specs.Pictures.{pixel_of}
use Rattle.tr_paint.specs.Batches.{touches}
use Rattle.tr_paint.specs.Traces.{look_of}
use Rattle.tr_exec.proofs.PlacedLemmas.{points}
use Rattle.tr_client.specs.declared.clients.Client.{Ghosts}
use Rattle.tr_client.specs.Laws.{IsWindowSize, Survives}
use Rattle.tr_forest.specs.declared.Edit.{Edit}
use Rattle.tr_forest.specs.Nodes.{node_of}
use Rattle.tr_forest.specs.Forests.{IsForest}
use Rattle.tr_tree.specs.Trees.{Seen, edited_tree}
use Rattle.tr_tree.specs.Places.{domain}
use Rattle.tr_spot.specs.Spots.{spot, is_in_leaf}
use Rattle.tr_spot.specs.Leaves.{in_leaf, leaf_size, same_size}
use Rattle.tr_spot.proofs.LeafLemmas.{IsPartOf, part_of}
use Rattle.tr_spot.proofs.WayLemmas.{and_left, and_right, equal_numbers, equal_test}
use Rattle.tr_spot.proofs.SpotLemmas.{leaf_by_number}
use Rattle.tr_surface.specs.Surfaces.{Shown, IsShown, is_on, is_bad}
use Rattle.tr_surface.specs.TreeSteps.{WindowFacts, bad_after_edit, good_after, is_kept, moved_child, same_point, source, survives}
use Rattle.tr_surface.proofs.KnownLemmas.{IsGood, good_parts}
use Rattle.tr_mail.specs.Deliveries.{is_reshaped}
use Rattle.tr_machine.specs.Windows.{Window, content, updated}
use Rattle.tr_machine.specs.States.{State, leaf_batch, content_of, look, window_of}
use Rattle.tr_machine.specs.Edits.{altered, points_kept, refitted, window_facts}
use Rattle.tr_machine.specs.Paintings.{is_visible}
use Rattle.tr_machine.specs.Pictures.{colour_by, content_colour, shown, shown_of}
use Rattle.tr_machine.specs.Promises.{Fits}
use Rattle.tr_machine.proofs.ListLemmas.{refitted_window}
use Rattle.tr_machine.proofs.ShownLemmas.{IsShowing, colour_look, untouched_colour}

-- ---- tests that tell equal things

-- sizes that pass the test are equal
pub sizes_equal : (a b : Size) → same_size a b ≡ true → a ≡ b
sizes_equal a b h =
    ap (λ n. record { wide = n; high = a.high }) (equal_numbers a.wide b.wide (and_left (a.wide == b.wide) (a.high == b.high) h))
    ∙ ap (λ n. record { wide = b.wide; high = n }) (equal_numbers a.high b.high (and_right (a.wide == b.wide) (a.high == b.high) h))

-- and points
points_equal : (p q : Point) → same_point p q ≡ true → p ≡ q
points_equal p q h = points p.h p.v q.h q.v (grind (arith, nat_tests)) (grind (arith, nat_tests))

-- ---- windows

-- where no domain is larger than a window may be, each leaf has the size of a window
pub window_size : (t : Seen) → ((n : NodeId) → IsDomain (domain t n)) → (leaf : LeafId) → IsWindowSize (leaf_size t leaf)
window_size t small leaf = let d : IsDomain (domain t (node_of t.nodes leaf)) = small (node_of t.nodes leaf) in record { wide = d.wide; high = d.high }

-- ---- spots that survive

-- a point of a leaf lasts from one tree to the next: it keeps its place in the window, whose size stays, or which keeps the point
record IsLasting (k : WindowFacts) (was is : Seen) (leaf : LeafId) (from to : Point) : Type 0 where
  point : in_leaf was leaf from ≡ in_leaf is leaf to
  kind : same_kind was.kind is.kind ≡ true
  size : (same_size (leaf_size was leaf) (leaf_size is leaf) ≡ true)
      ⊎ ((same_size (leaf_size was leaf) (leaf_size is leaf) ≡ false)
      × (is_kept k leaf (leaf_size was leaf) (leaf_size is leaf) (in_leaf is leaf to) ≡ true))

-- the spot of a leaf's point
abbrev part : Seen → LeafId → Point → Spot
part t leaf p = spots.Leaf leaf (in_leaf t leaf p) (leaf_size t leaf) t.kind

-- points of two leaves survive only if these are one leaf
one_leaf : (k : WindowFacts) (was is : Seen) (a b : LeafId) (from to : Point) → survives k (part was a from) (part is b to) ≡ true → a ≡ b
one_leaf k was is a b from to h =
    by_test (a.0 == b.0) (same_point (in_leaf was a from) (in_leaf is b to)) (same_size (leaf_size was a) (leaf_size is b)) (same_kind was.kind is.kind) refl h
  where
    by_test : (n e z w : Bool) → (a.0 == b.0) ≡ n →
        ((((n && e) && z) && w) || ((((n && e) && w) && not z) && is_kept k a (leaf_size was a) (leaf_size is b) (in_leaf is b to))) ≡ true → a ≡ b
    by_test true e z w same g = leaf_by_number a b (equal_numbers a.0 b.0 same)
    by_test false e z w other g = absurd (false-true g)

-- a point of one leaf that survives lasts
lasting : (k : WindowFacts) (was is : Seen) (leaf : LeafId) (from to : Point) → survives k (part was leaf from) (part is leaf to) ≡ true →
    IsLasting k was is leaf from to
lasting k was is leaf from to h =
    by_tests (leaf.0 == leaf.0) (same_point (in_leaf was leaf from) (in_leaf is leaf to)) (same_size (leaf_size was leaf) (leaf_size is leaf))
    (same_kind was.kind is.kind) (is_kept k leaf (leaf_size was leaf) (leaf_size is leaf) (in_leaf is leaf to)) refl refl refl refl h
  where
    by_tests : (n e z w kept : Bool) → same_point (in_leaf was leaf from) (in_leaf is leaf to) ≡ e →
        same_size (leaf_size was leaf) (leaf_size is leaf) ≡ z → same_kind was.kind is.kind ≡ w →
        is_kept k leaf (leaf_size was leaf) (leaf_size is leaf) (in_leaf is leaf to) ≡ kept →
        ((((n && e) && z) && w) || ((((n && e) && w) && not z) && kept)) ≡ true → IsLasting k was is leaf from to
    by_tests true true true true kept point size kind keeps g =
        record { point = points_equal _ _ point; kind = kind; size = inl size }
    by_tests true true false true true point size kind keeps g =
        record { point = points_equal _ _ point; kind = kind; size = inr (size, keeps) }
    by_tests true true true false kept point size kind keeps g = absurd (false-true g)
    by_tests true true false true false point size kind keeps g = absurd (false-true g)
    by_tests true true false false kept point size kind keeps g = absurd (false-true g)
    by_tests true false z w kept point size kind keeps g = absurd (false-true g)
    by_tests false e z w kept point size kind keeps g = absurd (false-true g)

-- frames that survive have one colour
frames_last : (m n : NodeId) (a b : ℕ) (old new : Kind) → ((((m.0 == n.0) && (a == b)) && same_kind old new) || false) ≡ true →
    eff old (Set a) 0 ≡ eff new (Set b) 0
frames_last m n a b old new h = by_tests (m.0 == n.0) (a == b) (same_kind old new) refl refl h
  where
    by_tests : (x y z : Bool) → (a == b) ≡ y → same_kind old new ≡ z → (((x && y) && z) || false) ≡ true → eff old (Set a) 0 ≡ eff new (Set b) 0
    by_tests true true true tint kind g =
        ap (λ (k : Kind). eff k (Set a) 0) (kinds_equal old new kind) ∙ ap (λ (t : ℕ). eff new (Set t) 0) (equal_numbers a b tint)
    by_tests true true false tint kind g = absurd (false-true g)
    by_tests true false z tint kind g = absurd (false-true g)
    by_tests false y z tint kind g = absurd (false-true g)

module _ {C M : Type 0} (client : Ghosts C M) where
  -- what the windows keep has the same colours at both sizes
  pub record KeepsColours (m : State C M) : Type 0 where
    pub each : (leaf : LeafId) (w : Window C M) → window_of m leaf ≡ Some w → (from to : Size) → IsWindowSize from → IsWindowSize to →
        Survives (client.keeps (content client w) from to) from to
        (client.pic (look m) from (content client w)) (client.pic (look m) to (content client w))

  -- A surface before and after its tree is edited, as the contract has it. What is kept is what the state's windows keep, with the same
  -- colours, and all windows have the sizes of windows.
  pub record IsAlter (m : State C M) (edit : Edit) (s n : Shown) : Type 0 where
    pub was : IsShown s
    pub is : IsShown n
    pub showing : IsShowing client m s
    pub fits : Fits client m
    pub keeps : KeepsColours m
    pub tree : n.tree ≡ edited_tree s.tree edit
    pub kept : WindowFacts
    pub kept_is : kept ≡ window_facts client m
    pub bad : (p : Point) → is_bad n p ≡ bad_after_edit kept s.tree n.tree edit (is_bad s) p
    pub pixels : (p : Point) → good_after kept s.tree n.tree edit (is_bad s) p ≡ true →
        pixel_of n.screen p ≡ pixel_of s.screen (source s.tree n.tree edit p)
    pub old_sizes : (leaf : LeafId) → IsWindowSize (leaf_size s.tree leaf)
    pub new_sizes : (leaf : LeafId) → IsWindowSize (leaf_size n.tree leaf)

  -- ---- the colours of points that last

  module _ (m : State C M) (edit : Edit) (s n : Shown) (a : IsAlter m edit s n) where
    -- the edited tree
    abbrev is : Seen
    is = edited_tree m.tree edit

    -- the next state
    abbrev next : State C M
    next = altered client edit m

    -- the surface's tree is the state's
    same_tree : n.tree ≡ is
    same_tree = a.tree ∙ ap (λ (t : Seen). edited_tree t edit) a.showing.tree

    -- the nodes of both trees are forests
    old_forest : IsForest m.tree.nodes
    old_forest = subst (λ (t : Seen). IsForest t.nodes) a.showing.tree a.was.forest

    -- those of the edited one
    new_forest : IsForest is.nodes
    new_forest = subst (λ (t : Seen). IsForest t.nodes) same_tree a.is.forest

    -- the windows of both trees have the sizes of windows
    old_size : (leaf : LeafId) → IsWindowSize (leaf_size m.tree leaf)
    old_size = subst (λ (t : Seen). (leaf : LeafId) → IsWindowSize (leaf_size t leaf)) a.showing.tree a.old_sizes

    -- those of the edited one
    new_size : (leaf : LeafId) → IsWindowSize (leaf_size is leaf)
    new_size = subst (λ (t : Seen). (leaf : LeafId) → IsWindowSize (leaf_size t leaf)) same_tree a.new_sizes

    -- what a leaf shows then
    shown_then : (leaf : LeafId) → shown_of next leaf ≡ option_map (λ w. w.shown) (option_map (refitted client m.tree is leaf) (window_of m leaf))
    shown_then leaf = ap (λ (o : Option (Window C M)). option_map (λ w. w.shown) o) (refitted_window client m.tree is m.windows leaf)

    -- a window whose size and kind stay shows what it showed
    shown_still : (leaf : LeafId) → is_reshaped m.tree is leaf ≡ false → shown_of next leaf ≡ shown_of m leaf
    shown_still leaf stays = shown_then leaf ∙ by_window (window_of m leaf)
      where
        by_window : (o : Option (Window C M)) → option_map (λ w. w.shown) (option_map (refitted client m.tree is leaf) o) ≡ option_map (λ w. w.shown) o
        by_window None = refl
        by_window (Some w) = ap (λ b. Some ((cond b (updated client w) w).shown)) stays

    -- another one shows its content
    shown_anew : (leaf : LeafId) → is_reshaped m.tree is leaf ≡ true → shown_of next leaf ≡ content_of client m leaf
    shown_anew leaf changes = shown_then leaf ∙ by_window (window_of m leaf)
      where
        by_window : (o : Option (Window C M)) → option_map (λ w. w.shown) (option_map (refitted client m.tree is leaf) o) ≡ option_map (content client) o
        by_window None = refl
        by_window (Some w) = ap (λ b. Some ((cond b (updated client w) w).shown)) changes

    -- a point that a window keeps has its content's colour at both sizes
    kept_colour : (leaf : LeafId) (q : Point) → has_point (points_kept client (window_of m leaf) (leaf_size m.tree leaf) (leaf_size is leaf)) q ≡ true →
        content_colour client m (leaf_size m.tree leaf) q (content_of client m leaf) ≡ content_colour client m (leaf_size is leaf) q (content_of client m leaf)
    kept_colour leaf q has = by_window (window_of m leaf) refl has
      where
        by_window : (o : Option (Window C M)) → window_of m leaf ≡ o →
            has_point (points_kept client o (leaf_size m.tree leaf) (leaf_size is leaf)) q ≡ true →
            content_colour client m (leaf_size m.tree leaf) q (option_map (content client) o)
            ≡ content_colour client m (leaf_size is leaf) q (option_map (content client) o)
        by_window None e h = refl
        by_window (Some w) e h =
            (a.keeps.each leaf w e (leaf_size m.tree leaf) (leaf_size is leaf) (old_size leaf) (new_size leaf)).colours q h

    -- a good point of a leaf that lasts has its colour still
    leaf_lasts : (leaf : LeafId) (from to : Point) → is_visible m leaf from ≡ true → m.bad from ≡ false →
        IsLasting (window_facts client m) m.tree is leaf from to →
        content_colour client m (leaf_size m.tree leaf) (in_leaf m.tree leaf from) (shown_of m leaf)
        ≡ content_colour client next (leaf_size is leaf) (in_leaf is leaf to) (shown_of next leaf)
    leaf_lasts leaf from to seen good last = by_size last.size ∙ sym (colour_look client m next (leaf_size is leaf) r (shown_of next leaf) same_look)
      where
        same_look : look next ≡ look m
        same_look = ap (λ (kind : Kind). look_of kind m.font) (sym (kinds_equal m.tree.kind is.kind last.kind))

        q : Point
        q = in_leaf m.tree leaf from

        r : Point
        r = in_leaf is leaf to

        untrue : (b : Bool) → not b ≡ true → b ≡ false
        untrue true h = sym h
        untrue false h = refl

        by_size : (same_size (leaf_size m.tree leaf) (leaf_size is leaf) ≡ true)
            ⊎ ((same_size (leaf_size m.tree leaf) (leaf_size is leaf) ≡ false)
            × (is_kept (window_facts client m) leaf (leaf_size m.tree leaf) (leaf_size is leaf) r ≡ true)) →
            content_colour client m (leaf_size m.tree leaf) q (shown_of m leaf) ≡ content_colour client m (leaf_size is leaf) r (shown_of next leaf)
        by_size (inl same) =
            let stays : is_reshaped m.tree is leaf ≡ false = ap (λ b. not (b && same_kind m.tree.kind is.kind)) same ∙ ap not last.kind in
            ap (λ (z : Size). content_colour client m z q (shown_of m leaf)) (sizes_equal _ _ same)
            ∙ ap (λ (x : Point). content_colour client m (leaf_size is leaf) x (shown_of m leaf)) last.point
            ∙ ap (λ (o : Option C). content_colour client m (leaf_size is leaf) r o) (sym (shown_still leaf stays))
        by_size (inr both) =
            let changes : is_reshaped m.tree is leaf ≡ true = ap (λ b. not (b && same_kind m.tree.kind is.kind)) both.0 in
            let held : Bool = has_point (points_kept client (window_of m leaf) (leaf_size m.tree leaf) (leaf_size is leaf)) q in
            let alone : Bool = not (touches (leaf_batch client m leaf) q) in
            let kept : (held && alone) ≡ true =
            ap (λ (x : Point). is_kept (window_facts client m) leaf (leaf_size m.tree leaf) (leaf_size is leaf) x) last.point ∙ both.1 in
            untouched_colour client m leaf from a.fits seen good (untrue (touches (leaf_batch client m leaf) q) (and_right held alone kept))
            ∙ kept_colour leaf q (and_left held alone kept)
            ∙ ap (λ (x : Point). content_colour client m (leaf_size is leaf) x (content_of client m leaf)) last.point
            ∙ ap (λ (o : Option C). content_colour client m (leaf_size is leaf) r o) (sym (shown_anew leaf changes))

    -- a good point that survives has its colour still
    spot_lasts : (from to : Point) → m.bad from ≡ false → survives (window_facts client m) (spot m.tree from) (spot is to) ≡ true →
        shown client m from ≡ shown client next to
    spot_lasts from to good lasts = by_spots (spot m.tree from) (spot is to) refl refl lasts
      where
        k : WindowFacts
        k = window_facts client m

        old_colour : (x : Spot) → spot m.tree from ≡ x → shown client m from ≡ colour_by client (shown_of m) m x
        old_colour x e = ap (λ (s : Spot). colour_by client (shown_of m) m s) e

        new_colour : (y : Spot) → spot is to ≡ y → colour_by client (shown_of next) next y ≡ shown client next to
        new_colour y e = sym (ap (λ (s : Spot). colour_by client (shown_of next) next s) e)

        by_leaves : (b c : LeafId) → is_visible m b from ≡ true → is_visible next c to ≡ true → shown client m from ≡ shown client next to
        by_leaves b c was_seen is_seen =
            let was_part : IsPartOf m.tree b from = part_of m.tree old_forest b from was_seen in
            let is_part : IsPartOf is c to = part_of is new_forest c to is_seen in
            let h : survives k (part m.tree b from) (part is c to) ≡ true =
            sym (ap (λ (x : Spot). survives k x (spot is to)) was_part.is ∙ ap (λ (y : Spot). survives k (part m.tree b from) y) is_part.is) ∙ lasts in
            let Goal : LeafId → Type 0 = λ l. survives k (part m.tree b from) (part is l to) ≡ true →
            colour_by client (shown_of m) m (part m.tree b from) ≡ colour_by client (shown_of next) next (part is l to) in
            let same : Goal c = subst Goal (one_leaf k m.tree is b c from to h)
            (λ g. leaf_lasts b from to was_seen good (lasting k m.tree is b from to g)) in
            old_colour (part m.tree b from) was_part.is ∙ same h ∙ new_colour (part is c to) is_part.is

        by_spots : (x y : Spot) → spot m.tree from ≡ x → spot is to ≡ y → survives k x y ≡ true → shown client m from ≡ shown client next to
        by_spots (spots.Leaf b p z old) (spots.Leaf c r w new) was_at is_at h =
            by_leaves b c (ap (λ (x : Spot). is_in_leaf b x) was_at ∙ equal_test b.0 b.0 refl)
            (ap (λ (y : Spot). is_in_leaf c y) is_at ∙ equal_test c.0 c.0 refl)
        by_spots (spots.Frame i b old) (spots.Frame j c new) was_at is_at h =
            old_colour (spots.Frame i b old) was_at ∙ frames_last i j b c old new h ∙ new_colour (spots.Frame j c new) is_at
        by_spots spots.Off spots.Off was_at is_at h = old_colour spots.Off was_at ∙ new_colour spots.Off is_at
        by_spots x y was_at is_at h = absurd (false-true h)

    -- ---- the surface after the edit

    -- the kept points, the trees and the bad points are the state's
    by_state : {X : Type 0} (f : WindowFacts → Seen → Seen → (Point → Bool) → X) →
        f a.kept s.tree n.tree (is_bad s) ≡ f (window_facts client m) m.tree is m.bad
    by_state f =
        ap (λ (k : WindowFacts). f k s.tree n.tree (is_bad s)) a.kept_is
        ∙ ap (λ (t : Seen). f (window_facts client m) t n.tree (is_bad s)) a.showing.tree
        ∙ ap (λ (t : Seen). f (window_facts client m) m.tree t (is_bad s)) same_tree
        ∙ ap (λ (b : Point → Bool). f (window_facts client m) m.tree is b) (fun_ext a.showing.bad)

    -- a point of the screen that isn't bad is good
    is_good : (p : Point) → is_on is p ≡ true → next.bad p ≡ false → good_after (window_facts client m) m.tree is edit m.bad p ≡ true
    is_good p on fine = by_tests (is_on is p) (good_after (window_facts client m) m.tree is edit m.bad p) on fine
      where
        by_tests : (b c : Bool) → b ≡ true → (b && not c) ≡ false → c ≡ true
        by_tests true true h k = refl
        by_tests true false h k = sym k
        by_tests false c h k = absurd (false-true h)

    -- it has the pixel of the point that it comes from, and that point's colour
    altered_good : (p : Point) → is_on is p ≡ true → next.bad p ≡ false → pixel_of n.screen p ≡ shown client next p
    altered_good p on fine =
        let good : good_after (window_facts client m) m.tree is edit m.bad p ≡ true = is_good p on fine in
        let g : IsGood (window_facts client m) m.tree is (moved_child m.tree edit) m.bad p =
        good_parts (window_facts client m) m.tree is (moved_child m.tree edit) m.bad p good in
        a.pixels p (by_state (λ k was now bad. good_after k was now edit bad p) ∙ good)
        ∙ ap (λ (x : Point). pixel_of s.screen x) (by_state (λ k was now bad. source was now edit p))
        ∙ a.showing.agrees.good (source m.tree is edit p) g.was_on g.was_good
        ∙ spot_lasts (source m.tree is edit p) p g.was_good g.lasts

    -- after an edit the surface shows the machine's next state
    pub alter_shows : IsShowing client (altered client edit m) n
    alter_shows = record {
      tree = same_tree;
      bad = λ p. a.bad p ∙ by_state (λ k was now bad. bad_after_edit k was now edit bad p);
      agrees = record {
        size = a.is.size ∙ ap (λ (t : Seen). t.size) same_tree;
        kind = a.is.kind ∙ ap (λ (t : Seen). t.kind) same_tree;
        good = altered_good;
      };
    }
