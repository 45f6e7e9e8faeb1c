-- Each pixel that a stage is to show is a value of its kind.
use Rattle.std.proofs.Common.{◌≡◌, ℕ, pos, ◌<◌, ◌^◌, Bool, true, false, cond, List, [], ◌∷◌, length, inl, inr, Option, Some, None, refl, sym, ap, subst, ◌∙◌, arith}
use Rattle.std.specs.Prelude.{map}
use Rattle.std.specs.List.{list_all, range_with_len}
use Rattle.std.specs.Option.{option_map}
use Rattle.std.proofs.lemmas.Bool.{cases_lt, eq-eqb, lt-ltb}
use Rattle.std.proofs.lemmas.List.{get_or_past}
use Rattle.std.proofs.lemmas.List.FromFn.{get_or-map-range_with_len}
use Rattle.std.proofs.lemmas.Option.{slice_get_within}
use Rattle.tr_base.specs.declared.Point.{Point}
use Rattle.tr_base.specs.declared.Size.{Size}
use Rattle.tr_base.specs.declared.Kind.{Kind}
use Rattle.tr_base.specs.declared.NodeId.{NodeId}
use Rattle.tr_base.specs.declared.LeafId.{LeafId}
use Rattle.tr_base.specs.declared.Spot.{Spot}
use Rattle.tr_base.specs.declared.Spot.TheVariants as spots
use Rattle.tr_base.specs.Ops.{IsPixel, resolved, values_of}
use Rattle.tr_base.specs.Rects.{has_point, whole_of}
use Rattle.tr_base.proofs.OpLemmas.{pixel-bit, pixel-resolved}
use Rattle.tr_screen.specs.Pictures.{row_by}
use Rattle.tr_paint.specs.Traces.{Look}
use Rattle.tr_client.specs.declared.Client.{Ghosts}
use Rattle.tr_client.specs.Laws.{IsWindowSize}
use Rattle.tr_forest.specs.declared.NodeKind.{NodeKind}
use Rattle.tr_forest.specs.declared.NodeKind.TheVariants as kinds
use Rattle.tr_forest.specs.Nodes.{IsNode, new_entry, node}
use Rattle.tr_forest.specs.Forests.{IsForest}
use Rattle.tr_tree.specs.Trees.{Seen}
use Rattle.tr_spot.specs.Spots.{is_in_leaf, owner, spot, spot_below, spot_on}
use Rattle.tr_spot.specs.Leaves.{in_leaf, leaf_size}
use Rattle.tr_spot.proofs.LeafLemmas.{part_of}
use Rattle.tr_machine.specs.Windows.{Window, content}
use Rattle.tr_machine.specs.States.{State, content_of, look, window_of}
use Rattle.tr_machine.specs.Pictures.{colour_by, content_colour, render, want}
use Rattle.tr_mirror.specs.Standings.{has_pixel}
use Rattle.tr_mirror.specs.Streams.{HasItsPixels}
use Rattle.tr_serial.specs.Values.{IsPaintable}

-- ---- frames

-- a frame has the tint of a node, in the tree's kind
record IsTinted (t : Seen) (tint : ℕ) (kind : Kind) : Type 0 where
  of_node : NodeId
  is_tint : tint ≡ (node t.nodes of_node).tint
  is_kind : kind ≡ t.kind

frame_on : (t : Seen) (p : Point) (n m : NodeId) (tint : ℕ) (kind : Kind) (k : NodeKind) → spot_on t p n k ≡ spots.Frame m tint kind → IsTinted t tint kind
frame_on t p n m tint kind (kinds.Leaf leaf shapes) e = absurd (cc)
frame_on t p n m tint kind k e = record { of_node = n; is_tint = cc; is_kind = cc }

frame_below : (t : Seen) (p : Point) (m : NodeId) (tint : ℕ) (kind : Kind) (root : Option NodeId) →
    spot_below t p root ≡ spots.Frame m tint kind → IsTinted t tint kind
frame_below t p m tint kind None e = absurd (cc)
frame_below t p m tint kind (Some root) e = frame_on t p (owner t root p) m tint kind (node t.nodes (owner t root p)).kind e

frame_tinted : (t : Seen) (p : Point) (m : NodeId) (tint : ℕ) (kind : Kind) → spot t p ≡ spots.Frame m tint kind → IsTinted t tint kind
frame_tinted t p m tint kind = by_screen (has_point (whole_of t.size) p)
  where
    by_screen : (b : Bool) → cond b (spot_below t p t.nodes.root) spots.Off ≡ spots.Frame m tint kind → IsTinted t tint kind
    by_screen true e = frame_below t p m tint kind t.nodes.root e
    by_screen false e = absurd (cc)

-- ---- windows

module _ {C M : Type 0} (client : Ghosts C M) where
  -- what is told of a state: of its leaves, of which there are so many, and of its nodes
  pub record IsValued (count : ℕ) (m : State C M) : Type 0 where
    pub forest : IsForest m.tree.nodes
    pub windows : length m.windows ≡ count
    pub leaves : (leaf : LeafId) → leaf.0 < count → IsPaintable client m leaf
    pub tints : (n : NodeId) → IsNode m.tree.nodes n → (node m.tree.nodes n).tint < 2 ^ 8

  module _ (law : (look : Look) (size : Size) (x : C) (p : Point) → client.valid x → IsWindowSize size → IsPixel look.kind (client.pic look size x p))
      (count : ℕ) (m : State C M) (is : IsValued count m) where
    -- a leaf with a content is one of the windows
    there : (leaf : LeafId) (x : C) → content_of client m leaf ≡ Some x → leaf.0 < length m.windows
    there leaf x = by_window (window_of m leaf) refl
      where
        by_window : (o : Option (Window C M)) → window_of m leaf ≡ o → option_map (content client) o ≡ Some x → leaf.0 < length m.windows
        by_window None e h = absurd (cc)
        by_window (Some w) e h = slice_get_within m.windows leaf.0 w e

    -- the tint of a number that is no node's is 0
    tint_of : (n : NodeId) → (node m.tree.nodes n).tint < 2 ^ 8
    tint_of n = elim (cases_lt n.0 (length m.tree.nodes.entries)) [
      | inl below ↦ is.tints n (record { within = below })
      | inr beyond ↦ rw (get_or_past m.tree.nodes.entries n.0 (new_entry kinds.H 0) beyond) (omega arith)
    ]

    content_value : (leaf : LeafId) (q : Point) (o : Option C) → content_of client m leaf ≡ o →
        IsPixel m.tree.kind (content_colour client m (leaf_size m.tree leaf) q o)
    content_value leaf q None e = pixel-bit m.tree.kind 0 (omega arith)
    content_value leaf q (Some x) e =
        let leaves = is.leaves leaf (subst (λ (n : ℕ). leaf.0 < n) is.windows (there leaf x e)) in
        law (look m) (leaf_size m.tree leaf) x q (leaves.content x e) leaves.window

    spot_value : (p : Point) (s : Spot) → spot m.tree p ≡ s → IsPixel m.tree.kind (colour_by client (content_of client m) m s)
    spot_value p (spots.Leaf leaf q size kind) e =
        let inside = ap (λ (s : Spot). is_in_leaf leaf s) e ∙ eq-eqb leaf.0 leaf.0 refl in
        let part = part_of m.tree is.forest leaf p inside in
        subst (λ (s : Spot). IsPixel m.tree.kind (colour_by client (content_of client m) m s)) (sym part.is ∙ e)
        (content_value leaf (in_leaf m.tree leaf p) (content_of client m leaf) refl)
    spot_value p (spots.Frame n tint kind) e =
        let frame = frame_tinted m.tree p n tint kind e in
        subst (λ (k : Kind). IsPixel m.tree.kind (resolved k tint)) (sym frame.is_kind)
        (pixel-resolved m.tree.kind tint (subst (λ (x : ℕ). x < 2 ^ 8) (sym frame.is_tint) (tint_of frame.of_node)))
    spot_value p spots.Off e = pixel-bit m.tree.kind 0 (omega arith)

    want_value : (p : Point) → has_pixel m.tree.kind (want client m p) ≡ true
    want_value p = lt-ltb (want client m p) (values_of m.tree.kind) (spot_value p (spot m.tree p) refl)

    all_mapped : (f : ℕ → ℕ) (xs : List ℕ) → ((x : ℕ) → has_pixel m.tree.kind (f x) ≡ true) → list_all (has_pixel m.tree.kind) (map f xs) ≡ true
    all_mapped f [] each = refl
    all_mapped f (x ∷ xs) each = rw (each x) (all_mapped f xs each)

    pub render_values : HasItsPixels (render client m)
    render_values v below =
        let size = m.tree.size in
        let pixel : ℕ → ℕ = λ h. want client m (record { h = pos h; v = pos v }) in
        ap (λ (row : List ℕ). list_all (has_pixel m.tree.kind) row)
        (get_or-map-range_with_len (row_by size.wide (want client m)) 0 size.high v v [] below (omega arith))
        ∙ all_mapped pixel (range_with_len 0 size.wide) (λ h. want_value (record { h = pos h; v = pos v }))
