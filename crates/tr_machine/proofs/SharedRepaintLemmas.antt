-- What waits is flushed, the bad leaves are repainted one after another at their shares, then the frames: what the state is then.
use Rattle.std.proofs.Common.{◌≡◌, ℕ, zero, suc, ◌+◌, ◌<◌, ◌≤◌, Bool, true, false, cond, ◌&&◌, ◌||◌, not, List, [], ◌∷◌, ◌++◌, Option, Some, None, length, ◌⊎◌, inl, inr, refl, sym, ap, subst, ◌∙◌, add-one, arith}
use Rattle.std.specs.Prelude.{⊤}
use Rattle.std.specs.Option.{option_map}
use Rattle.std.specs.List.{AllByRecursion}
use Rattle.std.proofs.lemmas.Bool.{cases_eq, cases_lt}
use Rattle.std.proofs.lemmas.List.{append-nil}
use Rattle.std.proofs.lemmas.Option.{slice_get_past}
use Rattle.tr_base.specs.declared.Point.{Point}
use Rattle.tr_base.specs.declared.LeafId.{LeafId}
use Rattle.tr_base.specs.Rects.{Edges}
use Rattle.tr_base.proofs.RectLemmas.{false-true}
use Rattle.tr_region.proofs.ListLemmas.{AllByRecursion-append}
use Rattle.tr_client.specs.declared.clients.Client.{Ghosts}
use Rattle.tr_forest.specs.Nodes.{Nodes, leaf_count}
use Rattle.tr_forest.specs.Forests.{IsForest}
use Rattle.tr_spot.specs.Spots.{HasRoot, spot}
use Rattle.tr_spot.proofs.SpotLemmas.{leaf_by_number}
use Rattle.tr_surface.specs.Surfaces.{is_on, is_frame}
use Rattle.tr_levels.specs.declared.Level.TheVariants.{Mu}
use Rattle.tr_journal.specs.declared.items.Item.{Item}
use Rattle.tr_journal.specs.declared.steps.Actor.TheVariants.{Painter}
use Rattle.tr_journal.specs.declared.steps.Step.{Step}
use Rattle.tr_journal.specs.declared.steps.Step.TheVariants.{Flush, PaintFrame}
use Rattle.tr_journal.specs.Journals.{JournalLine}
use Rattle.tr_journal.specs.Steps.{IsFor}
use Rattle.tr_journal.proofs.LevelLemmas.{lock_level}
use Rattle.tr_machine.specs.Windows.{Window, content, updated}
use Rattle.tr_machine.specs.States.{State, batch_in, leaf_batch, content_of, window_of}
use Rattle.tr_machine.specs.Paintings.{flushed, is_visible, repainted}
use Rattle.tr_machine.specs.Pictures.{want}
use Rattle.tr_machine.specs.Replays.{after_steps, replay, replay_from}
use Rattle.tr_machine.specs.SettleSteps.{frame_steps, is_frame_bad}
use Rattle.tr_machine.specs.SharedRepaints.{IsPaintedOf, all_bad_leaves, bad_leaves, flushes_below, flushing, has_bad, repainted_each, share_lines, waits}
use Rattle.tr_machine.proofs.FlushLemmas.{one_leaf}
use Rattle.tr_machine.proofs.JournalLemmas.{after_steps-append, replay-append}
use Rattle.tr_machine.proofs.ListLemmas.{window_here, window_there}
use Rattle.tr_machine.proofs.PointLemmas.{covered, none_on}
use Rattle.tr_machine.proofs.SettleLemmas.{no_batch, repainted-is}
use Rattle.tr_machine.proofs.ShownLemmas.{colour_same}

-- ---- small facts

numbered : ℕ → LeafId
numbered n = record { 0 = n }

-- leaves that are others than this one
abbrev pub AreOthers : LeafId → List LeafId → Type 0
AreOthers leaf leaves = AllByRecursion (λ (l : LeafId). l.0 ≡ leaf.0 → ⊥) leaves

-- a visible point of one of some leaves
abbrev pub in_any : {C M : Type 0} → State C M → List LeafId → Point → Bool
in_any m [] p = false
in_any m (leaf ∷ leaves) p = is_visible m leaf p || in_any m leaves p

-- ---- the bad leaves

-- each has a number below n
abbrev pub AreBelow : ℕ → List LeafId → Type 0
AreBelow n leaves = AllByRecursion (λ (l : LeafId). l.0 < n) leaves

below_more : (n : ℕ) (leaves : List LeafId) → AreBelow n leaves → AreBelow (suc n) leaves
below_more n [] all = tt
below_more n (l ∷ leaves) all = (omega (arith, all.0), below_more n leaves all.1)

module _ {C M : Type 0} where
  pub bad_below : (n : ℕ) (m : State C M) → AreBelow n (bad_leaves n m)
  bad_below zero m = tt
  bad_below (suc n) m =
      AllByRecursion-append (λ (l : LeafId). l.0 < suc n) (bad_leaves n m) _ (below_more n (bad_leaves n m) (bad_below n m))
      (by_test (has_bad m (record { 0 = n })))
    where
      by_test : (b : Bool) → AreBelow (suc n) (cond b (record { 0 = n } ∷ []) [])
      by_test true = (omega arith, tt)
      by_test false = tt

-- leaves below n are others than leaf n
others_below : (n : ℕ) (leaf : LeafId) (leaves : List LeafId) → n ≤ leaf.0 → AreBelow n leaves → AreOthers leaf leaves
others_below n leaf [] le all = tt
others_below n leaf (l ∷ leaves) le all = (λ e. omega (arith, e, all.0, le), others_below n leaf leaves le all.1)

-- leaves of which each is another than those that follow it
abbrev pub AreApart : List LeafId → Type 0
AreApart [] = ⊤
AreApart (l ∷ leaves) = AllByRecursion (λ (k : LeafId). k.0 ≡ l.0 → ⊥) leaves × AreApart leaves

apart_push : (leaves : List LeafId) (l : LeafId) → AreApart leaves → AreOthers l leaves → AreApart (leaves ++ l ∷ [])
apart_push [] l apart others = (tt, tt)
apart_push (x ∷ leaves) l apart others =
    (AllByRecursion-append (λ (k : LeafId). k.0 ≡ x.0 → ⊥) leaves (l ∷ []) apart.0 (λ e. others.0 (sym e), tt), apart_push leaves l apart.1 others.1)

module _ {C M : Type 0} where
  pub bad_apart : (n : ℕ) (m : State C M) → AreApart (bad_leaves n m)
  bad_apart zero m = tt
  bad_apart (suc n) m = by_test (bad_apart n m) (has_bad m (record { 0 = n }))
    where
      by_test : AreApart (bad_leaves n m) → (b : Bool) → AreApart (bad_leaves n m ++ cond b (record { 0 = n } ∷ []) [])
      by_test before true =
          apart_push (bad_leaves n m) (record { 0 = n }) before (others_below n (record { 0 = n }) (bad_leaves n m) (omega arith) (bad_below n m))
      by_test before false = subst AreApart (sym (append-nil (bad_leaves n m))) before

  in_any-append : (m : State C M) (xs ys : List LeafId) (p : Point) → in_any m (xs ++ ys) p ≡ (in_any m xs p || in_any m ys p)
  in_any-append m [] ys p = refl
  in_any-append m (x ∷ xs) ys p = ap (λ b. is_visible m x p || b) (in_any-append m xs ys p) ∙ assoc (is_visible m x p) (in_any m xs p) (in_any m ys p)
    where
      assoc : (a b c : Bool) → (a || (b || c)) ≡ ((a || b) || c)
      assoc true b c = refl
      assoc false b c = refl

  -- a visible point of a bad leaf is one of the bad leaves'
  pub bad_listed : (n : ℕ) (m : State C M) (leaf : LeafId) (p : Point) → leaf.0 < n → has_bad m leaf ≡ true → is_visible m leaf p ≡ true →
      in_any m (bad_leaves n m) p ≡ true
  bad_listed zero m leaf p lt has seen = absurd (omega (arith, lt))
  bad_listed (suc n) m leaf p lt has seen =
      in_any-append m (bad_leaves n m) _ p ∙ by_number (λ less. bad_listed n m leaf p less has seen) (cases_lt leaf.0 n)
    where
      last : Bool → List LeafId
      last b = cond b (record { 0 = n } ∷ []) []

      or_right : (a b : Bool) → b ≡ true → (a || b) ≡ true
      or_right true b h = refl
      or_right false b h = h

      by_number : (leaf.0 < n → in_any m (bad_leaves n m) p ≡ true) → (leaf.0 < n) ⊎ (n ≤ leaf.0) →
          (in_any m (bad_leaves n m) p || in_any m (last (has_bad m (record { 0 = n }))) p) ≡ true
      by_number before (inl less) = ap (λ b. b || in_any m (last (has_bad m (record { 0 = n }))) p) (before less)
      by_number before (inr le) =
          let same : leaf ≡ record { 0 = n } = leaf_by_number leaf (record { 0 = n }) (omega (arith, le, lt)) in
          or_right (in_any m (bad_leaves n m) p) _
          (ap (λ b. in_any m (last b) p) (ap (has_bad m) (sym same) ∙ has)
          ∙ ap (λ (l : LeafId). is_visible m l p || false) (sym same) ∙ ap (λ b. b || false) seen)

module _ {C M : Type 0} (client : Ghosts C M) where
  -- ---- the flushes

  updated_batch : (m : State C M) (leaf : LeafId) (o : Option (Window C M)) → batch_in client m leaf (option_map (updated client) o) ≡ []
  updated_batch m leaf None = refl
  updated_batch m leaf (Some w) = refl

  -- nothing waits for a leaf that is flushed
  flushed_here : (m : State C M) (leaf other : LeafId) → leaf.0 ≡ other.0 → leaf_batch client (flushed client leaf m) other ≡ []
  flushed_here m leaf other same =
      ap (batch_in client m other) (window_here leaf other (updated client) m same) ∙ updated_batch m other (window_of m other)

  -- what waits for another one stays
  flushed_there : (m : State C M) (leaf other : LeafId) → (leaf.0 ≡ other.0 → ⊥) → leaf_batch client (flushed client leaf m) other ≡ leaf_batch client m other
  flushed_there m leaf other apart = ap (batch_in client m other) (window_there leaf other (updated client) m apart)

  -- what waits for a leaf once the first n are flushed
  flushed_later : (n : ℕ) (m : State C M) (leaf : LeafId) → n ≤ leaf.0 →
      leaf_batch client (after_steps client m (flushes_below client n m)) leaf ≡ leaf_batch client m leaf
  flushed_later zero m leaf le = refl
  flushed_later (suc n) m leaf le =
      ap (λ (s : State C M). leaf_batch client s leaf) (after_steps-append client m (flushes_below client n m) _)
      ∙ by_test (waits client m (record { 0 = n })) ∙ flushed_later n m leaf (omega (arith, le))
    where
      s : State C M
      s = after_steps client m (flushes_below client n m)

      by_test : (b : Bool) → leaf_batch client (after_steps client s (cond b (Flush (record { 0 = n }) ∷ []) [])) leaf ≡ leaf_batch client s leaf
      by_test true = flushed_there s (record { 0 = n }) leaf (λ e. omega (arith, e, le))
      by_test false = refl

  flushed_before : (n : ℕ) (m : State C M) (leaf : LeafId) → leaf.0 < n → leaf_batch client (after_steps client m (flushes_below client n m)) leaf ≡ []
  flushed_before zero m leaf lt = absurd (omega (arith, lt))
  flushed_before (suc n) m leaf lt =
      ap (λ (s : State C M). leaf_batch client s leaf) (after_steps-append client m (flushes_below client n m) _)
      ∙ by_number (λ less. flushed_before n m leaf less) (cases_lt leaf.0 n)
    where
      s : State C M
      s = after_steps client m (flushes_below client n m)

      last : Bool → State C M
      last b = after_steps client s (cond b (Flush (record { 0 = n }) ∷ []) [])

      by_less : (b : Bool) → leaf.0 < n → leaf_batch client (last b) leaf ≡ leaf_batch client s leaf
      by_less true less = flushed_there s (record { 0 = n }) leaf (λ e. omega (arith, e, less))
      by_less false less = refl

      by_here : (b : Bool) → n ≡ leaf.0 → waits client m leaf ≡ b → leaf_batch client (last b) leaf ≡ []
      by_here true same is = flushed_here s (record { 0 = n }) leaf same
      by_here false same is = flushed_later n m leaf (omega (arith, same)) ∙ no_batch (leaf_batch client m leaf) is

      by_number : (leaf.0 < n → leaf_batch client s leaf ≡ []) → (leaf.0 < n) ⊎ (n ≤ leaf.0) →
          leaf_batch client (last (waits client m (record { 0 = n }))) leaf ≡ []
      by_number before (inl less) = by_less (waits client m (record { 0 = n })) less ∙ before less
      by_number before (inr le) =
          let same : n ≡ leaf.0 = omega (arith, le, lt) in
          by_here (waits client m (record { 0 = n })) same (ap (waits client m) (leaf_by_number leaf (record { 0 = n }) (sym same)))

  -- nothing waits once all are flushed
  pub flushed_all : (m : State C M) (leaf : LeafId) → leaf_batch client (after_steps client m (flushing client m)) leaf ≡ []
  flushed_all m leaf = by_number (cases_lt leaf.0 (length m.windows))
    where
      by_number : (leaf.0 < length m.windows) ⊎ (length m.windows ≤ leaf.0) → leaf_batch client (after_steps client m (flushing client m)) leaf ≡ []
      by_number (inl less) = flushed_before (length m.windows) m leaf less
      by_number (inr le) = flushed_later (length m.windows) m leaf le ∙ ap (batch_in client m leaf) (slice_get_past m.windows leaf.0 le)

  -- the flushes are for the painter, under the tree's lock
  flushes_for : (t : Nodes) (n : ℕ) (m : State C M) → n ≤ leaf_count t → AllByRecursion (IsFor t Painter (Mu ∷ [])) (flushes_below client n m)
  flushes_for t zero m le = tt
  flushes_for t (suc n) m le =
      AllByRecursion-append (IsFor t Painter (Mu ∷ [])) (flushes_below client n m) _ (flushes_for t n m (omega (arith, le)))
      (by_test (waits client m (record { 0 = n })))
    where
      by_test : (b : Bool) → AllByRecursion (IsFor {M = M} t Painter (Mu ∷ [])) (cond b (Flush (record { 0 = n }) ∷ []) [])
      by_test true = (record { own = record { may = refl; values = record { within = le } }; covers = refl; levels = lock_level t }, tt)
      by_test false = tt

  pub flushing-for : (t : Nodes) (m : State C M) → length m.windows ≡ leaf_count t → AllByRecursion (IsFor t Painter (Mu ∷ [])) (flushing client m)
  flushing-for t m many = flushes_for t (length m.windows) m (omega (arith, many))

  pub flush_more : (m : State C M) (n : ℕ) (steps : List (Step M)) → steps ≡ flushes_below client n m → waits client m (record { 0 = n }) ≡ true →
      steps ++ Flush (record { 0 = n }) ∷ [] ≡ flushes_below client (n + 1) m
  flush_more m n steps is must =
      rw (add-one) (ap (λ (xs : List (Step M)). xs ++ Flush (record { 0 = n }) ∷ []) is
      ∙ ap (λ b. flushes_below client n m ++ cond b (Flush (record { 0 = n }) ∷ []) []) (sym must))

  pub flush_less : (m : State C M) (n : ℕ) (steps : List (Step M)) → steps ≡ flushes_below client n m → waits client m (record { 0 = n }) ≡ false →
      steps ≡ flushes_below client (n + 1) m
  flush_less m n steps is quiet =
      rw (add-one) (is ∙ sym (append-nil (flushes_below client n m))
      ∙ ap (λ b. flushes_below client n m ++ cond b (Flush (record { 0 = n }) ∷ []) []) (sym quiet))

  -- ---- the repaints

  -- after a repaint nothing waits for a leaf for which nothing waited
  repainted_batch : (m : State C M) (leaf other : LeafId) → leaf_batch client m other ≡ [] → leaf_batch client (repainted client leaf m) other ≡ []
  repainted_batch m leaf other none = by_leaf (cases_eq leaf.0 other.0)
    where
      by_leaf : (leaf.0 ≡ other.0) ⊎ (leaf.0 ≡ other.0 → ⊥) → leaf_batch client (repainted client leaf m) other ≡ []
      by_leaf (inl same) = flushed_here m leaf other same
      by_leaf (inr apart) = flushed_there m leaf other apart ∙ none

  pub each_batch : (m : State C M) (leaves : List LeafId) → ((leaf : LeafId) → leaf_batch client m leaf ≡ []) → (leaf : LeafId) →
      leaf_batch client (repainted_each client m leaves) leaf ≡ []
  each_batch m [] none leaf = none leaf
  each_batch m (l ∷ leaves) none leaf = each_batch (repainted client l m) leaves (λ other. repainted_batch m l other (none other)) leaf

  -- each leaf has its content
  repainted_content : (m : State C M) (leaf other : LeafId) → content_of client (repainted client leaf m) other ≡ content_of client m other
  repainted_content m leaf other = by_leaf (cases_eq leaf.0 other.0)
    where
      painted : (o : Option (Window C M)) → option_map (content client) (option_map (updated client) o) ≡ option_map (content client) o
      painted None = refl
      painted (Some w) = refl

      by_leaf : (leaf.0 ≡ other.0) ⊎ (leaf.0 ≡ other.0 → ⊥) → content_of client (repainted client leaf m) other ≡ content_of client m other
      by_leaf (inl same) =
          ap (option_map (content client)) (window_here leaf other (updated client) m same) ∙ painted (window_of m other)
      by_leaf (inr apart) = ap (option_map (content client)) (window_there leaf other (updated client) m apart)

  repainted_want : (m : State C M) (leaf : LeafId) (p : Point) → want client (repainted client leaf m) p ≡ want client m p
  repainted_want m leaf p =
      colour_same client (content_of client m) (content_of client (repainted client leaf m)) m (repainted client leaf m) (spot m.tree p) refl
      (λ other here. repainted_content m leaf other)

  -- its visible points aren't bad, and the others are as they were
  repainted_bad : (m : State C M) (leaf : LeafId) (p : Point) → (repainted client leaf m).bad p ≡ (m.bad p && not (is_visible m leaf p))
  repainted_bad m leaf p = ap (λ (s : State C M). s.bad p) (repainted-is client m leaf)

  -- A leaf's painted points stay what they are when another leaf is repainted.
  painted_stays : (m : State C M) (leaf other : LeafId) (part : List Edges) (pixels : List ℕ) → (other.0 ≡ leaf.0 → ⊥) →
      IsPaintedOf client m leaf part pixels → IsPaintedOf client (repainted client other m) leaf part pixels
  painted_stays m leaf other part pixels apart is = record {
    points = λ p. is.points p ∙ by_sight p (is_visible m leaf p) refl (is_visible m other p) refl
        ∙ sym (ap (λ b. b && is_visible m leaf p) (repainted_bad m other p));
    many = is.many;
    colours = λ p held. is.colours p held ∙ sym (repainted_want m other p);
  }
    where
      by_sight : (p : Point) (c : Bool) → is_visible m leaf p ≡ c → (d : Bool) → is_visible m other p ≡ d →
          (m.bad p && is_visible m leaf p) ≡ ((m.bad p && not (is_visible m other p)) && is_visible m leaf p)
      by_sight p true seen true also = absurd (apart (ap (λ (l : LeafId). l.0) (one_leaf other leaf (spot m.tree p) also seen)))
      by_sight p c seen false hidden =
          ap (λ b. b && is_visible m leaf p) (sym (all (m.bad p)) ∙ sym (ap (λ b. m.bad p && not b) hidden))
        where
          all : (b : Bool) → (b && true) ≡ b
          all true = refl
          all false = refl
      by_sight p false hidden d other_is =
          ap (λ b. m.bad p && b) hidden ∙ none (m.bad p) ∙ sym (none (m.bad p && not (is_visible m other p)))
          ∙ sym (ap (λ b. (m.bad p && not (is_visible m other p)) && b) hidden)
        where
          none : (b : Bool) → (b && false) ≡ false
          none true = refl
          none false = refl

  -- when others are
  pub painted_each : (m : State C M) (leaves : List LeafId) (leaf : LeafId) (part : List Edges) (pixels : List ℕ) → AreOthers leaf leaves →
      IsPaintedOf client m leaf part pixels → IsPaintedOf client (repainted_each client m leaves) leaf part pixels
  painted_each m [] leaf part pixels others is = is
  painted_each m (l ∷ leaves) leaf part pixels others is =
      painted_each (repainted client l m) leaves leaf part pixels others.1 (painted_stays m leaf l part pixels others.0 is)

  -- which points are bad after them
  pub each_bad : (m : State C M) (leaves : List LeafId) (p : Point) → (repainted_each client m leaves).bad p ≡ (m.bad p && not (in_any m leaves p))
  each_bad m [] p = sym (all (m.bad p))
    where
      all : (b : Bool) → (b && true) ≡ b
      all true = refl
      all false = refl
  each_bad m (l ∷ leaves) p =
      each_bad (repainted client l m) leaves p ∙ ap (λ b. b && not (in_any m leaves p)) (repainted_bad m l p)
      ∙ both (m.bad p) (is_visible m l p) (in_any m leaves p)
    where
      both : (a b c : Bool) → ((a && not b) && not c) ≡ (a && not (b || c))
      both true true c = refl
      both true false c = refl
      both false b c = refl

  pub each_tree : (m : State C M) (leaves : List LeafId) → (repainted_each client m leaves).tree ≡ m.tree
  each_tree m [] = refl
  each_tree m (l ∷ leaves) = each_tree (repainted client l m) leaves

  -- ---- a row of shares

  -- the replay of their lines
  pub share_replay : (m : State C M) (leaves : List LeafId) → replay_from client m (share_lines client m leaves) ≡ repainted_each client m leaves
  share_replay m [] = refl
  share_replay m (l ∷ leaves) = share_replay (repainted client l m) leaves

  pub state_shared : (opening : List (Item C)) (lines : List (JournalLine M)) (leaves : List LeafId) →
      replay client opening (lines ++ share_lines client (replay client opening lines) leaves) ≡ repainted_each client (replay client opening lines) leaves
  state_shared opening lines leaves =
      replay-append client opening lines (share_lines client (replay client opening lines) leaves) ∙ share_replay (replay client opening lines) leaves

  -- ---- the end

  -- once the frames are painted too no point is bad
  pub framing_good : (s : State C M) → IsForest s.tree.nodes → HasRoot s.tree → ((p : Point) → s.bad p ≡ true → is_on s.tree p ≡ true) →
      ((leaf : LeafId) (p : Point) → leaf.0 < leaf_count s.tree.nodes → is_visible s leaf p ≡ true → s.bad p ≡ false) →
      (p : Point) → (after_steps client s (frame_steps s)).bad p ≡ false
  framing_good s forest root on leaves p = by_frames (is_frame_bad s) refl
    where
      by_bad : (b : Bool) → s.bad p ≡ b → is_frame (spot s.tree p) ≡ false → b ≡ false
      by_bad false e out = refl
      by_bad true e out = elim (covered s.tree p forest root (on p e)) [
        | inl own ↦ sym e ∙ leaves own.leaf p own.below own.visible
        | inr here ↦ absurd (false-true (sym out ∙ here))
      ]

      by_frame : (f : Bool) → is_frame (spot s.tree p) ≡ f → (s.bad p && not f) ≡ false
      by_frame true e = none (s.bad p)
        where
          none : (b : Bool) → (b && false) ≡ false
          none true = refl
          none false = refl
      by_frame false e = ap (λ b. b && true) (by_bad (s.bad p) refl e)

      by_point : (b f : Bool) → s.bad p ≡ b → is_frame (spot s.tree p) ≡ f → is_frame_bad s ≡ false → b ≡ false
      by_point false f e g none = refl
      by_point true true e g none =
          sym (sym (none_on s.tree.size (λ q. s.bad q && is_frame (spot s.tree q)) none p (on p e)) ∙ ap (λ b. b && is_frame (spot s.tree p)) e ∙ g)
      by_point true false e g none = by_bad true e g

      by_frames : (b : Bool) → is_frame_bad s ≡ b → (after_steps client s (cond b (PaintFrame ∷ []) [])).bad p ≡ false
      by_frames true e = by_frame (is_frame (spot s.tree p)) refl
      by_frames false e = by_point (s.bad p) (is_frame (spot s.tree p)) refl refl e

  pub framing_batch : (s : State C M) (leaf : LeafId) → leaf_batch client (after_steps client s (frame_steps s)) leaf ≡ leaf_batch client s leaf
  framing_batch s leaf = by_frames (is_frame_bad s)
    where
      by_frames : (b : Bool) → leaf_batch client (after_steps client s (cond b (PaintFrame ∷ []) [])) leaf ≡ leaf_batch client s leaf
      by_frames true = refl
      by_frames false = refl

  -- no visible point of a leaf is bad once all bad leaves are repainted
  pub repainted_good : (m : State C M) → length m.windows ≡ leaf_count m.tree.nodes → ((p : Point) → m.bad p ≡ true → is_on m.tree p ≡ true) →
      (leaf : LeafId) (p : Point) → leaf.0 < leaf_count m.tree.nodes → is_visible m leaf p ≡ true → (repainted_each client m (all_bad_leaves m)).bad p ≡ false
  repainted_good m many on leaf p below seen =
      each_bad m (all_bad_leaves m) p ∙ by_bad (m.bad p) refl (has_bad m leaf) refl
    where
      rest : Bool
      rest = in_any m (all_bad_leaves m) p

      by_bad : (b : Bool) → m.bad p ≡ b → (h : Bool) → has_bad m leaf ≡ h → (b && not rest) ≡ false
      by_bad false e h g = refl
      by_bad true e true g = ap not (bad_listed (length m.windows) m leaf p (omega (arith, below, many)) g seen)
      by_bad true e false g =
          absurd (false-true (sym (none_on m.tree.size (λ q. m.bad q && is_visible m leaf q) g p (on p e)) ∙ ap (λ b. b && is_visible m leaf p) e ∙ seen))

-- ---- the steps that are made

module _ {C M : Type 0} where
  pub frame_more : (m : State C M) (steps : List (Step M)) → steps ≡ [] → is_frame_bad m ≡ true → steps ++ PaintFrame ∷ [] ≡ frame_steps m
  frame_more m steps none bad =
      ap (λ (xs : List (Step M)). xs ++ PaintFrame ∷ []) none ∙ ap (λ b. cond {A = List (Step M)} b (PaintFrame ∷ []) []) (sym bad)

  pub frame_less : (m : State C M) (steps : List (Step M)) → steps ≡ [] → is_frame_bad m ≡ false → steps ≡ frame_steps m
  frame_less m steps none good = none ∙ ap (λ b. cond {A = List (Step M)} b (PaintFrame ∷ []) []) (sym good)
