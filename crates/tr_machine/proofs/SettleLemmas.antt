-- The state after the steps that settle one: nothing waits, no point is bad, and each point shows what it is to show.
use Rattle.std.proofs.Common.{◌≡◌, ℕ, zero, suc, ◌<◌, ◌≤◌, ◌==◌, Bool, true, false, not, ◌&&◌, cond, List, [], ◌∷◌, Option, Some, None, length, inl, inr, refl, sym, ap, subst, ◌∙◌, arith}
use Rattle.std.proofs.Math.Path.{fun_ext}
use Rattle.std.specs.Prelude.{is_none}
use Rattle.std.specs.Option.{option_map}
use Rattle.std.specs.List.{AllByRecursion, slice_get}
use Rattle.std.proofs.lemmas.Option.{slice_get_past}
use Rattle.std.proofs.lemmas.Bool.{cases_lt, not-false, or_parts}
use Rattle.tr_base.specs.declared.Point.{Point}
use Rattle.tr_base.specs.declared.Size.{Size}
use Rattle.tr_base.specs.declared.LeafId.{LeafId}
use Rattle.tr_base.specs.declared.Spot.{Spot}
use Rattle.tr_base.specs.declared.Spot.TheVariants as spots
use Rattle.tr_base.specs.Rects.{has_point, whole_of}
use Rattle.tr_base.proofs.BoolLemmas.{and_false, and_true}
use Rattle.tr_region.proofs.ListLemmas.{AllByRecursion-append}
use Rattle.tr_paint.specs.declared.paints.Paint.{Paint}
use Rattle.tr_paint.specs.Patches.{IsPatch}
use Rattle.tr_exec.specs.Executions.{colour_after}
use Rattle.tr_client.specs.declared.clients.Client.{Ghosts}
use Rattle.tr_forest.specs.Nodes.{Nodes, leaf_count}
use Rattle.tr_forest.specs.Forests.{IsForest}
use Rattle.tr_spot.specs.Spots.{HasRoot, spot, is_in_leaf}
use Rattle.tr_spot.specs.Leaves.{in_leaf, leaf_corner, leaf_size}
use Rattle.tr_spot.proofs.LeafLemmas.{IsPartOf, part_of}
use Rattle.tr_spot.proofs.WayLemmas.{and_left, equal_numbers, equal_test}
use Rattle.tr_spot.proofs.SpotLemmas.{leaf_by_number}
use Rattle.tr_surface.specs.Surfaces.{is_on, is_frame}
use Rattle.tr_surface.specs.Counts.{any_on}
use Rattle.tr_levels.specs.declared.Level.TheVariants.{Mu}
use Rattle.tr_journal.specs.declared.steps.Actor.TheVariants.{Painter}
use Rattle.tr_journal.specs.declared.steps.Step.TheVariants.{Repaint, PaintFrame}
use Rattle.tr_journal.specs.Steps.{IsFor}
use Rattle.tr_journal.proofs.LevelLemmas.{lock_level}
use Rattle.tr_machine.specs.Windows.{Window, content, updated}
use Rattle.tr_machine.specs.States.{State, base, batch_in, leaf_batch, changed_at, content_of, look, window_of}
use Rattle.tr_machine.specs.Paintings.{repainted, is_visible}
use Rattle.tr_machine.specs.Pictures.{content_colour, colour_by, shown, shown_of, want}
use Rattle.tr_machine.specs.Promises.{IsSound}
use Rattle.tr_machine.specs.Replays.{IsLegalFrom, after_steps}
use Rattle.tr_machine.specs.SettleSteps.{frame_steps, is_frame_bad, is_unsettled, repaint_steps, repaints_below, settling, settling_lines}
use Rattle.tr_machine.proofs.ListLemmas.{changed_at-here, changed_at-there}
use Rattle.tr_machine.proofs.LeadLemmas.{same_pictures}
use Rattle.tr_machine.proofs.PointLemmas.{covered, none_on}
use Rattle.tr_machine.proofs.SoundLemmas.{sound_framed, sound_repainted}
use Rattle.tr_machine.proofs.JournalLemmas.{after_steps-append, legal_lines}

-- ---- small facts

-- the leaf of a number
abbrev numbered : ℕ → LeafId
numbered n = record { 0 = n }

-- what holds beside a true test, if both don't hold
and_first : (a b : Bool) → (a && b) ≡ false → b ≡ true → a ≡ false
and_first a b none is = sym (and_true a) ∙ ap (λ c. a && c) (sym is) ∙ none

-- what follows from a test that fails doesn't hold
unless_before : (a b : Bool) → (a ≡ true → b ≡ true) → b ≡ false → a ≡ false
unless_before true b before good = sym (before refl) ∙ good
unless_before false b before good = refl

-- a count that isn't more than zero is that of no command
pub no_batch : (ps : List Paint) → not (length ps == 0) ≡ false → ps ≡ []
no_batch ps h = by_length ps (equal_numbers (length ps) 0 (not-false (length ps == 0) h))
  where
    by_length : (ps : List Paint) → length ps ≡ 0 → ps ≡ []
    by_length [] e = refl
    by_length (c ∷ ps) e = absurd (omega arith)

module _ {C M : Type 0} (client : Ghosts C M) where
  -- ---- the state after the steps

  -- a leaf must be repainted
  abbrev must : State C M → LeafId → Bool
  must m leaf = is_unsettled client m leaf

  -- a point that is bad, and isn't a visible point of a leaf that is repainted
  abbrev left_by : Bool → State C M → LeafId → (Point → Bool) → Point → Bool
  left_by b m leaf bad p = cond b (bad p && not (is_visible m leaf p)) (bad p)

  -- the window of a leaf, or the updated one where the leaf is repainted
  abbrev shows_by : Bool → Option (Window C M) → Option (Window C M)
  shows_by b o = cond b (option_map (updated client) o) o

  -- which points are bad once the first n leaves are repainted that must be
  abbrev pub bad_below : ℕ → State C M → Point → Bool
  bad_below zero m p = m.bad p
  bad_below (suc n) m p = left_by (must m (numbered n)) m (numbered n) (bad_below n m) p

  -- and which windows there are then
  abbrev pub windows_below : ℕ → State C M → List (Window C M)
  windows_below zero m = m.windows
  windows_below (suc n) m = cond (must m (numbered n)) (changed_at n (updated client) (windows_below n m)) (windows_below n m)

  -- that state
  abbrev pub settled_below : ℕ → State C M → State C M
  settled_below n m = record m { bad = bad_below n m; windows = windows_below n m }

  -- that of all leaves
  abbrev pub repainted_all : State C M → State C M
  repainted_all m = settled_below (length m.windows) m

  -- a point that is bad, and isn't one of a frame, if the frames are painted
  abbrev framed_by : Bool → State C M → Point → Bool
  framed_by b m p = cond b ((repainted_all m).bad p && not (is_frame (spot m.tree p))) ((repainted_all m).bad p)

  -- the state once all leaves and the frames are painted that must be
  abbrev pub settled : State C M → State C M
  settled m = record m { bad = λ p. framed_by (is_frame_bad m) m p; windows = (repainted_all m).windows }

  -- after a repaint no visible point of the leaf is bad
  pub repainted-is : (m : State C M) (leaf : LeafId) →
      repainted client leaf m ≡ record m { bad = λ p. m.bad p && not (is_visible m leaf p); windows = changed_at leaf.0 (updated client) m.windows }
  repainted-is m leaf =
      let with_bad : (Point → Bool) → State C M = λ bad. record m { bad = bad; windows = changed_at leaf.0 (updated client) m.windows } in
      ap with_bad (fun_ext (λ p. by_sight p (is_visible m leaf p)))
    where
      lost : Point → Bool
      lost p = is_none (colour_after (look m) (base client m leaf) (leaf_batch client m leaf) (leaf_corner m.tree leaf) p)

      by_sight : (p : Point) (b : Bool) → (cond b (lost p) (m.bad p) && not b) ≡ (m.bad p && not b)
      by_sight p true = and_false _ ∙ sym (and_false (m.bad p))
      by_sight p false = refl

  -- the repaints of the first n leaves make that state
  pub after_repaints : (n : ℕ) (m : State C M) → after_steps client m (repaints_below client n m) ≡ settled_below n m
  after_repaints zero m = refl
  after_repaints (suc n) m =
      after_steps-append client m (repaints_below client n m) (repaint_steps client m (numbered n))
      ∙ ap (λ (s : State C M). after_steps client s (repaint_steps client m (numbered n))) (after_repaints n m)
      ∙ by_test (must m (numbered n))
    where
      s : State C M
      s = settled_below n m

      by_test : (b : Bool) → after_steps client s (cond b (Repaint (numbered n) ∷ []) [])
          ≡ record m { bad = left_by b m (numbered n) s.bad; windows = cond b (changed_at n (updated client) s.windows) s.windows }
      by_test true = repainted-is s (numbered n)
      by_test false = refl

  -- all steps that settle a state make its settled state
  pub after_settling : (m : State C M) → after_steps client m (settling client m) ≡ settled m
  after_settling m =
      after_steps-append client m (repaints_below client (length m.windows) m) (frame_steps m)
      ∙ ap (λ (s : State C M). after_steps client s (frame_steps m)) (after_repaints (length m.windows) m)
      ∙ by_test (is_frame_bad m)
    where
      by_test : (b : Bool) → after_steps client (repainted_all m) (cond b (PaintFrame ∷ []) [])
          ≡ record m { bad = λ p. framed_by b m p; windows = (repainted_all m).windows }
      by_test true = refl
      by_test false = refl

  -- ---- its windows

  -- the window of a leaf that wasn't reached yet
  window_later : (n : ℕ) (m : State C M) (leaf : LeafId) → n ≤ leaf.0 → slice_get (windows_below n m) leaf.0 ≡ window_of m leaf
  window_later zero m leaf le = refl
  window_later (suc n) m leaf le = by_test (must m (numbered n)) ∙ window_later n m leaf (omega arith)
    where
      ws : List (Window C M)
      ws = windows_below n m

      by_test : (b : Bool) → slice_get (cond b (changed_at n (updated client) ws) ws) leaf.0 ≡ slice_get ws leaf.0
      by_test true = changed_at-there n leaf.0 (updated client) ws (λ e. omega arith)
      by_test false = refl

  -- the window of a leaf that was reached
  window_passed : (n : ℕ) (m : State C M) (leaf : LeafId) → leaf.0 < n →
      slice_get (windows_below n m) leaf.0 ≡ shows_by (must m leaf) (window_of m leaf)
  window_passed zero m leaf lt = absurd (omega arith)
  window_passed (suc n) m leaf lt = elim (cases_lt leaf.0 n) [
    | inl less ↦ other (must m (numbered n)) less ∙ window_passed n m leaf less
    | inr le ↦ (let same : leaf ≡ numbered n = leaf_by_number leaf _ (omega arith) in
        let P : LeafId → Type 0 = λ l. slice_get (windows_below (suc n) m) l.0 ≡ shows_by (must m l) (window_of m l) in
        subst P (sym same) (here (must m (numbered n))))
  ]
    where
      ws : List (Window C M)
      ws = windows_below n m

      other : (b : Bool) → leaf.0 < n → slice_get (cond b (changed_at n (updated client) ws) ws) leaf.0 ≡ slice_get ws leaf.0
      other true less = changed_at-there n leaf.0 (updated client) ws (λ e. omega arith)
      other false less = refl

      here : (b : Bool) → slice_get (cond b (changed_at n (updated client) ws) ws) n ≡ shows_by b (window_of m (numbered n))
      here true = changed_at-here n (updated client) ws ∙ ap (option_map (updated client)) (window_later n m (numbered n) (omega arith))
      here false = window_later n m (numbered n) (omega arith)

  -- a leaf that must be repainted shows its content then, and the window of another leaf stays
  pub settled-window : (m : State C M) (leaf : LeafId) → window_of (settled m) leaf ≡ shows_by (must m leaf) (window_of m leaf)
  settled-window m leaf = elim (cases_lt leaf.0 (length m.windows)) [
    | inl lt ↦ window_passed (length m.windows) m leaf lt
    | inr le ↦ window_later (length m.windows) m leaf le ∙ by_test (must m leaf) (slice_get_past m.windows leaf.0 le)
  ]
    where
      by_test : (b : Bool) → window_of m leaf ≡ None → window_of m leaf ≡ shows_by b (window_of m leaf)
      by_test true none = none ∙ sym (ap (option_map (updated client)) none)
      by_test false none = refl

  -- nothing waits for a leaf that needn't be repainted
  quiet_batch : (m : State C M) (leaf : LeafId) → must m leaf ≡ false → leaf_batch client m leaf ≡ []
  quiet_batch m leaf quiet = no_batch (leaf_batch client m leaf) (or_parts (not (length (leaf_batch client m leaf) == 0)) _ quiet).0

  -- nothing waits for any leaf then
  pub settled-batch : (m : State C M) (leaf : LeafId) → leaf_batch client (settled m) leaf ≡ []
  settled-batch m leaf = ap (batch_in client m leaf) (settled-window m leaf) ∙ by_test (must m leaf) refl
    where
      painted : (o : Option (Window C M)) → batch_in client m leaf (option_map (updated client) o) ≡ []
      painted None = refl
      painted (Some w) = refl

      by_test : (b : Bool) → must m leaf ≡ b → batch_in client m leaf (shows_by b (window_of m leaf)) ≡ []
      by_test true is = painted (window_of m leaf)
      by_test false quiet = quiet_batch m leaf quiet

  -- each leaf has its content
  pub settled-content : (m : State C M) (leaf : LeafId) → content_of client (settled m) leaf ≡ content_of client m leaf
  settled-content m leaf = ap (option_map (content client)) (settled-window m leaf) ∙ by_test (must m leaf)
    where
      painted : (o : Option (Window C M)) → option_map (content client) (option_map (updated client) o) ≡ option_map (content client) o
      painted None = refl
      painted (Some w) = refl

      by_test : (b : Bool) → option_map (content client) (shows_by b (window_of m leaf)) ≡ content_of client m leaf
      by_test true = painted (window_of m leaf)
      by_test false = refl

  -- ---- its bad points

  -- none becomes bad by the repaints
  bad_before : (n : ℕ) (m : State C M) (p : Point) → bad_below n m p ≡ true → m.bad p ≡ true
  bad_before zero m p h = h
  bad_before (suc n) m p h = bad_before n m p (by_test (must m (numbered n)) h)
    where
      by_test : (b : Bool) → left_by b m (numbered n) (bad_below n m) p ≡ true → bad_below n m p ≡ true
      by_test true k = and_left (bad_below n m p) (not (is_visible m (numbered n) p)) k
      by_test false k = k

  -- nor by the painting of the frames
  framed_before : (m : State C M) (p : Point) → (settled m).bad p ≡ true → (repainted_all m).bad p ≡ true
  framed_before m p = by_test (is_frame_bad m)
    where
      by_test : (b : Bool) → framed_by b m p ≡ true → (repainted_all m).bad p ≡ true
      by_test true h = and_left ((repainted_all m).bad p) (not (is_frame (spot m.tree p))) h
      by_test false h = h

  -- a leaf that must be repainted, and a visible point of it
  record IsRepainted (m : State C M) (leaf : LeafId) (p : Point) : Type 0 where
    is : must m leaf ≡ true
    seen : is_visible m leaf p ≡ true

  -- the point is good once the leaf was reached
  good_passed : (n : ℕ) (m : State C M) (leaf : LeafId) (p : Point) → leaf.0 < n → IsRepainted m leaf p → bad_below n m p ≡ false
  good_passed zero m leaf p lt repaint = absurd (omega arith)
  good_passed (suc n) m leaf p lt repaint = elim (cases_lt leaf.0 n) [
    | inl less ↦ other (must m (numbered n)) (good_passed n m leaf p less repaint)
    | inr le ↦ here (subst (λ (l : LeafId). IsRepainted m l p) (leaf_by_number leaf (numbered n) (omega arith)) repaint)
  ]
    where
      other : (b : Bool) → bad_below n m p ≡ false → left_by b m (numbered n) (bad_below n m) p ≡ false
      other true good = ap (λ a. a && not (is_visible m (numbered n) p)) good
      other false good = good

      here : IsRepainted m (numbered n) p → bad_below (suc n) m p ≡ false
      here it =
          ap (λ b. left_by b m (numbered n) (bad_below n m) p) it.is ∙ ap (λ b. bad_below n m p && not b) it.seen ∙ and_false (bad_below n m p)

  -- no visible point of a leaf is bad
  leaf_good : (m : State C M) (leaf : LeafId) (p : Point) → leaf.0 < length m.windows → is_on m.tree p ≡ true → is_visible m leaf p ≡ true →
      (repainted_all m).bad p ≡ false
  leaf_good m leaf p lt on seen = by_test (must m leaf) refl
    where
      is_bad : Point → Bool
      is_bad r = m.bad r && is_visible m leaf r

      by_test : (b : Bool) → must m leaf ≡ b → (repainted_all m).bad p ≡ false
      by_test true is = good_passed (length m.windows) m leaf p lt (record { is = is; seen = seen })
      by_test false quiet =
          let none : any_on m.tree.size is_bad ≡ false = (or_parts (not (length (leaf_batch client m leaf) == 0)) (any_on m.tree.size is_bad) quiet).1 in
          let good : m.bad p ≡ false = and_first (m.bad p) (is_visible m leaf p) (none_on m.tree.size is_bad none p on) seen in
          unless_before ((repainted_all m).bad p) (m.bad p) (bad_before (length m.windows) m p) good

  -- no point of a frame is bad
  frame_good : (m : State C M) (p : Point) → is_on m.tree p ≡ true → is_frame (spot m.tree p) ≡ true → (settled m).bad p ≡ false
  frame_good m p on framed = by_test (is_frame_bad m) refl
    where
      is_bad : Point → Bool
      is_bad r = m.bad r && is_frame (spot m.tree r)

      by_test : (b : Bool) → is_frame_bad m ≡ b → framed_by b m p ≡ false
      by_test true is = ap (λ b. (repainted_all m).bad p && not b) framed ∙ and_false ((repainted_all m).bad p)
      by_test false quiet =
          let good : m.bad p ≡ false = and_first (m.bad p) (is_frame (spot m.tree p)) (none_on m.tree.size is_bad quiet p on) framed in
          unless_before ((repainted_all m).bad p) (m.bad p) (bad_before (length m.windows) m p) good

  -- no point is bad
  pub settled-good : (m : State C M) → IsForest m.tree.nodes → HasRoot m.tree → IsSound client m → (p : Point) → (settled m).bad p ≡ false
  settled-good m forest root sound p = by_test ((settled m).bad p) refl
    where
      by_test : (b : Bool) → (settled m).bad p ≡ b → b ≡ false
      by_test false h = refl
      by_test true h =
          let left : (repainted_all m).bad p ≡ true = framed_before m p h in
          let on : is_on m.tree p ≡ true = sound.bad p (bad_before (length m.windows) m p left) in
          elim (covered m.tree p forest root on) [
            | inl own ↦ sym left ∙ leaf_good m own.leaf p (omega (arith, own.below, sound.windows)) on own.visible
            | inr framed ↦ sym h ∙ frame_good m p on framed
          ]

  -- ---- what it shows

  -- a visible point of a leaf shows its content's colour: where the leaf needn't be repainted, no command leads from the shown picture to
  -- the present one
  leaf_shows : (m : State C M) (leaf : LeafId) (q : Point) → IsSound client m → has_point (whole_of (leaf_size m.tree leaf)) q ≡ true →
      let colour = content_colour client m (leaf_size m.tree leaf) q in
      colour (shown_of (settled m) leaf) ≡ colour (content_of client m leaf)
  leaf_shows m leaf q sound within = ap (λ o. old o) (settled-window m leaf) ∙ by_test (must m leaf) refl
    where
      size : Size
      size = leaf_size m.tree leaf

      old : Option (Window C M) → ℕ
      old o = content_colour client m size q (option_map (λ w. w.shown) o)

      new : Option (Window C M) → ℕ
      new o = content_colour client m size q (option_map (content client) o)

      painted : (o : Option (Window C M)) → old (option_map (updated client) o) ≡ new o
      painted None = refl
      painted (Some w) = refl

      idle : (o : Option (Window C M)) → window_of m leaf ≡ o → batch_in client m leaf o ≡ [] → old o ≡ new o
      idle None is none = refl
      idle (Some w) is none =
          let first : Point → ℕ = client.pic (look m) size w.shown in
          let last : Point → ℕ = client.pic (look m) size (content client w) in
          same_pictures (look m) size first last (subst (λ (ps : List Paint). IsPatch (look m) size ps first last) none (sound.leads leaf w is)) q within

      by_test : (b : Bool) → must m leaf ≡ b → old (shows_by b (window_of m leaf)) ≡ new (window_of m leaf)
      by_test true is = painted (window_of m leaf)
      by_test false quiet = idle (window_of m leaf) refl (quiet_batch m leaf quiet)

  -- each point shows what it is to show
  pub settled-shown : (m : State C M) → IsForest m.tree.nodes → IsSound client m → (p : Point) → shown client (settled m) p ≡ want client m p
  settled-shown m forest sound p = by_spot (spot m.tree p) refl
    where
      by_spot : (s : Spot) → spot m.tree p ≡ s → colour_by client (shown_of (settled m)) m s ≡ colour_by client (content_of client m) m s
      by_spot (spots.Leaf leaf q size kind) e =
          let part : IsPartOf m.tree leaf p = part_of m.tree forest leaf p (ap (is_in_leaf leaf) e ∙ equal_test leaf.0 leaf.0 refl) in
          let same = sym e ∙ part.is in
          ap (colour_by client (shown_of (settled m)) m) same
          ∙ leaf_shows m leaf (in_leaf m.tree leaf p) sound part.within
          ∙ sym (ap (colour_by client (content_of client m) m) same)
      by_spot (spots.Frame n tint kind) e = refl
      by_spot spots.Off e = refl

  -- and is to show what it was to show before
  pub settled-want : (m : State C M) (p : Point) → want client (settled m) p ≡ want client m p
  settled-want m p = by_spot (spot m.tree p)
    where
      by_spot : (s : Spot) → colour_by client (content_of client (settled m)) m s ≡ colour_by client (content_of client m) m s
      by_spot (spots.Leaf leaf q size kind) = ap (λ o. content_colour client m size q o) (settled-content m leaf)
      by_spot (spots.Frame n tint kind) = refl
      by_spot spots.Off = refl

  -- ---- all together

  -- A state after the steps that settle another one: it is sound, it has the same tree, font, mail and contents, nothing waits, no point is
  -- bad, and each shows what it is to show.
  pub record IsSettled (m new : State C M) : Type 0 where
    pub sound : IsSound client new
    pub tree : new.tree ≡ m.tree
    pub font : new.font ≡ m.font
    pub mail : new.mail ≡ m.mail
    pub batches : (leaf : LeafId) → leaf_batch client new leaf ≡ []
    pub contents : (leaf : LeafId) → content_of client new leaf ≡ content_of client m leaf
    pub good : (p : Point) → new.bad p ≡ false
    pub shown : (p : Point) → shown client new p ≡ want client m p
    pub want : (p : Point) → want client new p ≡ want client m p

  -- the repaints of the first n leaves keep a state sound
  sound_below : (n : ℕ) (m : State C M) → IsSound client m → IsSound client (settled_below n m)
  sound_below zero m sound = sound
  sound_below (suc n) m sound = by_test (must m (numbered n)) (sound_below n m sound)
    where
      s : State C M
      s = settled_below n m

      by_test : (b : Bool) → IsSound client s →
          IsSound client (record m { bad = left_by b m (numbered n) s.bad; windows = cond b (changed_at n (updated client) s.windows) s.windows })
      by_test true below =
          subst (λ (k : State C M). IsSound client k) (repainted-is s (numbered n)) (sound_repainted client s (numbered n) below)
      by_test false below = below

  -- and so does the painting of the frames
  sound_settled : (m : State C M) → IsSound client m → IsSound client (settled m)
  sound_settled m sound = by_test (is_frame_bad m) (sound_below (length m.windows) m sound)
    where
      by_test : (b : Bool) → IsSound client (repainted_all m) →
          IsSound client (record m { bad = λ p. framed_by b m p; windows = (repainted_all m).windows })
      by_test true below = sound_framed client (repainted_all m) below
      by_test false below = below

  -- the settled state is settled
  pub is_settled : (m : State C M) → IsForest m.tree.nodes → HasRoot m.tree → IsSound client m → IsSettled m (settled m)
  is_settled m forest root sound = record {
    sound = sound_settled m sound;
    tree = refl;
    font = refl;
    mail = refl;
    batches = settled-batch m;
    contents = settled-content m;
    good = settled-good m forest root sound;
    shown = settled-shown m forest sound;
    want = settled-want m;
  }

  -- and so is the one after the steps
  pub settles : (m : State C M) → IsForest m.tree.nodes → HasRoot m.tree → IsSound client m → IsSettled m (after_steps client m (settling client m))
  settles m forest root sound = subst (λ (s : State C M). IsSettled m s) (sym (after_settling m)) (is_settled m forest root sound)

  -- ---- its lines

  -- the repaints of the first n leaves are for the painter, under the tree's lock
  repaints_for : (t : Nodes) (n : ℕ) (m : State C M) → n ≤ leaf_count t →
      AllByRecursion (IsFor t Painter (Mu ∷ [])) (repaints_below client n m)
  repaints_for t zero m le = tt
  repaints_for t (suc n) m le =
      AllByRecursion-append (IsFor t Painter (Mu ∷ [])) (repaints_below client n m) (repaint_steps client m (numbered n))
      (repaints_for t n m (omega arith)) (by_test (must m (numbered n)))
    where
      by_test : (b : Bool) → AllByRecursion (IsFor {M = M} t Painter (Mu ∷ [])) (cond b (Repaint (numbered n) ∷ []) [])
      by_test true = (record { own = record { may = refl; values = record { within = le } }; covers = refl; levels = lock_level t }, tt)
      by_test false = tt

  -- and so are all steps that settle a state
  pub settling-for : (t : Nodes) (m : State C M) → length m.windows ≡ leaf_count t → AllByRecursion (IsFor t Painter (Mu ∷ [])) (settling client m)
  settling-for t m many =
      AllByRecursion-append (IsFor t Painter (Mu ∷ [])) (repaints_below client (length m.windows) m) (frame_steps m)
      (repaints_for t (length m.windows) m (omega arith)) (by_test (is_frame_bad m))
    where
      by_test : (b : Bool) → AllByRecursion (IsFor {M = M} t Painter (Mu ∷ [])) (cond b (PaintFrame ∷ []) [])
      by_test true = (record { own = record { may = refl; values = tt }; covers = refl; levels = lock_level t }, tt)
      by_test false = tt

  -- so their lines are legal
  pub legal_settling : (t : Nodes) (m : State C M) → length m.windows ≡ leaf_count t → IsLegalFrom client t m (settling_lines client m)
  legal_settling t m many = legal_lines client t m Painter (Mu ∷ []) (settling client m) (settling-for t m many)
