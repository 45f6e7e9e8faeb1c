-- The stale points of a state, leaf by leaf, and how a leaf's window is painted anew.
use Rattle.std.proofs.Common.{◌≡◌, ℕ, zero, suc, ◌+◌, ◌-◌, ◌^◌, ◌<◌, ◌≤◌, ◌==◌, min, Bool, true, false, not, ◌&&◌, cond, List, [], ◌∷◌, Option, Some, None, sum_by, length, refl, sym, ap, subst, ◌∙◌, add-one, arith}
use Rattle.std.specs.Prelude.{nat_lt, slice_get}
use Rattle.std.proofs.lemmas.Bool.Decides.{nat_tests}
use Rattle.std.proofs.lemmas.List.Sums.{sum_by-cons}
use Rattle.std.proofs.lemmas.Option.{slice_get_within}
use Rattle.tr_base.specs.declared.Point.{Point}
use Rattle.tr_base.specs.declared.Size.{Size}
use Rattle.tr_base.specs.declared.LeafId.{LeafId}
use Rattle.tr_base.specs.declared.Spot.{Spot}
use Rattle.tr_base.specs.declared.Spot.TheVariants as spots
use Rattle.tr_base.specs.Rects.{Edges, has_point, meet_of, whole_of, IsScreenSize}
use Rattle.tr_base.proofs.RectLemmas.{false-true, has_point-meet_of}
use Rattle.tr_screen.specs.Pictures.{Picture, pixel_of}
use Rattle.tr_paint.specs.declared.paints.Paint.{Paint}
use Rattle.tr_paint.specs.Batches.{touches}
use Rattle.tr_paint.specs.Paintings.{IsPainting}
use Rattle.tr_paint.specs.Traces.{Base, Look, after}
use Rattle.tr_region.specs.Points.{holds}
use Rattle.tr_client.specs.declared.clients.Client.{Ghosts}
use Rattle.tr_forest.specs.Forests.{IsForest}
use Rattle.tr_tree.specs.Trees.{Seen}
use Rattle.tr_spot.specs.Spots.{spot, is_in_leaf}
use Rattle.tr_spot.specs.Leaves.{in_leaf, leaf_size}
use Rattle.tr_spot.proofs.WayLemmas.{and_left, and_right}
use Rattle.tr_surface.specs.Counts.{count_on}
use Rattle.tr_surface.specs.Surfaces.{is_bad}
use Rattle.tr_surface.proofs.ShownLemmas.{in_leaf_on}
use Rattle.tr_surface.proofs.CountLemmas.{count_on-same, count_on-apart}
use Rattle.tr_journal.specs.declared.items.Item.{Item}
use Rattle.tr_journal.specs.Journals.{JournalLine}
use Rattle.tr_machine.specs.Windows.{Window}
use Rattle.tr_machine.specs.States.{State, batch_in, leaf_batch, content_of, look, window_of}
use Rattle.tr_machine.specs.Paintings.{is_visible}
use Rattle.tr_machine.specs.Pictures.{bad_count, content_colour, is_stale, shown, stale_count, waiting_count, want}
use Rattle.tr_machine.specs.Promises.{Agrees, Fits, IsAwaited}
use Rattle.tr_machine.specs.Replays.{replay}
use Rattle.tr_machine.proofs.BaseLemmas.{leaf_within}
use Rattle.tr_machine.proofs.LagLemmas.{stale_waits}
use Rattle.tr_machine.proofs.FlushLemmas.{one_leaf}
use Rattle.tr_machine.proofs.ShownLemmas.{colour_in_leaf}
use Rattle.tr_machine.proofs.SoundLemmas.{fits}
use Rattle.tr_windows.specs.Presents.{Present, batch_at}
use Rattle.tr_windows.specs.Presents as presents
use Rattle.tr_windows.specs.Promises.{waiting_in}
use Rattle.tr_windows.proofs.PresentLemmas.{presents-waiting}
use Rattle.tr_stage.specs.Standings.{Stands}
use Rattle.tr_stage.specs.Stages.{RepresentsState, IsStage, Parts, StageView, is_different, is_good_in, state}
use Rattle.tr_stage.proofs.CountLemmas.{count_on-few, count_on-none}
use Rattle.tr_stage.proofs.SettleLemmas.{IsView, batch_is, windows_many}

-- ---- tests

-- the spot is part of a leaf with a number below n
abbrev pub is_before : ℕ → Spot → Bool
is_before n (spots.Leaf leaf q size kind) = nat_lt leaf.0 n
is_before n spot = false

-- one where a test is passed, and none where it isn't
abbrev one : Bool → ℕ
one b = cond b 1 0

-- a spot below n + 1 is one below n, or one of leaf n
before_more : (n : ℕ) (s : Spot) (b : Bool) → one (is_before (suc n) s && b) ≡ one (is_before n s && b) + one (is_in_leaf (record { 0 = n }) s && b)
before_more n (spots.Leaf leaf q size kind) true = grind (arith, nat_tests)
before_more n (spots.Leaf leaf q size kind) false = grind (arith, nat_tests)
before_more n (spots.Frame k tint kind) b = refl
before_more n spots.Off b = refl

-- none is below 0
before_none : (s : Spot) (b : Bool) → (is_before 0 s && b) ≡ false
before_none (spots.Leaf leaf q size kind) b = grind (arith, nat_tests)
before_none (spots.Frame k tint kind) b = refl
before_none spots.Off b = refl

-- the spot of a leaf is below each greater number
before_at : (n : ℕ) (leaf : LeafId) (s : Spot) → leaf.0 < n → is_in_leaf leaf s ≡ true → is_before n s ≡ true
before_at n leaf (spots.Leaf own q size kind) low seen = grind (arith, nat_tests)
before_at n leaf (spots.Frame k tint kind) low seen = absurd (false-true seen)
before_at n leaf spots.Off low seen = absurd (false-true seen)

-- a sum is zero if both parts are
none_first : (ps : List Paint) (k : ℕ) → length ps + k ≡ 0 → ps ≡ []
none_first [] k e = refl
none_first (p ∷ ps) k e = absurd (omega arith)

-- nothing waits in any of some windows, if no command does
none_waits : {C : Type 0} (ws : List (Present C)) → sum_by (λ w. length w.batch) ws ≡ 0 → (n : ℕ) → presents.waiting_batch (slice_get ws n) ≡ []
none_waits [] none n = refl
none_waits (w ∷ ws) none zero = none_first w.batch (sum_by (λ v. length v.batch) ws) (sym (sum_by-cons (λ v. length v.batch) w ws) ∙ none)
none_waits (w ∷ ws) none (suc n) =
    let parts : length w.batch + sum_by (λ v. length v.batch) ws ≡ 0 = sym (sum_by-cons (λ v. length v.batch) w ws) ∙ none in
    none_waits ws (omega (arith, parts)) n

-- the same by their count, which stops
pub no_batches : {C : Type 0} (ws : List (Present C)) (leaf : LeafId) → waiting_in ws ≡ 0 → batch_at ws leaf ≡ []
no_batches ws leaf none = none_waits ws (by_count (sum_by (λ w. length w.batch) ws) none) leaf.0
  where
    by_count : (n : ℕ) → min n (2 ^ 64 - 1) ≡ 0 → n ≡ 0
    by_count n h = omega arith

module _ {C M : Type 0} (client : Ghosts C M) where
  -- ---- how many points are stale

  -- a stale point of a leaf with a number below n
  abbrev pub stale_below : State C M → ℕ → Point → Bool
  stale_below m n p = is_before n (spot m.tree p) && is_stale client m p

  -- how many such points there are
  abbrev pub count_stale : State C M → ℕ → ℕ
  count_stale m n = count_on m.tree.size (stale_below m n)

  -- none below 0
  pub stale_none : (m : State C M) → 0 ≡ count_stale m 0
  stale_none m = sym (count_on-none m.tree.size (stale_below m 0) (λ p. before_none (spot m.tree p) (is_stale client m p)))

  -- those of one leaf more
  pub stale_more : (m : State C M) (n : ℕ) → count_stale m (n + 1) ≡
      count_stale m n + count_on m.tree.size (λ p. is_visible m (record { 0 = n }) p && is_stale client m p)
  stale_more m n = rw (add-one) (count_on-apart m.tree.size (stale_below m (suc n)) (stale_below m n)
      (λ p. is_visible m (record { 0 = n }) p && is_stale client m p)
      (λ p. before_more n (spot m.tree p) (is_stale client m p)))

  -- nothing is touched where nothing waits
  no_touch : (m : State C M) (p : Point) (a : IsAwaited client m p) → leaf_batch client m a.leaf ≡ [] → ⊥
  no_touch m p a none = false-true (sym (ap (λ ps. touches ps (in_leaf m.tree a.leaf p)) none) ∙ a.touched)

  -- no point is stale of a leaf for which nothing waits
  pub stale_quiet : (m : State C M) (leaf : LeafId) → IsForest m.tree.nodes → Fits client m → leaf_batch client m leaf ≡ [] →
      count_on m.tree.size (λ p. is_visible m leaf p && is_stale client m p) ≡ 0
  stale_quiet m leaf forest fits none =
      count_on-none m.tree.size (λ p. is_visible m leaf p && is_stale client m p) (λ p. by_test p (is_visible m leaf p && is_stale client m p) refl)
    where
      by_test : (p : Point) (b : Bool) → (is_visible m leaf p && is_stale client m p) ≡ b → b ≡ false
      by_test p false h = refl
      by_test p true h =
          let a = stale_waits client m forest fits p (and_right (is_visible m leaf p) (is_stale client m p) h) in
          let same : leaf ≡ a.leaf = one_leaf leaf a.leaf (spot m.tree p) (and_left (is_visible m leaf p) (is_stale client m p) h) a.visible in
          absurd (no_touch m p a (ap (λ (l : LeafId). leaf_batch client m l) (sym same) ∙ none))

  -- so no point is, where nothing waits for any leaf
  pub stale_idle : (m : State C M) → IsForest m.tree.nodes → Fits client m → ((leaf : LeafId) → leaf_batch client m leaf ≡ []) → 0 ≡ stale_count client m
  stale_idle m forest fits none = sym (count_on-none m.tree.size (is_stale client m) (λ p. by_test p (is_stale client m p) refl))
    where
      by_test : (p : Point) (b : Bool) → is_stale client m p ≡ b → b ≡ false
      by_test p false h = refl
      by_test p true h = let a = stale_waits client m forest fits p h in absurd (no_touch m p a (none a.leaf))

  -- a leaf for which a command waits has a window
  leaf_low : (m : State C M) (p : Point) (a : IsAwaited client m p) → a.leaf.0 < length m.windows
  leaf_low m p a = by_window (window_of m a.leaf) refl
    where
      by_window : (o : Option (Window C M)) → window_of m a.leaf ≡ o → a.leaf.0 < length m.windows
      by_window None e = absurd (no_touch m p a (ap (batch_in client m a.leaf) e))
      by_window (Some w) e = slice_get_within m.windows a.leaf.0 w e

  -- those of all leaves are all
  pub stale_all : (m : State C M) → IsForest m.tree.nodes → Fits client m → count_stale m (length m.windows) ≡ stale_count client m
  stale_all m forest fits =
      count_on-same m.tree.size (stale_below m (length m.windows)) (is_stale client m) (λ p. by_test p (is_stale client m p) refl)
    where
      and_none : (b : Bool) → (b && false) ≡ false
      and_none true = refl
      and_none false = refl

      by_test : (p : Point) (b : Bool) → is_stale client m p ≡ b → (is_before (length m.windows) (spot m.tree p) && b) ≡ b
      by_test p false h = and_none (is_before (length m.windows) (spot m.tree p))
      by_test p true h =
          let a = stale_waits client m forest fits p h in
          ap (λ c. c && true) (before_at (length m.windows) a.leaf (spot m.tree p) (leaf_low m p a) a.visible)

  -- ---- how many of a leaf

  -- a point of a leaf is stale where it is good, and a screen that shows what it is to show has another pixel there
  pub stale_differs : (m : State C M) (leaf : LeafId) (screen wanted : Picture) → Agrees client m screen →
      ((p : Point) → is_good_in m leaf p ≡ true → pixel_of wanted p ≡ want client m p) → (p : Point) →
      (is_good_in m leaf p && is_different screen wanted p) ≡ (is_visible m leaf p && is_stale client m p)
  stale_differs m leaf screen wanted agrees paints p = by_test (is_visible m leaf p) refl (m.bad p) refl
    where
      by_test : (v : Bool) → is_visible m leaf p ≡ v → (b : Bool) → m.bad p ≡ b →
          ((v && not b) && is_different screen wanted p) ≡ (v && (not b && not (shown client m p == want client m p)))
      by_test false seen b bad = refl
      by_test true seen true bad = refl
      by_test true seen false good =
          ap (λ n. not (n == pixel_of wanted p)) (agrees.good p (in_leaf_on m.tree leaf p seen) good)
          ∙ ap (λ n. not (shown client m p == n)) (paints p (ap (λ c. c && not (m.bad p)) seen ∙ ap not good))

  -- so they are counted by the pixels that differ among a leaf's good points
  pub stale_apart : (m : State C M) (leaf : LeafId) (good : List Edges) (screen wanted : Picture) → Agrees client m screen →
      ((p : Point) → holds good p ≡ is_good_in m leaf p) → ((p : Point) → is_good_in m leaf p ≡ true → pixel_of wanted p ≡ want client m p) →
      count_on screen.size (λ p. holds good p && is_different screen wanted p) ≡ count_on m.tree.size (λ p. is_visible m leaf p && is_stale client m p)
  stale_apart m leaf good screen wanted agrees is paints =
      count_on-same screen.size _ (λ p. is_visible m leaf p && is_stale client m p)
      (λ p. ap (λ b. b && is_different screen wanted p) (is p) ∙ stale_differs m leaf screen wanted agrees paints p)
      ∙ ap (λ (size : Size). count_on size (λ p. is_visible m leaf p && is_stale client m p)) agrees.size

  -- ---- how a leaf's window is painted

  -- a batch that paints all of a leaf's window: its look, its size and its content
  pub record IsPlan (m : State C M) (leaf : LeafId) (how : Look) (extent : Size) (content : C) (batch : List Paint) : Type 0 where
    pub look : how ≡ look m
    pub size : extent ≡ leaf_size m.tree leaf
    pub is : content_of client m leaf ≡ Some content
    pub paints : IsPainting how (meet_of (whole_of extent) (whole_of extent)) batch (client.pic how extent content)

  -- it gives each visible point the colour that it is to have
  pub plan_paints : {m : State C M} {leaf : LeafId} {how : Look} {extent : Size} {content : C} {batch : List Paint} (base : Base) (p : Point) →
      IsForest m.tree.nodes → IsPlan m leaf how extent content batch → is_visible m leaf p ≡ true → base.visible (in_leaf m.tree leaf p) ≡ true →
      after how base batch (in_leaf m.tree leaf p) ≡ Some (want client m p)
  plan_paints {m} {leaf} {how} {extent} {content} {batch} base p forest plan seen known =
      plan.paints.shows base q known within
      ∙ ap (λ (l : Look). Some (client.pic l extent content q)) plan.look
      ∙ ap (λ (s : Size). Some (client.pic (look m) s content q)) plan.size
      ∙ ap (λ (o : Option C). Some (content_colour client m (leaf_size m.tree leaf) q o)) (sym plan.is)
      ∙ ap Some (sym (colour_in_leaf client (content_of client m) m leaf p forest seen))
    where
      q : Point
      q = in_leaf m.tree leaf p

      inside : has_point (whole_of extent) q ≡ true
      inside = ap (λ (s : Size). has_point (whole_of s) q) plan.size ∙ leaf_within m.tree leaf p forest seen

      within : has_point (meet_of (whole_of extent) (whole_of extent)) q ≡ true
      within = has_point-meet_of (whole_of extent) (whole_of extent) q ∙ ap (λ b. b && has_point (whole_of extent) q) inside ∙ inside

  -- the points of a leaf that are good
  pub good_is : (m : State C M) (parts : Parts C) (leaf : LeafId) (good : List Edges) → RepresentsState client m parts →
      ((p : Point) → holds good p ≡ (is_in_leaf leaf (spot parts.surface.tree p) && not (is_bad parts.surface p))) →
      (p : Point) → holds good p ≡ is_good_in m leaf p
  good_is m parts leaf good at is p =
      is p
      ∙ ap (λ (t : Seen). is_in_leaf leaf (spot t p) && not (is_bad parts.surface p)) at.tree
      ∙ ap (λ b. is_visible m leaf p && not b) (at.bad p)

  -- ---- what a stage counts

  -- the screen of a stage is no larger than the greatest one
  pub small_screen : (s : StageView C M) → Stands client s → IsScreenSize (state client s).tree.size
  small_screen s stands = subst (λ (size : Size). IsScreenSize size) stands.agrees.size stands.picture.size

  -- so there are few stale points
  pub few_stale : (s : StageView C M) (n : ℕ) → Stands client s → count_stale (state client s) n ≤ 1048576
  few_stale s n stands = count_on-few (state client s).tree.size (stale_below (state client s) n) (small_screen s stands)

  -- the surface counts the machine's bad points
  pub bad_counted : {opening : List (Item C)} {lines : List (JournalLine M)} {parts : Parts C} (s : StageView C M) → IsStage client opening lines parts →
      IsView client opening lines parts s → Stands client s → count_on parts.surface.tree.size (is_bad parts.surface) ≡ bad_count (state client s)
  bad_counted {opening} {lines} {parts} s is view =
      subst (λ (v : StageView C M). Stands client v → count_on parts.surface.tree.size (is_bad parts.surface) ≡ bad_count (state client v)) view.is counted
    where
      seen : StageView C M
      seen = record { opening = opening; journal = lines; screen = parts.surface.screen; spare = view.spare }

      counted : Stands client seen → count_on parts.surface.tree.size (is_bad parts.surface) ≡ bad_count (replay client opening lines)
      counted stands =
          let m = replay client opening lines in
          ap (λ (t : Seen). count_on t.size (is_bad parts.surface)) is.kept.tree ∙ count_on-same m.tree.size (is_bad parts.surface) m.bad is.kept.bad

  -- the windows count the commands that wait for the machine's
  pub waiting_counted : {opening : List (Item C)} {lines : List (JournalLine M)} {parts : Parts C} (s : StageView C M) → IsStage client opening lines parts →
      IsView client opening lines parts s → waiting_in parts.windows ≡ waiting_count client (state client s)
  waiting_counted {opening} {lines} {parts} s is view =
      subst (λ (v : StageView C M). waiting_in parts.windows ≡ waiting_count client (state client v)) view.is
      (ap (λ ws. waiting_in ws) is.kept.windows ∙ presents-waiting client (replay client opening lines))

  -- what waits for a leaf's window waits for the machine's
  pub batch_seen : {opening : List (Item C)} {lines : List (JournalLine M)} {parts : Parts C} (s : StageView C M) (leaf : LeafId) →
      IsStage client opening lines parts → IsView client opening lines parts s → batch_at parts.windows leaf ≡ leaf_batch client (state client s) leaf
  batch_seen {opening} {lines} {parts} s leaf is view =
      subst (λ (v : StageView C M). batch_at parts.windows leaf ≡ leaf_batch client (state client v) leaf) view.is
      (batch_is client (replay client opening lines) parts leaf is.kept)

  -- there are as many windows as the machine has
  pub windows_seen : {opening : List (Item C)} {lines : List (JournalLine M)} {parts : Parts C} (s : StageView C M) → IsStage client opening lines parts →
      IsView client opening lines parts s → length parts.windows ≡ length (state client s).windows
  windows_seen {opening} {lines} {parts} s is view =
      subst (λ (v : StageView C M). length parts.windows ≡ length (state client v).windows) view.is
      (windows_many client (replay client opening lines) parts is.kept)

  -- no point is stale of a leaf for which nothing waits
  pub quiet_leaf : (s : StageView C M) (leaf : LeafId) → Stands client s → leaf_batch client (state client s) leaf ≡ [] →
      0 ≡ count_on (state client s).tree.size (λ p. is_visible (state client s) leaf p && is_stale client (state client s) p)
  quiet_leaf s leaf stands none =
      sym (stale_quiet (state client s) leaf stands.forest (fits client (state client s) stands.forest stands.sound) none)

  -- none at all is, where nothing waits
  pub quiet_stage : (s : StageView C M) → Stands client s → ((leaf : LeafId) → leaf_batch client (state client s) leaf ≡ []) →
      0 ≡ stale_count client (state client s)
  quiet_stage s stands none = stale_idle (state client s) stands.forest (fits client (state client s) stands.forest stands.sound) none

  -- the stale points of all leaves are all
  pub stale_counted : (s : StageView C M) (n : ℕ) → Stands client s → n ≡ length (state client s).windows →
      count_stale (state client s) n ≡ stale_count client (state client s)
  stale_counted s n stands all =
      ap (λ k. count_stale (state client s) k) all ∙ stale_all (state client s) stands.forest (fits client (state client s) stands.forest stands.sound)
