-- What a stage tells of the steps that settle it, and of the state and the screen after them.
use Rattle.std.proofs.Common.{◌≡◌, ℕ, zero, suc, ◌+◌, ◌<◌, ◌==◌, Bool, true, false, not, ◌&&◌, ◌||◌, cond, List, [], ◌∷◌, ◌++◌, length, get_or, take, refl, sym, ap, subst, ◌∙◌, add-one, append_assoc, arith}
use Rattle.std.specs.Prelude.{◌↔◌, IsTrue, All}
use Rattle.std.specs.List.{AllByRecursion}
use Rattle.std.proofs.lemmas.List.{append-nil}
use Rattle.tr_base.specs.declared.Point.{Point}
use Rattle.tr_base.specs.declared.Size.{Size}
use Rattle.tr_base.specs.declared.LeafId.{LeafId}
use Rattle.tr_base.specs.Rects.{has_point, whole_of}
use Rattle.tr_base.proofs.RectLemmas.{false-true}
use Rattle.tr_screen.specs.Pictures.{IsPicture}
use Rattle.tr_paint.specs.declared.paints.Paint.{Paint}
use Rattle.tr_client.specs.declared.clients.Client.{Ghosts}
use Rattle.tr_forest.specs.Nodes.{Nodes, leaf_count}
use Rattle.tr_forest.specs.Forests.{IsForest}
use Rattle.tr_tree.specs.Trees.{Seen}
use Rattle.tr_spot.specs.Spots.{HasRoot, spot, is_in_leaf}
use Rattle.tr_spot.proofs.WayLemmas.{other_test}
use Rattle.tr_surface.specs.Surfaces.{IsShown, is_frame, is_bad}
use Rattle.tr_surface.specs.Counts.{any_on}
use Rattle.tr_levels.specs.declared.Level.{Level}
use Rattle.tr_levels.specs.declared.Level.TheVariants.{Mu}
use Rattle.tr_journal.specs.declared.items.Item.{Item}
use Rattle.tr_journal.specs.declared.steps.Actor.{Actor}
use Rattle.tr_journal.specs.declared.steps.Actor.TheVariants.{Painter}
use Rattle.tr_journal.specs.declared.steps.Step.{Step}
use Rattle.tr_journal.specs.declared.steps.Step.TheVariants.{Repaint, PaintFrame}
use Rattle.tr_journal.specs.Journals.{JournalLine}
use Rattle.tr_journal.specs.Openings.{tree_of}
use Rattle.tr_journal.specs.Steps.{IsFor}
use Rattle.tr_machine.specs.States.{State, leaf_batch}
use Rattle.tr_machine.specs.Paintings.{is_visible}
use Rattle.tr_machine.specs.Pictures.{render}
use Rattle.tr_machine.specs.Replays.{line_of_step, next, replay, after_steps, lines_of_steps}
use Rattle.tr_machine.specs.SettleSteps.{is_frame_bad, is_unsettled, repaints_below, settling, settling_lines}
use Rattle.tr_machine.proofs.JournalLemmas.{all_at, lines_of-take, replay-append, replay_from-lines_of}
use Rattle.tr_machine.proofs.PointLemmas.{none_on, some_on}
use Rattle.tr_machine.proofs.RenderLemmas.{idle_screen}
use Rattle.tr_machine.proofs.SettleLemmas.{IsSettled, settles, settling-for}
use Rattle.tr_machine.proofs.SoundLemmas.{fits}
use Rattle.tr_windows.specs.Presents.{batch_at}
use Rattle.tr_windows.proofs.PresentLemmas.{presents-batch, presents-length}
use Rattle.tr_stage.specs.Standings.{Stands}
use Rattle.tr_stage.specs.Stages.{RepresentsState, IsPainters, IsStage, Parts, StageView, line, state}

-- ---- points of the screen

-- some point of the screen passes a test, if this one does
pub any_from : (size : Size) (test : Point → Bool) (p : Point) → has_point (whole_of size) p ≡ true → test p ≡ true → any_on size test ≡ true
any_from size test p on is = by_test (any_on size test) refl
  where
    by_test : (b : Bool) → any_on size test ≡ b → b ≡ true
    by_test true h = refl
    by_test false h = absurd (false-true (sym (none_on size test h p on) ∙ is))

-- none does, if no point at all does
pub any_none : (size : Size) (test : Point → Bool) → ((p : Point) → test p ≡ false) → any_on size test ≡ false
any_none size test none = by_test (any_on size test) refl
  where
    by_test : (b : Bool) → any_on size test ≡ b → b ≡ false
    by_test true h = let at = some_on size test h in absurd (false-true (sym (none at.0) ∙ at.2))
    by_test false h = refl

-- what is told of the bad points among some says whether there is one on the screen
bad_among : (size : Size) (bad seen : Point → Bool) (b : Bool) → ((p : Point) → bad p ≡ true → has_point (whole_of size) p ≡ true) →
    (IsTrue b → (p : Point) × ((seen p ≡ true) × (bad p ≡ true))) → (IsTrue (not b) → (p : Point) → seen p ≡ true → bad p ≡ false) →
    b ≡ any_on size (λ p. bad p && seen p)
bad_among size bad seen true on some none =
    let at = some refl in
    sym (any_from size (λ p. bad p && seen p) at.0 (on at.0 at.1.1) (ap (λ b. b && seen at.0) at.1.1 ∙ at.1.0))
bad_among size bad seen false on some none = sym (any_none size (λ p. bad p && seen p) (λ p. by_test p (seen p) refl))
  where
    and_none : (b : Bool) → (b && false) ≡ false
    and_none true = refl
    and_none false = refl

    by_test : (p : Point) (b : Bool) → seen p ≡ b → (bad p && b) ≡ false
    by_test p true is = ap (λ a. a && true) (none refl p is)
    by_test p false is = and_none (bad p)

-- ---- what an answer says of a batch

-- a batch that isn't empty
pub some_batch : (b : Bool) (ps qs : List Paint) → (IsTrue b ↔ (ps ≡ [])) → ps ≡ qs → b ≡ false → qs ≡ [] → ⊥
some_batch b ps qs is same h e = false-true (sym h ∙ is.1 (same ∙ e))

-- an empty one
pub empty_batch : (b : Bool) (ps qs : List Paint) → (IsTrue b ↔ (ps ≡ [])) → ps ≡ qs → b ≡ true → qs ≡ []
empty_batch b ps qs is same h = sym same ∙ is.0 h

-- ---- the steps

module _ {C M : Type 0} (client : Ghosts C M) where
  -- the leaf of a number
  abbrev numbered : ℕ → LeafId
  numbered n = record { 0 = n }

  -- what a surface tells of the bad points among some is told of the machine's
  bad_is : (m : State C M) (parts : Parts C) (seen : Seen → Point → Bool) (b : Bool) → RepresentsState client m parts →
      (IsTrue b → (p : Point) × ((seen parts.surface.tree p ≡ true) × (is_bad parts.surface p ≡ true))) →
      (IsTrue (not b) → (p : Point) → seen parts.surface.tree p ≡ true → is_bad parts.surface p ≡ false) →
      b ≡ any_on m.tree.size (λ p. m.bad p && seen m.tree p)
  bad_is m parts seen b at some none =
      bad_among m.tree.size m.bad (seen parts.surface.tree) b at.sound.bad
      (λ h. let found = some h in (found.0, (found.1.0, sym (at.bad found.0) ∙ found.1.1)))
      (λ h p s. sym (at.bad p) ∙ none h p s)
      ∙ ap (λ (t : Seen). any_on m.tree.size (λ p. m.bad p && seen t p)) at.tree

  -- whether a visible point of the leaf is bad
  pub bad_visible : (m : State C M) (parts : Parts C) (leaf : LeafId) (b : Bool) → RepresentsState client m parts →
      (IsTrue b → (p : Point) × ((is_in_leaf leaf (spot parts.surface.tree p) ≡ true) × (is_bad parts.surface p ≡ true))) →
      (IsTrue (not b) → (p : Point) → is_in_leaf leaf (spot parts.surface.tree p) ≡ true → is_bad parts.surface p ≡ false) →
      b ≡ any_on m.tree.size (λ p. m.bad p && is_visible m leaf p)
  bad_visible m parts leaf b at some none = bad_is m parts (λ t p. is_in_leaf leaf (spot t p)) b at some none

  -- whether a point of a frame is bad
  pub frame_bad : (m : State C M) (parts : Parts C) (b : Bool) → RepresentsState client m parts →
      (IsTrue b → (p : Point) × ((is_frame (spot parts.surface.tree p) ≡ true) × (is_bad parts.surface p ≡ true))) →
      (IsTrue (not b) → (p : Point) → is_frame (spot parts.surface.tree p) ≡ true → is_bad parts.surface p ≡ false) →
      b ≡ is_frame_bad m
  frame_bad m parts b at some none = bad_is m parts (λ t p. is_frame (spot t p)) b at some none

  -- the value of a stage that is seen by these parts, for some spare room
  pub record IsView (opening : List (Item C)) (lines : List (JournalLine M)) (parts : Parts C) (s : StageView C M) : Type 0 where
    pub spare : ℕ
    pub is : (let v : StageView C M = record { opening = opening; journal = lines; screen = parts.surface.screen; spare = spare } in v ≡ s)

  -- the windows' batch of a leaf is the machine's
  pub batch_is : (m : State C M) (parts : Parts C) (leaf : LeafId) → RepresentsState client m parts → batch_at parts.windows leaf ≡ leaf_batch client m leaf
  batch_is m parts leaf at = ap (λ ws. batch_at ws leaf) at.windows ∙ presents-batch client m leaf

  -- there are as many windows as the machine has
  pub windows_many : (m : State C M) (parts : Parts C) → RepresentsState client m parts → length parts.windows ≡ length m.windows
  windows_many m parts at = ap (λ ws. length ws) at.windows ∙ presents-length client m

  -- as many as the opening's tree has leaves
  pub windows_all : (opening : List (Item C)) (lines : List (JournalLine M)) (parts : Parts C) → IsStage client opening lines parts →
      length parts.windows ≡ leaf_count (tree_of opening).nodes
  windows_all opening lines parts is =
      windows_many (replay client opening lines) parts is.kept ∙ is.kept.sound.windows ∙ is.like.leaves

  -- the same of a stage that is seen by its parts
  pub windows_of : {opening : List (Item C)} {lines : List (JournalLine M)} {parts : Parts C} (s : StageView C M) → IsStage client opening lines parts →
      IsView opening lines parts s → length parts.windows ≡ leaf_count (tree_of s.opening).nodes
  windows_of {opening} {lines} {parts} s is view =
      windows_all opening lines parts is ∙ ap (λ (v : StageView C M). leaf_count (tree_of v.opening).nodes) view.is

  -- a leaf for which something waits must be repainted
  pub unsettled_waits : (m : State C M) (parts : Parts C) (leaf : LeafId) → RepresentsState client m parts → (batch_at parts.windows leaf ≡ [] → ⊥) →
      true ≡ is_unsettled client m leaf
  unsettled_waits m parts leaf at some = by_batch (leaf_batch client m leaf) (batch_is m parts leaf at)
    where
      rest : Bool
      rest = any_on m.tree.size (λ p. m.bad p && is_visible m leaf p)

      by_batch : (ps : List Paint) → batch_at parts.windows leaf ≡ ps → true ≡ (not (length ps == 0) || rest)
      by_batch [] e = absurd (some e)
      by_batch (p ∷ ps) e = sym (ap (λ b. not b || rest) (other_test (length (p ∷ ps)) 0 (λ h. absurd (omega arith))))

  -- another one must be if a visible point of it is bad
  pub unsettled_quiet : (m : State C M) (parts : Parts C) (leaf : LeafId) (b : Bool) → RepresentsState client m parts → batch_at parts.windows leaf ≡ [] →
      b ≡ any_on m.tree.size (λ p. m.bad p && is_visible m leaf p) → b ≡ is_unsettled client m leaf
  unsettled_quiet m parts leaf b at none is =
      is ∙ ap (λ (ps : List Paint). not (length ps == 0) || any_on m.tree.size (λ p. m.bad p && is_visible m leaf p))
      (sym none ∙ batch_is m parts leaf at)

  -- the repaints of one leaf more, which must be repainted
  pub repaint_more : (m : State C M) (n : ℕ) (steps : List (Step M)) → steps ≡ repaints_below client n m → is_unsettled client m (record { 0 = n }) ≡ true →
      steps ++ Repaint (record { 0 = n }) ∷ [] ≡ repaints_below client (n + 1) m
  repaint_more m n steps is must =
      rw (add-one) (ap (λ (xs : List (Step M)). xs ++ Repaint (numbered n) ∷ []) is
      ∙ ap (λ b. repaints_below client n m ++ cond b (Repaint (numbered n) ∷ []) []) (sym must))

  -- and of one that needn't be
  pub repaint_less : (m : State C M) (n : ℕ) (steps : List (Step M)) → steps ≡ repaints_below client n m → is_unsettled client m (record { 0 = n }) ≡ false →
      steps ≡ repaints_below client (n + 1) m
  repaint_less m n steps is quiet =
      rw (add-one) (is ∙ sym (append-nil (repaints_below client n m))
      ∙ ap (λ b. repaints_below client n m ++ cond b (Repaint (numbered n) ∷ []) []) (sym quiet))

  -- all steps that settle a state: the frames behind the repaints, if they are to be painted
  pub settling_framed : (m : State C M) (steps : List (Step M)) → steps ≡ repaints_below client (length m.windows) m → is_frame_bad m ≡ true →
      steps ++ PaintFrame ∷ [] ≡ settling client m
  settling_framed m steps is bad =
      ap (λ (xs : List (Step M)). xs ++ PaintFrame ∷ []) is ∙ ap (λ b. repaints_below client (length m.windows) m ++ cond b (PaintFrame ∷ []) []) (sym bad)

  -- and if they aren't
  pub settling_unframed : (m : State C M) (steps : List (Step M)) → steps ≡ repaints_below client (length m.windows) m → is_frame_bad m ≡ false →
      steps ≡ settling client m
  settling_unframed m steps is good =
      is ∙ sym (append-nil (repaints_below client (length m.windows) m))
      ∙ ap (λ b. repaints_below client (length m.windows) m ++ cond b (PaintFrame ∷ []) []) (sym good)

  -- all of them are for the painter, under the tree's lock
  painters : (opening : List (Item C)) (lines : List (JournalLine M)) (parts : Parts C) (steps : List (Step M)) →
      IsStage client opening lines parts → steps ≡ settling client (replay client opening lines) → All (IsPainters (tree_of opening).nodes) steps
  painters opening lines parts steps is same k d lt =
      all_at (IsFor t Painter (Mu ∷ [])) steps k d
      (subst (λ (xs : List (Step M)). AllByRecursion (IsFor t Painter (Mu ∷ [])) xs) (sym same)
      (settling-for client t (replay client opening lines) (is.kept.sound.windows ∙ is.like.leaves))) lt
    where
      t : Nodes
      t = (tree_of opening).nodes

  -- the same of a stage that is seen by its parts
  pub settling_painters : {opening : List (Item C)} {lines : List (JournalLine M)} {parts : Parts C} (s : StageView C M) (steps : List (Step M)) →
      IsStage client opening lines parts → IsView opening lines parts s → steps ≡ settling client (state client s) →
      All (IsPainters (tree_of s.opening).nodes) steps
  settling_painters {opening} {lines} {parts} s steps is view =
      subst (λ (v : StageView C M). steps ≡ settling client (state client v) → All (IsPainters (tree_of v.opening).nodes) steps) view.is
      (painters opening lines parts steps is)

  -- the repaints of all windows are those of the machine's
  pub repaints_done : {opening : List (Item C)} {lines : List (JournalLine M)} {parts : Parts C} (s : StageView C M) (n : ℕ) (steps : List (Step M)) →
      IsStage client opening lines parts → IsView opening lines parts s → n ≡ length parts.windows →
      steps ≡ repaints_below client n (state client s) → steps ≡ repaints_below client (length (state client s).windows) (state client s)
  repaints_done {opening} {lines} {parts} s n steps is view all same =
      same ∙ ap (λ k. repaints_below client k (state client s)) (all ∙ many)
    where
      many : length parts.windows ≡ length (state client s).windows
      many =
          subst (λ (v : StageView C M). length parts.windows ≡ length (state client v).windows) view.is
          (windows_many (replay client opening lines) parts is.kept)

  -- ---- the journal

  -- the state after the lines of some steps
  pub state_after : (opening : List (Item C)) (lines : List (JournalLine M)) (actor : Actor) (held : List Level) (steps : List (Step M)) →
      replay client opening (lines ++ lines_of_steps client actor held (replay client opening lines) steps)
      ≡ after_steps client (replay client opening lines) steps
  state_after opening lines actor held steps =
      replay-append client opening lines (lines_of_steps client actor held (replay client opening lines) steps)
      ∙ replay_from-lines_of client actor held (replay client opening lines) steps

  -- the lines of one step more
  pub line_more : (opening : List (Item C)) (lines now : List (JournalLine M)) (actor : Actor) (held : List Level) (steps : List (Step M))
      (k : ℕ) (d : Step M) →
      k < length steps → now ≡ lines ++ lines_of_steps client actor held (replay client opening lines) (take k steps) →
      now ++ line_of_step client (replay client opening now) actor held (get_or steps k d) ∷ []
      ≡ lines ++ lines_of_steps client actor held (replay client opening lines) (take (k + 1) steps)
  line_more opening lines now actor held steps k d lt is =
      ap (λ (ls : List (JournalLine M)). ls ++ line_of_step client (replay client opening ls) actor held (get_or steps k d) ∷ []) is
      ∙ ap (λ (s : State C M). (lines ++ lines_of_steps client actor held m (take k steps)) ++ line_of_step client s actor held (get_or steps k d) ∷ [])
      (state_after opening lines actor held (take k steps))
      ∙ append_assoc lines (lines_of_steps client actor held m (take k steps))
      (line_of_step client (after_steps client m (take k steps)) actor held (get_or steps k d) ∷ [])
      ∙ ap (λ (ls : List (JournalLine M)). lines ++ ls) (sym (lines_of-take client actor held m steps k d lt))
    where
      m : State C M
      m = replay client opening lines

  -- the first of the lines are those of the first steps
  pub lines_first : (actor : Actor) (held : List Level) (m : State C M) (steps : List (Step M)) (k : ℕ) →
      lines_of_steps client actor held m (take k steps) ≡ take k (lines_of_steps client actor held m steps)
  lines_first actor held m steps zero = refl
  lines_first actor held m [] (suc k) = refl
  lines_first actor held m (step ∷ steps) (suc k) =
      ap (λ (ls : List (JournalLine M)). line_of_step client m actor held step ∷ ls) (lines_first actor held (next client m step) steps k)

  -- a stage whose journal has the lines of the first k steps of the painter
  pub record HasPainted (old now : StageView C M) (steps : List (Step M)) (k : ℕ) : Type 0 where
    pub opening : now.opening ≡ old.opening
    pub journal : now.journal ≡ old.journal ++ lines_of_steps client Painter (Mu ∷ []) (state client old) (take k steps)

  -- the journal after one step more
  pub painted_more : (old now : StageView C M) (held : List Level) (steps : List (Step M)) (k : ℕ) (step : Step M) →
      HasPainted old now steps k → held ≡ Mu ∷ [] → (k < length steps) × (step ≡ get_or steps k step) →
      now.journal ++ line client now Painter held step ∷ [] ≡ old.journal ++ lines_of_steps client Painter (Mu ∷ []) (state client old) (take (k + 1) steps)
  painted_more old now held steps k step has held_is at =
      ap (λ (h : List Level). now.journal ++ line client now Painter h step ∷ []) held_is
      ∙ ap (λ (items : List (Item C)). now.journal ++ line_of_step client (replay client items now.journal) Painter (Mu ∷ []) step ∷ []) has.opening
      ∙ ap (λ (x : Step M). now.journal ++ line_of_step client (replay client old.opening now.journal) Painter (Mu ∷ []) x ∷ []) at.1
      ∙ line_more old.opening old.journal now.journal Painter (Mu ∷ []) steps k step at.0 has.journal

  -- ---- the settled stage

  -- what holds of a stage, by its parts
  pub stands_is : {opening : List (Item C)} {lines : List (JournalLine M)} {parts : Parts C} (s : StageView C M) → IsStage client opening lines parts →
      IsShown parts.surface → IsPicture parts.surface.screen → IsView opening lines parts s → Stands client s
  stands_is {opening} {lines} {parts} s is shown picture view = subst (λ (v : StageView C M). Stands client v) view.is (record {
    forest = subst (λ (t : Seen). IsForest t.nodes) is.kept.tree shown.forest;
    root = subst (λ (t : Seen). HasRoot t) is.kept.tree shown.root;
    sound = is.kept.sound;
    agrees = is.kept.agrees;
    picture = picture;
  })

  -- a stage after the lines that settle it
  pub settled_is : (s n : StageView C M) → Stands client s → n.opening ≡ s.opening → n.journal ≡ s.journal ++ settling_lines client (state client s) →
      IsSettled client (state client s) (state client n)
  settled_is s n stands opening journal =
      subst (λ (m : State C M). IsSettled client (state client s) m) (sym same) (settles client (state client s) stands.forest stands.root stands.sound)
    where
      same : state client n ≡ after_steps client (state client s) (settling client (state client s))
      same =
          ap (λ (items : List (Item C)). replay client items n.journal) opening
          ∙ ap (λ (lines : List (JournalLine M)). replay client s.opening lines) journal
          ∙ state_after s.opening s.journal Painter (Mu ∷ []) (settling client (state client s))

  -- its screen is as if it were painted from nothing
  pub settled_screen : (s n : StageView C M) → Stands client n → IsSettled client (state client s) (state client n) → n.screen ≡ render client (state client n)
  settled_screen s n stands settled =
      idle_screen client (state client n) n.screen stands.forest (fits client (state client n) stands.forest stands.sound)
      (record { good = λ p on. settled.good p; batches = settled.batches }) stands.agrees stands.picture
