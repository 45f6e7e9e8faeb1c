-- The bad leaves are painted side by side and put one after another: what the stage is then.
use Rattle.std.proofs.Common.{◌≡◌, ℕ, zero, suc, ◌+◌, ◌<◌, cond, List, [], ◌∷◌, ◌++◌, true, false, length, get_or, take, refl, sym, ap, subst, ◌∙◌, add-one, arith}
use Rattle.std.specs.Prelude.{All}
use Rattle.std.specs.List.{AllByRecursion}
use Rattle.std.proofs.lemmas.List.{append-nil}
use Rattle.tr_base.specs.declared.Point.{Point}
use Rattle.tr_base.specs.declared.LeafId.{LeafId}
use Rattle.tr_client.specs.declared.clients.Client.{Ghosts}
use Rattle.tr_forest.specs.Nodes.{Nodes, leaf_count}
use Rattle.tr_tree.specs.Trees.{Seen}
use Rattle.tr_spot.specs.Spots.{spot, is_in_leaf}
use Rattle.tr_levels.specs.declared.Level.TheVariants.{Mu}
use Rattle.tr_journal.specs.declared.items.Item.{Item}
use Rattle.tr_journal.specs.declared.steps.Actor.TheVariants.{Painter}
use Rattle.tr_journal.specs.declared.steps.Step.{Step}
use Rattle.tr_journal.specs.Journals.{JournalLine}
use Rattle.tr_journal.specs.Openings.{tree_of}
use Rattle.tr_journal.specs.Steps.{IsFor}
use Rattle.tr_machine.specs.States.{State, leaf_batch}
use Rattle.tr_machine.specs.Paintings.{is_visible}
use Rattle.tr_machine.specs.Pictures.{render}
use Rattle.tr_machine.specs.Replays.{after_steps, lines_of_steps, replay}
use Rattle.tr_machine.specs.SettleSteps.{frame_steps}
use Rattle.tr_machine.specs.SharedRepaints.{IsPaintedOf, all_bad_leaves, bad_leaves, flushes_below, flushing, has_bad, repainted_each, share_lines}
use Rattle.tr_machine.proofs.JournalLemmas.{all_at}
use Rattle.tr_machine.proofs.RenderLemmas.{idle_screen}
use Rattle.tr_machine.proofs.SharedRepaintLemmas.{AreApart, AreBelow, AreOthers, bad_apart, bad_below, each_batch, each_tree, flushed_all, flushing-for, framing_batch, framing_good, painted_each, repainted_good, state_shared}
use Rattle.tr_machine.proofs.SoundLemmas.{fits}
use Rattle.tr_stage.specs.declared.sharing.Painted.{Painted}
use Rattle.tr_stage.specs.Stages.{IsPainters, IsStage, Parts, StageView, state}
use Rattle.tr_stage.specs.Standings.{Stands}
use Rattle.tr_stage.specs.Sharing.{ArePainted}
use Rattle.tr_stage.proofs.SettleLemmas.{IsView, state_after}
use Rattle.tr_stage.proofs.StaleLemmas.{windows_seen}

module _ {C M : Type 0} (client : Ghosts C M) where
  -- ---- a row of painted parts

  -- one more
  pub painted_push : (m : State C M) (leaves : List LeafId) (all : List Painted) (leaf : LeafId) (x : Painted) → ArePainted client m leaves all →
      x.leaf ≡ leaf → IsPaintedOf client m leaf x.part x.pixels.items → ArePainted client m (leaves ++ leaf ∷ []) (all ++ x ∷ [])
  painted_push m [] [] leaf x are same is = (same, is, tt)
  painted_push m [] (y ∷ all) leaf x are same is = absurd are
  painted_push m (l ∷ leaves) [] leaf x are same is = absurd are
  painted_push m (l ∷ leaves) (y ∷ all) leaf x are same is = (are.0, are.1, painted_push m leaves all leaf x are.2 same is)

  pub painted_more : (m : State C M) (n : ℕ) (all : List Painted) (x : Painted) → ArePainted client m (bad_leaves n m) all →
      has_bad m (record { 0 = n }) ≡ true →
      x.leaf ≡ record { 0 = n } → IsPaintedOf client m (record { 0 = n }) x.part x.pixels.items → ArePainted client m (bad_leaves (n + 1) m) (all ++ x ∷ [])
  painted_more m n all x are must same is =
      let P : List LeafId → Type 0 = λ ls. ArePainted client m ls (all ++ x ∷ []) in
      rw (add-one) (subst P (ap (λ b. bad_leaves n m ++ cond b (record { 0 = n } ∷ []) []) (sym must))
      (painted_push m (bad_leaves n m) all (record { 0 = n }) x are same is))

  pub painted_less : (m : State C M) (n : ℕ) (all : List Painted) → ArePainted client m (bad_leaves n m) all → has_bad m (record { 0 = n }) ≡ false →
      ArePainted client m (bad_leaves (n + 1) m) all
  painted_less m n all are quiet =
      let P : List LeafId → Type 0 = λ ls. ArePainted client m ls all in
      rw (add-one) (subst P (sym (append-nil (bad_leaves n m)) ∙ ap (λ b. bad_leaves n m ++ cond b (record { 0 = n } ∷ []) []) (sym quiet)) are)

  -- what is at a place of them
  pub record IsPaintedAt (m : State C M) (leaves : List LeafId) (k : ℕ) (x : Painted) : Type 0 where
    pub leaf : x.leaf ≡ get_or leaves k x.leaf
    pub within : k < length leaves
    pub painted : IsPaintedOf client m x.leaf x.part x.pixels.items
    pub others : AreOthers x.leaf (take k leaves)

  others_later : (leaf : LeafId) (l : LeafId) (leaves : List LeafId) (k : ℕ) → AllByRecursion (λ (j : LeafId). j.0 ≡ l.0 → ⊥) leaves → k < length leaves →
      leaf ≡ get_or leaves k leaf → l.0 ≡ leaf.0 → ⊥
  others_later leaf l [] k all lt is same = omega (arith, lt)
  others_later leaf l (x ∷ leaves) zero all lt is same = all.0 (sym (ap (λ (j : LeafId). j.0) is) ∙ sym same)
  others_later leaf l (x ∷ leaves) (suc k) all lt is same = others_later leaf l leaves k all.1 (omega (arith, lt)) is same

  pub painted_at : (m : State C M) (leaves : List LeafId) (all : List Painted) (k : ℕ) (x : Painted) → ArePainted client m leaves all → AreApart leaves →
      k < length all → x ≡ get_or all k x → IsPaintedAt m leaves k x
  painted_at m [] [] k x are apart lt is = absurd (omega (arith, lt))
  painted_at m [] (y ∷ all) k x are apart lt is = absurd are
  painted_at m (l ∷ leaves) [] k x are apart lt is = absurd are
  painted_at m (l ∷ leaves) (y ∷ all) zero x are apart lt is =
      let leaf_is : x.leaf ≡ l = ap (λ (z : Painted). z.leaf) is ∙ are.0 in
      record {
        leaf = leaf_is;
        within = omega arith;
        painted =
            let P : Painted → Type 0 = λ z. IsPaintedOf client m z.leaf z.part z.pixels.items in
            let Q : LeafId → Type 0 = λ j. IsPaintedOf client m j y.part y.pixels.items in
            subst P (sym is) (subst Q (sym are.0) are.1);
        others = tt;
      }
  painted_at m (l ∷ leaves) (y ∷ all) (suc k) x are apart lt is =
      let rest = painted_at m leaves all k x are.2 apart.1 (omega (arith, lt)) is in
      record {
        leaf = rest.leaf;
        within = omega (arith, rest.within);
        painted = rest.painted;
        others = (others_later x.leaf l leaves k apart.0 rest.within rest.leaf, rest.others);
      }

  -- there are as many as leaves
  pub painted_length : (m : State C M) (leaves : List LeafId) (all : List Painted) → ArePainted client m leaves all → length all ≡ length leaves
  painted_length m [] [] are = refl
  painted_length m [] (y ∷ all) are = absurd are
  painted_length m (l ∷ leaves) [] are = absurd are
  painted_length m (l ∷ leaves) (y ∷ all) are = ap suc (painted_length m leaves all are.2)

  -- a stage onto which the first k of a row were put
  pub record HasPut (old now : StageView C M) (leaves : List LeafId) (k : ℕ) : Type 0 where
    pub opening : now.opening ≡ old.opening
    pub journal : now.journal ≡ old.journal ++ share_lines client (state client old) (take k leaves)

  pub put_state : (old now : StageView C M) (leaves : List LeafId) (k : ℕ) → HasPut old now leaves k →
      state client now ≡ repainted_each client (state client old) (take k leaves)
  put_state old now leaves k has =
      ap (λ (items : List (Item C)). replay client items now.journal) has.opening
      ∙ ap (λ (lines : List (JournalLine M)). replay client old.opening lines) has.journal
      ∙ state_shared client old.opening old.journal (take k leaves)

  -- the next one may be put
  pub put_ready : (old now : StageView C M) (leaves : List LeafId) (all : List Painted) (k : ℕ) (x : Painted) → HasPut old now leaves k →
      ArePainted client (state client old) leaves all → AreApart leaves → (k < length all) × (x ≡ get_or all k x) →
      IsPaintedOf client (state client now) x.leaf x.part x.pixels.items
  put_ready old now leaves all k x has are apart at =
      let here = painted_at (state client old) leaves all k x are apart at.0 at.1 in
      let P : State C M → Type 0 = λ s. IsPaintedOf client s x.leaf x.part x.pixels.items in
      subst P (sym (put_state old now leaves k has))
      (painted_each client (state client old) (take k leaves) x.leaf x.part x.pixels.items here.others here.painted)

  pub put_idle : (old now : StageView C M) (leaves : List LeafId) (k : ℕ) (leaf : LeafId) → HasPut old now leaves k →
      ((l : LeafId) → leaf_batch client (state client old) l ≡ []) → leaf_batch client (state client now) leaf ≡ []
  put_idle old now leaves k leaf has none =
      ap (λ (s : State C M). leaf_batch client s leaf) (put_state old now leaves k has) ∙ each_batch client (state client old) (take k leaves) none leaf

  -- the bad leaves are leaves
  get_below : (n k : ℕ) (d : LeafId) (leaves : List LeafId) → AreBelow n leaves → k < length leaves → (get_or leaves k d).0 < n
  get_below n k d [] all lt = absurd (omega (arith, lt))
  get_below n zero d (l ∷ leaves) all lt = all.0
  get_below n (suc k) d (l ∷ leaves) all lt = get_below n k d leaves all.1 (omega (arith, lt))

  pub put_within : (m : State C M) (n : ℕ) (all : List Painted) (k : ℕ) (x : Painted) → ArePainted client m (bad_leaves n m) all →
      (k < length all) × (x ≡ get_or all k x) → x.leaf.0 < n
  put_within m n all k x are at =
      let here = painted_at m (bad_leaves n m) all k x are (bad_apart n m) at.0 at.1 in
      subst (λ (l : LeafId). l.0 < n) (sym here.leaf) (get_below n k x.leaf (bad_leaves n m) (bad_below n m) here.within)

  -- a stage before, after the flushes, after the shares, and after the frames
  pub record AreShared (s0 s1 s2 s3 : StageView C M) : Type 0 where
    pub stands1 : Stands client s1
    pub stands2 : Stands client s2
    pub stands3 : Stands client s3
    pub opening1 : s1.opening ≡ s0.opening
    pub opening2 : s2.opening ≡ s1.opening
    pub opening3 : s3.opening ≡ s2.opening
    pub journal1 : s1.journal ≡ s0.journal ++ lines_of_steps client Painter (Mu ∷ []) (state client s0) (flushing client (state client s0))
    pub journal2 : s2.journal ≡ s1.journal ++ share_lines client (state client s1) (all_bad_leaves (state client s1))
    pub journal3 : s3.journal ≡ s2.journal ++ lines_of_steps client Painter (Mu ∷ []) (state client s2) (frame_steps (state client s2))

  -- the state of a stage after the lines of some steps
  after_lines : (s n : StageView C M) (steps : List (Step M)) → n.opening ≡ s.opening →
      n.journal ≡ s.journal ++ lines_of_steps client Painter (Mu ∷ []) (state client s) steps → state client n ≡ after_steps client (state client s) steps
  after_lines s n steps opening journal =
      ap (λ (items : List (Item C)). replay client items n.journal) opening
      ∙ ap (λ (lines : List (JournalLine M)). replay client s.opening lines) journal
      ∙ state_after client s.opening s.journal Painter (Mu ∷ []) steps

  after_shares : (s n : StageView C M) (leaves : List LeafId) → n.opening ≡ s.opening → n.journal ≡ s.journal ++ share_lines client (state client s) leaves →
      state client n ≡ repainted_each client (state client s) leaves
  after_shares s n leaves opening journal =
      ap (λ (items : List (Item C)). replay client items n.journal) opening
      ∙ ap (λ (lines : List (JournalLine M)). replay client s.opening lines) journal
      ∙ state_shared client s.opening s.journal leaves

  -- nothing waits after the flushes
  pub flushed_idle : (s0 s1 : StageView C M) → s1.opening ≡ s0.opening →
      s1.journal ≡ s0.journal ++ lines_of_steps client Painter (Mu ∷ []) (state client s0) (flushing client (state client s0)) → (leaf : LeafId) →
      leaf_batch client (state client s1) leaf ≡ []
  flushed_idle s0 s1 opening journal leaf =
      ap (λ (s : State C M). leaf_batch client s leaf) (after_lines s0 s1 (flushing client (state client s0)) opening journal)
      ∙ flushed_all client (state client s0) leaf

  module _ (s0 s1 s2 s3 : StageView C M) (a : AreShared s0 s1 s2 s3) where
    one : state client s1 ≡ after_steps client (state client s0) (flushing client (state client s0))
    one = after_lines s0 s1 (flushing client (state client s0)) a.opening1 a.journal1

    two : state client s2 ≡ repainted_each client (state client s1) (all_bad_leaves (state client s1))
    two = after_shares s1 s2 (all_bad_leaves (state client s1)) a.opening2 a.journal2

    three : state client s3 ≡ after_steps client (state client s2) (frame_steps (state client s2))
    three = after_lines s2 s3 (frame_steps (state client s2)) a.opening3 a.journal3

    -- nothing waits
    pub shared_idle : (leaf : LeafId) → leaf_batch client (state client s3) leaf ≡ []
    shared_idle leaf =
        ap (λ (s : State C M). leaf_batch client s leaf) three ∙ framing_batch client (state client s2) leaf
        ∙ ap (λ (s : State C M). leaf_batch client s leaf) two
        ∙ each_batch client (state client s1) (all_bad_leaves (state client s1)) (flushed_idle s0 s1 a.opening1 a.journal1) leaf

    -- no point is bad
    pub shared_good : (p : Point) → (state client s3).bad p ≡ false
    shared_good p =
        let m : State C M = state client s1 in
        let P : State C M → Type 0 = λ s. (leaf : LeafId) (q : Point) → leaf.0 < leaf_count s.tree.nodes → is_visible s leaf q ≡ true → s.bad q ≡ false in
        let Q : Seen → Type 0 = λ t. (leaf : LeafId) (q : Point) → leaf.0 < leaf_count t.nodes → is_in_leaf leaf (spot t q) ≡ true →
        (repainted_each client m (all_bad_leaves m)).bad q ≡ false in
        let leaves : P (repainted_each client m (all_bad_leaves m)) =
        subst Q (sym (each_tree client m (all_bad_leaves m))) (repainted_good client m a.stands1.sound.windows a.stands1.sound.bad) in
        ap (λ (s : State C M). s.bad p) three
        ∙ framing_good client (state client s2) a.stands2.forest a.stands2.root a.stands2.sound.bad (subst P (sym two) leaves) p

    -- the screen is as if it were painted from nothing
    pub shared_screen : s3.screen ≡ render client (state client s3)
    shared_screen =
        idle_screen client (state client s3) s3.screen a.stands3.forest (fits client (state client s3) a.stands3.forest a.stands3.sound)
        (record { good = λ p on. shared_good p; batches = shared_idle }) a.stands3.agrees a.stands3.picture

  -- ---- the steps that are made

  -- the flushes of all windows are those of the machine's
  pub flushes_done : {opening : List (Item C)} {lines : List (JournalLine M)} {parts : Parts C} (s : StageView C M) (n : ℕ) (steps : List (Step M)) →
      IsStage client opening lines parts → IsView client opening lines parts s → n ≡ length parts.windows →
      steps ≡ flushes_below client n (state client s) → steps ≡ flushing client (state client s)
  flushes_done s n steps is view all same = same ∙ ap (λ k. flushes_below client k (state client s)) (all ∙ windows_seen client s is view)

  -- so are the painted parts
  pub painted_done : {opening : List (Item C)} {lines : List (JournalLine M)} {parts : Parts C} (s : StageView C M) (n : ℕ) (all : List Painted) →
      IsStage client opening lines parts → IsView client opening lines parts s → n ≡ length parts.windows →
      ArePainted client (state client s) (bad_leaves n (state client s)) all → ArePainted client (state client s) (all_bad_leaves (state client s)) all
  painted_done s n all is view count are =
      subst (λ (k : ℕ). ArePainted client (state client s) (bad_leaves k (state client s)) all) (count ∙ windows_seen client s is view) are

  flushers : (opening : List (Item C)) (lines : List (JournalLine M)) (parts : Parts C) (steps : List (Step M)) → IsStage client opening lines parts →
      steps ≡ flushing client (replay client opening lines) → All (IsPainters (tree_of opening).nodes) steps
  flushers opening lines parts steps is same k d lt =
      let t : Nodes = (tree_of opening).nodes in
      all_at (IsFor t Painter (Mu ∷ [])) steps k d
      (subst (λ (xs : List (Step M)). AllByRecursion (IsFor t Painter (Mu ∷ [])) xs) (sym same)
      (flushing-for client t (replay client opening lines) (is.kept.sound.windows ∙ is.like.leaves))) lt

  pub flushing_painters : {opening : List (Item C)} {lines : List (JournalLine M)} {parts : Parts C} (s : StageView C M) (steps : List (Step M)) →
      IsStage client opening lines parts → IsView client opening lines parts s → steps ≡ flushing client (state client s) →
      All (IsPainters (tree_of s.opening).nodes) steps
  flushing_painters {opening} {lines} {parts} s steps is view =
      subst (λ (v : StageView C M). steps ≡ flushing client (state client v) → All (IsPainters (tree_of v.opening).nodes) steps) view.is
      (flushers opening lines parts steps is)
