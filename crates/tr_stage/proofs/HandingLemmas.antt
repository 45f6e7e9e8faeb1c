-- Commands that are handed over.
use Rattle.std.proofs.Common.{◌≡◌, ℕ, zero, suc, ◌+◌, ◌<◌, List, [], ◌∷◌, ◌++◌, Option, Some, take, length, get_or, All, refl, sym, ap, ap₂, subst, ◌∙◌, arith, append-nil}
use Rattle.std.specs.Prelude.{slice_get, unwrap_or}
use Rattle.std.specs.Option.{option_map}
use Rattle.std.proofs.Math.Path.{fun_ext}
use Rattle.std.proofs.lemmas.List.{append_assoc}
use Rattle.tr_base.specs.declared.Kind.{Kind}
use Rattle.tr_base.specs.declared.Size.{Size}
use Rattle.tr_base.specs.declared.LeafId.{LeafId}
use Rattle.tr_paint.specs.declared.Paint.{Paint}
use Rattle.tr_paint.specs.Traces.{Look, look_of}
use Rattle.tr_paint.specs.Patches.{IsPatch}
use Rattle.tr_paint.proofs.PatchLemmas.{two_patches}
use Rattle.tr_client.specs.declared.clients.Client.{Ghosts}
use Rattle.tr_client.specs.Runs.{patches_of}
use Rattle.tr_client.specs.Runs as runs
use Rattle.tr_spot.specs.Leaves.{leaf_size}
use Rattle.tr_levels.specs.declared.Level.{Level}
use Rattle.tr_levels.specs.declared.Level.TheVariants.{Win}
use Rattle.tr_levels.specs.Levels.{HaveLevels}
use Rattle.tr_journal.specs.declared.items.Item.{Item}
use Rattle.tr_journal.specs.declared.steps.Actor.TheVariants.{Leaf}
use Rattle.tr_journal.specs.declared.steps.Step.TheVariants.{Act}
use Rattle.tr_journal.specs.Journals.{JournalLine}
use Rattle.tr_journal.specs.Openings.{tree_of}
use Rattle.tr_journal.specs.Steps.{IsLeaf}
use Rattle.tr_machine.specs.Windows.{Window, Command, content, with_change, batch}
use Rattle.tr_machine.specs.States.{State, changed_at, content_of, look, window_of}
use Rattle.tr_machine.specs.Paintings.{acted}
use Rattle.tr_machine.specs.Replays.{lines_by, replay}
use Rattle.tr_machine.specs.CommandSteps.{act_entries, act_entry, act_steps}
use Rattle.tr_machine.specs.Promises.{IsSound, Leads}
use Rattle.tr_machine.proofs.JournalLemmas.{legal-append, replay-append}
use Rattle.tr_machine.proofs.CommandStepLemmas.{commands_more, handed, handed_more, handed_none, legal_handed, no_commands, replay_handed, with_commands}
use Rattle.tr_machine.proofs.ListLemmas.{changed_at-at, changed_at-twice, unchanged}
use Rattle.tr_machine.proofs.SoundLemmas.{sound_changed}
use Rattle.tr_machine.proofs.StillLemmas.{window_shows}
use Rattle.tr_windows.specs.Presents.{Present, act_on, present, presents, taken_over}
use Rattle.tr_windows.proofs.PresentLemmas.{present-changed, presents-acted, presents-content}
use Rattle.tr_stage.specs.Stages.{RepresentsState, IsOf, IsStage, Parts}
use Rattle.tr_stage.proofs.StageLemmas.{holding}

-- ---- entries

-- the entries of the first commands, and of one more
pub entries_more : {M : Type 0} (leaf : LeafId) (cmds : List M) (levels : List (List Level)) (k : ℕ) (c : M) (l : List Level) →
    k < length cmds → length levels ≡ length cmds → c ≡ get_or cmds k c → l ≡ get_or levels k l →
    act_entries leaf (take (k + 1) cmds) (take (k + 1) levels)
    ≡ act_entries leaf (take k cmds) (take k levels) ++ act_entry leaf (l ++ Win leaf ∷ [], Act leaf c) ∷ []
entries_more leaf [] levels k c l within same here there = absurd (omega arith)
entries_more leaf (x ∷ cmds) [] k c l within same here there = absurd (omega arith)
entries_more leaf (x ∷ cmds) (y ∷ levels) zero c l within same here there =
    ap₂ (λ a b. act_entry leaf (b ++ Win leaf ∷ [], Act leaf a) ∷ []) (sym here) (sym there)
entries_more leaf (x ∷ cmds) (y ∷ levels) (suc k) c l within same here there =
    let e : suc k + 1 ≡ suc (k + 1) = omega arith in
    rw e (ap (λ es. act_entry leaf (y ++ Win leaf ∷ [], Act leaf x) ∷ es) (entries_more leaf cmds levels k c l (omega arith) (omega arith) here there))

-- the same of commands that came one by one
pub entries_pushed : {M : Type 0} (leaf : LeafId) (cmds : List M) (levels : List (List Level)) (c : M) (l : List Level) → length cmds < length levels →
    l ≡ get_or levels (length cmds) l → act_entries leaf (cmds ++ c ∷ []) (take (length cmds + 1) levels)
    ≡ act_entries leaf cmds (take (length cmds) levels) ++ act_entry leaf (l ++ Win leaf ∷ [], Act leaf c) ∷ []
entries_pushed leaf cmds [] c l within there = absurd (omega arith)
entries_pushed leaf [] (y ∷ levels) c l within there = ap (λ b. act_entry leaf (b ++ Win leaf ∷ [], Act leaf c) ∷ []) (sym there)
entries_pushed leaf (x ∷ cmds) (y ∷ levels) c l within there =
    let e : suc (length cmds) + 1 ≡ suc (length cmds + 1) = omega arith in
    rw e (ap (λ es. act_entry leaf (y ++ Win leaf ∷ [], Act leaf x) ∷ es) (entries_pushed leaf cmds levels c l (omega arith) there))

-- they sent nothing
pub entries_quiet : {M : Type 0} (leaf : LeafId) (cmds : List M) (levels : List (List Level)) → All (λ e. e.reply.sent ≡ 0) (act_entries leaf cmds levels)
entries_quiet leaf [] levels i d within = absurd (omega arith)
entries_quiet leaf (c ∷ cmds) [] i d within = absurd (omega arith)
entries_quiet leaf (c ∷ cmds) (l ∷ levels) zero d within = refl
entries_quiet leaf (c ∷ cmds) (l ∷ levels) (suc i) d within = entries_quiet leaf cmds levels i d (omega arith)

-- ---- small facts

-- what stands in an option
stands : {A B : Type 0} (f : A → B) (o : Option A) (x : A) (y : B) → o ≡ Some x → option_map f o ≡ Some y → f x ≡ y
stands f o x y is has = ap (λ p. unwrap_or p y) (sym (ap (option_map f) is) ∙ has)

module _ {C M : Type 0} (client : Ghosts C M) where
  -- ---- one window

  -- what the program holds of it
  abbrev many_on : Look → Size → List M → Present C → Present C
  many_on look size cmds p = record {
    content = runs.content_after client p.content cmds;
    batch = p.batch ++ patches_of client look size p.content cmds;
  }

  many_more : (look : Look) (size : Size) (cmd : M) (cmds : List M) (p : Present C) →
      many_on look size cmds (act_on client look size cmd p) ≡ many_on look size (cmd ∷ cmds) p
  many_more look size cmd cmds p =
      let to : C = runs.content_after client p.content (cmd ∷ cmds) in
      let with : List Paint → Present C = λ b. record { content = to; batch = b } in
      ap with (append_assoc p.batch (client.patch look size p.content cmd) (patches_of client look size (client.next p.content cmd) cmds))

  many_none : (look : Look) (size : Size) (p : Present C) → many_on look size [] p ≡ p
  many_none look size p =
      let with : List Paint → Present C = λ b. record { content = p.content; batch = b } in
      ap with (append-nil p.batch)

  present_many : (look : Look) (size : Size) (cmds : List M) (w : Window C M) →
      present client look size (with_commands client cmds w) ≡ many_on look size cmds (present client look size w)
  present_many look size [] w = ap (present client look size) (no_commands client w) ∙ sym (many_none look size (present client look size w))
  present_many look size (cmd ∷ cmds) w =
      ap (present client look size) (sym (commands_more client cmd cmds w))
      ∙ present_many look size cmds (with_change (Command cmd) w)
      ∙ ap (many_on look size cmds) (present-changed client look size (Command cmd) w)
      ∙ many_more look size cmd cmds (present client look size w)

  -- ---- states

  -- the windows
  presents_handed : (m : State C M) (leaf : LeafId) (cmds : List M) →
      presents client (handed client leaf cmds m) ≡ changed_at leaf.0 (many_on (look m) (leaf_size m.tree leaf) cmds) (presents client m)
  presents_handed m leaf [] =
      ap (presents client) (handed_none client leaf m)
      ∙ sym (unchanged (many_on (look m) (leaf_size m.tree leaf) []) (presents client m) leaf.0 (many_none (look m) (leaf_size m.tree leaf)))
  presents_handed m leaf (c ∷ cmds) =
      let l = look m in
      let size = leaf_size m.tree leaf in
      ap (presents client) (sym (handed_more client leaf c cmds m))
      ∙ presents_handed (acted leaf c m) leaf cmds
      ∙ ap (changed_at leaf.0 (many_on l size cmds)) (presents-acted client m leaf c)
      ∙ changed_at-twice leaf.0 (act_on client l size c) (many_on l size cmds) (presents client m)
      ∙ ap (λ f. changed_at leaf.0 f (presents client m)) (fun_ext (many_more l size c cmds))

  -- commands that were prepared over the present content of a leaf
  pub record IsReady (m : State C M) (leaf : LeafId) (cmds : List M) (from to : C) (paints : List Paint) : Type 0 where
    pub has : content_of client m leaf ≡ Some from
    pub to_is : to ≡ runs.content_after client from cmds
    pub batch_is : paints ≡ patches_of client (look m) (leaf_size m.tree leaf) from cmds
    pub patch : IsPatch (look m) (leaf_size m.tree leaf) paints
        (client.pic (look m) (leaf_size m.tree leaf) from) (client.pic (look m) (leaf_size m.tree leaf) to)

  -- they were prepared for the state's look and the leaf's size
  pub ready_at : (m : State C M) (leaf : LeafId) (cmds : List M) (from to : C) (paints : List Paint) (kind : Kind) (font : List (List ℕ)) (size : Size) →
      content_of client m leaf ≡ Some from → kind ≡ m.tree.kind → font ≡ m.font → size ≡ leaf_size m.tree leaf → to ≡ runs.content_after client from cmds →
      paints ≡ patches_of client (look_of kind font) size from cmds →
      IsPatch (look_of kind font) size paints (client.pic (look_of kind font) size from) (client.pic (look_of kind font) size to) →
      IsReady m leaf cmds from to paints
  ready_at m leaf cmds from to paints kind font size has kinds fonts sizes to_is batch_is patch =
      let same : look_of kind font ≡ look m = ap₂ look_of kinds fonts in record {
        has = has;
        to_is = to_is;
        batch_is = subst (λ (l : Look). paints ≡ patches_of client l (leaf_size m.tree leaf) from cmds) same
            (subst (λ (s : Size). paints ≡ patches_of client (look_of kind font) s from cmds) sizes batch_is);
        patch = subst (λ (l : Look). IsPatch l (leaf_size m.tree leaf) paints
            (client.pic l (leaf_size m.tree leaf) from) (client.pic l (leaf_size m.tree leaf) to)) same
            (subst (λ (s : Size). IsPatch (look_of kind font) s paints
            (client.pic (look_of kind font) s from) (client.pic (look_of kind font) s to)) sizes patch);
      }

  -- the windows get what was prepared
  windows_ready : (m : State C M) (leaf : LeafId) (cmds : List M) (from to : C) (paints : List Paint) → IsReady m leaf cmds from to paints →
      changed_at leaf.0 (taken_over to paints) (presents client m) ≡ presents client (handed client leaf cmds m)
  windows_ready m leaf cmds from to paints r =
      changed_at-at leaf.0 (taken_over to paints) (many_on (look m) (leaf_size m.tree leaf) cmds) (presents client m) one
      ∙ sym (presents_handed m leaf cmds)
    where
      one : (p : Present C) → slice_get (presents client m) leaf.0 ≡ Some p → taken_over to paints p ≡ many_on (look m) (leaf_size m.tree leaf) cmds p
      one p is =
          let here : p.content ≡ from =
          stands (λ (q : Present C). q.content) (slice_get (presents client m) leaf.0) p from is (presents-content client m leaf ∙ r.has) in
          let size = leaf_size m.tree leaf in
          let made : C → Present C = λ x. record { content = runs.content_after client x cmds; batch = p.batch ++ patches_of client (look m) size x cmds } in
          let with : C → List Paint → Present C = λ x b. record { content = x; batch = p.batch ++ b } in
          ap₂ with r.to_is r.batch_is ∙ ap made (sym here)

  -- what was prepared leads from the shown picture to the next one
  sound_ready : (m : State C M) (leaf : LeafId) (cmds : List M) (from to : C) (paints : List Paint) → IsReady m leaf cmds from to paints →
      IsSound client m → IsSound client (handed client leaf cmds m)
  sound_ready m leaf cmds from to paints r sound = sound_changed client m leaf (with_commands client cmds) sound led
    where
      led : (w : Window C M) → window_of m leaf ≡ Some w → Leads client m leaf (with_commands client cmds w)
      led w is =
          let size = leaf_size m.tree leaf in
          let here : content client w ≡ from = stands (content client) (window_of m leaf) w from is r.has in
          let whole = present_many (look m) size cmds w in
          let first : IsPatch (look m) size (batch client (look m) size w) (client.pic (look m) size w.shown) (client.pic (look m) size from) =
          subst (λ (x : C). IsPatch (look m) size (batch client (look m) size w)
          (client.pic (look m) size w.shown) (client.pic (look m) size x)) here (sound.leads leaf w is) in
          let both = two_patches (look m) size (batch client (look m) size w) paints
          (client.pic (look m) size w.shown) (client.pic (look m) size from) (client.pic (look m) size to) first r.patch in
          let batch_to : batch client (look m) size w ++ paints ≡ batch client (look m) size (with_commands client cmds w) =
          ap (λ ps. batch client (look m) size w ++ ps) (r.batch_is ∙ ap (λ x. patches_of client (look m) size x cmds) (sym here))
          ∙ sym (ap (λ (p : Present C). p.batch) whole) in
          let content_to : to ≡ content client (with_commands client cmds w) =
          r.to_is ∙ ap (λ x. runs.content_after client x cmds) (sym here) ∙ sym (ap (λ (p : Present C). p.content) whole) in
          subst (λ (x : C). IsPatch (look m) size (batch client (look m) size (with_commands client cmds w))
          (client.pic (look m) size w.shown) (client.pic (look m) size x)) content_to
          (subst (λ (ps : List Paint). IsPatch (look m) size ps (client.pic (look m) size w.shown) (client.pic (look m) size to)) batch_to both)

  -- ---- a stage

  -- a stage takes over what was prepared over its state
  pub takes_over : {opening : List (Item C)} {lines : List (JournalLine M)} {old : Parts C} {leaf : LeafId} (cmds : List M) (levels : List (List Level))
      {from to : C} {paints : List Paint} {new : List (Present C)} →
      IsStage client opening lines old → IsLeaf (tree_of opening).nodes leaf → IsReady (replay client opening lines) leaf cmds from to paints →
      HaveLevels cmds levels → new ≡ changed_at leaf.0 (taken_over to paints) old.windows →
      IsStage client opening (lines ++ lines_by client (Leaf leaf) (replay client opening lines) (act_steps leaf cmds levels)) (record old { windows = new })
  takes_over {opening = opening} {lines = lines} {old = old} {leaf = leaf} cmds levels {from = from} {to = to} {paints = paints} {new = new}
      is leafy r have made = record {
        kept = subst (λ (m : State C M). RepresentsState client m (record old { windows = new })) (sym after) at;
        like = subst (λ (m : State C M). IsOf opening m) (sym after)
            (record { font = is.like.font; nodes = is.like.nodes; leaves = is.like.leaves; inboxes = is.like.inboxes });
        legal = legal-append client opening lines (lines_by client (Leaf leaf) n (act_steps leaf cmds levels)) is.legal
            (legal_handed client (tree_of opening).nodes n leaf cmds levels leafy have);
      }
    where
      n : State C M
      n = replay client opening lines

      after : replay client opening (lines ++ lines_by client (Leaf leaf) (replay client opening lines) (act_steps leaf cmds levels))
          ≡ handed client leaf cmds n
      after = replay-append client opening lines (lines_by client (Leaf leaf) n (act_steps leaf cmds levels))
          ∙ replay_handed client n leaf cmds levels have.counts

      at : RepresentsState client (handed client leaf cmds n) (record old { windows = new })
      at = record {
        tree = is.kept.tree;
        bad = is.kept.bad;
        windows = made ∙ ap (λ (ws : List (Present C)). changed_at leaf.0 (taken_over to paints) ws) is.kept.windows
            ∙ windows_ready n leaf cmds from to paints r;
        mail = is.kept.mail;
        sound = sound_ready n leaf cmds from to paints r is.kept.sound;
        agrees = (window_shows client n old.surface leaf (with_commands client cmds) (λ w. refl) (holding client n old is.kept).shows).agrees;
      }
