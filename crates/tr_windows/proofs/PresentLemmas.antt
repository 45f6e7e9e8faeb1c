-- What the program holds of the windows, and what each step of the machine makes of that.
use Rattle.std.proofs.Common.{◌≡◌, ℕ, zero, suc, ◌+◌, ◌-◌, ◌^◌, min, Bool, true, false, cond, List, [], ◌∷◌, ◌++◌, Option, Some, None, map, fold, sum_by, length, refl, sym, ap, ◌∙◌, add-zero, add-one, append_assoc, arith}
use Rattle.std.specs.Prelude.{slice_get}
use Rattle.std.specs.List.{range_with_len}
use Rattle.std.specs.Option.{option_map}
use Rattle.std.proofs.Math.Path.{fun_ext}
use Rattle.std.proofs.lemmas.List.{append-nil}
use Rattle.std.proofs.lemmas.List.Sums.{fold-append, sum_by-cons}
use Rattle.tr_base.specs.declared.Size.{Size}
use Rattle.tr_base.specs.declared.LeafId.{LeafId}
use Rattle.tr_base.specs.Rects.{Edges}
use Rattle.tr_paint.specs.declared.Paint.{Paint}
use Rattle.tr_paint.specs.Traces.{Look, look_of}
use Rattle.tr_paint.specs.Patches.{IsPatch}
use Rattle.tr_client.specs.Laws.{IsWindowSize, Survives}
use Rattle.tr_client.specs.declared.clients.Client.{Ghosts}
use Rattle.tr_forest.specs.declared.Edit.{Edit}
use Rattle.tr_tree.specs.Trees.{Seen, edited_tree}
use Rattle.tr_spot.specs.Leaves.{leaf_size}
use Rattle.tr_surface.specs.TreeSteps.{WindowFacts}
use Rattle.tr_mail.specs.Deliveries.{is_reshaped}
use Rattle.tr_journal.specs.declared.items.Item.{Item}
use Rattle.tr_journal.specs.Openings.{contents_of}
use Rattle.tr_machine.specs.Windows as windows
use Rattle.tr_machine.specs.Windows.{Change, Command, Mark, Window, fresh, with_change, updated, content, changed_content, paints_of, paints_from}
use Rattle.tr_machine.specs.States as states
use Rattle.tr_machine.specs.States.{State, start, look, window_of, changed_at, content_of, leaf_batch}
use Rattle.tr_machine.specs.Paintings.{acted, marked, flushed, repainted}
use Rattle.tr_machine.specs.Edits.{altered, points_kept, refitted_from, window_facts}
use Rattle.tr_machine.specs.Pictures.{waiting_count}
use Rattle.tr_windows.specs.Presents.{Present, with_empty_batch, without_batch, mark_on, act_on, without_old_batch, cleared_from, content_at, waiting_batch, batch_at, kept_in, kept_by, present, presents_from, presents}
use Rattle.tr_windows.specs.Promises.{KeepsPoints, waiting_in}
use Rattle.tr_windows.proofs.ShapeLemmas.{same_shape}

-- ---- one window

-- a window as the program holds it, by its parts
abbrev held : {C : Type 0} → C → List Paint → Present C
held x batch = record { content = x; batch = batch }

same_held : {C : Type 0} (x y : C) (a b : List Paint) → x ≡ y → a ≡ b → held x a ≡ held y b
same_held x y a b p q = rw (p, q) refl

-- the content after one change more
pub content_more : {C M : Type 0} (client : Ghosts C M) (change : Change M) (w : Window C M) →
    content client (with_change change w) ≡ changed_content client (content client w) change
content_more client change w = fold-append (changed_content client) w.shown w.made (change ∷ [])

-- the paint commands of one change more
paints_more : {C M : Type 0} (client : Ghosts C M) (look : Look) (size : Size) (x : C) (changes : List (Change M)) (change : Change M) →
    paints_from client look size x (changes ++ change ∷ []) ≡
    paints_from client look size x changes ++ paints_of client look size (fold (changed_content client) x changes) change
paints_more client look size x [] change = append-nil (paints_of client look size x change)
paints_more client look size x (c ∷ changes) change =
    ap (λ ps. paints_of client look size x c ++ ps) (paints_more client look size (changed_content client x c) changes change)
    ∙ sym (append_assoc (paints_of client look size x c) (paints_from client look size (changed_content client x c) changes)
    (paints_of client look size (fold (changed_content client) (changed_content client x c) changes) change))

-- a window after one change more
pub present-changed : {C M : Type 0} (client : Ghosts C M) (look : Look) (size : Size) (change : Change M) (w : Window C M) →
    present client look size (with_change change w) ≡
    held (changed_content client (content client w) change)
    (windows.batch client look size w ++ paints_of client look size (content client w) change)
present-changed client look size change w =
    same_held _ _ _ _ (content_more client change w) (paints_more client look size w.shown w.made change)

-- ---- the windows of a list

module _ {C M : Type 0} (client : Ghosts C M) (look : Look) (tree : Seen) where
  -- the window at a place
  get-presents : (s k : ℕ) (ws : List (Window C M)) →
      slice_get (presents_from client s look tree ws) k ≡
      option_map (present client look (leaf_size tree (record { 0 = s + k }))) (slice_get ws k)
  get-presents s k [] = refl
  get-presents s zero (w ∷ ws) = ap (λ n. Some (present client look (leaf_size tree (record { 0 = n })) w)) (sym (add-zero s))
  get-presents s (suc k) (w ∷ ws) =
      let e : suc s + k ≡ s + suc k = omega arith in
      get-presents (suc s) k ws ∙ ap (λ n. option_map (present client look (leaf_size tree (record { 0 = n }))) (slice_get ws k)) e

  -- there are as many
  length-from : (s : ℕ) (ws : List (Window C M)) → length (presents_from client s look tree ws) ≡ length ws
  length-from s [] = refl
  length-from s (w ∷ ws) = ap suc (length-from (suc s) ws)

  -- one window changed
  from-changed : (s i : ℕ) (g : Window C M → Window C M) (f : Present C → Present C) →
      ((w : Window C M) →
      present client look (leaf_size tree (record { 0 = s + i })) (g w) ≡ f (present client look (leaf_size tree (record { 0 = s + i })) w)) →
      (ws : List (Window C M)) → presents_from client s look tree (changed_at i g ws) ≡ changed_at i f (presents_from client s look tree ws)
  from-changed s i g f same [] = refl
  from-changed s zero g f same (w ∷ ws) = ap (λ v. v ∷ presents_from client (suc s) look tree ws) first
    where
      first : present client look (leaf_size tree (record { 0 = s })) (g w) ≡ f (present client look (leaf_size tree (record { 0 = s })) w)
      first = rw (add-zero s) at (same w)
  from-changed s (suc i) g f same (w ∷ ws) =
      ap (λ vs. present client look (leaf_size tree (record { 0 = s })) w ∷ vs) (from-changed (suc s) i g f later ws)
    where
      later : (v : Window C M) →
          present client look (leaf_size tree (record { 0 = suc s + i })) (g v) ≡ f (present client look (leaf_size tree (record { 0 = suc s + i })) v)
      later v = let e : s + suc i ≡ suc s + i = omega arith in rw e at (same v)

  -- first contents, for which nothing waits
  from-fresh : (s : ℕ) (xs : List C) → presents_from client s look tree (map fresh xs) ≡ map with_empty_batch xs
  from-fresh s [] = refl
  from-fresh s (x ∷ xs) = ap (λ vs. with_empty_batch x ∷ vs) (from-fresh (suc s) xs)

  -- how many commands wait, counted leaf by leaf
  sum-from : (h : ℕ → ℕ) (s : ℕ) (ws : List (Window C M)) →
      ((k : ℕ) (w : Window C M) → slice_get ws k ≡ Some w → h (s + k) ≡ length (windows.batch client look (leaf_size tree (record { 0 = s + k })) w)) →
      sum_by (λ w. length w.batch) (presents_from client s look tree ws) ≡ sum_by h (range_with_len s (length ws))
  sum-from h s [] each = refl
  sum-from h s (w ∷ ws) each =
      sum_by-cons (λ v. length v.batch) (present client look (leaf_size tree (record { 0 = s })) w) (presents_from client (suc s) look tree ws)
      ∙ ap (λ n. n + sum_by (λ v. length v.batch) (presents_from client (suc s) look tree ws)) first
      ∙ ap (λ n. h s + n) (sum-from h (suc s) ws later)
      ∙ ap (λ n. h s + sum_by h (range_with_len n (length ws))) (sym (add-one s))
      ∙ sym (sum_by-cons h s (range_with_len (s + 1) (length ws)))
    where
      first : length (windows.batch client look (leaf_size tree (record { 0 = s })) w) ≡ h s
      first = sym (rw (add-zero s) at (each zero w refl))

      later : (k : ℕ) (v : Window C M) → slice_get ws k ≡ Some v →
          h (suc s + k) ≡ length (windows.batch client look (leaf_size tree (record { 0 = suc s + k })) v)
      later k v is = let e : s + suc k ≡ suc s + k = omega arith in rw e at (each (suc k) v is)

-- the windows of an edited tree
from-refitted : {C M : Type 0} (client : Ghosts C M) (font : List (List ℕ)) (was is : Seen) (s : ℕ) (ws : List (Window C M)) →
    presents_from client s (look_of is.kind font) is (refitted_from client s was is ws) ≡
    cleared_from s was is (presents_from client s (look_of was.kind font) was ws)
from-refitted client font was is s [] = refl
from-refitted {C} {M} client font was is s (w ∷ ws) =
    ap (λ v. v ∷ presents_from client (suc s) (look_of is.kind font) is (refitted_from client (suc s) was is ws))
    (by_test (is_reshaped was is leaf) refl)
    ∙ ap (λ vs. without_old_batch was is leaf (present client (look_of was.kind font) (leaf_size was leaf) w) ∷ vs)
    (from-refitted client font was is (suc s) ws)
  where
    leaf : LeafId
    leaf = record { 0 = s }

    by_test : (b : Bool) → is_reshaped was is leaf ≡ b →
        present client (look_of is.kind font) (leaf_size is leaf) (cond b (updated client w) w) ≡
        cond b (without_batch (present client (look_of was.kind font) (leaf_size was leaf) w)) (present client (look_of was.kind font) (leaf_size was leaf) w)
    by_test true h = refl
    by_test false h = let same = same_shape was is leaf h in rw (same.size, same.kind) refl

-- ---- the windows of a state

-- the window of a leaf
pub present_at : {C M : Type 0} (client : Ghosts C M) (m : State C M) (leaf : LeafId) →
    slice_get (presents client m) leaf.0 ≡ option_map (present client (look m) (leaf_size m.tree leaf)) (window_of m leaf)
present_at client m leaf =
    let zero_more : 0 + leaf.0 ≡ leaf.0 = omega arith in
    get-presents client (look m) m.tree 0 leaf.0 m.windows
    ∙ ap (λ n. option_map (present client (look m) (leaf_size m.tree (record { 0 = n }))) (slice_get m.windows leaf.0)) zero_more

-- the same for a window that is there
pub present_is : {C M : Type 0} (client : Ghosts C M) (m : State C M) (leaf : LeafId) (w : Window C M) → window_of m leaf ≡ Some w →
    slice_get (presents client m) leaf.0 ≡ Some (present client (look m) (leaf_size m.tree leaf) w)
present_is client m leaf w is = present_at client m leaf ∙ ap (λ o. option_map (present client (look m) (leaf_size m.tree leaf)) o) is

-- there are as many windows
pub presents-length : {C M : Type 0} (client : Ghosts C M) (m : State C M) → length (presents client m) ≡ length m.windows
presents-length client m = length-from client (look m) m.tree 0 m.windows

-- the content of a leaf
pub presents-content : {C M : Type 0} (client : Ghosts C M) (m : State C M) (leaf : LeafId) →
    content_at (presents client m) leaf ≡ content_of client m leaf
presents-content {C} {M} client m leaf =
    ap (λ o. option_map (λ w. w.content) o) (present_at client m leaf) ∙ by_window (window_of m leaf)
  where
    by_window : (o : Option (Window C M)) →
        option_map (λ w. w.content) (option_map (present client (look m) (leaf_size m.tree leaf)) o) ≡ option_map (content client) o
    by_window None = refl
    by_window (Some w) = refl

-- what waits for a leaf
pub presents-batch : {C M : Type 0} (client : Ghosts C M) (m : State C M) (leaf : LeafId) →
    batch_at (presents client m) leaf ≡ leaf_batch client m leaf
presents-batch {C} {M} client m leaf = ap waiting_batch (present_at client m leaf) ∙ by_window (window_of m leaf)
  where
    by_window : (o : Option (Window C M)) →
        waiting_batch (option_map (present client (look m) (leaf_size m.tree leaf)) o) ≡ states.batch_in client m leaf o
    by_window None = refl
    by_window (Some w) = refl

-- what an edit of the tree asks of the windows
pub presents-keeping : {C M : Type 0} (client : Ghosts C M) (m : State C M) → kept_by client (presents client m) ≡ window_facts client m
presents-keeping {C} {M} client m =
    joined _ _ _ _ (fun_ext λ leaf. fun_ext λ from. fun_ext λ to. kept leaf from to) (fun_ext λ leaf. presents-batch client m leaf)
  where
    joined : (k n : LeafId → Size → Size → Edges) (b c : LeafId → List Paint) → k ≡ n → b ≡ c →
        (let x : WindowFacts = record { keeps = k; batch = b } in let y : WindowFacts = record { keeps = n; batch = c } in x ≡ y)
    joined k n b c p q = rw (p, q) refl

    by_window : (leaf : LeafId) (from to : Size) (o : Option (Window C M)) →
        kept_in client (option_map (present client (look m) (leaf_size m.tree leaf)) o) from to ≡ points_kept client o from to
    by_window leaf from to None = refl
    by_window leaf from to (Some w) = refl

    kept : (leaf : LeafId) (from to : Size) → kept_in client (slice_get (presents client m) leaf.0) from to ≡ points_kept client (window_of m leaf) from to
    kept leaf from to = ap (λ o. kept_in client o from to) (present_at client m leaf) ∙ by_window leaf from to (window_of m leaf)

-- how many commands wait
pub presents-waiting : {C M : Type 0} (client : Ghosts C M) (m : State C M) → waiting_in (presents client m) ≡ waiting_count client m
presents-waiting {C} {M} client m =
    ap (λ n. min n (2 ^ 64 - 1))
    (sum-from client (look m) m.tree (λ n. length (leaf_batch client m (record { 0 = n }))) 0 m.windows each)
  where
    each : (k : ℕ) (w : Window C M) → slice_get m.windows k ≡ Some w →
        length (leaf_batch client m (record { 0 = 0 + k })) ≡ length (windows.batch client (look m) (leaf_size m.tree (record { 0 = 0 + k })) w)
    each k w is = let e : 0 + k ≡ k = omega arith in rw (e, is) refl

-- ---- laws of the windows' contents, as laws of the machine's

-- what a command of a window paints leads to its next picture
pub presents-patch : {C M : Type 0} (client : Ghosts C M) (m : State C M) (leaf : LeafId) (cmd : M) →
    ((look : Look) (p : Present C) → slice_get (presents client m) leaf.0 ≡ Some p →
    IsPatch look (leaf_size m.tree leaf) (client.patch look (leaf_size m.tree leaf) p.content cmd)
    (client.pic look (leaf_size m.tree leaf) p.content) (client.pic look (leaf_size m.tree leaf) (client.next p.content cmd))) →
    (w : Window C M) → window_of m leaf ≡ Some w →
    IsPatch (look m) (leaf_size m.tree leaf) (client.patch (look m) (leaf_size m.tree leaf) (content client w) cmd)
    (client.pic (look m) (leaf_size m.tree leaf) (content client w)) (client.pic (look m) (leaf_size m.tree leaf) (client.next (content client w) cmd))
presents-patch client m leaf cmd law w is =
    law (look m) (present client (look m) (leaf_size m.tree leaf) w) (present_is client m leaf w is)

-- what a window keeps when its size changes survives
pub presents-survive : {C M : Type 0} (client : Ghosts C M) (m : State C M) →
    ((look : Look) (leaf : LeafId) (p : Present C) → slice_get (presents client m) leaf.0 ≡ Some p → KeepsPoints client look p) →
    (leaf : LeafId) (w : Window C M) → window_of m leaf ≡ Some w → (look : Look) (from to : Size) → IsWindowSize from → IsWindowSize to →
    Survives (client.keeps (content client w) from to) from to (client.pic look from (content client w)) (client.pic look to (content client w))
presents-survive client m law leaf w is look from to small small' =
    let kept = law look leaf (present client (states.look m) (leaf_size m.tree leaf) w) (present_is client m leaf w is) in
    kept.survives from to small small'

-- ---- the steps

-- at the start
pub presents-start : {C M : Type 0} (client : Ghosts C M) (items : List (Item C)) → presents client (start items) ≡ map with_empty_batch (contents_of items)
presents-start {C} {M} client items =
    let m : State C M = start items in from-fresh client (look m) m.tree 0 (contents_of items)

-- one window changed
changed-state : {C M : Type 0} (client : Ghosts C M) (m : State C M) (leaf : LeafId) (g : Window C M → Window C M) (f : Present C → Present C) →
    ((w : Window C M) → present client (look m) (leaf_size m.tree leaf) (g w) ≡ f (present client (look m) (leaf_size m.tree leaf) w)) →
    presents client (states.with_window leaf g m) ≡ changed_at leaf.0 f (presents client m)
changed-state {C} {M} client m leaf g f same = from-changed client (look m) m.tree 0 leaf.0 g f at_zero m.windows
  where
    at_zero : (w : Window C M) → present client (look m) (leaf_size m.tree (record { 0 = 0 + leaf.0 })) (g w) ≡
        f (present client (look m) (leaf_size m.tree (record { 0 = 0 + leaf.0 })) w)
    at_zero w = let e : 0 + leaf.0 ≡ leaf.0 = omega arith in rw e (same w)

-- a command
pub presents-acted : {C M : Type 0} (client : Ghosts C M) (m : State C M) (leaf : LeafId) (cmd : M) →
    presents client (acted leaf cmd m) ≡ changed_at leaf.0 (act_on client (look m) (leaf_size m.tree leaf) cmd) (presents client m)
presents-acted client m leaf cmd =
    changed-state client m leaf (with_change (Command cmd)) (act_on client (look m) (leaf_size m.tree leaf) cmd)
    (present-changed client (look m) (leaf_size m.tree leaf) (Command cmd))

-- a mark
pub presents-marked : {C M : Type 0} (client : Ghosts C M) (m : State C M) (leaf : LeafId) (clip : Edges) →
    presents client (marked leaf clip m) ≡ changed_at leaf.0 (mark_on (leaf_size m.tree leaf) clip) (presents client m)
presents-marked client m leaf clip =
    changed-state client m leaf (with_change (Mark clip)) (mark_on (leaf_size m.tree leaf) clip)
    (present-changed client (look m) (leaf_size m.tree leaf) (Mark clip))

-- a flush
pub presents-flushed : {C M : Type 0} (client : Ghosts C M) (m : State C M) (leaf : LeafId) →
    presents client (flushed client leaf m) ≡ changed_at leaf.0 without_batch (presents client m)
presents-flushed client m leaf = changed-state client m leaf (updated client) without_batch (λ w. refl)

-- a repaint
pub presents-repainted : {C M : Type 0} (client : Ghosts C M) (m : State C M) (leaf : LeafId) →
    presents client (repainted client leaf m) ≡ changed_at leaf.0 without_batch (presents client m)
presents-repainted client m leaf = presents-flushed client m leaf

-- the tree is edited
pub presents-altered : {C M : Type 0} (client : Ghosts C M) (m : State C M) (edit : Edit) →
    presents client (altered client edit m) ≡ cleared_from 0 m.tree (edited_tree m.tree edit) (presents client m)
presents-altered client m edit = from-refitted client m.font m.tree (edited_tree m.tree edit) 0 m.windows
