-- What a session's end says of the stage that comes back.
use Rattle.std.proofs.Common.{◌≡◌, ℕ, zero, suc, ◌+◌, ◌<◌, Bool, true, false, nat_lt, ◌==◌, cond, List, [], ◌∷◌, ◌++◌, length, take, drop, get_or, map, refl, sym, ap, subst, ◌∙◌, arith, All}
use Rattle.std.specs.List.{range_with_len}
use Rattle.std.proofs.lemmas.Bool.{eq-eqb, eqb-true, le-ltb, lt-ltb, ltb-true, ltb-false}
use Rattle.std.proofs.lemmas.List.{drop-map, ext_get_or, length-take-le, take-append-drop, take-map, take_all}
use Rattle.std.proofs.lemmas.List.FromFn.{get_or-map-range_with_len, length-map-range_with_len}
use Rattle.std.proofs.lemmas.List.Elements.{All-head, All-tail}
use Rattle.tr_client.specs.declared.clients.Client.{Ghosts}
use Rattle.tr_forest.specs.Nodes.{Nodes, leaf_count}
use Rattle.tr_journal.specs.declared.entries.Entry.{Entry}
use Rattle.tr_journal.specs.declared.items.Item.{Item}
use Rattle.tr_journal.specs.declared.steps.Actor.{Actor}
use Rattle.tr_journal.specs.declared.steps.Actor.TheVariants.{Leaf, Desk, Painter, Player}
use Rattle.tr_journal.specs.declared.steps.Step.{Step}
use Rattle.tr_journal.specs.Actors.{entries_of, is_by, is_maker, steps_by, steps_of}
use Rattle.tr_journal.proofs.ActorLemmas.{actor_same}
use Rattle.tr_journal.specs.Differences.{Matches, account_of}
use Rattle.tr_journal.specs.Journals.{JournalLine}
use Rattle.tr_journal.specs.Lists.{HasList, ListsView, list_of}
use Rattle.tr_journal.specs.Openings.{tree_of}
use Rattle.tr_machine.specs.States.{start}
use Rattle.tr_machine.specs.Replays.{IsLegal, IsLegalFrom, replay}
use Rattle.tr_interleaves.specs.Interleaves.{steps_in}
use Rattle.tr_interleaves.proofs.LegalLemmas.{AreMade, legal_first, no_leaf-lines, no_leaf-steps, same_lines}
use Rattle.tr_stage.specs.Stages.{StageView}
use Rattle.tr_run.proofs.LineLemmas.{legal_later}
use Rattle.tr_parts.specs.Turns.{HasRun, IsPartStep}
use Rattle.tr_server.specs.declared.closing.CloseRefused.{CloseRefused}
use Rattle.tr_server.specs.declared.closing.CloseRefused.TheVariants as refused
use Rattle.tr_server.specs.Closing.{HasDiffered, IfDiffers, IsClosed, lists_of, made_by}
use Rattle.tr_server.specs.Passes.{AreFresh, PassView, fresh_pass, worker}
use Rattle.tr_server.specs.Servers.{ServerView}
use Rattle.tr_play.specs.Lists.{AreListed}
use Rattle.tr_play.specs.Plays.{HasLeft}
use Rattle.tr_play.specs.Sessions.{AreWhole, IsLeft}
use Rattle.tr_play.specs.Workers.{HasTaken, HasWorked, IsWorker}
use Rattle.tr_play.proofs.WorkerLemmas.{Listed, absent, is_listed, listed}

-- steps that are a leaf's or the desk's can be made
are_made : {M : Type 0} (t : Nodes) (steps : List (Actor × Step M)) → All (IsPartStep t) steps → AreMade t steps
are_made t [] all = tt
are_made t (x ∷ xs) all =
    let here : IsPartStep t x = All-head (IsPartStep t) x xs all in
    (here.own, are_made t xs (All-tail (IsPartStep t) x xs all))

-- what is known of a stage that comes back, where nothing differs: both are legal, and the lists are those of steps that can be made
pub record HasMatched {C M : Type 0} (client : Ghosts C M) (s n : StageView C M) (steps : List (Actor × Step M)) (lists : ListsView M) : Type 0 where
  pub before : IsLegal client s.opening s.journal
  pub after : IsLegal client n.opening n.journal
  pub matches : Matches (account_of s.opening s.journal) lists (account_of n.opening n.journal)
  pub are_listed : AreListed (leaf_count (tree_of s.opening).nodes) steps lists
  pub player : lists.player ≡ []
  pub made : All (IsPartStep (tree_of s.opening).nodes) steps

module _ {C M : Type 0} (client : Ghosts C M) where
  -- then the steps were made, each actor's in their order
  pub has_run : (s n : StageView C M) (steps : List (Actor × Step M)) (lists : ListsView M) → HasMatched client s n steps lists → HasRun s n steps
  has_run s n steps lists is = record { lines = lines; opening = sym is.matches.opening; journal = journal; made = made; player = player }
    where
      t : Nodes
      t = (tree_of s.opening).nodes

      k : ℕ
      k = length (entries_of s.journal)

      first : List (JournalLine M)
      first = take k n.journal

      lines : List (JournalLine M)
      lines = drop k n.journal

      whole : n.journal ≡ first ++ lines
      whole = sym (take-append-drop k n.journal)

      legal : IsLegalFrom client t (start s.opening) (first ++ lines)
      legal = subst (λ (ls : List (JournalLine M)). IsLegal client s.opening ls) whole
          (subst (λ (items : List (Item C)). IsLegal client items n.journal) (sym is.matches.opening) is.after)

      kept : s.journal ≡ first
      kept = same_lines client t (start s.opening) s.journal first is.before (legal_first client t (start s.opening) first lines legal)
          (is.matches.entries ∙ take-map (λ (line : JournalLine M). line.entry) k n.journal)

      journal : n.journal ≡ s.journal ++ lines
      journal = whole ∙ ap (λ (ls : List (JournalLine M)). ls ++ lines) (sym kept)

      later : IsLegalFrom client t (replay client s.opening first) lines
      later = legal_later client t (start s.opening) first lines legal

      found : (actor : Actor) → HasList (leaf_count t) actor → steps_in actor lines ≡ list_of lists actor
      found actor has =
          ap (λ (es : List (Entry M)). steps_by actor es) (sym (drop-map (λ (line : JournalLine M). line.entry) k n.journal))
          ∙ sym (is.matches.steps actor (subst (λ (count : ℕ). HasList count actor) (sym is.are_listed.count) has))

      made : (actor : Actor) → is_maker actor ≡ true → steps_in actor lines ≡ steps_of actor steps
      made actor maker = by_list (is_listed t actor maker)
        where
          by_list : Listed t actor → steps_in actor lines ≡ steps_of actor steps
          by_list (listed has) = found actor has ∙ is.are_listed.steps actor has
          by_list (absent leaf same none) =
              ap (λ (a : Actor). steps_in a lines) same
              ∙ no_leaf-lines client t (replay client s.opening first) leaf lines none later
              ∙ sym (no_leaf-steps t leaf steps none (are_made t steps is.made))
              ∙ ap (λ (a : Actor). steps_of a steps) (sym same)

      player : steps_in Player lines ≡ []
      player = found Player tt ∙ is.player

-- ---- what the workers made

-- the first so many elements, which are as many as there are, are all
whole : {A : Type 0} (mine list : List A) (n : ℕ) → mine ≡ take n list → length mine ≡ length list → mine ≡ list
whole {A} mine list n is long = is ∙ by_test (nat_lt n (length list)) refl
  where
    by_test : (b : Bool) → nat_lt n (length list) ≡ b → take n list ≡ list
    by_test true below =
        let short : n < length list = ltb-true n (length list) below in
        let count : length (take n list) ≡ n = length-take-le n list (omega (arith, short)) in
        let equal : length mine ≡ length (take n list) = ap (λ (xs : List A). length xs) is in
        absurd (omega (arith, short, count, equal, long))
    by_test false beyond = take_all n list (ltb-false n (length list) beyond)

-- a new pass with which its actor's list was made whole
worker_whole : {M : Type 0} (before after : PassView M) (lists : ListsView M) (actor : Actor) → before ≡ fresh_pass actor → is_maker actor ≡ true →
    HasTaken lists before after → (is_maker after.actor ≡ true → length after.mine ≡ length (list_of lists after.actor)) →
    after.mine ≡ list_of lists actor
worker_whole {M} before after lists actor fresh maker taken long =
    let own : before.actor ≡ actor = ap (λ (p : PassView M). p.actor) fresh in
    let same : after.actor ≡ actor = taken.actor ∙ own in
    let worked : HasWorked before after (list_of lists actor) =
    subst (λ (a : Actor). HasWorked before after (list_of lists a)) own (taken.worked (subst (λ (a : Actor). is_maker a ≡ true) (sym own) maker)) in
    let mine : after.mine ≡ take worked.steps (list_of lists actor) =
    worked.mine ∙ ap (λ (p : PassView M). p.mine ++ take worked.steps (list_of lists actor)) fresh in
    whole after.mine (list_of lists actor) worked.steps mine
    (subst (λ (a : Actor). length after.mine ≡ length (list_of lists a)) same (long (subst (λ (a : Actor). is_maker a ≡ true) (sym same) maker)))

-- whose the passes are, by their places
leaf_worker : (leaves i : ℕ) → i < leaves → worker leaves i ≡ Leaf (record { 0 = i })
leaf_worker leaves i below = ap (λ (b : Bool). cond b (Leaf (record { 0 = i })) (cond (i == leaves) Desk Painter)) (lt-ltb i leaves below)

desk_worker : (leaves : ℕ) → worker leaves leaves ≡ Desk
desk_worker leaves =
    ap (λ (b : Bool). cond b (Leaf (record { 0 = leaves })) (cond (leaves == leaves) Desk Painter)) (le-ltb leaves leaves (omega arith))
    ∙ ap (λ (b : Bool). cond b Desk Painter) (eq-eqb leaves leaves refl)

-- each of them is one that has a thread
is_worker : (leaves i : ℕ) → IsWorker leaves (worker leaves i)
is_worker leaves i = by_test (nat_lt i leaves) refl
  where
    other : (b : Bool) → IsWorker leaves (cond b Desk Painter)
    other true = tt
    other false = tt

    by_test : (b : Bool) → nat_lt i leaves ≡ b → IsWorker leaves (cond b (Leaf (record { 0 = i })) (cond (i == leaves) Desk Painter))
    by_test true below = ltb-true i leaves below
    by_test false beyond = other (i == leaves)

pub are_workers : {M : Type 0} (leaves : ℕ) (passes : List (PassView M)) → AreFresh leaves passes → All (λ (p : PassView M). IsWorker leaves p.actor) passes
are_workers {M} leaves passes fresh = λ i d within.
    let low : i < leaves + 2 = omega (arith, within, fresh.count) in
    subst (λ (p : PassView M). IsWorker leaves p.actor) (sym (fresh.fresh i d low)) (is_worker leaves i)

-- what the workers of a session made: fresh passes, each of which did what is its own, and the lists are made whole
pub record HasMadeAll {M : Type 0} (leaves : ℕ) (before after : List (PassView M)) (lists : ListsView M) : Type 0 where
  pub fresh : AreFresh leaves before
  pub many : length after ≡ length before
  pub taken : (i : ℕ) (d : PassView M) → i < length before → HasTaken lists (get_or before i d) (get_or after i d)
  pub are_whole : AreWhole after lists
  pub count : length lists.leaves ≡ leaves
  pub player : lists.player ≡ []

-- the lists of three parts
abbrev lists_with : {M : Type 0} → List (List (Step M)) → List (Step M) → List (Step M) → ListsView M
lists_with leaves desk player = record { leaves = leaves; desk = desk; player = player }

-- the steps of an actor's pass, by its place among the others
made_at : {M : Type 0} (actor : Actor) (passes : List (PassView M)) (i : ℕ) (d : PassView M) → i < length passes →
    is_by actor (get_or passes i d).actor ≡ true → ((j : ℕ) → j < i → is_by actor (get_or passes j d).actor ≡ false) →
    made_by actor passes ≡ (get_or passes i d).mine
made_at actor [] i d low here before = absurd (omega (arith, low))
made_at actor (p ∷ ps) zero d low here before = ap (λ (b : Bool). cond b p.mine (made_by actor ps)) here
made_at actor (p ∷ ps) (suc i) d low here before =
    ap (λ (b : Bool). cond b p.mine (made_by actor ps)) (before 0 (omega arith))
    ∙ made_at actor ps i d (omega (arith, low)) here (λ j lower. before (suc j) (omega (arith, lower)))

-- two leaves have two clients
other_leaf : (i j : ℕ) → j < i → is_by (Leaf (record { 0 = i })) (Leaf (record { 0 = j })) ≡ false
other_leaf i j lower = by_test (j == i) refl
  where
    by_test : (same : Bool) → (j == i) ≡ same → (j == i) ≡ false
    by_test true same = absurd (omega (arith, lower, eqb-true j i same))
    by_test false same = same

-- then the steps of the passes are the lists
pub made_all : {M : Type 0} (leaves : ℕ) (before after : List (PassView M)) (lists : ListsView M) → HasMadeAll leaves before after lists →
    lists_of leaves after (fresh_pass Player) ≡ lists
made_all {M} leaves before after lists is =
    ap (λ (ls : List (List (Step M))). lists_with ls (made_by Desk after) []) clients
    ∙ ap (λ (ls : List (Step M)). lists_with lists.leaves ls []) desk
    ∙ ap (λ (ls : List (Step M)). lists_with lists.leaves lists.desk ls) (sym is.player)
  where
    none : PassView M
    none = fresh_pass Desk

    many : length before ≡ leaves + 2
    many = is.fresh.count

    of_worker : (i : ℕ) (actor : Actor) → i < leaves + 2 → worker leaves i ≡ actor → is_maker actor ≡ true →
        (get_or after i none).mine ≡ list_of lists actor
    of_worker i actor low same maker =
        worker_whole (get_or before i none) (get_or after i none) lists actor
        (is.fresh.fresh i none low ∙ ap (λ (a : Actor). fresh_pass a) same) maker
        (is.taken i none (omega (arith, low, many)))
        (is.are_whole i none (omega (arith, low, many, is.many)))

    actor_at : (i : ℕ) → i < leaves + 2 → (get_or after i none).actor ≡ worker leaves i
    actor_at i low =
        (is.taken i none (omega (arith, low, many))).actor ∙ ap (λ (p : PassView M). p.actor) (is.fresh.fresh i none low)

    by_first : (i : ℕ) (actor : Actor) → i < leaves + 2 → worker leaves i ≡ actor →
        ((j : ℕ) → j < i → is_by actor (worker leaves j) ≡ false) → made_by actor after ≡ (get_or after i none).mine
    by_first i actor low same others =
        made_at actor after i none (omega (arith, low, many, is.many))
        (ap (λ (a : Actor). is_by actor a) (actor_at i low ∙ same) ∙ actor_same actor)
        (λ j lower. ap (λ (a : Actor). is_by actor a) (actor_at j (omega (arith, low, lower))) ∙ others j lower)

    desk : made_by Desk after ≡ lists.desk
    desk =
        by_first leaves Desk (omega arith) (desk_worker leaves) (λ j lower. ap (λ (a : Actor). is_by Desk a) (leaf_worker leaves j lower))
        ∙ of_worker leaves Desk (omega arith) (desk_worker leaves) refl

    own : ℕ → List (Step M)
    own k = made_by (Leaf (record { 0 = k })) (fresh_pass Player ∷ after)

    clients : map own (range_with_len 0 leaves) ≡ lists.leaves
    clients =
        let size = length-map-range_with_len own 0 leaves in
        ext_get_or [] (map own (range_with_len 0 leaves)) lists.leaves (size ∙ sym is.count)
        (λ i below.
        let low : i < leaves = omega (arith, below, size) in
        get_or-map-range_with_len own 0 leaves i i [] low (omega arith)
        ∙ by_first i (Leaf (record { 0 = i })) (omega (arith, low)) (leaf_worker leaves i low)
        (λ j lower. ap (λ (a : Actor). is_by (Leaf (record { 0 = i })) a) (leaf_worker leaves j (omega (arith, low, lower))) ∙ other_leaf i j lower)
        ∙ of_worker i (Leaf (record { 0 = i })) (omega (arith, low)) (leaf_worker leaves i low) refl)

-- ---- what its end says of the stage with which a session began

-- a server began with a stage, and the steps of its passes are these lists
pub record HasEnded {C M : Type 0} (server : ServerView C M) (s : StageView C M) (passes lists : ListsView M) : Type 0 where
  pub opening : server.opening ≡ s.opening
  pub kept : server.kept ≡ s.journal
  pub lists_are : passes ≡ lists

pub closed_matches : {C M : Type 0} (server : ServerView C M) (s n : StageView C M) (passes lists : ListsView M) (made : ℕ) →
    HasEnded server s passes lists → IsClosed server passes made n →
    Matches (account_of s.opening s.journal) lists (account_of n.opening n.journal)
closed_matches {C} {M} server s n passes lists made ended closed =
    subst (λ (ls : ListsView M). Matches (account_of s.opening s.journal) ls (account_of n.opening n.journal)) ended.lists_are
    (subst (λ (lines : List (JournalLine M)). Matches (account_of s.opening lines) passes (account_of n.opening n.journal)) ended.kept
    (subst (λ (items : List (Item C)). Matches (account_of items server.kept) passes (account_of n.opening n.journal)) ended.opening closed.matches))

pub closed_differs : {C M : Type 0} (server : ServerView C M) (s : StageView C M) (passes lists : ListsView M) (made : ℕ) (e : CloseRefused C M) →
    HasEnded server s passes lists → IfDiffers e (λ d. HasDiffered server passes made d) → IfDiffers e (λ d. IsLeft s lists d)
closed_differs server s passes lists made refused.NoMemory ended closed = tt
closed_differs server s passes lists made (refused.Differs d) ended closed = record {
  opening = closed.opening ∙ ended.opening;
  kept = closed.kept ∙ ended.kept;
  lists_are = closed.lists_are ∙ ended.lists_are;
  first = closed.first;
}

-- what a session hands out, by the steps whose lists these are
pub left_by : {C M : Type 0} (s : StageView C M) (steps : List (Actor × Step M)) (lists : ListsView M) (e : CloseRefused C M) →
    AreListed (leaf_count (tree_of s.opening).nodes) steps lists → lists.player ≡ [] →
    IfDiffers e (λ d. IsLeft s lists d) → IfDiffers e (λ d. HasLeft s steps d)
left_by s steps lists refused.NoMemory are none left = tt
left_by {C} {M} s steps lists (refused.Differs d) are none left = record {
  opening = left.opening;
  kept = left.kept;
  lists = subst (λ (ls : ListsView M). AreListed (leaf_count (tree_of s.opening).nodes) steps ls) (sym left.lists_are) are;
  player = ap (λ (ls : ListsView M). ls.player) left.lists_are ∙ none;
  first = left.first;
}
