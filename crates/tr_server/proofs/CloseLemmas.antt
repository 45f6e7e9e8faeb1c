-- What the passes of a session say in the end, and what is found.
use Rattle.std.proofs.Common.{◌≡◌, ℕ, ◌+◌, ◌<◌, ◌≤◌, cond, List, [], ◌∷◌, Option, Some, length, map, sym, ap, subst, ◌∙◌, arith}
use Rattle.std.specs.List.{range_with_len}
use Rattle.std.specs.Prelude.{IfSome}
use Rattle.std.proofs.lemmas.List.{ext_get_or, length-replicate}
use Rattle.std.proofs.lemmas.List.FromFn.{get_or-map-range_with_len, length-map-range_with_len}
use Rattle.tr_journal.specs.declared.items.Item.{Item}
use Rattle.tr_journal.specs.declared.steps.Actor.{Actor}
use Rattle.tr_journal.specs.declared.steps.Actor.TheVariants.{Leaf, Desk, Player}
use Rattle.tr_journal.specs.declared.steps.Step.{Step}
use Rattle.tr_journal.specs.Actors.{is_by}
use Rattle.tr_journal.specs.Differences.{Matches, account_of}
use Rattle.tr_journal.specs.Journals.{JournalLine}
use Rattle.tr_journal.specs.Lists.{HasList, ListsView, list_of, no_steps}
use Rattle.tr_stage.specs.Stages.{StageView}
use Rattle.tr_server.specs.declared.closing.CloseRefused.{CloseRefused}
use Rattle.tr_server.specs.declared.closing.CloseRefused.TheVariants as refused
use Rattle.tr_server.specs.Closing.{HasDiffered, IfDiffers, IsClosed, lists_of, made_by}
use Rattle.tr_server.specs.Differing.{DiffersView, IsDifference}
use Rattle.tr_server.specs.Passes.{PassView}
use Rattle.tr_server.specs.Servers.{ServerView}
use Rattle.tr_server.proofs.GatherLemmas.{IsPut}

-- lists by their parts
lists_are : {M : Type 0} (l : ListsView M) (leaves : List (List (Step M))) (desk player : List (Step M)) →
    l.leaves ≡ leaves → l.desk ≡ desk → l.player ≡ player → l ≡ record { leaves = leaves; desk = desk; player = player }
lists_are l leaves desk player x y z =
    ap (λ (v : List (List (Step _))). record { leaves = v; desk = l.desk; player = l.player }) x
    ∙ (ap (λ (v : List (Step _)). record { leaves = leaves; desk = v; player = l.player }) y
    ∙ ap (λ (v : List (Step _)). record { leaves = leaves; desk = desk; player = v }) z)

-- lists without a step, by how many there are
pub still_empty : {M : Type 0} (n : ℕ) (lists : ListsView M) → lists ≡ no_steps n → lists ≡ no_steps (length lists.leaves)
still_empty {M} n lists none =
    none ∙ ap (λ (k : ℕ). no_steps k) (sym (ap (λ (l : ListsView M). length l.leaves) none ∙ length-replicate n []))

-- lists in which each actor's are those of its pass
all_by : {M : Type 0} (n : ℕ) (workers : List (PassView M)) (player : PassView M) (lists : ListsView M) → length lists.leaves ≡ n →
    ((actor : Actor) → HasList n actor → list_of lists actor ≡ made_by actor (player ∷ workers)) → lists ≡ lists_of n workers player
all_by {M} n workers player lists count steps =
    lists_are lists (map own (range_with_len 0 n)) (made_by Desk (player ∷ workers)) (made_by Player (player ∷ workers))
    leaves (steps Desk tt) (steps Player tt)
  where
    own : ℕ → List (Step M)
    own k = made_by (Leaf (record { 0 = k })) (player ∷ workers)

    leaves : lists.leaves ≡ map own (range_with_len 0 n)
    leaves =
        ext_get_or [] lists.leaves (map own (range_with_len 0 n)) (count ∙ sym (length-map-range_with_len own 0 n))
        (λ i low.
        let within : i < n = omega (arith, low, count) in
        steps (Leaf (record { 0 = i })) within ∙ sym (get_or-map-range_with_len own 0 n i i [] within (omega arith)))

-- the workers' steps were put into empty lists, and then the player's
pub lists_gathered : {M : Type 0} (n : ℕ) (workers : List (PassView M)) (player : PassView M) (empty after put : ListsView M) (who : Actor)
    (steps : List (Step M)) → empty ≡ no_steps n → length after.leaves ≡ length empty.leaves →
    ((actor : Actor) → HasList (length empty.leaves) actor → list_of after actor ≡ made_by actor workers) →
    IsPut after put who steps → who ≡ player.actor → steps ≡ player.mine → put ≡ lists_of n workers player
lists_gathered {M} n workers player empty after put who steps none count own last actor_is mine =
    let many : length empty.leaves ≡ n = ap (λ (l : ListsView M). length l.leaves) none ∙ length-replicate n [] in
    all_by n workers player put (last.count ∙ (count ∙ many)) (λ actor has.
    let there : HasList (length empty.leaves) actor = subst (λ (k : ℕ). HasList k actor) (sym many) has in
    last.lists actor (subst (λ (k : ℕ). HasList k actor) (sym count) there)
    ∙ ap (λ (xs : List (Step M)). cond (is_by actor who) steps xs) (own actor there)
    ∙ ap (λ (a : Actor). cond (is_by actor a) steps (made_by actor workers)) actor_is
    ∙ ap (λ (xs : List (Step M)). cond (is_by actor player.actor) xs (made_by actor workers)) mine)

-- the entries of a journal are as many as are due
pub due_whole : {C M : Type 0} (stage s : StageView C M) (due : Option ℕ) (all : ℕ) → IfSome due (λ d. d ≡ all) →
    due ≡ Some (length stage.journal) → s ≡ stage → length s.journal ≡ all
due_whole {C} {M} stage s due all sum is same =
    ap (λ (u : StageView C M). length u.journal) same ∙ subst (λ (o : Option ℕ). IfSome o (λ d. d ≡ all)) is sum

-- what holds of what differs
pub if_differs_weaker : {C M : Type 0} (e : CloseRefused C M) (P Q : DiffersView C M → Type 0) → ((d : DiffersView C M) → P d → Q d) →
    IfDiffers e P → IfDiffers e Q
if_differs_weaker refused.NoMemory P Q f h = tt
if_differs_weaker (refused.Differs d) P Q f h = f d h

-- What was compared is what the server began with, and the lists are those of the passes.
module _ {C M : Type 0} (server : ServerView C M) (lists : ListsView M) (made : ℕ) (stage : StageView C M)
    (opening : List (Item C)) (kept : List (JournalLine M)) (gathered : ListsView M)
    (opening_is : opening ≡ server.opening) (kept_is : kept ≡ server.kept) (lists_is : gathered ≡ lists)
    (counted : length server.kept + made ≤ length stage.journal) where
  pub is_closed : (s : StageView C M) → Matches (account_of opening kept) gathered (account_of stage.opening stage.journal) → s ≡ stage →
      IsClosed server lists made s
  is_closed s matches is =
      subst (λ (u : StageView C M). IsClosed server lists made u) (sym is) (record {
        matches = rw (sym opening_is, sym kept_is, sym lists_is) matches;
        counted = counted;
      })

  pub has_differed : (d : DiffersView C M) →
      (d.stage ≡ stage) × (d.opening ≡ opening) × (d.kept ≡ kept) × (d.lists ≡ gathered) × IsDifference d → HasDiffered server lists made d
  has_differed d h = record {
    opening = h.1 ∙ opening_is;
    kept = h.2 ∙ kept_is;
    lists_are = h.3 ∙ lists_is;
    first = h.4;
    counted = subst (λ (u : StageView C M). length server.kept + made ≤ length u.journal) (sym h.0) counted;
  }
