-- Actors, and their places in the order of actors.
use Rattle.std.proofs.Common.{◌≡◌, ℕ, ◌+◌, ◌<◌, Some, ltb, inl, inr, refl, arith}
use Rattle.std.proofs.lemmas.Bool.{cases_eq, cases_lt, eq-eqb, le-ltb, lt-ltb, ltb-true, ne_eqb}
use Rattle.std.proofs.lemmas.Option.{cond_some, same_Some}
use Rattle.tr_journal.specs.declared.steps.Actor.{Actor}
use Rattle.tr_journal.specs.declared.steps.Actor.TheVariants.{Leaf, Desk, Painter, Player}
use Rattle.tr_journal.specs.Lists.{HasList}
use Rattle.tr_journal.specs.Differences.{IsBefore}
use Rattle.tr_audit.specs.Progress.{rank_of, actor_at}

-- an actor that has a list has a rank
pub rank_listed : (n : ℕ) (a : Actor) → HasList n a → (rank : ℕ) × (rank_of n a ≡ Some rank)
rank_listed n (Leaf a) listed = (a.0, rw (lt-ltb a.0 n listed) refl)
rank_listed n Desk listed = (n, refl)
rank_listed n Painter listed = absurd listed
rank_listed n Player listed = (n + 1, refl)

-- who has a rank has a list
pub listed_rank : (n : ℕ) (a : Actor) (rank : ℕ) → rank_of n a ≡ Some rank → HasList n a
listed_rank n (Leaf a) rank is = ltb-true a.0 n (cond_some (ltb a.0 n) a.0 rank is).0
listed_rank n Desk rank is = tt
listed_rank n Painter rank is = cc
listed_rank n Player rank is = tt

-- ranks are below their count
pub rank_within : (n : ℕ) (a : Actor) (rank : ℕ) → rank_of n a ≡ Some rank → rank < n + 2
rank_within n (Leaf a) rank is =
    let parts = cond_some (ltb a.0 n) a.0 rank is in
    let low : a.0 < n = ltb-true a.0 n parts.0 in
    let same : a.0 ≡ rank = parts.1 in
    omega arith
rank_within n Desk rank is = let same : n ≡ rank = same_Some n rank is in omega arith
rank_within n Painter rank is = cc
rank_within n Player rank is = let same : n + 1 ≡ rank = same_Some (n + 1) rank is in omega arith

actor_desk : (n : ℕ) → actor_at n n ≡ Desk
actor_desk n = rw (le-ltb n n (omega arith), eq-eqb n n refl) refl

actor_player : (n : ℕ) → actor_at n (n + 1) ≡ Player
actor_player n = rw (le-ltb (n + 1) n (omega arith), ne_eqb (n + 1) n (λ e. omega arith)) refl

actor_leaf : (n k : ℕ) → k < n → actor_at n k ≡ Leaf (record { 0 = k })
actor_leaf n k low = rw (lt-ltb k n low) refl

-- at an actor's rank stands the actor
pub ranked_actor : (n : ℕ) (a : Actor) (rank : ℕ) → rank_of n a ≡ Some rank → actor_at n rank ≡ a
ranked_actor n (Leaf a) rank is =
    let parts = cond_some (ltb a.0 n) a.0 rank is in
    let same : a.0 ≡ rank = parts.1 in
    rw (← same) (actor_leaf n a.0 (ltb-true a.0 n parts.0))
ranked_actor n Desk rank is = rw (← same_Some n rank is) (actor_desk n)
ranked_actor n Painter rank is = cc
ranked_actor n Player rank is = rw (← same_Some (n + 1) rank is) (actor_player n)

-- the actor at a rank has that rank
pub actor_ranked : (n rank : ℕ) → rank < n + 2 → rank_of n (actor_at n rank) ≡ Some rank
actor_ranked n rank within =
    let at_desk : rank ≡ n → rank_of n (actor_at n rank) ≡ Some rank = λ e. rw (e, actor_desk n) refl in
    let at_player : rank ≡ n + 1 → rank_of n (actor_at n rank) ≡ Some rank = λ e. rw (e, actor_player n) refl in
    elim (cases_lt rank n) [
      | inl low ↦ rw (actor_leaf n rank low, lt-ltb rank n low) refl
      | inr high ↦ elim (cases_eq rank n) [ inl e ↦ at_desk e | inr other ↦ at_player (omega arith) ]
    ]

-- whoever comes before another has the lower rank
pub rank_before : (n : ℕ) (a b : Actor) (i j : ℕ) → IsBefore a b → rank_of n a ≡ Some i → rank_of n b ≡ Some j → i < j
rank_before n (Leaf a) (Leaf b) i j before is at =
    let e : a.0 ≡ i = (cond_some (ltb a.0 n) a.0 i is).1 in
    let f : b.0 ≡ j = (cond_some (ltb b.0 n) b.0 j at).1 in
    omega arith
rank_before n (Leaf a) Desk i j before is at =
    let parts = cond_some (ltb a.0 n) a.0 i is in
    let e : a.0 ≡ i = parts.1 in
    let low : a.0 < n = ltb-true a.0 n parts.0 in
    let f : n ≡ j = same_Some n j at in
    omega arith
rank_before n (Leaf a) Player i j before is at =
    let parts = cond_some (ltb a.0 n) a.0 i is in
    let e : a.0 ≡ i = parts.1 in
    let low : a.0 < n = ltb-true a.0 n parts.0 in
    let f : n + 1 ≡ j = same_Some (n + 1) j at in
    omega arith
rank_before n (Leaf a) Painter i j before is at = absurd before
rank_before n Desk Player i j before is at =
    let e : n ≡ i = same_Some n i is in
    let f : n + 1 ≡ j = same_Some (n + 1) j at in
    omega arith
rank_before n Desk (Leaf b) i j before is at = absurd before
rank_before n Desk Desk i j before is at = absurd before
rank_before n Desk Painter i j before is at = absurd before
rank_before n Painter b i j before is at = absurd before
rank_before n Player b i j before is at = absurd before
