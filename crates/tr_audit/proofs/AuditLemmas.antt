-- What an audit finds.
use Rattle.std.proofs.Common.{◌≡◌, ◌≢◌, ℕ, ◌+◌, ◌-◌, ◌<◌, ◌≤◌, ◌⊎◌, List, [], ◌∷◌, ◌++◌, Option, Some, None, take, drop, length}
use Rattle.std.proofs.Common.{get_or, ap, refl, sym, ◌∙◌, arith, inl, inr, subst}
use Rattle.std.specs.Prelude.{slice_get}
use Rattle.std.specs.Option.{ForSome, option_map}
use Rattle.std.proofs.lemmas.Bool.{cases_lt}
use Rattle.std.proofs.lemmas.Option.{slice_get_within, slice_get_past, get_or_from_slice_get, same_Some}
use Rattle.std.proofs.lemmas.List.{get_or_read, length-drop, length-take-le, take_all, take_more, take-take}
use Rattle.tr_journal.specs.declared.steps.Actor.{Actor}
use Rattle.tr_journal.specs.declared.steps.Step.{Step}
use Rattle.tr_journal.specs.declared.entries.Entry.{Entry}
use Rattle.tr_journal.specs.Openings.{DifferAt}
use Rattle.tr_audit.specs.declared.progress.Progress.{Progress}
use Rattle.tr_journal.specs.Lists.{ListsView, list_of}
use Rattle.tr_journal.specs.declared.differences.Difference.{Difference}
use Rattle.tr_journal.specs.declared.differences.Apart.{Apart}
use Rattle.tr_journal.specs.declared.differences.Apart.TheVariants.{Opening, Kept, Own}
use Rattle.tr_journal.specs.Actors.{steps_by}
use Rattle.tr_journal.specs.Differences.{DifferIn}
use Rattle.tr_journal.proofs.ActorLemmas.{steps_by-short}
use Rattle.tr_audit.specs.Progress.{IsUpTo, IsProgress, AreFollowed, IsThrough, AreThrough, IsApartFirst, IsApartAt}
use Rattle.tr_audit.specs.Audits.{HaveSameSteps, IsApart, IsFirstFound, IsOwnApart, IsOwnDifference}
use Rattle.tr_audit.specs.Progress.{actor_at, entries_between, no_progress, rank_of, step_found}
use Rattle.tr_audit.proofs.PlaceLemmas.{here_within, slice_get-take, differ_here, differ_in_here}
use Rattle.tr_audit.proofs.RankLemmas.{actor_ranked, listed_rank, rank_before, rank_listed, rank_within, ranked_actor}

-- kept entries, and those of a journal, up to one more
pub kept_more : {A : Type 0} (xs ys : List A) (k : ℕ) (x : A) → slice_get xs k ≡ Some x → slice_get ys k ≡ Some x → take k xs ≡ take k ys
    → take (k + 1) xs ≡ take (k + 1) ys
kept_more xs ys k x at there so_far =
    take_more xs k x (slice_get_within xs k x at)
    ∙ ap (λ l. l ++ get_or xs k x ∷ []) so_far
    ∙ ap (λ y. take k ys ++ y ∷ []) (get_or_from_slice_get xs k x x at ∙ sym (get_or_from_slice_get ys k x x there))
    ∙ sym (take_more ys k x (slice_get_within ys k x there))

-- up to the first that the journal hasn't
pub kept_apart : {A : Type 0} (xs ys : List A) (k : ℕ) (x : A) → slice_get xs k ≡ Some x → (slice_get ys k ≡ Some x → ⊥) → take k xs ≡ take k ys
    → DifferAt xs (take (length xs) ys) (k + 1)
kept_apart xs ys k x at apart so_far =
    let low : k < length xs = slice_get_within xs k x at in
    differ_here xs (take (length xs) ys) k
    (so_far ∙ sym (take-take k (length xs) ys (omega arith)))
    (λ e. apart (sym (slice_get-take (length xs) ys k low) ∙ sym e ∙ at))

through_up_to : {M : Type 0} (list steps : List (Step M)) (entries : List (Entry M)) (same : ℕ) (apart : Option ℕ) → IsUpTo list steps entries same apart
    → apart ≡ None → same ≡ length list → list ≡ steps
through_up_to list steps entries same None first is all =
    sym (take_all same list (omega arith)) ∙ first.first
through_up_to list steps entries same (Some k) stops is all = cc

-- an actor who is through its list made its steps
through_same : {M : Type 0} (list steps : List (Step M)) (entries : List (Entry M)) (p : Progress) → IsProgress list steps entries p
    → IsThrough list p → list ≡ steps
through_same list steps entries p known through = through_up_to list steps entries p.same p.apart known through.apart through.all

differ_up_to : {M : Type 0} (list steps : List (Step M)) (entries : List (Entry M)) (same : ℕ) (apart : Option ℕ) → IsUpTo list steps entries same apart
    → (apart ≡ None → same ≡ length list → ⊥) → DifferIn list steps (same + 1) (slice_get list same) (step_found entries apart)
differ_up_to list steps entries same None first left =
    let long : length steps ≡ same = ap length (sym first.first) ∙ length-take-le same list first.within in
    let within : same ≤ length list = first.within in
    let other : same ≢ length list = left refl in
    let low : same < length list = omega arith in
    let past : slice_get steps same ≡ None = slice_get_past steps same (omega arith) in
    let before : take same list ≡ take same steps = first.first ∙ sym (take_all same steps (omega arith)) in
    differ_in_here list steps same (slice_get list same) None
    (differ_here list steps same before (λ e. here_within list same low (e ∙ past))) refl past
differ_up_to list steps entries same (Some k) stops left =
    differ_in_here list steps same (slice_get list same) (step_found entries (Some k))
    (differ_here list steps same stops.before stops.apart) refl stops.there

-- an actor who isn't through its list differs from it behind the steps that are the same
apart_differ : {M : Type 0} (list steps : List (Step M)) (entries : List (Entry M)) (p : Progress) → IsProgress list steps entries p
    → (IsThrough list p → ⊥) → DifferIn list steps (p.same + 1) (slice_get list p.same) (step_found entries p.apart)
apart_differ list steps entries p known apart =
    differ_up_to list steps entries p.same p.apart known (λ is all. apart (record { apart = is; all = all }))

found_up_to : {M : Type 0} (list steps : List (Step M)) (entries : List (Entry M)) (same : ℕ) (apart : Option ℕ) → IsUpTo list steps entries same apart
    → ForSome apart (λ k. k < length entries)
found_up_to list steps entries same None known = λ k is. cc
found_up_to {M = M} list steps entries same (Some j) stops = λ k is.
    let one : j ≡ k = same_Some j k is in
    elim (cases_lt j (length entries)) [
      | inl low ↦ omega arith
      | inr high ↦ absurd (here_within steps same stops.within
          (stops.there ∙ ap (option_map (λ (e : Entry M). e.step)) (slice_get_past entries j high)))
    ]

within_up_to : {M : Type 0} (list steps : List (Step M)) (entries : List (Entry M)) (same : ℕ) (apart : Option ℕ) → IsUpTo list steps entries same apart
    → (apart ≡ None → same ≡ length list → ⊥) → (same < length list) ⊎ (same < length steps)
within_up_to list steps entries same None first left =
    let within : same ≤ length list = first.within in
    let other : same ≢ length list = left refl in
    inl (omega arith)
within_up_to list steps entries same (Some k) stops left = inr stops.within

-- all entries behind the first ones
between_all : {M : Type 0} (from : ℕ) (entries : List (Entry M)) → entries_between from (length entries) entries ≡ drop from entries
between_all from entries = ap (drop from) (take_all (length entries) entries (omega arith))

module _ {M : Type 0} (lists : ListsView M) (entries : List (Entry M)) (from : ℕ) (progress : List Progress) where
  -- what is known of the list of the actor with this rank
  known_of : (rank : ℕ) → rank < length lists.leaves + 2 → AreFollowed lists entries from (length entries) progress
      → IsProgress (list_of lists (actor_at (length lists.leaves) rank)) (steps_by (actor_at (length lists.leaves) rank) (drop from entries)) entries
      (get_or progress rank no_progress)
  known_of rank within so_far =
      let actor : Actor = actor_at (length lists.leaves) rank in
      let Known : List (Entry M) → Type 0 = λ es. IsProgress (list_of lists actor) (steps_by actor es) entries (get_or progress rank no_progress) in
      subst Known (between_all from entries) (so_far.each rank within)

  -- the actors with these ranks made the steps of their lists
  same_below : (count rank : ℕ) (actor : Actor) → AreFollowed lists entries from (length entries) progress → AreThrough lists progress count → rank < count
      → rank_of (length lists.leaves) actor ≡ Some rank → list_of lists actor ≡ steps_by actor (drop from entries)
  same_below count rank actor so_far through low is =
      let n : ℕ = length lists.leaves in
      let here : actor_at n rank ≡ actor = ranked_actor n actor rank is in
      let Same : Actor → Type 0 = λ a. list_of lists a ≡ steps_by a (drop from entries) in
      subst Same here (through_same (list_of lists (actor_at n rank)) (steps_by (actor_at n rank) (drop from entries)) entries
      (get_or progress rank no_progress) (known_of rank (rank_within n actor rank is) so_far) (through rank low))

  -- where all actors are through their lists, each made its steps
  pub own_same : AreFollowed lists entries from (length entries) progress → AreThrough lists progress (length progress)
      → HaveSameSteps lists (drop from entries)
  own_same so_far through = λ actor listed.
      let n : ℕ = length lists.leaves in
      let (rank, is) = rank_listed n actor listed in
      let low : rank < n + 2 = rank_within n actor rank is in
      same_below (length progress) rank actor so_far through (omega (arith, so_far.count)) is

  -- the first actor who isn't is the first whose steps differ
  own_apart : (rank : ℕ) → AreFollowed lists entries from (length entries) progress → IsApartFirst lists progress rank
      → IsApartAt lists entries from (actor_at (length lists.leaves) rank) (get_or progress rank no_progress)
  own_apart rank so_far first =
      let n : ℕ = length lists.leaves in
      let actor : Actor = actor_at n rank in
      let list : List (Step M) = list_of lists actor in
      let steps : List (Step M) = steps_by actor (drop from entries) in
      let p : Progress = get_or progress rank no_progress in
      let low : rank < n + 2 = omega (arith, first.within, so_far.count) in
      let ranked : rank_of n actor ≡ Some rank = actor_ranked n rank low in
      let known : IsProgress list steps entries p = known_of rank low so_far in
      let few : length steps ≤ length (drop from entries) = steps_by-short actor (drop from entries) in
      let fewer : length (drop from entries) ≡ length entries - from = length-drop from entries in
      record {
        listed = listed_rank n actor rank ranked;
        apart = (
          record {
            listed = listed_rank n actor rank ranked;
            earlier = λ other listed before.
                let (i, is) = rank_listed n other listed in
                same_below rank i other so_far first.earlier (rank_before n other actor i rank before is ranked) is;
          },
          apart_differ list steps entries p known first.apart,
        );
        entry = found_up_to list steps entries p.same p.apart known;
        within = elim (within_up_to list steps entries p.same p.apart known (λ is all. first.apart (record { apart = is; all = all }))) [
          | inl less ↦ inl less
          | inr less ↦ inr (omega arith)
        ];
      }

  -- the same, as the code has its values
  pub apart_at : (rank : ℕ) (actor : Actor) (p : Progress) → AreFollowed lists entries from (length entries) progress
      → IsApartFirst lists progress rank → actor ≡ actor_at (length lists.leaves) rank → p ≡ get_or progress rank p
      → IsApartAt lists entries from actor p
  apart_at rank actor p so_far first who is =
      let read : p ≡ get_or progress rank no_progress = get_or_read progress rank p first.within is no_progress in
      rw (who, read) (own_apart rank so_far first)

module _ {M : Type 0} (kept : List (Entry M)) (lists : ListsView M) (found : List (Entry M)) where
  own_first : (place : ℕ) (what : Apart M) → kept ≡ take (length kept) found → IsOwnApart lists (drop (length kept) found) place what
      → IsApart kept lists found place what
  own_first place Opening same first = absurd first
  own_first place (Kept x y) same first = absurd first
  own_first place (Own actor x y) same first = (same, first)

  -- where the kept entries are there, the first difference is that of the steps
  pub found_own : (d : Difference M) → kept ≡ take (length kept) found → IsOwnDifference lists (drop (length kept) found) d
      → IsFirstFound kept lists found d
  found_own d same first = own_first d.place d.what same first
