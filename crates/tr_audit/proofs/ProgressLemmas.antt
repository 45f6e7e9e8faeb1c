-- What is known of each actor's list, entry by entry.
use Rattle.std.proofs.Common.{◌≡◌, ◌≢◌, ℕ, ◌+◌, ◌<◌, ◌≤◌, true, false, List, [], ◌∷◌, ◌++◌, Option, Some, None, take, drop, length}
use Rattle.std.proofs.Common.{get_or, set, ap, refl, sym, ◌∙◌, arith, inl, inr}
use Rattle.std.specs.Prelude.{slice_get, is_some}
use Rattle.std.proofs.lemmas.Bool.{cases_Bool, cases_eq}
use Rattle.std.proofs.lemmas.Option.{slice_get_within, get_or_from_slice_get, same_Some}
use Rattle.std.proofs.lemmas.List.{append-nil, length-append, drop-append-le, get_or-set_other, get_or-set_same, length-set, length-take-le, length_push, take_at, take_more, take-append-le}
use Rattle.tr_journal.specs.declared.steps.Actor.{Actor}
use Rattle.tr_journal.specs.declared.steps.Step.{Step}
use Rattle.tr_journal.specs.declared.entries.Entry.{Entry}
use Rattle.tr_audit.specs.declared.progress.Progress.{Progress}
use Rattle.tr_journal.specs.Lists.{ListsView, list_of}
use Rattle.tr_journal.specs.Actors.{is_by, steps_by}
use Rattle.tr_journal.proofs.ActorLemmas.{actor_same, same_actor, steps_by-append}
use Rattle.tr_audit.specs.Progress.{AreFirst, StopsAt, IsProgress, IsNextProgress, AreFollowed}
use Rattle.tr_audit.specs.Progress.{actor_at, entries_between, no_progress, rank_of, step_found}
use Rattle.tr_audit.proofs.PlaceLemmas.{slice_get-append, slice_get_push}
use Rattle.tr_audit.proofs.RankLemmas.{actor_ranked, rank_within, ranked_actor}

-- the list with the element at a place taken, too
take_with : {A : Type 0} (xs : List A) (k : ℕ) (x : A) → slice_get xs k ≡ Some x → take (k + 1) xs ≡ take k xs ++ x ∷ []
take_with xs k x is =
    take_more xs k x (slice_get_within xs k x is) ∙ ap (λ y. take k xs ++ y ∷ []) (get_or_from_slice_get xs k x x is)

-- as many steps were made as are the same
first_long : {M : Type 0} (list steps : List (Step M)) (same : ℕ) → AreFirst list steps same → length steps ≡ same
first_long list steps same first = ap length (sym first.first) ∙ length-take-le same list first.within

-- a step more that is the list's
first_more : {M : Type 0} (list steps : List (Step M)) (same : ℕ) (x : Step M) → AreFirst list steps same → slice_get list same ≡ Some x
    → AreFirst list (steps ++ x ∷ []) (same + 1)
first_more list steps same x first is =
    let low : same < length list = slice_get_within list same x is in
    record { within = omega arith; first = take_with list same x is ∙ ap (λ l. l ++ x ∷ []) first.first }

-- a step more that isn't
stops_here : {M : Type 0} (list steps : List (Step M)) (same : ℕ) (x : Step M) → AreFirst list steps same → slice_get list same ≢ Some x
    → StopsAt list (steps ++ x ∷ []) same (Some x)
stops_here list steps same x first other =
    let long : length steps ≡ same = first_long list steps same first in
    let longer : length (steps ++ x ∷ []) ≡ length steps + 1 = length_push steps x in
    let there : slice_get (steps ++ x ∷ []) same ≡ Some x = slice_get_push steps x same long in
    record {
      within = omega arith;
      before = first.first ∙ sym (take_at steps (x ∷ []) same long);
      there = there;
      apart = λ e. other (e ∙ there);
    }

-- where it isn't, steps more change nothing
stops_still : {M : Type 0} (list steps more : List (Step M)) (same : ℕ) (step : Option (Step M)) → StopsAt list steps same step
    → StopsAt list (steps ++ more) same step
stops_still list steps more same step stops =
    let still : slice_get (steps ++ more) same ≡ slice_get steps same = slice_get-append steps more same stops.within in
    let longer : length (steps ++ more) ≡ length steps + length more = length-append steps more in
    record {
      within = omega (arith, stops.within);
      before = stops.before ∙ sym (take-append-le same steps more (omega (arith, stops.within)));
      there = still ∙ stops.there;
      apart = λ e. stops.apart (e ∙ still);
    }

up_to_stopped : {M : Type 0} (list : List (Step M)) (entries : List (Entry M)) (k same : ℕ) (apart : Option ℕ) → is_some apart ≡ true
    → IsNextProgress list entries k (record { same = same; apart = apart }) (record { same = same; apart = apart })
up_to_stopped list entries k same None is = cc
up_to_stopped list entries k same (Some j) is = λ steps e at stops. stops_still list steps (e.step ∷ []) same (step_found entries (Some j)) stops

-- a list that an actor left stays left
pub follows_stopped : {M : Type 0} (list : List (Step M)) (entries : List (Entry M)) (k : ℕ) (old : Progress) → is_some old.apart ≡ true
    → IsNextProgress list entries k old old
follows_stopped list entries k old is = up_to_stopped list entries k old.same old.apart is

up_to_same : {M : Type 0} (list : List (Step M)) (entries : List (Entry M)) (k same : ℕ) (apart : Option ℕ) (e : Entry M) → is_some apart ≡ false
    → slice_get entries k ≡ Some e → slice_get list same ≡ Some e.step
    → IsNextProgress list entries k (record { same = same; apart = apart }) (record { same = same + 1; apart = None })
up_to_same list entries k same (Some j) e going at is = cc
up_to_same {M = M} list entries k same None e going at is = λ steps f it first.
    let one : e ≡ f = same_Some e f (sym at ∙ it) in
    first_more list steps same f.step first (is ∙ ap (λ (x : Entry M). Some x.step) one)

-- an entry with the step of the list
pub follows_same : {M : Type 0} (list : List (Step M)) (entries : List (Entry M)) (k : ℕ) (old : Progress) (e : Entry M) → is_some old.apart ≡ false
    → slice_get entries k ≡ Some e → slice_get list old.same ≡ Some e.step
    → IsNextProgress list entries k old (record { same = old.same + 1; apart = None })
follows_same list entries k old e going at is = up_to_same list entries k old.same old.apart e going at is

up_to_apart : {M : Type 0} (list : List (Step M)) (entries : List (Entry M)) (k same : ℕ) (apart : Option ℕ) (e : Entry M) → is_some apart ≡ false
    → slice_get entries k ≡ Some e → (slice_get list same ≡ Some e.step → ⊥)
    → IsNextProgress list entries k (record { same = same; apart = apart }) (record { same = same; apart = Some k })
up_to_apart list entries k same (Some j) e going at other = cc
up_to_apart {M = M} list entries k same None e going at other = λ steps f it first.
    let one : e ≡ f = same_Some e f (sym at ∙ it) in
    let found : step_found entries (Some k) ≡ Some f.step = rw it refl in
    rw found (stops_here list steps same f.step first (λ is. other (is ∙ ap (λ (x : Entry M). Some x.step) (sym one))))

-- an entry with another step
pub follows_apart : {M : Type 0} (list : List (Step M)) (entries : List (Entry M)) (k : ℕ) (old : Progress) (e : Entry M) → is_some old.apart ≡ false
    → slice_get entries k ≡ Some e → (slice_get list old.same ≡ Some e.step → ⊥)
    → IsNextProgress list entries k old (record { same = old.same; apart = Some k })
follows_apart list entries k old e going at other = up_to_apart list entries k old.same old.apart e going at other

-- the entries up to one more
between_more : {M : Type 0} (from k : ℕ) (entries : List (Entry M)) (e : Entry M) → from ≤ k → slice_get entries k ≡ Some e
    → entries_between from (k + 1) entries ≡ entries_between from k entries ++ e ∷ []
between_more from k entries e order at =
    let low : k < length entries = slice_get_within entries k e at in
    let long : length (take k entries) ≡ k = length-take-le k entries (omega arith) in
    ap (drop from) (take_with entries k e at) ∙ drop-append-le from (take k entries) (e ∷ []) (omega arith)

-- the steps of an actor, with an entry of its own behind the others
by_own : {M : Type 0} (a : Actor) (es : List (Entry M)) (e : Entry M) → is_by a e.actor ≡ true
    → steps_by a (es ++ e ∷ []) ≡ steps_by a es ++ e.step ∷ []
by_own a es e is = steps_by-append a es (e ∷ []) ∙ rw is refl

-- and with one of another actor's
by_other : {M : Type 0} (a : Actor) (es : List (Entry M)) (e : Entry M) → is_by a e.actor ≡ false
    → steps_by a (es ++ e ∷ []) ≡ steps_by a es
by_other a es e is = steps_by-append a es (e ∷ []) ∙ rw is (append-nil (steps_by a es))

-- the actor at another rank is another actor
other_rank : (n rank : ℕ) (a : Actor) (o : Option ℕ) → rank < n + 2 → rank_of n a ≡ o → o ≢ Some rank → is_by (actor_at n rank) a ≡ false
other_rank n rank a o within is other =
    let differ : is_by (actor_at n rank) a ≡ true → ⊥ = λ same.
    other (sym is ∙ ap (rank_of n) (sym (same_actor (actor_at n rank) a same)) ∙ actor_ranked n rank within) in
    elim (cases_Bool (is_by (actor_at n rank) a)) [ inl same ↦ absurd (differ same) | inr unlike ↦ unlike ]

module _ {M : Type 0} (lists : ListsView M) (entries : List (Entry M)) (from k : ℕ) (e : Entry M) where
  -- what is known of a list whose actor the next entry is
  own_more : (a : Actor) (old new : Progress) → from ≤ k → slice_get entries k ≡ Some e → a ≡ e.actor → IsNextProgress (list_of lists a) entries k old new
      → IsProgress (list_of lists a) (steps_by a (entries_between from k entries)) entries old
      → IsProgress (list_of lists a) (steps_by a (entries_between from (k + 1) entries)) entries new
  own_more a old new order at is follows known =
      let steps : steps_by a (entries_between from (k + 1) entries) ≡ steps_by a (entries_between from k entries) ++ e.step ∷ [] =
      ap (steps_by a) (between_more from k entries e order at)
      ∙ by_own a (entries_between from k entries) e (ap (is_by a) (sym is) ∙ actor_same a) in
      rw steps (follows (steps_by a (entries_between from k entries)) e at known)

  -- and of another one
  other_more : (a : Actor) (old : Progress) → from ≤ k → slice_get entries k ≡ Some e → is_by a e.actor ≡ false
      → IsProgress (list_of lists a) (steps_by a (entries_between from k entries)) entries old
      → IsProgress (list_of lists a) (steps_by a (entries_between from (k + 1) entries)) entries old
  other_more a old order at unlike known =
      let steps : steps_by a (entries_between from (k + 1) entries) ≡ steps_by a (entries_between from k entries) =
      ap (steps_by a) (between_more from k entries e order at) ∙ by_other a (entries_between from k entries) e unlike in
      rw steps known

  -- an entry more of an actor that has no list
  pub followed_none : (progress : List Progress) → from ≤ k → slice_get entries k ≡ Some e → rank_of (length lists.leaves) e.actor ≡ None
      → AreFollowed lists entries from k progress → AreFollowed lists entries from (k + 1) progress
  followed_none progress order at none so_far = record {
    count = so_far.count;
    each = λ rank within. other_more (actor_at (length lists.leaves) rank) (get_or progress rank no_progress) order at
        (other_rank (length lists.leaves) rank e.actor None within none (λ o. cc)) (so_far.each rank within);
  }

  -- an entry more of an actor that has one
  pub followed_more : (progress : List Progress) (rank : ℕ) (new : Progress) → from ≤ k → slice_get entries k ≡ Some e
      → rank_of (length lists.leaves) e.actor ≡ Some rank
      → IsNextProgress (list_of lists e.actor) entries k (get_or progress rank no_progress) new
      → AreFollowed lists entries from k progress → AreFollowed lists entries from (k + 1) (set progress rank new)
  followed_more progress rank new order at is follows so_far =
      let n : ℕ = length lists.leaves in
      let low : rank < n + 2 = rank_within n e.actor rank is in
      let here : actor_at n rank ≡ e.actor = ranked_actor n e.actor rank is in
      let Known : ℕ → Progress → Type 0 = λ r p.
      IsProgress (list_of lists (actor_at n r)) (steps_by (actor_at n r) (entries_between from (k + 1) entries)) entries p in
      let own : Known rank new =
      own_more (actor_at n rank) (get_or progress rank no_progress) new order at here (rw here follows) (so_far.each rank low) in
      let written : get_or (set progress rank new) rank no_progress ≡ new =
      get_or-set_same progress rank new no_progress (omega (arith, so_far.count)) in
      let other : (r : ℕ) → r < n + 2 → (r ≡ rank → ⊥) → Known r (get_or progress r no_progress) = λ r within apart.
      other_more (actor_at n r) (get_or progress r no_progress) order at
      (other_rank n r e.actor (Some rank) within is (λ o. apart (sym (same_Some rank r o)))) (so_far.each r within) in
      record {
        count = length-set progress rank new ∙ so_far.count;
        each = λ r within. elim (cases_eq r rank) [
          | inl same ↦ rw same (rw written own)
          | inr apart ↦ rw (get_or-set_other progress rank r new no_progress apart) (other r within apart)
        ];
      }
