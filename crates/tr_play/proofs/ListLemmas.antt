-- Steps of many actors, put into lists of each actor's one by one.
use Rattle.std.proofs.Common.{◌≡◌, ℕ, ◌+◌, ◌<◌, ◌↔◌, Bool, true, false, ◌==◌, cond, List, [], ◌∷◌, ◌++◌, length, take, drop, get_or, map, refl, sym, ap, subst, ◌∙◌, arith}
use Rattle.std.specs.Prelude.{All, Some, min, replicate, set, slice_get}
use Rattle.std.proofs.lemmas.Bool.{eqb-true, eq-eqb}
use Rattle.std.proofs.lemmas.Grind.{get_or-set_at}
use Rattle.std.proofs.lemmas.List.{append-nil, drop-map, get_or-map, get_or-replicate, get_or-set_other, get_or_default, get_or-take, length-map, length-replicate, length-set, length-take-le, map-set, map_push, take-map, take-take, take_min, take_more}
use Rattle.std.proofs.lemmas.Option.{get_or_from_slice_get}
use Rattle.std.proofs.lemmas.List.Elements.{All-get_or, All-more, All-nil, All-push, All-replicate, All-set, All-take}
use Rattle.tr_base.proofs.RectLemmas.{false-true}
use Rattle.tr_journal.specs.declared.steps.Actor.{Actor}
use Rattle.tr_journal.specs.declared.steps.Actor.TheVariants.{Leaf, Desk, Painter, Player}
use Rattle.tr_journal.specs.declared.steps.Step.{Step}
use Rattle.tr_journal.specs.declared.steps.Step.TheVariants.{Sync}
use Rattle.tr_journal.specs.Actors.{is_by}
use Rattle.tr_journal.specs.Lists.{ListsView, HasList, list_of, with_step}
use Rattle.tr_journal.proofs.ActorLemmas.{steps_of-append}
use Rattle.tr_play.specs.Lists.{AreListed}
use Rattle.tr_play.specs.Places.{AreWithin, PlacesView, are_below, lists_at, no_places, step_places, step_at, steps_at, with_place}
use Rattle.tr_play.specs.Workers.{AreNoCommands, is_command}

-- one step more, or none
abbrev step_if : {M : Type 0} → Bool → Step M → List (Step M)
step_if b step = cond b (step ∷ []) []

-- the list of an actor once a step is added
list_of-with_step : {M : Type 0} (lists : ListsView M) (who : Actor) (step : Step M) (actor : Actor) → HasList (length lists.leaves) who →
    HasList (length lists.leaves) actor → list_of (with_step lists who step) actor ≡ list_of lists actor ++ step_if (is_by actor who) step
list_of-with_step lists who step Painter has is = absurd is
list_of-with_step lists Painter step actor has is = absurd has
list_of-with_step {M} lists (Leaf a) step (Leaf b) has is = by_test (a.0 == b.0) refl
  where
    now : List (Step M)
    now = get_or lists.leaves a.0 [] ++ step ∷ []

    by_test : (same : Bool) → (a.0 == b.0) ≡ same → get_or (set lists.leaves a.0 now) b.0 [] ≡ get_or lists.leaves b.0 [] ++ step_if same step
    by_test true same =
        let equal : b.0 ≡ a.0 = sym (eqb-true a.0 b.0 same) in
        get_or-set_at lists.leaves a.0 b.0 now [] equal has
        ∙ ap (λ (n : ℕ). get_or lists.leaves n [] ++ step ∷ []) (sym equal)
    by_test false same =
        get_or-set_other lists.leaves a.0 b.0 now [] (λ equal. absurd (false-true (sym same ∙ eq-eqb a.0 b.0 (sym equal))))
        ∙ sym (append-nil (get_or lists.leaves b.0 []))
list_of-with_step lists (Leaf a) step Desk has is = sym (append-nil lists.desk)
list_of-with_step lists (Leaf a) step Player has is = sym (append-nil lists.player)
list_of-with_step lists Desk step (Leaf b) has is = sym (append-nil (get_or lists.leaves b.0 []))
list_of-with_step lists Desk step Desk has is = refl
list_of-with_step lists Desk step Player has is = sym (append-nil lists.player)
list_of-with_step lists Player step (Leaf b) has is = sym (append-nil (get_or lists.leaves b.0 []))
list_of-with_step lists Player step Desk has is = sym (append-nil lists.desk)
list_of-with_step lists Player step Player has is = refl

count-with_step : {M : Type 0} (lists : ListsView M) (who : Actor) (step : Step M) → length (with_step lists who step).leaves ≡ length lists.leaves
count-with_step lists (Leaf a) step = length-set lists.leaves a.0 (get_or lists.leaves a.0 [] ++ step ∷ [])
count-with_step lists Desk step = refl
count-with_step lists Painter step = refl
count-with_step lists Player step = refl

-- one step more
listed_more : {M : Type 0} (leaves : ℕ) (before : List (Actor × Step M)) (lists : ListsView M) (made : Actor × Step M) →
    AreListed leaves before lists → HasList leaves made.0 → AreListed leaves (before ++ made ∷ []) (with_step lists made.0 made.1)
listed_more {M} leaves before lists made are has = record {
  count = count-with_step lists made.0 made.1 ∙ are.count;
  steps = λ actor is.
      list_of-with_step lists made.0 made.1 actor (subst (λ (n : ℕ). HasList n made.0) (sym are.count) has)
      (subst (λ (n : ℕ). HasList n actor) (sym are.count) is)
      ∙ ap (λ (xs : List (Step M)). xs ++ step_if (is_by actor made.0) made.1) (are.steps actor is)
      ∙ sym (steps_of-append actor before (made ∷ []));
}

-- the steps so far, and one more
listed_next : {M : Type 0} (leaves : ℕ) (all : List (Actor × Step M)) (k : ℕ) (lists : ListsView M) (d : Actor × Step M) → k < length all →
    AreListed leaves (take k all) lists → HasList leaves (get_or all k d).0 →
    AreListed leaves (take (k + 1) all) (with_step lists (get_or all k d).0 (get_or all k d).1)
listed_next {M} leaves all k lists d low so_far has =
    subst (λ (xs : List (Actor × Step M)). AreListed leaves xs (with_step lists (get_or all k d).0 (get_or all k d).1)) (sym (take_more all k d low))
    (listed_more leaves (take k all) lists (get_or all k d) so_far has)

-- ---- lists by the places of their steps

-- the steps at the places, once there is one more behind the others of an actor
lists_at-with_place : {M : Type 0} (made : List (Actor × Step M)) (places : PlacesView) (who : Actor) (place : ℕ) → HasList (length places.leaves) who →
    lists_at made (with_place places who place) ≡ with_step (lists_at made places) who (step_at made place)
lists_at-with_place {M} made places (Leaf leaf) place has = ap (λ (rows : List (List (Step M))). record (lists_at made places) { leaves = rows }) rows
  where
    before : List ℕ
    before = get_or places.leaves leaf.0 []

    row : steps_at made (before ++ place ∷ []) ≡ get_or (map (steps_at made) places.leaves) leaf.0 [] ++ step_at made place ∷ []
    row = map_push (step_at made) before place
        ∙ ap (λ (xs : List (Step M)). xs ++ step_at made place ∷ []) (sym (get_or-map (steps_at made) places.leaves leaf.0 [] [] has))

    rows : map (steps_at made) (set places.leaves leaf.0 (before ++ place ∷ []))
        ≡ set (map (steps_at made) places.leaves) leaf.0 (get_or (map (steps_at made) places.leaves) leaf.0 [] ++ step_at made place ∷ [])
    rows = map-set (steps_at made) places.leaves leaf.0 (before ++ place ∷ [])
        ∙ ap (λ (xs : List (Step M)). set (map (steps_at made) places.leaves) leaf.0 xs) row
lists_at-with_place {M} made places Desk place has =
    ap (λ (xs : List (Step M)). record (lists_at made places) { desk = xs }) (map_push (step_at made) places.desk place)
lists_at-with_place made places Painter place has = absurd has
lists_at-with_place {M} made places Player place has =
    ap (λ (xs : List (Step M)). record (lists_at made places) { player = xs }) (map_push (step_at made) places.player place)

-- the places of an actor's steps are places in the part
below_of : (steps : ℕ) (places : PlacesView) (actor : Actor) → HasList (length places.leaves) actor → AreWithin steps places →
    are_below steps (step_places places actor)
below_of steps places (Leaf leaf) has is = All-get_or (are_below steps) places.leaves leaf.0 [] has is.leaves
below_of steps places Desk has is = is.desk
below_of steps places Painter has is = absurd has
below_of steps places Player has is = is.player

-- they still are with one place more
within_more : (steps : ℕ) (places : PlacesView) (who : Actor) (place : ℕ) → HasList (length places.leaves) who → place < steps →
    AreWithin steps places → AreWithin steps (with_place places who place)
within_more steps places (Leaf leaf) place has low is = record {
  leaves = All-set (are_below steps) places.leaves leaf.0 (get_or places.leaves leaf.0 [] ++ place ∷ [])
      (All-push (λ (p : ℕ). p < steps) (get_or places.leaves leaf.0 []) place (below_of steps places (Leaf leaf) has is) low) is.leaves;
  desk = is.desk;
  player = is.player;
}
within_more steps places Desk place has low is = record {
  leaves = is.leaves;
  desk = All-push (λ (p : ℕ). p < steps) places.desk place is.desk low;
  player = is.player;
}
within_more steps places Painter place has low is = absurd has
within_more steps places Player place has low is = record {
  leaves = is.leaves;
  desk = is.desk;
  player = All-push (λ (p : ℕ). p < steps) places.player place is.player low;
}

-- the places are those of the first so many steps of a part
pub record ArePlaced {M : Type 0} (leaves : ℕ) (made : List (Actor × Step M)) (count : ℕ) (places : PlacesView) : Type 0 where
  pub listed : AreListed leaves (take count made) (lists_at made places)
  pub within : AreWithin (length made) places

-- there is a row of places for each of so many leaves
rows : {M : Type 0} (leaves : ℕ) (before made : List (Actor × Step M)) (places : PlacesView) → AreListed leaves before (lists_at made places) →
    length places.leaves ≡ leaves
rows leaves before made places are = sym (length-map places.leaves (steps_at made)) ∙ are.count

-- no step yet
pub placed_none : {M : Type 0} (leaves : ℕ) (made : List (Actor × Step M)) → ArePlaced leaves made 0 (no_places leaves)
placed_none {M} leaves made = record {
  listed = record { count = length-map (replicate leaves []) (steps_at made) ∙ length-replicate leaves []; steps = none };
  within = record {
    leaves = All-replicate (are_below (length made)) leaves [] (All-nil (λ (p : ℕ). p < length made));
    desk = All-nil (λ (p : ℕ). p < length made);
    player = All-nil (λ (p : ℕ). p < length made);
  };
}
  where
    none : (actor : Actor) → HasList leaves actor → list_of (lists_at made (no_places leaves)) actor ≡ []
    none (Leaf leaf) is =
        get_or-map (steps_at made) (replicate leaves []) leaf.0 [] [] (subst (λ (n : ℕ). leaf.0 < n) (sym (length-replicate leaves [])) is)
        ∙ ap (steps_at made) (get_or-replicate leaves leaf.0 [] [] is)
    none Desk is = refl
    none Painter is = refl
    none Player is = refl

-- one step more
pub placed_next : {M : Type 0} (leaves : ℕ) (made : List (Actor × Step M)) (k : ℕ) (places : PlacesView) (d : Actor × Step M) → k < length made →
    HasList leaves (get_or made k d).0 → ArePlaced leaves made k places → ArePlaced leaves made (k + 1) (with_place places (get_or made k d).0 k)
placed_next {M} leaves made k places d low has are = record {
  listed = subst (λ (lists : ListsView M). AreListed leaves (take (k + 1) made) lists) (sym here)
      (listed_next leaves made k (lists_at made places) d low are.listed has);
  within = within_more (length made) places one.0 k own low are.within;
}
  where
    one : Actor × Step M
    one = get_or made k d

    own : HasList (length places.leaves) one.0
    own = subst (λ (n : ℕ). HasList n one.0) (sym (rows leaves (take k made) made places are.listed)) has

    here : lists_at made (with_place places one.0 k) ≡ with_step (lists_at made places) one.0 one.1
    here = lists_at-with_place made places one.0 k own
        ∙ ap (λ (x : Actor × Step M). with_step (lists_at made places) one.0 x.1) (get_or_default made k (Player, Sync) d low)

-- the steps at some of the places, from one of them on
pub part_is : {M : Type 0} (made : List (Actor × Step M)) (places rest : List ℕ) (k count n : ℕ) → rest ≡ drop k places →
    n ≡ min count (length rest) → steps_at made (take n rest) ≡ take count (drop k (steps_at made places))
part_is made places rest k count n rest_is is =
    ap (λ (i : ℕ). steps_at made (take i rest)) is
    ∙ ap (λ (ps : List ℕ). steps_at made ps) (take_min count rest)
    ∙ ap (λ (ps : List ℕ). steps_at made (take count ps)) rest_is
    ∙ sym (take-map (step_at made) count (drop k places))
    ∙ ap (λ xs. take count xs) (sym (drop-map (step_at made) k places))

-- ---- commands

-- where none of the steps so far is a command, and of one more
pub none_more : {M : Type 0} (list : List (Step M)) (k : ℕ) (x : Step M) (old new : ℕ) → k < length list → slice_get list k ≡ Some x →
    (old ≡ 0 ↔ AreNoCommands (take k list)) → (new ≡ 0 ↔ (old ≡ 0) × (is_command x ≡ false)) → new ≡ 0 ↔ AreNoCommands (take (k + 1) list)
none_more {M} list k x old new low at was counts = (to, from)
  where
    P : Step M → Type 0
    P = λ step. is_command step ≡ false

    same : get_or list k x ≡ x
    same = get_or_from_slice_get list k x x at

    to : new ≡ 0 → All P (take (k + 1) list)
    to none = All-more P list k x low (was.0 (counts.0 none).0) (subst P (sym same) (counts.0 none).1)

    from : All P (take (k + 1) list) → new ≡ 0
    from all = counts.1 (was.1 before, here)
      where
        long : length (take (k + 1) list) ≡ k + 1
        long = length-take-le (k + 1) list (omega (arith, low))

        before : All P (take k list)
        before = subst (λ (steps : List (Step M)). All P steps) (take-take k (k + 1) list (omega arith)) (All-take P k (take (k + 1) list) all)

        here : is_command x ≡ false
        here = subst P (get_or-take (k + 1) list k x (omega arith) ∙ same) (All-get_or P (take (k + 1) list) k x (omega (arith, long)) all)
