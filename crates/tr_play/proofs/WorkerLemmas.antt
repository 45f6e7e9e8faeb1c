-- What the workers of a session are given, and what they make of it.
use Rattle.std.proofs.Common.{◌≡◌, ℕ, ◌+◌, ◌-◌, ◌<◌, ◌≤◌, Bool, true, false, nat_lt, cond, List, [], ◌∷◌, ◌++◌, ◌==◌, length, take, drop, get_or, refl, sym, ap, subst, subst₂, ◌∙◌, arith}
use Rattle.std.specs.Prelude.{All, Some, slice_get}
use Rattle.std.proofs.lemmas.Bool.{ltb-false, ltb-true}
use Rattle.std.proofs.lemmas.Bool.Decides.{nat_tests}
use Rattle.std.proofs.lemmas.List.{append-nil, append_assoc, drop-take, get_or_append_left, get_or-append_right, get_or_default, get_or_past, get_or-take, length-append, length-take, length-take-le, take-append-drop, take-take, take_all, take_more}
use Rattle.std.proofs.lemmas.Option.{get_or_from_slice_get}
use Rattle.std.proofs.lemmas.List.Elements.{All-cons, All-head, All-nil, All-tail, All-weaker}
use Rattle.tr_base.specs.declared.LeafId.{LeafId}
use Rattle.tr_base.proofs.RectLemmas.{false-true}
use Rattle.tr_forest.specs.Nodes.{Nodes, leaf_count}
use Rattle.tr_journal.specs.declared.steps.Actor.{Actor}
use Rattle.tr_journal.specs.declared.steps.Actor.TheVariants.{Leaf, Desk, Painter, Player}
use Rattle.tr_journal.specs.declared.steps.Step.{Step}
use Rattle.tr_journal.specs.Actors.{is_by, is_maker, steps_of}
use Rattle.tr_journal.specs.Lists.{HasList, ListsView, list_of}
use Rattle.tr_journal.specs.Steps.{IsLeaf, IsStep, may}
use Rattle.tr_journal.proofs.ActorLemmas.{same_actor}
use Rattle.tr_interleaves.proofs.LegalLemmas.{leaf_acts}
use Rattle.tr_parts.specs.Turns.{HasRun, IsPartStep}
use Rattle.tr_stage.specs.Stages.{StageView}
use Rattle.tr_server.specs.Passes.{PassView}
use Rattle.tr_play.specs.Lists.{AreListed, HaveLists}
use Rattle.tr_play.specs.Sessions.{AreWhole, IsWhole}
use Rattle.tr_play.specs.Workers.{AreReady, HasTaken, HasWorked, HaveTaken, IsWorker}

-- ---- steps

-- whoever makes such a step has a list
pub has_list : {M : Type 0} (t : Nodes) (made : Actor × Step M) → IsPartStep t made → HasList (leaf_count t) made.0
has_list {M} t made is = of_actor made.0 made.1 is.maker is.own.may is.own.values
  where
    of_actor : (actor : Actor) (step : Step M) → is_maker actor ≡ true → may actor step ≡ true → IsStep t step → HasList (leaf_count t) actor
    of_actor (Leaf leaf) step maker can values = (leaf_acts t leaf step can values).within
    of_actor Desk step maker can values = tt
    of_actor Painter step maker can values = absurd (false-true maker)
    of_actor Player step maker can values = tt

-- so whoever makes the steps of a part has one
pub have_lists : {M : Type 0} (t : Nodes) (steps : List (Actor × Step M)) → All (IsPartStep t) steps → HaveLists (leaf_count t) steps
have_lists t steps all = All-weaker (IsPartStep t) (λ made. HasList (leaf_count t) made.0) (λ made is. has_list t made is) steps all

-- the steps of an actor among those that can be made can be made by it
steps_ready : {M : Type 0} (t : Nodes) (actor : Actor) (steps : List (Actor × Step M)) → All (IsPartStep t) steps →
    All (λ step. IsPartStep t (actor, step)) (steps_of actor steps)
steps_ready t actor [] all = All-nil (λ step. IsPartStep t (actor, step))
steps_ready {M} t actor (x ∷ xs) all = by_test (steps_ready t actor xs (All-tail (IsPartStep t) x xs all)) (is_by actor x.0) refl
  where
    P : Step M → Type 0
    P = λ step. IsPartStep t (actor, step)

    by_test : All P (steps_of actor xs) → (b : Bool) → is_by actor x.0 ≡ b → All P (cond b (x.1 ∷ steps_of actor xs) (steps_of actor xs))
    by_test rest true is =
        All-cons P x.1 (steps_of actor xs)
        (subst (λ (a : Actor). IsPartStep t (a, x.1)) (sym (same_actor actor x.0 is)) (All-head (IsPartStep t) x xs all)) rest
    by_test rest false is = rest

-- the next step of a list is made behind those before it
pub next_made : {X : Type 0} (before now list : List X) (k : ℕ) (x : X) → k < length list → slice_get list k ≡ Some x →
    now ≡ before ++ take k list → now ++ x ∷ [] ≡ before ++ take (k + 1) list
next_made {X} before now list k x low at now_is =
    let next : take (k + 1) list ≡ take k list ++ x ∷ [] =
    take_more list k x low ∙ ap (λ (y : X). take k list ++ y ∷ []) (get_or_from_slice_get list k x x at) in
    ap (λ (xs : List X). xs ++ x ∷ []) now_is
    ∙ append_assoc before (take k list) (x ∷ [])
    ∙ ap (λ (xs : List X). before ++ xs) (sym next)

-- elements of a list, and those that follow them in it, are elements of it
pub take_on : {X : Type 0} (k n : ℕ) (xs : List X) → take k xs ++ take n (drop k xs) ≡ take (k + n) xs
take_on k n xs =
    ap (λ ys. ys ++ take n (drop k xs)) (sym (take-take k (k + n) xs (omega arith)))
    ∙ ap (λ ys. take k (take (k + n) xs) ++ ys) (sym (drop-take k n xs))
    ∙ take-append-drop k (take (k + n) xs)

-- the first elements of the first ones of a list are first elements of it
first_of_first : {X : Type 0} (s c : ℕ) (xs : List X) → (n : ℕ) × (take s (take c xs) ≡ take n xs)
first_of_first {X} s c xs = by_test (nat_lt c s) refl
  where
    by_test : (b : Bool) → nat_lt c s ≡ b → (n : ℕ) × (take s (take c xs) ≡ take n xs)
    by_test true is = (c, take_all s (take c xs) (omega (arith, ltb-true c s is, length-take c xs)))
    by_test false is = (s, take-take s c xs (omega (arith, ltb-false c s is)))

-- a part of a list is made behind what stands before it in the list
pub made_on : {X : Type 0} (before now list part : List X) (k n : ℕ) → part ≡ take n (drop k list) → now ≡ before ++ take k list →
    now ++ part ≡ before ++ take (k + n) list
made_on before now list part k n part_is now_is =
    rw (part_is, now_is) (append_assoc before (take k list) (take n (drop k list)) ∙ ap (λ ys. before ++ ys) (take_on k n list))

-- so is a beginning of that part
pub worked_on : {M : Type 0} (before now after : PassView M) (list part : List (Step M)) (k n : ℕ) → part ≡ take n (drop k list) →
    now.actor ≡ before.actor → now.mine ≡ before.mine ++ take k list → HasWorked now after part → HasWorked before after list
worked_on before now after list part k n part_is actor_is mine_is w =
    let first = first_of_first w.steps n (drop k list) in
    record {
      steps = k + first.0;
      actor = w.actor ∙ actor_is;
      mine =
          w.mine
          ∙ made_on before.mine now.mine list (take w.steps part) k first.0 (ap (λ xs. take w.steps xs) part_is ∙ first.1) mine_is;
    }

-- an actor that makes steps of a script has a list, or is a leaf's that isn't there
pub data Listed (t : Nodes) (actor : Actor) : Type 0 where
  listed : HasList (leaf_count t) actor → Listed t actor
  absent : (leaf : LeafId) → actor ≡ Leaf leaf → (IsLeaf t leaf → ⊥) → Listed t actor

pub is_listed : (t : Nodes) (actor : Actor) → is_maker actor ≡ true → Listed t actor
is_listed t (Leaf leaf) is = by_test (nat_lt leaf.0 (leaf_count t)) refl
  where
    by_test : (b : Bool) → nat_lt leaf.0 (leaf_count t) ≡ b → Listed t (Leaf leaf)
    by_test true within = listed (ltb-true leaf.0 (leaf_count t) within)
    by_test false beyond =
        absent leaf refl
        (λ there. let high : leaf_count t ≤ leaf.0 = ltb-false leaf.0 (leaf_count t) beyond in absurd (omega (arith, there.within, high)))
is_listed t Desk is = listed tt
is_listed t Painter is = absurd (false-true is)
is_listed t Player is = absurd (false-true is)

-- so those of their lists can
pub lists_ready : {M : Type 0} (t : Nodes) (steps : List (Actor × Step M)) (lists : ListsView M) → AreListed (leaf_count t) steps lists →
    All (IsPartStep t) steps → AreReady t lists
lists_ready {M} t steps lists are all actor maker = by_list (is_listed t actor maker)
  where
    P : Step M → Type 0
    P = λ step. IsPartStep t (actor, step)

    by_list : Listed t actor → All P (list_of lists actor)
    by_list (listed has) = subst (λ (xs : List (Step M)). All P xs) (sym (are.steps actor has)) (steps_ready t actor steps all)
    by_list (absent leaf same none) =
        let high : length lists.leaves ≤ leaf.0 = beyond leaf none in
        subst (λ (xs : List (Step M)). All P xs)
        (sym (ap (λ (a : Actor). list_of lists a) same ∙ get_or_past lists.leaves leaf.0 [] high)) (All-nil P)
      where
        beyond : (leaf : LeafId) → (IsLeaf t leaf → ⊥) → length lists.leaves ≤ leaf.0
        beyond leaf none = by_test (nat_lt leaf.0 (leaf_count t)) refl
          where
            by_test : (b : Bool) → nat_lt leaf.0 (leaf_count t) ≡ b → length lists.leaves ≤ leaf.0
            by_test true within = absurd (none (record { within = ltb-true leaf.0 (leaf_count t) within }))
            by_test false past = let count : length lists.leaves ≡ leaf_count t = are.count in omega (arith, count, ltb-false leaf.0 (leaf_count t) past)

-- none of them is the player's
pub no_player : {M : Type 0} (t : Nodes) (steps : List (Actor × Step M)) → All (IsPartStep t) steps → steps_of Player steps ≡ []
no_player t [] all = refl
no_player {M} t (x ∷ xs) all =
    ap (λ (b : Bool). cond b (x.1 ∷ steps_of Player xs) (steps_of Player xs)) (not_by x.0 (All-head (IsPartStep t) x xs all).maker)
    ∙ no_player t xs (All-tail (IsPartStep t) x xs all)
  where
    not_by : (actor : Actor) → is_maker actor ≡ true → is_by Player actor ≡ false
    not_by (Leaf leaf) maker = refl
    not_by Desk maker = refl
    not_by Painter maker = refl
    not_by Player maker = absurd (false-true maker)

-- ---- workers

-- the passes so far, and one more
pub whole_more : {M : Type 0} (passes : List (PassView M)) (k : ℕ) (lists : ListsView M) (pass : PassView M) →
    (k < length passes) × (pass ≡ get_or passes k pass) → AreWhole (take k passes) lists →
    IsWhole pass lists → AreWhole (take (k + 1) passes) lists
whole_more {M} passes k lists pass at so_far here = each
  where
    P : PassView M → Type 0
    P = λ p. is_maker p.actor ≡ true → length p.mine ≡ length (list_of lists p.actor)

    many : length (take (k + 1) passes) ≡ k + 1
    many = let low : k < length passes = at.0 in length-take-le (k + 1) passes (omega (arith, low))

    many_before : length (take k passes) ≡ k
    many_before = let low : k < length passes = at.0 in length-take-le k passes (omega (arith, low))

    each : (i : ℕ) (d : PassView M) → i < length (take (k + 1) passes) → P (get_or (take (k + 1) passes) i d)
    each i d within = subst P (sym (get_or-take (k + 1) passes i d low)) (by_test (nat_lt i k) refl)
      where
        low : i < k + 1
        low = omega (arith, within, many)

        by_test : (b : Bool) → nat_lt i k ≡ b → P (get_or passes i d)
        by_test true before =
            let lower : i < k = ltb-true i k before in
            subst P (get_or-take k passes i d lower) (so_far i d (omega (arith, lower, many_before)))
        by_test false last =
            let is : i ≡ k = omega (arith, low, ltb-false i k last) in
            subst (λ (j : ℕ). P (get_or passes j d)) (sym is)
            (subst P (at.1 ∙ get_or_default passes k pass d at.0) here)

-- passes stay their actors'
pub still_workers : {M : Type 0} (leaves : ℕ) (before after : List (PassView M)) (lists : ListsView M) →
    All (λ (p : PassView M). IsWorker leaves p.actor) before → length after ≡ length before →
    ((i : ℕ) (d : PassView M) → i < length before → HasTaken lists (get_or before i d) (get_or after i d)) →
    All (λ (p : PassView M). IsWorker leaves p.actor) after
still_workers {M} leaves before after lists all many taken = λ i d within.
    let low : i < length before = omega (arith, within, many) in
    subst (λ (actor : Actor). IsWorker leaves actor) (sym (taken i d low).actor) (all i d low)

-- ---- halves of the workers

-- where those of two halves did, all did
pub taken_both : {M : Type 0} (lists : ListsView M) (all xs ys xs' ys' : List (PassView M)) → all ≡ xs ++ ys →
    HaveTaken lists xs xs' → HaveTaken lists ys ys' → HaveTaken lists all (xs' ++ ys')
taken_both {M} lists all xs ys xs' ys' are first second = (count, each)
  where
    before : length all ≡ length xs + length ys
    before = ap length are ∙ length-append xs ys

    count : length (xs' ++ ys') ≡ length all
    count = omega (arith, before, length-append xs' ys', first.0, second.0)

    each : (i : ℕ) (d : PassView M) → i < length all → HasTaken lists (get_or all i d) (get_or (xs' ++ ys') i d)
    each i d within =
        subst (λ (ps : List (PassView M)). HasTaken lists (get_or ps i d) (get_or (xs' ++ ys') i d)) (sym are)
        (by_test (nat_lt i (length xs)) refl)
      where
        by_test : (b : Bool) → nat_lt i (length xs) ≡ b → HasTaken lists (get_or (xs ++ ys) i d) (get_or (xs' ++ ys') i d)
        by_test true low =
            let here : i < length xs = ltb-true i (length xs) low in
            let there : i < length xs' = omega (arith, here, first.0) in
            subst₂ (HasTaken lists) (sym (get_or_append_left xs ys d i here)) (sym (get_or_append_left xs' ys' d i there))
            (first.1 i d here)
        by_test false high =
            let past : length xs ≤ i = ltb-false i (length xs) high in
            subst₂ (HasTaken lists) (sym (get_or-append_right xs ys (length xs) i d refl past))
            (sym (get_or-append_right xs' ys' (length xs) i d first.0 past))
            (second.1 (i - length xs) d (omega (arith, within, before, past)))

-- where there is no step, a stage that stays has run
pub ran_nothing : {C M : Type 0} (s : StageView C M) (steps : List (Actor × Step M)) → (length steps == 0) ≡ true → HasRun s s steps
ran_nothing s [] none = record {
  lines = [];
  opening = refl;
  journal = sym (append-nil s.journal);
  made = λ actor maker. refl;
  player = refl;
}
ran_nothing s (x ∷ xs) some = let none : length (x ∷ xs) ≡ 0 = grind (arith, nat_tests) in absurd (omega arith)
