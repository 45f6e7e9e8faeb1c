-- The steps of an actor among those of many.
use Rattle.std.proofs.Common.{◌≡◌, ◌≤◌, Bool, true, false, cond, List, [], ◌∷◌, ◌++◌, length, map, ap, refl, sym, ◌∙◌, arith}
use Rattle.std.proofs.lemmas.Bool.{eqb-true, eq-eqb}
use Rattle.std.proofs.lemmas.List.{length-map, map-append}
use Rattle.tr_journal.specs.declared.steps.Actor.{Actor}
use Rattle.tr_journal.specs.declared.steps.Actor.TheVariants.{Leaf, Desk, Painter, Player}
use Rattle.tr_journal.specs.declared.steps.Step.{Step}
use Rattle.tr_journal.specs.declared.entries.Entry.{Entry}
use Rattle.tr_journal.specs.Actors.{is_by, made_in, steps_by, steps_of}

-- the test of two actors says whether they are the same
pub same_actor : (a b : Actor) → is_by a b ≡ true → a ≡ b
same_actor (Leaf a) (Leaf b) is = ap (λ n. Leaf (record { 0 = n })) (sym (eqb-true b.0 a.0 is))
same_actor (Leaf a) Desk is = cc
same_actor (Leaf a) Painter is = cc
same_actor (Leaf a) Player is = cc
same_actor Desk (Leaf b) is = cc
same_actor Desk Desk is = refl
same_actor Desk Painter is = cc
same_actor Desk Player is = cc
same_actor Painter (Leaf b) is = cc
same_actor Painter Desk is = cc
same_actor Painter Painter is = refl
same_actor Painter Player is = cc
same_actor Player (Leaf b) is = cc
same_actor Player Desk is = cc
same_actor Player Painter is = cc
same_actor Player Player is = refl

pub actor_same : (a : Actor) → is_by a a ≡ true
actor_same (Leaf a) = eq-eqb a.0 a.0 refl
actor_same Desk = refl
actor_same Painter = refl
actor_same Player = refl

-- the steps among two lists in a row
pub steps_of-append : {M : Type 0} (actor : Actor) (xs ys : List (Actor × Step M)) → steps_of actor (xs ++ ys) ≡ steps_of actor xs ++ steps_of actor ys
steps_of-append actor [] ys = refl
steps_of-append {M} actor (x ∷ xs) ys = by_test (is_by actor x.0) (steps_of-append actor xs ys)
  where
    by_test : (b : Bool) → steps_of actor (xs ++ ys) ≡ steps_of actor xs ++ steps_of actor ys →
        cond b (x.1 ∷ steps_of actor (xs ++ ys)) (steps_of actor (xs ++ ys))
        ≡ cond b (x.1 ∷ steps_of actor xs) (steps_of actor xs) ++ steps_of actor ys
    by_test true later = ap (λ (zs : List (Step M)). x.1 ∷ zs) later
    by_test false later = later

pub steps_by-append : {M : Type 0} (actor : Actor) (xs ys : List (Entry M)) → steps_by actor (xs ++ ys) ≡ steps_by actor xs ++ steps_by actor ys
steps_by-append actor xs ys = ap (steps_of actor) (map-append made_in xs ys) ∙ steps_of-append actor (map made_in xs) (map made_in ys)

steps_of-short : {M : Type 0} (actor : Actor) (xs : List (Actor × Step M)) → length (steps_of actor xs) ≤ length xs
steps_of-short actor [] = omega arith
steps_of-short {M} actor (x ∷ xs) = by_test (is_by actor x.0) (steps_of-short actor xs)
  where
    by_test : (b : Bool) → length (steps_of actor xs) ≤ length xs → length (cond b (x.1 ∷ steps_of actor xs) (steps_of actor xs)) ≤ length (x ∷ xs)
    by_test true later = omega arith
    by_test false later = omega arith

-- an actor made no more steps than there are entries
pub steps_by-short : {M : Type 0} (actor : Actor) (entries : List (Entry M)) → length (steps_by actor entries) ≤ length entries
steps_by-short actor entries =
    let short : length (steps_by actor entries) ≤ length (map made_in entries) = steps_of-short actor (map made_in entries) in
    let long : length (map made_in entries) ≡ length entries = length-map entries made_in in
    omega arith
