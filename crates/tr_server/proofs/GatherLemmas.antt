-- How the steps of passes come into lists, the last pass first.
use Rattle.std.proofs.Common.{◌≡◌, ℕ, ◌+◌, Bool, true, false, cond, ◌==◌, List, [], ◌∷◌, ◌++◌, Option, length, set, get_or, sum_by, refl, sym, ap, subst, ◌∙◌, arith}
use Rattle.std.specs.Prelude.{IfSome}
use Rattle.std.proofs.lemmas.Bool.{eqb-true, eq-eqb}
use Rattle.std.proofs.lemmas.Grind.{get_or-set_at}
use Rattle.std.proofs.lemmas.List.{append_assoc, get_or-replicate, get_or-set_other, length-set}
use Rattle.std.proofs.lemmas.List.Sums.{sum_by-append}
use Rattle.std.proofs.lemmas.Option.{IfSome_then}
use Rattle.tr_base.proofs.RectLemmas.{false-true}
use Rattle.tr_journal.specs.declared.steps.Actor.{Actor}
use Rattle.tr_journal.specs.declared.steps.Actor.TheVariants.{Leaf, Desk, Painter, Player}
use Rattle.tr_journal.specs.declared.steps.Step.{Step}
use Rattle.tr_journal.specs.Actors.{is_by}
use Rattle.tr_journal.specs.Lists.{HasList, ListsView, list_of, no_steps, with_list}
use Rattle.tr_journal.proofs.ActorLemmas.{same_actor}
use Rattle.tr_server.specs.Closing.{TakesLast, made_by}
use Rattle.tr_server.specs.Passes.{PassView}

-- an actor's list becomes these steps, and the others stay
pub record IsPut {M : Type 0} (old new : ListsView M) (who : Actor) (steps : List (Step M)) : Type 0 where
  pub count : length new.leaves ≡ length old.leaves
  pub lists : (actor : Actor) → HasList (length old.leaves) actor → list_of new actor ≡ cond (is_by actor who) steps (list_of old actor)

-- a list is put where its actor has one
pub put_there : {M : Type 0} (lists : ListsView M) (who : Actor) (steps : List (Step M)) (actor : Actor) → HasList (length lists.leaves) who →
    HasList (length lists.leaves) actor → list_of (with_list lists who steps) actor ≡ cond (is_by actor who) steps (list_of lists actor)
put_there lists who steps Painter has is = absurd is
put_there lists Painter steps actor has is = absurd has
put_there {M} lists (Leaf a) steps (Leaf b) has is = by_test (a.0 == b.0) refl
  where
    by_test : (same : Bool) → (a.0 == b.0) ≡ same → get_or (set lists.leaves a.0 steps) b.0 [] ≡ cond same steps (get_or lists.leaves b.0 [])
    by_test true same = get_or-set_at lists.leaves a.0 b.0 steps [] (sym (eqb-true a.0 b.0 same)) has
    by_test false same =
        get_or-set_other lists.leaves a.0 b.0 steps [] (λ equal. absurd (false-true (sym same ∙ eq-eqb a.0 b.0 (sym equal))))
put_there lists (Leaf a) steps Desk has is = refl
put_there lists (Leaf a) steps Player has is = refl
put_there lists Desk steps (Leaf b) has is = refl
put_there lists Desk steps Desk has is = refl
put_there lists Desk steps Player has is = refl
put_there lists Player steps (Leaf b) has is = refl
put_there lists Player steps Desk has is = refl
put_there lists Player steps Player has is = refl

pub put_count : {M : Type 0} (lists : ListsView M) (who : Actor) (steps : List (Step M)) → length (with_list lists who steps).leaves ≡ length lists.leaves
put_count lists (Leaf a) steps = length-set lists.leaves a.0 steps
put_count lists Desk steps = refl
put_count lists Painter steps = refl
put_count lists Player steps = refl

-- where it has none, the lists of the others stay
pub put_nowhere : {M : Type 0} (lists : ListsView M) (who : Actor) (steps : List (Step M)) (actor : Actor) → (HasList (length lists.leaves) who → ⊥) →
    HasList (length lists.leaves) actor → list_of lists actor ≡ cond (is_by actor who) steps (list_of lists actor)
put_nowhere {M} lists who steps actor none has = by_test (is_by actor who) refl
  where
    by_test : (same : Bool) → is_by actor who ≡ same → list_of lists actor ≡ cond same steps (list_of lists actor)
    by_test true same = absurd (none (subst (λ (a : Actor). HasList (length lists.leaves) a) (same_actor actor who same) has))
    by_test false same = refl

-- so many steps of these passes are due beside others
abbrev pub AreDue : {M : Type 0} → List (PassView M) → Option ℕ → Option ℕ → Type 0
AreDue passes before due = (n : ℕ) → IfSome before (λ d. d ≡ n) → IfSome due (λ d. d ≡ n + sum_by (λ pass. length pass.mine) passes)

-- of all passes some are left, and the steps of the others lie in the lists; their entries and steps are counted
pub record HasGathered {M : Type 0} (n : ℕ) (all left : List (PassView M)) (lists : ListsView M) (before counted : ℕ) (first due : Option ℕ) : Type 0 where
  pub taken : List (PassView M)
  pub passes : all ≡ left ++ taken
  pub count : length lists.leaves ≡ n
  pub steps : (actor : Actor) → HasList n actor → list_of lists actor ≡ made_by actor taken
  pub made : counted ≡ before + sum_by (λ (pass : PassView M). pass.made) taken
  pub steps_due : AreDue taken first due

-- no list has a step at first
pub none_gathered : {M : Type 0} (n : ℕ) (all : List (PassView M)) (lists : ListsView M) (before : ℕ) (due : Option ℕ) → length lists.leaves ≡ n →
    lists ≡ no_steps n → all ≡ all ++ [] → HasGathered n all all lists before before due due
none_gathered {M} n all lists before due count none whole = record {
  taken = [];
  passes = whole;
  count = count;
  steps = λ actor has. ap (λ (l : ListsView M). list_of l actor) none ∙ empty actor has;
  made = omega arith;
  steps_due = λ m is. IfSome_then due is (λ d same. omega (arith, same));
}
  where
    empty : (actor : Actor) → HasList n actor → list_of {M = M} (no_steps n) actor ≡ []
    empty (Leaf leaf) has = get_or-replicate n leaf.0 [] [] has
    empty Desk has = refl
    empty Painter has = refl
    empty Player has = refl

-- what one pass counts before others
sum_more : {M : Type 0} (count : PassView M → ℕ) (pass : PassView M) (passes : List (PassView M)) →
    sum_by count (pass ∷ passes) ≡ count pass + sum_by count passes
sum_more count pass passes =
    let one : sum_by count (pass ∷ []) ≡ 0 + count pass = refl in
    sum_by-append count (pass ∷ []) passes ∙ omega (arith, one)

-- one more pass is taken back
pub more_gathered : {M : Type 0} (n : ℕ) (all passes left : List (PassView M)) (who : Actor) (steps : List (Step M)) (old new : ListsView M)
    (before counted more size : ℕ) (first due later : Option ℕ) → HasGathered n all passes old before counted first due →
    TakesLast passes left who steps counted more → IsPut old new who steps → size ≡ length steps →
    ((m : ℕ) → IfSome due (λ d. d ≡ m) → IfSome later (λ d. d ≡ m + size)) → HasGathered n all left new before more first later
more_gathered {M} n all passes left who steps old new before counted more size first due later is takes put size_is adds = record {
  taken = takes.pass ∷ is.taken;
  passes = is.passes ∙ (ap (λ (ps : List (PassView M)). ps ++ is.taken) takes.passes ∙ append_assoc left (takes.pass ∷ []) is.taken);
  count = put.count ∙ is.count;
  steps = λ actor has.
      put.lists actor (subst (λ (k : ℕ). HasList k actor) (sym is.count) has)
      ∙ ap (λ (xs : List (Step M)). cond (is_by actor who) steps xs) (is.steps actor has)
      ∙ ap (λ (a : Actor). cond (is_by actor a) steps (made_by actor is.taken)) takes.actor_is
      ∙ ap (λ (xs : List (Step M)). cond (is_by actor takes.pass.actor) xs (made_by actor is.taken)) takes.steps_are;
  made = let sum = sum_more (λ (p : PassView M). p.made) takes.pass is.taken in omega (arith, is.made, takes.counted, sum);
  steps_due = λ m begun.
      let so_far = sum_by (λ (p : PassView M). length p.mine) is.taken in
      let sum = sum_more (λ (p : PassView M). length p.mine) takes.pass is.taken in
      let long : length steps ≡ length takes.pass.mine = ap length takes.steps_are in
      IfSome_then later (adds (m + so_far) (is.steps_due m begun)) (λ d same. omega (arith, same, sum, long, size_is));
}

-- where none is left, these are all
pub all_gathered : {M : Type 0} (n : ℕ) (all left : List (PassView M)) (lists : ListsView M) (before counted : ℕ) (first due : Option ℕ) →
    HasGathered n all left lists before counted first due → length left ≡ 0 → HasGathered n all [] lists before counted first due
all_gathered n all [] lists before counted first due is none = is
all_gathered n all (x ∷ xs) lists before counted first due is none = absurd (omega (arith, none))
