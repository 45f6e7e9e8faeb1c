-- What is the same of a window that isn't reshaped, and a walk that clears those that are.
use Rattle.std.proofs.Common.{◌≡◌, ℕ, zero, suc, ◌+◌, Bool, true, false, not, ◌&&◌, List, [], ◌∷◌, length, refl, ap, ◌∙◌, add-zero, arith}
use Rattle.tr_machine.proofs.AlterLemmas.{sizes_equal}
use Rattle.tr_base.specs.declared.LeafId.{LeafId}
use Rattle.tr_base.specs.Ops.{same_kind}
use Rattle.tr_base.proofs.KindLemmas.{kinds_equal}
use Rattle.tr_spot.specs.Leaves.{leaf_size, same_size}
use Rattle.tr_tree.specs.Trees.{Seen}
use Rattle.tr_mail.specs.Deliveries.{is_reshaped}
use Rattle.tr_windows.specs.Presents.{Present, without_old_batch, cleared_from}
use Rattle.tr_windows.proofs.ChangeLemmas.{changed_below, changed_below-first}

-- what a window has before and after an edit of the tree that doesn't reshape it
pub record IsSameShape (was is : Seen) (leaf : LeafId) : Type 0 where
  pub size : leaf_size was leaf ≡ leaf_size is leaf
  pub kind : was.kind ≡ is.kind

-- a window that isn't reshaped has the same size and kind
pub same_shape : (was is : Seen) (leaf : LeafId) → is_reshaped was is leaf ≡ false → IsSameShape was is leaf
same_shape was is leaf h = by_tests (same_size (leaf_size was leaf) (leaf_size is leaf)) (same_kind was.kind is.kind) refl refl h
  where
    by_tests : (x y : Bool) → same_size (leaf_size was leaf) (leaf_size is leaf) ≡ x → same_kind was.kind is.kind ≡ y → not (x && y) ≡ false →
        IsSameShape was is leaf
    by_tests true true size kind h = record { size = sizes_equal _ _ size; kind = kinds_equal _ _ kind }
    by_tests true false size kind h = cc
    by_tests false y size kind h = cc

-- the windows are cleared one by one
pub cleared_one_by_one : {C : Type 0} (was is : Seen) (s : ℕ) (f : ℕ → Present C → Present C) →
    ((k : ℕ) (w : Present C) → f k w ≡ without_old_batch was is (record { 0 = s + k }) w) → (ws : List (Present C)) →
    changed_below (length ws) f ws ≡ cleared_from s was is ws
cleared_one_by_one was is s f each [] = refl
cleared_one_by_one {C} was is s f each (w ∷ ws) =
    changed_below-first f (length ws) w ws
    ∙ ap (λ v. v ∷ changed_below (length ws) (λ k. f (suc k)) ws) first
    ∙ ap (λ vs. without_old_batch was is (record { 0 = s }) w ∷ vs) (cleared_one_by_one was is (suc s) (λ k. f (suc k)) later ws)
  where
    first : f zero w ≡ without_old_batch was is (record { 0 = s }) w
    first = each zero w ∙ ap (λ n. without_old_batch was is (record { 0 = n }) w) (add-zero s)

    later : (k : ℕ) (v : Present C) → f (suc k) v ≡ without_old_batch was is (record { 0 = suc s + k }) v
    later k v = let e : s + suc k ≡ suc s + k = omega arith in each (suc k) v ∙ ap (λ n. without_old_batch was is (record { 0 = n }) v) e
