-- Each node lies below a topmost one.
use Rattle.std.proofs.Common.{◌≡◌, ◌≢◌, ℕ, zero, suc, ◌≤◌, true, false, ◌||◌, ◌==◌, Option, Some, None, refl, ap, ◌∙◌, arith}
use Rattle.std.proofs.lemmas.Bool.Decides.{nat_tests}
use Rattle.tr_base.specs.declared.NodeId.{NodeId}
use Rattle.tr_base.proofs.BoolLemmas.{or_true}
use Rattle.tr_forest.specs.Nodes.{Nodes, IsNode, node}
use Rattle.tr_forest.specs.Families.{levels, deeper, depth_within, of_parent, is_under, is_under_within}
use Rattle.tr_forest.specs.Forests.{IsForest}
use Rattle.tr_forest.proofs.FamilyLemmas.{depth_suc, depth_zero, parent_is_node, under_itself, under_suc}

pub numbers_apart : (a b : NodeId) → (a.0 == b.0) ≡ false → a.0 ≢ b.0
numbers_apart a b h e = let test : (a.0 == b.0) ≡ true = grind (arith, nat_tests) in absurd cc

-- the topmost node above a node
pub record IsTopOf (f : ℕ) (t : Nodes) (m : NodeId) : Type 0 where
  pub top : NodeId
  pub inside : IsNode t top
  pub loose : (node t top).parent ≡ None
  pub under : is_under_within f t top m ≡ true

under_parent : (f : ℕ) (t : Nodes) (top m p : NodeId) → (node t m).parent ≡ Some p → is_under_within f t top p ≡ true → is_under_within (suc f) t top m ≡ true
under_parent f t top m p up h =
    under_suc f t top m ∙ ap (λ o. (m.0 == top.0) || of_parent o (is_under_within f t top)) up ∙ ap (λ b. (m.0 == top.0) || b) h ∙ or_true (m.0 == top.0)

top_within : (f : ℕ) (t : Nodes) → IsForest t → (m : NodeId) → IsNode t m → depth_within f t m ≤ f → IsTopOf f t m
top_within zero t forest m inside h = let one : depth_within 0 t m ≡ 1 = depth_zero t m in absurd (omega arith)
top_within (suc f) t forest m inside h = by_parent (node t m).parent refl (rw depth_suc at h) (λ p k d. top_within f t forest p k d)
  where
    by_parent : (o : Option NodeId) → (node t m).parent ≡ o → deeper o (depth_within f t) ≤ suc f →
        ((p : NodeId) → IsNode t p → depth_within f t p ≤ f → IsTopOf f t p) → IsTopOf (suc f) t m
    by_parent None e le ih = record { top = m; inside = inside; loose = e; under = under_itself (suc f) t m m refl }
    by_parent (Some p) e le ih =
        let up : IsTopOf f t p = ih p (parent_is_node t m p forest e) (omega arith) in
        record { top = up.top; inside = up.inside; loose = up.loose; under = under_parent f t up.top m p e up.under }

pub top_of : (t : Nodes) → IsForest t → (m : NodeId) → IsNode t m → IsTopOf levels t m
top_of t forest m inside = top_within 16 t forest m inside (forest.depths m)

pub under_own : (t : Nodes) (n : NodeId) → is_under t n n ≡ true
under_own t n = under_itself 16 t n n refl
