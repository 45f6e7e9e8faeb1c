-- The windows of leaves, made one after another.
use Rattle.std.proofs.Common.{◌≡◌, ℕ, ◌+◌, ◌<◌, Bool, true, false, List, [], ◌∷◌, ◌++◌, length, get_or, refl, sym, ap, ◌∙◌, arith}
use Rattle.std.specs.Prelude.{nat_lt}
use Rattle.std.proofs.lemmas.Bool.Decides.{nat_tests}
use Rattle.std.proofs.lemmas.List.{length-append, get_or_append_left}
use Rattle.std.proofs.Math.Seq.{get_or-append_seam}
use Rattle.tr_base.specs.declared.LeafId.{LeafId}
use Rattle.tr_server.specs.Servers.{AreLeavesInOrder}

-- no window
pub no_windows : (windows : List LeafId) → windows ≡ [] → AreLeavesInOrder 0 windows
no_windows windows none = record { count = ap length none; numbers = λ i d within. absurd (omega (arith, within)) }

-- the window at a place, once there is one more
at_place : (n i : ℕ) (windows : List LeafId) (w d : LeafId) → AreLeavesInOrder n windows → w ≡ record { 0 = n } → i < n + 1 →
    (low : Bool) → nat_lt i n ≡ low → get_or (windows ++ w ∷ []) i d ≡ record { 0 = i }
at_place n i windows w d are is within true low =
    let below : i < n = grind (arith, nat_tests) in
    get_or_append_left windows (w ∷ []) d i (omega (arith, below, are.count)) ∙ are.numbers i d below
at_place n i windows w d are is within false low =
    let last : i ≡ n = grind (arith, nat_tests) in
    ap (λ (k : ℕ). get_or (windows ++ w ∷ []) k d) (last ∙ sym are.count)
    ∙ (get_or-append_seam windows w [] d ∙ (is ∙ ap (λ (k : ℕ). record { 0 = k }) (sym last)))

-- one more
pub one_more : (n : ℕ) (windows more : List LeafId) (w : LeafId) → AreLeavesInOrder n windows → w ≡ record { 0 = n } → more ≡ windows ++ w ∷ [] →
    AreLeavesInOrder (n + 1) more
one_more n windows more w are is all = record {
  count = ap length all ∙ (length-append windows (w ∷ []) ∙ omega (arith, are.count));
  numbers = λ i d within. ap (λ (ws : List LeafId). get_or ws i d) all ∙ at_place n i windows w d are is within (nat_lt i n) refl;
}
