-- Where no leaf's cage is bounded, nobody is told where the cursor is.
use Rattle.std.proofs.Common.{◌≡◌, ◌<◌, ◌≤◌, ℕ, zero, suc, Bool, true, false, inl, inr, length, get_or, refl, ap, ◌∙◌, arith}
use Rattle.std.proofs.lemmas.Bool.{cases_lt}
use Rattle.std.proofs.lemmas.List.{get_or_past}
use Rattle.tr_base.specs.declared.Point.{Point}
use Rattle.tr_base.specs.declared.LeafId.{LeafId}
use Rattle.tr_cage.specs.declared.Cage.{Cage}
use Rattle.tr_cage.specs.declared.Cage.TheVariants.{Everywhere, Only}
use Rattle.tr_cage.specs.Cages.{cage_holds}
use Rattle.tr_desk.specs.Desks.{Devices, state_of, untold}
use Rattle.tr_tree.specs.Trees.{Seen}
use Rattle.tr_spot.specs.Leaves.{in_leaf}
use Rattle.tr_mail.specs.Mails.{Sending}
use Rattle.tr_mail.specs.Deliveries.{is_gone, tell, tell_below, told}
use Rattle.tr_mail.specs.Bounds.{IsUnbounded, is_bounded}

-- a cage that is everywhere holds the cursor
holds-unbounded : (cage : Cage) (at : Point) (is_gone : Bool) → is_bounded cage ≡ false → cage_holds cage at is_gone ≡ true
holds-unbounded Everywhere at is_gone e = refl
holds-unbounded (Only rect here gone) at is_gone e = cc

-- a leaf whose cage is everywhere isn't told
pub tell-unbounded : (t : Seen) (leaf : LeafId) (s : Sending) → is_bounded (state_of s.mail.desk leaf).cage ≡ false → tell t leaf s ≡ s
tell-unbounded t leaf s e =
    let d = s.mail.desk in
    rw (holds-unbounded (state_of d leaf).cage (in_leaf t leaf d.cursor) (is_gone t d.cursor leaf) e) refl

-- of the first n leaves nobody is told
tell_below-unbounded : (n : ℕ) (t : Seen) (s : Sending) → IsUnbounded s.mail.desk → tell_below n t s ≡ s
unfolding tell_below
tell_below-unbounded zero t s e = refl
tell_below-unbounded (suc n) t s e =
    ap (tell t (record { 0 = n })) (tell_below-unbounded n t s e) ∙ tell-unbounded t (record { 0 = n }) s (e (record { 0 = n }))

-- nobody is told
pub told-unbounded : (t : Seen) (s : Sending) → IsUnbounded s.mail.desk → told t s ≡ s
told-unbounded t s e = tell_below-unbounded (length s.mail.inboxes) t s e

-- the cages of all leaves below n are everywhere, and there is no other leaf
pub all_unbounded : (d : Devices) (n : ℕ) → length d.leaves ≤ n → ((k : ℕ) → k < n → is_bounded (get_or d.leaves k untold).cage ≡ false) →
    IsUnbounded d
all_unbounded d n few below leaf =
    elim (cases_lt leaf.0 n) [ inl h ↦ below leaf.0 h | inr h ↦ rw (get_or_past d.leaves leaf.0 untold (omega arith)) refl ]
