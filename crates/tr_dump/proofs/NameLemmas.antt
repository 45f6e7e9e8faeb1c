-- Which names there are.
use Rattle.std.proofs.Common.{◌≡◌, ℕ, zero, suc, List, [], ◌∷◌, Some, map}
use Rattle.std.specs.Prelude.{All, slice_get, ◌++◌, Result, Ok, Err, OnOk}
use Rattle.std.proofs.lemmas.List.Elements.{All-head, All-tail, All-map, All-push, All-weaker}
use Rattle.tr_inbox.specs.declared.deliveries.Delivery.{Delivery}
use Rattle.tr_journal.specs.declared.entries.Entry.{Entry}
use Rattle.tr_journal.specs.Journals.{JournalLine}
use Rattle.tr_journal.specs.Names.{Names, HasLeaf}
use Rattle.tr_dump.specs.Names.{IsNamedEntry, IsNamedLine}

-- what holds of each element holds of the one at a place
pub all_at : {X : Type 0} (P : X → Type 0) (xs : List X) (k : ℕ) (x : X) → All P xs → slice_get xs k ≡ Some x → P x
all_at P [] k x all is = cc
all_at P (y ∷ ys) zero x all is = let e : y ≡ x = cc in rw (← e) (All-head P y ys all)
all_at P (y ∷ ys) (suc k) x all is = all_at P ys k x (All-tail P y ys all) is

-- the entry at a place has its names
pub entry_named : {M : Type 0} (names : Names) (lines : List (JournalLine M)) (k : ℕ) (entry : Entry M)
    → All (IsNamedLine names) lines → slice_get (map (λ line. line.entry) lines) k ≡ Some entry → IsNamedEntry names entry
entry_named names lines k entry all is =
    all_at (IsNamedEntry names) (map (λ line. line.entry) lines) k entry
    (All-map (IsNamedEntry names) (λ line. line.entry) lines
    (All-weaker (IsNamedLine names) (λ line. IsNamedEntry names line.entry) (λ line named. named.entry) lines all)) is

-- what the step at a place sent has its names
pub sent_named : {M : Type 0} (names : Names) (lines : List (JournalLine M)) (k : ℕ) (sent : List Delivery)
    → All (IsNamedLine names) lines → slice_get (map (λ line. line.sent) lines) k ≡ Some sent
    → All (λ delivery. HasLeaf names delivery.leaf) sent
sent_named names lines k sent all is =
    let Named : List Delivery → Type 0 = All (λ delivery. HasLeaf names delivery.leaf) in
    all_at Named (map (λ line. line.sent) lines) k sent
    (All-map Named (λ line. line.sent) lines
    (All-weaker (IsNamedLine names) (λ line. Named line.sent) (λ line named. named.sent) lines all)) is

-- with a line more whose names there are, all lines have theirs; where nothing was put behind them, nothing is said
pub named_push : {M E : Type 0} (names : Names) (result : Result Unit E) (old new : List (JournalLine M)) (line : JournalLine M)
    → All (IsNamedLine names) old → IsNamedLine names line → OnOk result (new ≡ old ++ line ∷ [])
    → OnOk result (All (IsNamedLine names) new)
named_push names (Ok done) old new line all named is = rw is (All-push (IsNamedLine names) old line all named)
named_push names (Err e) old new line all named is = tt
