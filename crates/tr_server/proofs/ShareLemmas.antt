-- Leaves that are painted as shares, and the screen after all are put.
use Rattle.std.proofs.Common.{◌≡◌, ℕ, zero, suc, ◌+◌, ◌<◌, ◌==◌, Bool, true, false, cond, not, ◌&&◌, List, [], ◌∷◌, ◌++◌, length, get_or, map, take, refl, sym, ap, subst, ◌∙◌, add-one, arith}
use Rattle.std.specs.Prelude.{Result, Ok, IfOk}
use Rattle.std.proofs.lemmas.List.{append-nil, get_or-map, length-map, map-append, take-map}
use Rattle.tr_base.specs.declared.LeafId.{LeafId}
use Rattle.tr_client.specs.declared.clients.Client.{Ghosts}
use Rattle.tr_levels.specs.declared.Level.{Level}
use Rattle.tr_levels.specs.declared.Level.TheVariants.{Mu, Share}
use Rattle.tr_journal.specs.declared.steps.Actor.TheVariants.{Painter}
use Rattle.tr_journal.specs.declared.steps.Step.{Step}
use Rattle.tr_journal.specs.declared.steps.Step.TheVariants.{Repaint}
use Rattle.tr_machine.specs.States.{State, leaf_batch}
use Rattle.tr_machine.specs.Replays.{after_steps, lines_by, under}
use Rattle.tr_machine.specs.SettleSteps.{frame_steps}
use Rattle.tr_machine.specs.SharedRepaints.{all_bad_leaves, at_shares, bad_leaves, flushing, has_bad, repainted_each, sharing}
use Rattle.tr_machine.proofs.SharedRepaintLemmas.{flushed_all}
use Rattle.tr_stage.specs.declared.sharing.Painted.{Painted}
use Rattle.tr_stage.specs.Sharing.{ArePainted}
use Rattle.tr_stage.specs.Stages.{StageView, state}
use Rattle.tr_stage.specs.Standings.{Stands}
use Rattle.tr_stage.proofs.SharedLemmas.{AreShared, HasPut}
use Rattle.tr_server.specs.Passes.{PassView}
use Rattle.tr_server.specs.Shares.{ArePaintedShares, HasMade, HasBegun, IsPaintedShare, is_ready, ready_leaves, share_of}
use Rattle.tr_server.proofs.MadeLemmas.{begun_more, begun_then, made_then, state_shares, state_steps}

-- what holds of the value of a result, where all results are Ok
pub result_at : {T E : Type 0} (P : T → Type 0) (results : List (Result T E)) (all : List T) (i : ℕ) (d : T) → map (λ x. Ok x) all ≡ results →
    i < length all → IfOk (get_or results i (Ok d)) P → P (get_or all i d)
result_at {T} {E} P results all i d same lt is =
    let ok : T → Result T E = λ x. Ok x in
    let here : get_or results i (ok d) ≡ ok (get_or all i d) =
    ap (λ (rs : List (Result T E)). get_or rs i (ok d)) (sym same) ∙ get_or-map ok all i d (ok d) lt in
    subst (λ (r : Result T E). IfOk r P) here is

-- what is at a place, and what is made of it
pub map_at : {A B : Type 0} (f : A → B) (xs : List A) (k : ℕ) (x : A) → (k < length xs) × (x ≡ get_or xs k x) →
    (k < length (map f xs)) × (f x ≡ get_or (map f xs) k (f x))
map_at f xs k x at = (omega (arith, length-map xs f, at.0), ap f at.1 ∙ sym (get_or-map f xs k x (f x) at.0))

-- where nothing waits, the other test decides
idle_test : {A : Type 0} (waiting : List A) (test : Bool) → waiting ≡ [] → (not (not (length waiting == 0)) && test) ≡ test
idle_test {A} waiting test none = ap (λ (xs : List A). not (not (length xs == 0)) && test) none

module _ {C M : Type 0} (client : Ghosts C M) where
  -- ---- the leaves that are lent out

  -- one leaf more
  pub shares_more : (s : StageView C M) (n : ℕ) → is_ready client (state client s) (record { 0 = n }) ≡ true →
      map (share_of s) (ready_leaves client (n + 1) (state client s))
      ≡ map (share_of s) (ready_leaves client n (state client s)) ++ share_of s (record { 0 = n }) ∷ []
  shares_more s n must =
      let m : State C M = state client s in
      rw (add-one) (ap (λ (b : Bool). map (share_of s) (ready_leaves client n m ++ cond b (record { 0 = n } ∷ []) [])) must
      ∙ map-append (share_of s) (ready_leaves client n m) (record { 0 = n } ∷ []))

  -- none more
  pub shares_less : (s : StageView C M) (n : ℕ) → is_ready client (state client s) (record { 0 = n }) ≡ false →
      map (share_of s) (ready_leaves client (n + 1) (state client s)) ≡ map (share_of s) (ready_leaves client n (state client s))
  shares_less s n quiet =
      let m : State C M = state client s in
      rw (add-one) (ap (λ (b : Bool). map (share_of s) (ready_leaves client n m ++ cond b (record { 0 = n } ∷ []) [])) quiet
      ∙ ap (map (share_of s)) (append-nil (ready_leaves client n m)))

  -- where nothing waits they are the bad leaves
  pub ready_bad : (n : ℕ) (m : State C M) → ((leaf : LeafId) → leaf_batch client m leaf ≡ []) → ready_leaves client n m ≡ bad_leaves n m
  ready_bad zero m none = refl
  ready_bad (suc n) m none =
      let leaf : LeafId = record { 0 = n } in
      ap (λ (b : Bool). ready_leaves client n m ++ cond b (leaf ∷ []) []) (idle_test (leaf_batch client m leaf) (has_bad m leaf) (none leaf))
      ∙ ap (λ (ls : List LeafId). ls ++ cond (has_bad m leaf) (leaf ∷ []) []) (ready_bad n m none)

  -- what was painted of each share is what was painted of each leaf
  pub painted_all : (s : StageView C M) (leaves : List LeafId) (all : List Painted) →
      ArePaintedShares client (map (share_of s) leaves) all → ArePainted client (state client s) leaves all
  painted_all s [] [] are = tt
  painted_all s [] (x ∷ all) are = absurd (omega (arith, are.count))
  painted_all s (l ∷ leaves) [] are = absurd (omega (arith, are.count))
  painted_all s (l ∷ leaves) (x ∷ all) are =
      let first : IsPaintedShare client (share_of s l) x = are.each 0 (share_of s l) x (omega arith) in (
        first.leaf,
        first.points,
        painted_all s leaves all (record {
          count = omega (arith, are.count);
          each = λ i d e lt. are.each (suc i) d e (omega (arith, lt));
        }),
      )

  -- ---- the rows of steps

  -- shares were put, as far as steps were made
  pub has_put : (old now : StageView C M) (before after : PassView M) (leaves : List LeafId) (k : ℕ) →
      HasMade client old now before after (take k (at_shares leaves)) → HasPut client old now leaves k
  has_put old now before after leaves k has =
      let made : LeafId → List Level × Step M = λ leaf. (Share leaf ∷ [], Repaint leaf) in
      record {
        opening = has.opening;
        journal = has.journal
            ∙ ap (λ (row : List (List Level × Step M)). old.journal ++ lines_by client Painter (state client old) row) (take-map made k leaves);
      }

  -- a stage before, after the flushes, after the shares, and after the frames, with the passes
  pub record AreRows (s0 s1 s2 s3 : StageView C M) (p0 p1 p2 p3 : PassView M) : Type 0 where
    pub stands1 : Stands client s1
    pub stands2 : Stands client s2
    pub stands3 : Stands client s3
    pub flushes : HasMade client s0 s1 p0 p1 (under (Mu ∷ []) (flushing client (state client s0)))
    pub shares : HasMade client s1 s2 p1 p2 (at_shares (all_bad_leaves (state client s1)))
    pub frames : HasMade client s2 s3 p2 p3 (under (Mu ∷ []) (frame_steps (state client s2)))

  pub are_shared : (s0 s1 s2 s3 : StageView C M) (p0 p1 p2 p3 : PassView M) → AreRows s0 s1 s2 s3 p0 p1 p2 p3 → AreShared client s0 s1 s2 s3
  are_shared s0 s1 s2 s3 p0 p1 p2 p3 a = record {
    stands1 = a.stands1;
    stands2 = a.stands2;
    stands3 = a.stands3;
    opening1 = a.flushes.opening;
    opening2 = a.shares.opening;
    opening3 = a.frames.opening;
    journal1 = a.flushes.journal;
    journal2 = a.shares.journal;
    journal3 = a.frames.journal;
  }

  -- nothing waits once all are flushed
  pub flushed_none : (s0 s1 : StageView C M) (p0 p1 : PassView M) →
      HasMade client s0 s1 p0 p1 (under (Mu ∷ []) (flushing client (state client s0))) → (leaf : LeafId) → leaf_batch client (state client s1) leaf ≡ []
  flushed_none s0 s1 p0 p1 has leaf =
      ap (λ (s : State C M). leaf_batch client s leaf) (state_steps client s0 s1 p0 p1 (Mu ∷ []) (flushing client (state client s0)) has)
      ∙ flushed_all client (state client s0) leaf

  -- the steps behind the flushes, from the state after them
  abbrev Later : State C M → List (List Level × Step M)
  Later m = at_shares (all_bad_leaves m) ++ under (Mu ∷ []) (frame_steps (repainted_each client m (all_bad_leaves m)))

  module _ (s0 s1 : StageView C M) (p0 p1 : PassView M) (a : HasMade client s0 s1 p0 p1 (under (Mu ∷ []) (flushing client (state client s0)))) where
    abbrev first : List (List Level × Step M)
    first = under (Mu ∷ []) (flushing client (state client s0))

    one : state client s1 ≡ after_steps client (state client s0) (flushing client (state client s0))
    one = state_steps client s0 s1 p0 p1 (Mu ∷ []) (flushing client (state client s0)) a

    whole : first ++ Later (state client s1) ≡ sharing client (state client s0)
    whole = ap (λ (s : State C M). first ++ Later s) one

    -- the flushes and some shares were made
    pub begun_shares : (s2 : StageView C M) (p2 : PassView M) → HasBegun client s1 s2 p1 p2 (at_shares (all_bad_leaves (state client s1))) →
        HasBegun client s0 s2 p0 p2 (sharing client (state client s0))
    begun_shares s2 p2 b =
        subst (λ (row : List (List Level × Step M)). HasBegun client s0 s2 p0 p2 row) whole
        (begun_then client s0 s1 s2 p0 p1 p2 first (Later (state client s1)) a
        (begun_more client s1 s2 p1 p2 (at_shares (all_bad_leaves (state client s1))) _ b))

    module _ (s2 : StageView C M) (p2 : PassView M) (b : HasMade client s1 s2 p1 p2 (at_shares (all_bad_leaves (state client s1)))) where
      two : state client s2 ≡ repainted_each client (state client s1) (all_bad_leaves (state client s1))
      two = state_shares client s1 s2 p1 p2 (all_bad_leaves (state client s1)) b

      later : at_shares (all_bad_leaves (state client s1)) ++ under (Mu ∷ []) (frame_steps (state client s2)) ≡ Later (state client s1)
      later = ap (λ (s : State C M). at_shares (all_bad_leaves (state client s1)) ++ under (Mu ∷ []) (frame_steps s)) two

      -- all flushes and shares were made, and some frames
      pub begun_frames : (s3 : StageView C M) (p3 : PassView M) → HasBegun client s2 s3 p2 p3 (under (Mu ∷ []) (frame_steps (state client s2))) →
          HasBegun client s0 s3 p0 p3 (sharing client (state client s0))
      begun_frames s3 p3 c =
          subst (λ (row : List (List Level × Step M)). HasBegun client s0 s3 p0 p3 row) (ap (λ row. first ++ row) later ∙ whole)
          (begun_then client s0 s1 s3 p0 p1 p3 first _ a
          (begun_then client s1 s2 s3 p1 p2 p3 (at_shares (all_bad_leaves (state client s1))) (under (Mu ∷ []) (frame_steps (state client s2))) b c))

      -- all were made
      pub made_sharing : (s3 : StageView C M) (p3 : PassView M) → HasMade client s2 s3 p2 p3 (under (Mu ∷ []) (frame_steps (state client s2))) →
          HasMade client s0 s3 p0 p3 (sharing client (state client s0))
      made_sharing s3 p3 c =
          subst (λ (row : List (List Level × Step M)). HasMade client s0 s3 p0 p3 row) (ap (λ row. first ++ row) later ∙ whole)
          (made_then client s0 s1 s3 p0 p1 p3 first _ a
          (made_then client s1 s2 s3 p1 p2 p3 (at_shares (all_bad_leaves (state client s1))) (under (Mu ∷ []) (frame_steps (state client s2))) b c))
