-- What the painter made: rows of steps one after another, the first steps of a row, and the state after them.
use Rattle.std.proofs.Common.{◌≡◌, ℕ, zero, suc, ◌+◌, ◌<◌, List, [], ◌∷◌, ◌++◌, length, get_or, map, take, refl, sym, ap, ap₂, subst, ◌∙◌, append_assoc, length-append, arith}
use Rattle.std.proofs.lemmas.List.{append-nil, length-map, map-append, take_more}
use Rattle.tr_base.specs.declared.LeafId.{LeafId}
use Rattle.tr_client.specs.declared.clients.Client.{Ghosts}
use Rattle.tr_levels.specs.declared.Level.{Level}
use Rattle.tr_levels.specs.declared.Level.TheVariants.{Share}
use Rattle.tr_journal.specs.declared.items.Item.{Item}
use Rattle.tr_journal.specs.declared.steps.Actor.TheVariants.{Painter}
use Rattle.tr_journal.specs.declared.steps.Step.{Step}
use Rattle.tr_journal.specs.declared.steps.Step.TheVariants.{Repaint}
use Rattle.tr_journal.specs.Journals.{JournalLine}
use Rattle.tr_machine.specs.States.{State}
use Rattle.tr_machine.specs.Replays.{after_steps, line_of_step, lines_by, replay, replay_from, under}
use Rattle.tr_machine.specs.SharedRepaints.{at_shares, repainted_each}
use Rattle.tr_machine.proofs.JournalLemmas.{lines_by-append, replay-append, replay_from-lines_of}
use Rattle.tr_machine.proofs.SharedRepaintLemmas.{share_replay}
use Rattle.tr_stage.specs.Stages.{StageView, state}
use Rattle.tr_server.specs.Passes.{PassView}
use Rattle.tr_server.specs.Shares.{HasMade, HasBegun}

-- ---- the first elements of a row

-- those of a row are the first ones of a longer row
pub first_of : {A : Type 0} (n : ℕ) (xs ys : List A) → (k : ℕ) × (take n xs ≡ take k (xs ++ ys))
first_of zero xs ys = (0, refl)
first_of (suc n) [] ys = (0, refl)
first_of (suc n) (x ∷ xs) ys = let rest = first_of n xs ys in (suc rest.0, ap (λ zs. x ∷ zs) rest.1)

-- a row, and then the first ones of another
pub take_then : {A : Type 0} (xs ys : List A) (n : ℕ) → take (length xs + n) (xs ++ ys) ≡ xs ++ take n ys
take_then [] ys n = let e : 0 + n ≡ n = omega arith in ap (λ k. take k ys) e
take_then (x ∷ xs) ys n =
    let e : suc (length xs) + n ≡ suc (length xs + n) = omega arith in
    ap (λ k. take k (x ∷ (xs ++ ys))) e ∙ ap (λ zs. x ∷ zs) (take_then xs ys n)

-- as many steps are made as there are
pub under_length : {M : Type 0} (level : List Level) (steps : List (Step M)) → length (under level steps) ≡ length steps
under_length {M} level steps = let made : Step M → List Level × Step M = λ step. (level, step) in length-map steps made

pub shares_length : (M : Type 0) (leaves : List LeafId) → length (at_shares {M = M} leaves) ≡ length leaves
shares_length M leaves = let made : LeafId → List Level × Step M = λ leaf. (Share leaf ∷ [], Repaint leaf) in length-map leaves made

-- steps in a row, each with its levels held
abbrev pub Row : Type 0 → Type 0
Row M = List (List Level × Step M)

module _ {C M : Type 0} (client : Ghosts C M) where
  -- nothing was made
  pub made_none : (old new : StageView C M) (before after : PassView M) → new.opening ≡ old.opening → new.journal ≡ old.journal → after ≡ before →
      HasMade client old new before after []
  made_none old new before after opening journal pass = record {
    opening = opening;
    journal = journal ∙ sym (append-nil old.journal);
    pass = pass ∙ ap₂ (λ (mine : List (Step M)) (made : ℕ). record before { mine = mine; made = made }) (sym (append-nil before.mine)) (omega arith);
  }

  -- one step was
  pub made_one : (old new : StageView C M) (before after : PassView M) (level : List Level) (step : Step M) → new.opening ≡ old.opening →
      new.journal ≡ old.journal ++ line_of_step client (state client old) Painter level step ∷ [] →
      after ≡ record before { mine = before.mine ++ step ∷ []; made = before.made + 1 } → HasMade client old new before after ((level, step) ∷ [])
  made_one old new before after level step opening journal pass = record { opening = opening; journal = journal; pass = pass }

  -- the state after the steps
  pub state_made : (old new : StageView C M) (before after : PassView M) (made : Row M) → HasMade client old new before after made →
      state client new ≡ replay_from client (state client old) (lines_by client Painter (state client old) made)
  state_made old new before after made has =
      ap (λ (items : List (Item C)). replay client items new.journal) has.opening
      ∙ ap (λ (lines : List (JournalLine M)). replay client old.opening lines) has.journal
      ∙ replay-append client old.opening old.journal (lines_by client Painter (state client old) made)

  pub state_steps : (old new : StageView C M) (before after : PassView M) (level : List Level) (steps : List (Step M)) →
      HasMade client old new before after (under level steps) → state client new ≡ after_steps client (state client old) steps
  state_steps old new before after level steps has =
      state_made old new before after (under level steps) has ∙ replay_from-lines_of client Painter level (state client old) steps

  pub state_shares : (old new : StageView C M) (before after : PassView M) (leaves : List LeafId) →
      HasMade client old new before after (at_shares leaves) → state client new ≡ repainted_each client (state client old) leaves
  state_shares old new before after leaves has =
      state_made old new before after (at_shares leaves) has ∙ share_replay client (state client old) leaves

  -- steps, and then more
  pub made_then : (s0 s1 s2 : StageView C M) (p0 p1 p2 : PassView M) (xs ys : Row M) → HasMade client s0 s1 p0 p1 xs → HasMade client s1 s2 p1 p2 ys →
      HasMade client s0 s2 p0 p2 (xs ++ ys)
  made_then s0 s1 s2 p0 p1 p2 xs ys a b =
      let m : State C M = state client s0 in
      let lines : State C M → Row M → List (JournalLine M) = λ s row. lines_by client Painter s row in
      record {
        opening = b.opening ∙ a.opening;
        journal = b.journal ∙ ap (λ (ls : List (JournalLine M)). ls ++ lines (state client s1) ys) a.journal
            ∙ append_assoc s0.journal (lines m xs) (lines (state client s1) ys)
            ∙ ap (λ (ls : List (JournalLine M)). s0.journal ++ ls)
            (ap (λ (s : State C M). lines m xs ++ lines s ys) (state_made s0 s1 p0 p1 xs a) ∙ sym (lines_by-append client Painter m xs ys));
        pass = b.pass
            ∙ ap (λ (p : PassView M). record p { mine = p.mine ++ map (λ x. x.1) ys; made = p.made + length ys }) a.pass
            ∙ ap₂ (λ (mine : List (Step M)) (made : ℕ). record p0 { mine = mine; made = made })
            (append_assoc p0.mine (map (λ x. x.1) xs) (map (λ x. x.1) ys)
            ∙ ap (λ (steps : List (Step M)). p0.mine ++ steps) (sym (map-append (λ (x : List Level × Step M). x.1) xs ys)))
            (omega (arith, length-append xs ys));
      }

  -- one step more of a row
  pub made_more : (s0 s1 s2 : StageView C M) (p0 p1 p2 : PassView M) (all : Row M) (k : ℕ) (x : List Level × Step M) →
      HasMade client s0 s1 p0 p1 (take k all) → HasMade client s1 s2 p1 p2 (x ∷ []) → (k < length all) × (x ≡ get_or all k x) →
      HasMade client s0 s2 p0 p2 (take (k + 1) all)
  made_more s0 s1 s2 p0 p1 p2 all k x a b at =
      subst (λ (row : Row M). HasMade client s0 s2 p0 p2 row)
      (ap (λ (y : List Level × Step M). take k all ++ y ∷ []) at.1 ∙ sym (take_more all k x at.0))
      (made_then s0 s1 s2 p0 p1 p2 (take k all) (x ∷ []) a b)

  -- what was made is the same, where another stage has the same journal
  pub made_same : (s0 s1 s2 : StageView C M) (p0 p1 p2 : PassView M) (made : Row M) → HasMade client s0 s1 p0 p1 made → s2.opening ≡ s1.opening →
      s2.journal ≡ s1.journal → p2 ≡ p1 → HasMade client s0 s2 p0 p2 made
  made_same s0 s1 s2 p0 p1 p2 made has opening journal pass =
      record { opening = opening ∙ has.opening; journal = journal ∙ has.journal; pass = pass ∙ has.pass }

  -- whose the pass is stays
  pub made_actor : (old new : StageView C M) (before after : PassView M) (made : Row M) → HasMade client old new before after made → after.actor ≡ before.actor
  made_actor old new before after made has = ap (λ (p : PassView M). p.actor) has.pass

  -- ---- the first steps of a row

  -- none of them was made
  pub begun_none : (old new : StageView C M) (before after : PassView M) (all : Row M) → new.opening ≡ old.opening → new.journal ≡ old.journal →
      after ≡ before → HasBegun client old new before after all
  begun_none old new before after all opening journal pass =
      record { steps = 0; first = made_none old new before after opening journal pass }

  -- they are the first ones of a longer row
  pub begun_more : (old new : StageView C M) (before after : PassView M) (xs ys : Row M) → HasBegun client old new before after xs →
      HasBegun client old new before after (xs ++ ys)
  begun_more old new before after xs ys has =
      let first = first_of has.steps xs ys in
      record { steps = first.0; first = subst (λ (row : Row M). HasMade client old new before after row) first.1 has.first }

  -- a row was made, and then the first ones of another
  pub begun_then : (s0 s1 s2 : StageView C M) (p0 p1 p2 : PassView M) (xs ys : Row M) → HasMade client s0 s1 p0 p1 xs → HasBegun client s1 s2 p1 p2 ys →
      HasBegun client s0 s2 p0 p2 (xs ++ ys)
  begun_then s0 s1 s2 p0 p1 p2 xs ys a b = record {
    steps = length xs + b.steps;
    first = subst (λ (row : Row M). HasMade client s0 s2 p0 p2 row) (sym (take_then xs ys b.steps))
        (made_then s0 s1 s2 p0 p1 p2 xs (take b.steps ys) a b.first);
  }
