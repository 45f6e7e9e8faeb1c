-- Leaves that are lent to be painted, and the painter's steps that put them onto the screen.
use Rattle.std.specs.Prelude.{◌≡◌, ℕ, zero, suc, ◌+◌, ◌<◌, Bool, not, ◌&&◌, if◌then◌else◌, List, [], ◌∷◌, ◌++◌, map, take, length, slice_index_or}
use Rattle.tr_base.specs.declared.LeafId.{LeafId}
use Rattle.tr_client.specs.declared.clients.Client.{Ghosts}
use Rattle.tr_levels.specs.declared.Level.{Level}
use Rattle.tr_journal.specs.declared.steps.Actor.TheVariants.{Painter}
use Rattle.tr_journal.specs.declared.steps.Step.{Step}
use Rattle.tr_machine.specs.States.{State}
use Rattle.tr_machine.specs.Replays.{lines_by}
use Rattle.tr_machine.specs.SharedRepaints.{IsPaintedOf, has_bad, waits}
use Rattle.tr_stage.specs.declared.sharing.Painted.{Painted}
use Rattle.tr_stage.specs.Stages.{StageView, state}
use Rattle.tr_server.specs.Passes.{PassView}

-- a leaf that is lent, and the stage, which can't change meanwhile
pub record ShareView (C M : Type 0) : Type 0 where
  pub leaf : LeafId
  pub stage : StageView C M

-- the share of a leaf
abbrev pub share_of : {C M : Type 0} → StageView C M → LeafId → ShareView C M
share_of s leaf = record { leaf = leaf; stage = s }

module _ {C M : Type 0} (client : Ghosts C M) where
  -- a leaf may be painted as a share: no command waits for it, and a visible point of it is bad
  abbrev pub is_ready : State C M → LeafId → Bool
  is_ready m leaf = not (waits client m leaf) && has_bad m leaf

  -- those of the first n leaves, in the order of their numbers
  abbrev pub ready_leaves : ℕ → State C M → List LeafId
  ready_leaves zero m = []
  ready_leaves (suc n) m =
      ready_leaves n m ++ (if is_ready m (record { 0 = n }) then record { 0 = n } ∷ [] else [])

  -- a share for each of them
  abbrev pub shares_of : StageView C M → List (ShareView C M)
  shares_of s = map (share_of s) (ready_leaves (length (state client s).windows) (state client s))

  -- the painting of a share: the bad visible points of its leaf, each with its right pixel
  pub record IsPaintedShare (share : ShareView C M) (painted : Painted) : Type 0 where
    pub leaf : painted.leaf ≡ share.leaf
    pub points : IsPaintedOf client (state client share.stage) share.leaf painted.part painted.pixels.items

  -- each share of a list was painted
  pub record ArePaintedShares (shares : List (ShareView C M)) (all : List Painted) : Type 0 where
    pub count : length all ≡ length shares
    pub each : (i : ℕ) (d : ShareView C M) (e : Painted) → i < length all →
        IsPaintedShare (slice_index_or shares i d) (slice_index_or all i e)

  -- the painter has made these steps, each with its levels held: their lines are at the end of the journal, and the pass has the steps
  pub record HasMade (old new : StageView C M) (before after : PassView M) (made : List (List Level × Step M)) : Type 0 where
    pub opening : new.opening ≡ old.opening
    pub journal : new.journal ≡ old.journal ++ lines_by client Painter (state client old) made
    pub pass : after ≡ record before {
      mine = before.mine ++ map (λ x. x.1) made;
      made = before.made + length made;
    }

  -- the painter has made the first of these steps
  pub record HasBegun (old new : StageView C M) (before after : PassView M) (all : List (List Level × Step M)) : Type 0 where
    pub steps : ℕ
    pub first : HasMade old new before after (take steps all)
