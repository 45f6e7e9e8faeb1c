-- The results of the end of a session.
use Rattle.std.specs.Prelude.{◌≡◌, ℕ, ◌+◌, ◌≤◌, ⊤, if◌then◌else◌, List, [], ◌∷◌, ◌++◌, map, length, sum_by}
use Rattle.std.specs.List.{range_with_len}
use Rattle.tr_journal.specs.declared.steps.Actor.{Actor}
use Rattle.tr_journal.specs.declared.steps.Actor.TheVariants.{Leaf, Desk, Player}
use Rattle.tr_journal.specs.declared.steps.Step.{Step}
use Rattle.tr_journal.specs.Actors.{is_by}
use Rattle.tr_journal.specs.Differences.{Matches, account_of}
use Rattle.tr_journal.specs.Lists.{ListsView}
use Rattle.tr_stage.specs.Stages.{StageView}
use Rattle.tr_server.specs.declared.closing.CloseRefused.{CloseRefused}
use Rattle.tr_server.specs.declared.closing.CloseRefused.TheVariants as refused
use Rattle.tr_server.specs.Differing.{DiffersView, IsDifference}
use Rattle.tr_server.specs.Passes.{PassView}
use Rattle.tr_server.specs.Servers.{ServerView}

-- the steps that were made with an actor's pass: the first of these that is the actor's
abbrev pub made_by : {M : Type 0} → Actor → List (PassView M) → List (Step M)
made_by actor [] = []
made_by actor (pass ∷ passes) = if is_by actor pass.actor then pass.mine else made_by actor passes

-- the steps that were made with the passes of a session, in a list for each actor but the painter, whatever the order of the passes
abbrev pub lists_of : {M : Type 0} → ℕ → List (PassView M) → PassView M → ListsView M
lists_of leaves workers player = record {
  leaves = map (λ n. made_by (Leaf (record { 0 = n })) (player ∷ workers)) (range_with_len 0 leaves);
  desk = made_by Desk (player ∷ workers);
  player = made_by Player (player ∷ workers);
}

-- the number of journal entries that these passes count
abbrev pub made_with : {M : Type 0} → List (PassView M) → PassView M → ℕ
made_with workers player = sum_by (λ pass. pass.made) workers + player.made

-- the number of steps that were made with these passes
abbrev pub steps_with : {M : Type 0} → List (PassView M) → PassView M → ℕ
steps_with workers player = sum_by (λ pass. length pass.mine) workers + length player.mine

-- a stage has the opening of its server, and first the entries with which the server began; after them, for each actor but the
-- painter, it has just the steps of the actor's list, in their order; there are at least as many entries as the passes count
pub record IsClosed {C M : Type 0} (server : ServerView C M) (lists : ListsView M) (made : ℕ) (stage : StageView C M) : Type 0 where
  pub matches : Matches (account_of server.opening server.kept) lists (account_of stage.opening stage.journal)
  pub counted : length server.kept + made ≤ length stage.journal

-- the stage differs from its server and its lists, and `d` has the first difference
pub record HasDiffered {C M : Type 0} (server : ServerView C M) (lists : ListsView M) (made : ℕ) (d : DiffersView C M) : Type 0 where
  pub opening : d.opening ≡ server.opening
  pub kept : d.kept ≡ server.kept
  pub lists_are : d.lists ≡ lists
  pub first : IsDifference d
  pub counted : length server.kept + made ≤ length d.stage.journal

-- if a session returns no stage because of a difference, this holds of the difference
abbrev pub IfDiffers : {C M : Type 0} → CloseRefused C M → (DiffersView C M → Type 0) → Type 0
IfDiffers refused.NoMemory P = ⊤
IfDiffers (refused.Differs d) P = P d

-- only private contracts cite this definition: the last of some passes is taken back, with its actor, its steps and the number of entries
-- that it counts
pub record TakesLast {M : Type 0} (old new : List (PassView M)) (actor : Actor) (steps : List (Step M)) (before after : ℕ) : Type 0 where
  pub pass : PassView M
  pub passes : old ≡ new ++ pass ∷ []
  pub actor_is : actor ≡ pass.actor
  pub steps_are : steps ≡ pass.mine
  pub counted : after ≡ before + pass.made
