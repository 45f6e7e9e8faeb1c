-- No stale point lies outside what waits, and what a settled stage shows.
use Rattle.std.proofs.Common.{◌≡◌, ℕ, Bool, true, false, not, ◌&&◌, List, [], ◌∷◌, refl, ap, ◌∙◌}
use Rattle.std.specs.Prelude.{codes, decimal}
use Rattle.tr_base.specs.declared.Point.{Point}
use Rattle.tr_base.specs.declared.Spot.{Spot}
use Rattle.tr_client.specs.declared.clients.Client.{Ghosts}
use Rattle.tr_forest.specs.Forests.{IsForest}
use Rattle.tr_spot.specs.Spots.{spot}
use Rattle.tr_spot.proofs.LeafLemmas.{part_of}
use Rattle.tr_machine.specs.States.{State}
use Rattle.tr_machine.specs.Pictures.{bad_count, is_stale, stale_count}
use Rattle.tr_machine.specs.Promises.{Fits}
use Rattle.tr_machine.proofs.LagLemmas.{stale_waits}
use Rattle.tr_machine.proofs.SoundLemmas.{fits}
use Rattle.tr_dump.specs.Values.{line_text}
use Rattle.tr_stage.specs.Stages.{StageView, state}
use Rattle.tr_stage.specs.Standings.{Stands}
use Rattle.tr_stage.proofs.CountLemmas.{count_on-none}
use Rattle.tr_run.specs.Texts.{is_awaited, lag_line, outside_count}

-- the line of an entry of this number, after which so many points are bad, stale, and outside what waits
abbrev pub lag_text_of : ℕ → ℕ → ℕ → ℕ → List ℕ
lag_text_of number bad stale outside =
    line_text (codes "step" ∷ decimal number ∷ codes "bad" ∷ decimal bad ∷ codes "stale" ∷ decimal stale ∷ codes "outside" ∷ decimal outside ∷ [])

module _ {C M : Type 0} (client : Ghosts C M) where
  -- a command waits for each stale point
  awaited : (m : State C M) → IsForest m.tree.nodes → Fits client m → (p : Point) → is_stale client m p ≡ true →
      is_awaited client m (spot m.tree p) ≡ true
  awaited m forest fits p stale =
      let waits = stale_waits client m forest fits p stale in
      ap (λ (s : Spot). is_awaited client m s) (part_of m.tree forest waits.leaf p waits.visible).is ∙ waits.touched

  -- so none lies outside what waits
  outside_none : (m : State C M) → IsForest m.tree.nodes → Fits client m → outside_count client m ≡ 0
  outside_none m forest fits =
      count_on-none m.tree.size (λ p. is_stale client m p && not (is_awaited client m (spot m.tree p))) (λ p. by_test p (is_stale client m p) refl)
    where
      by_test : (p : Point) (b : Bool) → is_stale client m p ≡ b → (b && not (is_awaited client m (spot m.tree p))) ≡ false
      by_test p true stale = ap not (awaited m forest fits p stale)
      by_test p false h = refl

  -- the line that tells how far a stage's screen lags behind
  pub lag_line-stage : (s : StageView C M) (number : ℕ) → Stands client s →
      lag_line client number (state client s) ≡ lag_text_of number (bad_count (state client s)) (stale_count client (state client s)) 0
  lag_line-stage s number stands =
      ap (λ (n : ℕ). lag_text_of number (bad_count (state client s)) (stale_count client (state client s)) n)
      (outside_none (state client s) stands.forest (fits client (state client s) stands.forest stands.sound))
