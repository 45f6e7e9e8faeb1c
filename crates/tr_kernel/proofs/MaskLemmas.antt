-- From the steps of a mask to what it paints.
use Rattle.std.proofs.Common.{◌≡◌, ℕ, ◌<◌, Bool, true, false, refl, List, length, get_or, ◌∙◌, Fits, w8}
use Rattle.std.proofs.lemmas.List.FromFn.{fill_by_all}
use Rattle.tr_kernel.specs.declared.lanes.Step.{Step}
use Rattle.tr_kernel.specs.declared.lanes.Steps.{Steps}
use Rattle.tr_kernel.specs.Masks.{Painting, painted, masked}
use Rattle.tr_kernel.specs.Steps.{stepped, stepped_by, AreStepsOf}

-- a row that was painted by the steps is the masked one
pub stepped-masked : (m : Painting) (s : Steps) → AreStepsOf m s → (bit : ℕ → Bool) (old new : List ℕ) → length new ≡ length old → ((k : ℕ)
    → Fits w8 (get_or old k 0))
    → ((k : ℕ) → k < length old → get_or new k 0 ≡ stepped_by s (bit k) (get_or old k 0)) → new ≡ masked m bit old
stepped-masked m s same bit old new long fits each =
    fill_by_all (λ k. painted m (bit k) (get_or old k 0)) new (length old) 0 long (λ k lt. each k lt ∙ same.same (bit k) (get_or old k 0) (fits k).fits)

-- one step for both bits
pub same_step : (s : Step) (bit : Bool) (old : ℕ) → (let both : Steps = record { one = s; zero = s } in stepped_by both bit old ≡ stepped s old)
same_step s true old = refl
same_step s false old = refl
