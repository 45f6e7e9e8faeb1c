-- Facts of results and options, for the crates above.
use Rattle.std.proofs.Common.{◌≡◌, Bool, true, false, cond, Option, Some, None, refl}
use Rattle.std.specs.Prelude.{Result, Ok, Err, OnErr}

-- what holds in any case holds where a call fails
pub on_err : {T E P : Type 0} (r : Result T E) → P → OnErr r P
on_err (Ok x) p = tt
on_err (Err e) p = p

-- where a test in front finds nothing, it failed, and the later ones find nothing
pub none_here : {A : Type 0} (b : Bool) (x : A) (later : Option A) → cond b (Some x) later ≡ None → (b ≡ false) × (later ≡ None)
none_here true x later h = absurd (cc)
none_here false x later h = (refl, h)
