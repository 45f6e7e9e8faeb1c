-- What a call says of its result, put together.
use Rattle.std.proofs.Common.{◌⊎◌, inl, inr}
use Rattle.std.specs.Prelude.{Result, Ok, Err, IfOk, OnOk}

-- what holds where a call is Ok, and what holds of its value then
pub both_ok : {T E : Type 0} (P : Type 0) (Q : T → Type 0) (r : Result T E) → OnOk r P → IfOk r Q → IfOk r (λ x. P × Q x)
both_ok P Q (Ok x) p q = (p, q)
both_ok P Q (Err e) p q = tt

-- one of two things, each of which leads to another
pub either_way : {A B C D : Type 0} → (A → C) → (B → D) → A ⊎ B → C ⊎ D
either_way f k (inl a) = inl (f a)
either_way f k (inr b) = inr (k b)
