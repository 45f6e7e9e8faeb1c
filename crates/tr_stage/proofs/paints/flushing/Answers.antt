use Rattle.std.proofs.Common.{Option, None, Some}
use Rattle.std.specs.Prelude.{IfSome}
use Rattle.tr_stage.proofs.paints.flushing.Goals as goal

-- what follows of the value, if there is one
for_some : {A : Type 0} (P Q : A → Type 0) → ((x : A) → P x → Q x) → (o : Option A) → IfSome o P → IfSome o Q
for_some P Q f None h = h
for_some P Q f (Some x) h = f x h

pub returns : goal.returns
returns g c =
    for_some _ _
    (λ batch flushes w at. record {
      exposure = c.in_ok-exposure.exposure;
      stands = c.in_ok-exposure.ensures.stands;
      flushes = rw (c.kind.ensures, c.tree.ensures.value) at (flushes w at);
    })
    c.in_ok-painting.painting c.in_ok-painting.ensures
