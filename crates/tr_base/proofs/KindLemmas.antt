-- Kinds of pixels that pass the test of equality.
use Rattle.std.proofs.Common.{◌≡◌, true, refl}
use Rattle.tr_base.specs.declared.ops.Kind.{Kind}
use Rattle.tr_base.specs.declared.ops.Kind.TheVariants.{Mono, Map4, Map8}
use Rattle.tr_base.specs.Ops.{same_kind}
use Rattle.tr_base.proofs.RectLemmas.{false-true}

pub kinds_equal : (a b : Kind) → same_kind a b ≡ true → a ≡ b
kinds_equal Mono Mono h = refl
kinds_equal Map4 Map4 h = refl
kinds_equal Map8 Map8 h = refl
kinds_equal a b h = absurd (false-true h)

pub same_kind_itself : (kind : Kind) → same_kind kind kind ≡ true
same_kind_itself Mono = refl
same_kind_itself Map4 = refl
same_kind_itself Map8 = refl
