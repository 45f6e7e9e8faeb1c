-- What survives a change of size.
use Rattle.std.proofs.Common.{◌≡◌, ℕ, true, refl, sym, ◌∙◌}
use Rattle.std.proofs.lemmas.Bool.{and_parts}
use Rattle.tr_base.specs.declared.Point.{Point}
use Rattle.tr_base.specs.declared.Size.{Size}
use Rattle.tr_base.specs.Rects.{has_point, empty_rect, meet_of, whole_of}
use Rattle.tr_base.proofs.RectLemmas.{false-true, empty-has_point, has_point-meet_of}
use Rattle.tr_client.specs.Laws.{Survives}

-- the common part of both windows survives where the colours there don't depend on the size
pub survives-meet : (from to : Size) (before after : Point → ℕ) →
    ((q : Point) → has_point (whole_of from) q ≡ true → has_point (whole_of to) q ≡ true → before q ≡ after q) →
    Survives (meet_of (whole_of from) (whole_of to)) from to before after
survives-meet from to before after same = record {
  first = λ q h. (parts q h).0;
  second = λ q h. (parts q h).1;
  colours = λ q h. same q (parts q h).0 (parts q h).1;
}
  where
    parts : (q : Point) → has_point (meet_of (whole_of from) (whole_of to)) q ≡ true → (has_point (whole_of from) q ≡ true) × (has_point (whole_of to) q ≡ true)
    parts q h = and_parts _ _ (sym (has_point-meet_of (whole_of from) (whole_of to) q) ∙ h)

-- nothing survives where no point is kept
pub survives-nothing : (from to : Size) (before after : Point → ℕ) → Survives empty_rect from to before after
survives-nothing from to before after = record {
  first = λ q h. absurd (none q h);
  second = λ q h. absurd (none q h);
  colours = λ q h. absurd (none q h);
}
  where
    none : (q : Point) → has_point empty_rect q ≡ true → ⊥
    none q h = false-true (sym (empty-has_point empty_rect refl q) ∙ h)
