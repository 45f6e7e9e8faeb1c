-- Patches that paint a part of a window. These proofs are in specs/ because an impl's laws may cite nothing else of its crate.
use Rattle.std.proofs.Common.{◌≡◌, ℕ, Bool, true, false, List, [], refl, sym, subst, ◌∙◌}
use Rattle.std.specs.Prelude.{IfSome, Option}
use Rattle.tr_base.specs.declared.Point.{Point}
use Rattle.tr_base.specs.declared.Size.{Size}
use Rattle.tr_base.specs.Rects.{Edges, has_point, whole_of}
use Rattle.tr_base.proofs.RectLemmas.{false-true}
use Rattle.tr_paint.specs.declared.Paint.{Paint}
use Rattle.tr_paint.specs.Traces.{Look, after}
use Rattle.tr_paint.specs.Batches.{touches}
use Rattle.tr_paint.specs.Patches.{IsPatch}
use Rattle.tr_paint.specs.Paintings.{IsPainting}
use Rattle.tr_paint.proofs.TraceLemmas.{after-untouched}

-- commands that paint a part of the new picture are a patch if the pictures agree outside that part
pub part_patch : (look : Look) (size : Size) (part : Edges) (batch : List Paint) (old new : Point → ℕ) → IsPainting look part batch new →
    ((q : Point) → has_point (whole_of size) q ≡ true → has_point part q ≡ false → old q ≡ new q) → IsPatch look size batch old new
part_patch look size part batch old new painted same base within shows q seen = by_part (has_point part q) refl
  where
    along : (o : Option ℕ) → old q ≡ new q → IfSome o (λ x. x ≡ old q) → IfSome o (λ x. x ≡ new q)
    along o is known = subst (λ (n : ℕ). IfSome o (λ x. x ≡ n)) is known

    untouched : has_point part q ≡ false → (b : Bool) → touches batch q ≡ b → touches batch q ≡ false
    untouched apart true h = absurd (false-true (sym apart ∙ painted.within q h))
    untouched apart false h = h

    by_part : (b : Bool) → has_point part q ≡ b → IfSome (after look base batch q) (λ x. x ≡ new q)
    by_part true here = rw (painted.shows base q seen here) refl
    by_part false apart =
        rw (after-untouched look base batch q seen (untouched apart (touches batch q) refl))
        (along (base.known q) (same q (within q seen) apart) (shows q seen))
