use Rattle.std.proofs.Common.{List, ℕ, length, get_or, ap, ◌∙◌}
use Rattle.std.proofs.lemmas.Result.{IfOk-weaker}
use Rattle.tr_base.specs.Rects.{Edges}
use Rattle.tr_region.specs.Places.{place_in}
use Rattle.tr_region.proofs.PlaceLemmas.{held_at}
use Rattle.tr_screen.specs.Pictures.{pixel_of}
use Rattle.tr_screen.specs.Readings.{rects_by}
use Rattle.tr_surface.proofs.PutLemmas.{length-rects_by, rects_by-place}
use Rattle.tr_surface.proofs.puts.pixels_at.Goals as goal

pub pixels_at-requires : goal.pixels_at-requires
pixels_at-requires c = rw c.rects.ensures.value (λ k d lt p h. c.requires.on p (held_at c.args.part.now k d lt p h))

pub returns-clause-many : goal.returns-clause-many
returns-clause-many c =
    let pixel = pixel_of c.args.screen.now in
    IfOk-weaker c.pixels_at.result _ _ (λ v is.
    ap (λ (l : List ℕ). length l) is ∙ ap (λ (rects : List Edges). length (rects_by pixel rects)) c.rects.ensures.value
    ∙ length-rects_by pixel c.args.part.now) c.pixels_at.ensures

pub returns-clause-pixels : goal.returns-clause-pixels
returns-clause-pixels c =
    let pixel = pixel_of c.args.screen.now in
    let part = c.args.part.now in
    IfOk-weaker c.pixels_at.result _ _ (λ v is p h.
    ap (λ (l : List ℕ). get_or l (place_in part p) 0) (is ∙ ap (λ (rects : List Edges). rects_by pixel rects) c.rects.ensures.value)
    ∙ rects_by-place pixel part p h) c.pixels_at.ensures
