use Rattle.std.proofs.Common.{◌/◌, ◌&&◌, length, sym, ap, ◌∙◌}
use Rattle.std.specs.Prelude.{slice_index, unsigned_abs}
use Rattle.std.proofs.lemmas.Bool.{and_parts}
use Rattle.tr_base.specs.declared.Point.{Point}
use Rattle.tr_base.specs.Ops.{eff, resolved}
use Rattle.tr_base.specs.Tiles.{tile_bit}
use Rattle.tr_base.specs.Fonts.{glyph_bit}
use Rattle.tr_base.specs.Pixmaps.{pixmap_at}
use Rattle.tr_base.specs.Rects.{before_shift}
use Rattle.tr_region.specs.Points.{holds}
use Rattle.tr_screen.specs.Pictures.{pixel_of}
use Rattle.tr_paint.specs.Paints.{chosen}
use Rattle.tr_exec.proofs.PlacedLemmas.{before-both}
use Rattle.tr_exec.proofs.PaintingLemmas.{pixels_within, text_within, repaints_as}
use Rattle.tr_exec.proofs.sites.Site.paint.Goals as goal

pub invariant_of-brush-in-Pixels : goal.invariant_of-brush-in-Pixels
invariant_of-brush-in-Pixels c = record {
  corner = c.place-in-Pixels.ensures.corner;
  within = rw (c.pixmap.ensures, c.place-in-Pixels.ensures.value)
      (pixels_within c.area-area.result c.in-Pixels.clip c.in-Pixels.src.now.size c.args.self.now.origin c.in-Pixels.delta
      (rw c.in-Pixels.is at c.area-area.ensures));
}

pub paint_within-requires-in-Pixels : goal.paint_within-requires-in-Pixels
paint_within-requires-in-Pixels c = λ p on. c.requires.visible p (and_parts _ _ on).0

pub invariant_of-placed : goal.invariant_of-placed
invariant_of-placed c = record {
  corner = c.place-in-Text.ensures.corner;
  within = rw c.place-in-Text.ensures.value
      (text_within c.area-area.result c.in-Text.clip (length c.in-Text.text.now) c.args.self.now.origin c.in-Text.at (rw c.in-Text.is at c.area-area.ensures));
}

pub paint_text-requires : goal.paint_text-requires
paint_text-requires c = λ p on. c.requires.visible p (and_parts _ _ on).0

pub move_pixels-requires : goal.move_pixels-requires
move_pixels-requires c = λ p moves.
    let moved = rw c.in-Scroll.is at (c.requires.moved p) in
    let parts = and_parts _ _ (sym moved ∙ moves) in
    (c.requires.visible p (and_parts _ _ parts.0).0, c.requires.visible (before_shift p c.in-Scroll.delta) parts.1)

pub returns-in-Texture : goal.returns-in-Texture
returns-in-Texture c =
    let origin = c.args.self.now.origin in
    let visible = c.args.self.now.visible.now in
    let old = c.args.screen.now in
    let kind = c.args.env.now.kind in
    let area = rw c.in-Texture.is at c.area-area.ensures in
    rw c.in-Texture.is (repaints_as _ _ _ _ old c.paint_within.new.screen
    (rw (c.of.ensures, c.place.ensures.value) at c.paint_within.ensures)
    (λ p. ap (λ b. holds visible p && b) (sym (area p)))
    (λ p. ap (λ (r : Point). eff kind (chosen c.in-Texture.ops (tile_bit c.in-Texture.tile r.h r.v)) (pixel_of old p))
    (before-both origin p c.in-Texture.delta)))

pub returns-in-Pixels : goal.returns-in-Pixels
returns-in-Pixels c =
    let origin = c.args.self.now.origin in
    let visible = c.args.self.now.visible.now in
    let old = c.args.screen.now in
    let kind = c.args.env.now.kind in
    let area = rw c.in-Pixels.is at c.area-area.ensures in
    rw c.in-Pixels.is (repaints_as _ _ _ _ old c.paint_within-in-Pixels.new.screen
    (rw (c.pixmap.ensures, c.place-in-Pixels.ensures.value) at c.paint_within-in-Pixels.ensures)
    (λ p. ap (λ b. holds visible p && b) (sym (area p)))
    (λ p. ap (λ (r : Point). resolved kind (pixmap_at c.in-Pixels.src.now r)) (before-both origin p c.in-Pixels.delta)))

pub returns-in-Text : goal.returns-in-Text
returns-in-Text c =
    let origin = c.args.self.now.origin in
    let visible = c.args.self.now.visible.now in
    let old = c.args.screen.now in
    let kind = c.args.env.now.kind in
    let font = c.args.env.now.font.now in
    let area = rw c.in-Text.is at c.area-area.ensures in
    rw c.in-Text.is (repaints_as _ _ _ _ old c.paint_text.new.screen (rw c.place-in-Text.ensures.value at c.paint_text.ensures)
    (λ p. ap (λ b. holds visible p && b) (sym (area p)))
    (λ p. ap (λ (r : Point). eff kind
    (chosen c.in-Text.ops (glyph_bit font (slice_index c.in-Text.text.now (unsigned_abs r.h / 8)) (unsigned_abs r.h) (unsigned_abs r.v))) (pixel_of old p))
    (before-both origin p c.in-Text.at)))
