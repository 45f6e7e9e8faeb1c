use Rattle.std.proofs.Common.{◌≡◌, ℕ, ◌<◌, ◌/◌, length, get_or}
use Rattle.tr_base.specs.Fonts.{box_glyph, pixel_of_bit}
use Rattle.tr_base.specs.Tiles.{is_set}
use Rattle.tr_base.proofs.fonts.box_pixels.Given as goal

-- the pixels so far are the box's
abbrev pub invariant-loop-i : goal.invariant-loop-i
invariant-loop-i l =
    (length l.pixels.items ≡ l.i) × ((k : ℕ) → k < l.i → get_or l.pixels.items k 0 ≡ pixel_of_bit (is_set (get_or box_glyph (k / 760) 0) k))
