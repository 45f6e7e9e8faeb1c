-- Pixmaps: pictures given as pixels.
use Rattle.std.specs.Prelude.{◌≡◌, ℕ, ◌+◌, ◌*◌, List, length, slice_index, unsigned_abs}
use Rattle.tr_base.specs.declared.points.Point.{Point}
use Rattle.tr_base.specs.declared.sizes.Size.{Size}

-- the model of a pixmap: its size, and its pixels row by row from north to south
pub record PixmapView : Type 0 where
  pub size : Size
  pub pixels : List ℕ

-- the number of pixels is the product of the sides
pub record IsPixmap (m : PixmapView) : Type 0 where
  pub count : length m.pixels ≡ m.size.wide * m.size.high

-- the pixel at a point of the pixmap, counted from its north-west corner
abbrev pub pixmap_at : PixmapView → Point → ℕ
pixmap_at m p = slice_index m.pixels (unsigned_abs p.v * m.size.wide + unsigned_abs p.h)
