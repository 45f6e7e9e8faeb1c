-- The commands that views show.
use Rattle.tr_paint.specs.declared.paints.Paint.{Paint}
use Rattle.tr_paint.specs.declared.paints.Paint.TheVariants as paint
use Rattle.tr_paint.specs.declared.views.PaintView.{PaintView}
use Rattle.tr_paint.specs.declared.views.PaintView.TheVariants.{Tint, Texture, Pixels, Text, Scroll, Spoil}

-- the command that a view shows: the one of the same sort with the same fields
abbrev pub viewed : PaintView → Paint
viewed (Tint clip op) = paint.Tint clip op
viewed (Texture ops clip tile delta) = paint.Texture ops clip tile delta
viewed (Pixels clip src delta) = paint.Pixels clip src.now delta
viewed (Text ops clip at text) = paint.Text ops clip at text.now
viewed (Scroll clip delta) = paint.Scroll clip delta
viewed (Spoil clip) = paint.Spoil clip
