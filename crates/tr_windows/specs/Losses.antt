-- Private contracts alone cite this file.
-- Paint commands that keep known each point that was known before.
use Rattle.std.specs.Prelude.{◌≡◌, ⊤, true}
use Rattle.tr_base.specs.declared.Point.{Point}
use Rattle.tr_base.specs.declared.Size.{Size}
use Rattle.tr_base.specs.Rects.{Edges, before_shift, has_point, whole_of}
use Rattle.tr_paint.specs.declared.Paint.{Paint}
use Rattle.tr_paint.specs.declared.Paint.TheVariants.{Scroll, Spoil}
use Rattle.tr_windows.specs.declared.exposures.Exposure.{Exposure}

-- a scroll brings into a window of this size only points of the window
abbrev pub BringsOwn : Size → Edges → Point → Type 0
BringsOwn size clip delta =
    (q : Point) → has_point clip q ≡ true → has_point (whole_of size) q ≡ true → has_point (whole_of size) (before_shift q delta) ≡ true

-- Each point of the window that was known before the command is known after it. A spoil doesn't keep this; a scroll keeps it if the
-- whole window is visible and the scroll brings in only points of the window; any other command keeps it.
abbrev pub Spares : Exposure → Paint → Type 0
Spares e (Scroll clip delta) = (e.is_whole ≡ true) × BringsOwn e.size clip delta
Spares e (Spoil clip) = ⊥
Spares e c = ⊤
