-- Private contracts alone cite this file.
-- The visible points that are unknown after a command, computed without pixels.
use Rattle.std.specs.Prelude.{◌≡◌, Bool, true, false, ◌&&◌, ◌||◌, not, is_none, if◌then◌else◌, List, [], ◌∷◌}
use Rattle.tr_base.specs.declared.Point.{Point}
use Rattle.tr_base.specs.Rects.{Edges, before_shift, has_point}
use Rattle.tr_region.specs.Points.{holds}
use Rattle.tr_paint.specs.declared.Paint.{Paint}
use Rattle.tr_paint.specs.declared.Paint.TheVariants.{Scroll, Spoil}
use Rattle.tr_paint.specs.Paints.{IsNearPoint, area, is_opaque}
use Rattle.tr_paint.specs.Traces.{Look, Base, after}
use Rattle.tr_exec.specs.declared.effects.Effect.{Effect}
use Rattle.tr_exec.specs.declared.effects.Effect.TheVariants.{Tells, Loses, Keeps, Moves}

-- the effect of a command on the knowledge of the points of its area
abbrev pub effect_of : Paint → Effect
effect_of (Scroll clip delta) = Moves delta
effect_of (Spoil clip) = Loses
effect_of c = if is_opaque c then Tells else Keeps

-- a move is by a near distance
abbrev pub IsNearEffect : Effect → Type 0
IsNearEffect (Moves delta) = IsNearPoint delta
IsNearEffect effect = Unit {0}

-- a point is unknown after an effect, given the points that were unknown before it
abbrev pub lost_by : Effect → (Point → Bool) → Point → Bool
lost_by Tells unknown p = false
lost_by Loses unknown p = true
lost_by Keeps unknown p = unknown p
lost_by (Moves delta) unknown p = unknown (before_shift p delta)

-- a point isn't visible, or is one of the unknown ones
abbrev pub unseen : List Edges → List Edges → Point → Bool
unseen visible unknown p = not (holds visible p) || holds unknown p

-- the unknown points after an effect in an area
abbrev pub unknown_after : Effect → List Edges → List Edges → List Edges → Point → Bool
unknown_after effect area visible unknown p =
    holds visible p && (if holds area p then lost_by effect (unseen visible unknown) p else unseen visible unknown p)

-- an effect moves no point, and leaves the same points unknown, whatever its area
abbrev pub keeps_known : Effect → List Edges → Bool
keeps_known Tells [] = true
keeps_known Tells (r ∷ rects) = false
keeps_known Loses unknown = false
keeps_known Keeps unknown = true
keeps_known (Moves delta) unknown = false

-- the unknown points are the visible ones whose colour after the batch isn't known
abbrev pub TellsUnknown : Look → Base → List Paint → Point → List Edges → List Edges → Type 0
TellsUnknown look base batch origin visible unknown =
    (p : Point) → holds unknown p ≡ (holds visible p && is_none (after look base batch (before_shift p origin)))

-- the points that an effect moves: the visible ones of its area whose source is visible
abbrev pub moved_by : Effect → List Edges → List Edges → Point → Bool
moved_by (Moves delta) area visible p = (holds visible p && holds area p) && holds visible (before_shift p delta)
moved_by effect area visible p = false

-- the points that a command moves
abbrev pub moved_of : Paint → Point → List Edges → Point → Bool
moved_of (Scroll clip delta) origin visible p =
    (holds visible p && has_point clip (before_shift p origin)) && holds visible (before_shift p delta)
moved_of c origin visible p = false

-- a region holds the points that a command moves
abbrev pub IsMovedBy : Point → List Edges → Paint → List Edges → Type 0
IsMovedBy origin visible c moved = (p : Point) → holds moved p ≡ moved_of c origin visible p

-- the bad points after a batch: the visible points whose colour isn't known, and the other points that were bad
abbrev pub bad_after : Look → Base → List Paint → Point → List Edges → List Edges → Point → Bool
bad_after look base batch origin visible bad p =
    if holds visible p then is_none (after look base batch (before_shift p origin)) else holds bad p
