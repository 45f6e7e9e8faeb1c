-- The promises of the windows: their contents, the batches that flush or repaint them, and the points kept by a change of size.
use Rattle.std.specs.Prelude.{◌≡◌, ◌⊎◌, ℕ, ◌-◌, ◌≤◌, ◌^◌, true, false, List, length, min, sum_by, slice_get, Some, is_none}
use Rattle.tr_base.specs.declared.Point.{Point}
use Rattle.tr_base.specs.declared.Size.{Size}
use Rattle.tr_base.specs.Rects.{Edges, has_point, meet_of, whole_of}
use Rattle.tr_paint.specs.declared.Paint.{Paint}
use Rattle.tr_paint.specs.Batches.{touches}
use Rattle.tr_paint.specs.Hulls.{HasAll}
use Rattle.tr_paint.specs.Traces.{Look, Base, after}
use Rattle.tr_paint.specs.Paintings.{IsPainting}
use Rattle.tr_client.specs.declared.clients.Client.{Ghosts}
use Rattle.tr_client.specs.Laws.{IsWindowSize, Survives}
use Rattle.tr_windows.specs.declared.exposures.Exposure.{Exposure}
use Rattle.tr_windows.specs.Presents.{Present}

-- all points of a window of this size are visible, no others are, and the colour of each is known
pub record IsKnownWhole (size : Size) (base : Base) : Type 0 where
  pub visible : (q : Point) → base.visible q ≡ has_point (whole_of size) q
  pub known : (q : Point) → has_point (whole_of size) q ≡ true → is_none (base.known q) ≡ false

-- Commands lose no point of a window: each visible point whose colour is known before them has a known colour after them. If the whole
-- window is visible, this supposes that all of its points are known before, as they are if none is bad; so a scroll may bring in any of
-- them.
abbrev pub LosesNothingOf : Exposure → Look → List Paint → Type 0
LosesNothingOf e look batch =
    (base : Base) → (e.is_whole ≡ true → IsKnownWhole e.size base) →
    (q : Point) → base.visible q ≡ true → is_none (base.known q) ≡ false → is_none (after look base batch q) ≡ false

-- Pixels of a window's present picture, one for each point of a clip, may replace the commands that wait for the window: no point is bad,
-- the commands would lose no point, and each point of the window that they would touch lies in the clip.
pub record IsCovered (look : Look) (e : Exposure) (clip : Edges) (batch : List Paint) : Type 0 where
  pub good : (q : Point) → has_point e.bad q ≡ false
  pub keeps : LosesNothingOf e look batch
  pub touched : (q : Point) → has_point (whole_of e.size) q ≡ true → touches batch q ≡ true → has_point clip q ≡ true

-- the number of paint commands that wait for all windows; it stops at 2^64 - 1
abbrev pub waiting_in : {C : Type 0} → List (Present C) → ℕ
waiting_in ws = min (sum_by (λ w. length w.batch) ws) (2 ^ 64 - 1)

module _ {C M : Type 0} (client : Ghosts C M) where
  -- there are at most 32 windows, and each has a content
  pub record AreWindows (ws : List (Present C)) : Type 0 where
    pub few : length ws ≤ 32
    pub contents : (n : ℕ) (w : Present C) → slice_get ws n ≡ Some w → client.valid w.content

  -- A batch repaints a window by a painting, whatever commands wait: it paints the present picture within the window and the least
  -- rectangle that has all bad points and all points that the waiting commands would touch. Any other rectangle that has all of these
  -- points has this one's points, too.
  pub record IsByPainting (look : Look) (e : Exposure) (w : Present C) (batch : List Paint) : Type 0 where
    pub clip : Edges
    pub paints : IsPainting look (meet_of (whole_of e.size) clip) batch (client.pic look e.size w.content)
    pub has_bad : (q : Point) → has_point e.bad q ≡ true → has_point clip q ≡ true
    pub has_touched : (q : Point) → touches w.batch q ≡ true → has_point clip q ≡ true
    pub least : (outer : Edges) → HasAll outer (has_point e.bad) → HasAll outer (touches w.batch) → HasAll outer (has_point clip)

  -- a batch repaints a window by the commands that wait: no point is bad, and the commands lose no point
  pub record IsByWaiting (look : Look) (e : Exposure) (w : Present C) (batch : List Paint) : Type 0 where
    pub waits : batch ≡ w.batch
    pub good : (q : Point) → has_point e.bad q ≡ false
    pub keeps : LosesNothingOf e look batch

  -- A batch repaints a window in one of two ways. Only cost decides between them.
  abbrev pub RepaintsWindow : Look → Exposure → Present C → List Paint → Type 0
  RepaintsWindow look e w batch = IsByPainting look e w batch ⊎ IsByWaiting look e w batch

  -- A batch flushes a window by a painting: no point is bad, and the waiting commands would lose no point, so these, too, would leave
  -- each visible point with its colour in the present picture.
  pub record FlushesByPainting (look : Look) (e : Exposure) (w : Present C) (batch : List Paint) : Type 0 where
    pub painting : IsByPainting look e w batch
    pub good : (q : Point) → has_point e.bad q ≡ false
    pub keeps : LosesNothingOf e look w.batch

  -- the points that a window keeps when its size changes lie in the window before and after, and have the same colours in both
  pub record KeepsPoints (look : Look) (w : Present C) : Type 0 where
    pub survives : (from to : Size) → IsWindowSize from → IsWindowSize to →
        Survives (client.keeps w.content from to) from to (client.pic look from w.content) (client.pic look to w.content)
