-- The picture that a screen must show, the one that it shows, and the lag between the two.
use Rattle.std.specs.Prelude.{ℕ, ◌-◌, ◌^◌, min, Bool, not, ◌&&◌, ◌==◌, Option, Some, None, option_map, length, sum_by}
use Rattle.std.specs.List.{range_with_len}
use Rattle.tr_base.specs.declared.Point.{Point}
use Rattle.tr_base.specs.declared.Size.{Size}
use Rattle.tr_base.specs.declared.LeafId.{LeafId}
use Rattle.tr_base.specs.declared.Spot.{Spot}
use Rattle.tr_base.specs.declared.Spot.TheVariants as spots
use Rattle.tr_screen.specs.Pictures.{Picture, picture_by}
use Rattle.tr_client.specs.declared.clients.Client.{Ghosts}
use Rattle.tr_spot.specs.Spots.{spot}
use Rattle.tr_surface.specs.Surfaces.{frame_colour}
use Rattle.tr_surface.specs.Counts.{count_on}
use Rattle.tr_machine.specs.States.{State, leaf_batch, content_of, look, window_of}

-- the content of a leaf at its last flush or repaint, or when its size or kind of pixels last changed, else its first one
abbrev pub shown_of : {C M : Type 0} → State C M → LeafId → Option C
shown_of m leaf = option_map (λ w. w.shown) (window_of m leaf)

module _ {C M : Type 0} (client : Ghosts C M) where
  -- the colour of a content at a point of a window of this size; without a content, 0
  abbrev pub content_colour : State C M → Size → Point → Option C → ℕ
  content_colour m size q None = 0
  content_colour m size q (Some content) = client.pic (look m) size content q

  -- the colour of a spot, by the leaves' contents: a leaf's is that of its content's picture, and a frame's is its tint, cut to the
  -- kind of the pixels
  abbrev pub colour_by : (LeafId → Option C) → State C M → Spot → ℕ
  colour_by contents m (spots.Leaf leaf q size kind) = content_colour m size q (contents leaf)
  colour_by contents m spot = frame_colour spot

  -- the colour that a point of the screen must have: that of the present contents
  abbrev pub want : State C M → Point → ℕ
  want m p = colour_by (content_of client m) m (spot m.tree p)

  -- the colour that a good point of the screen has: that of the shown contents
  abbrev pub shown : State C M → Point → ℕ
  shown m p = colour_by (shown_of m) m (spot m.tree p)

  -- the picture that the screen must show, painted from nothing
  abbrev pub render : State C M → Picture
  render m = picture_by m.tree.size m.tree.kind (want m)

  -- a point is good, and yet doesn't have the colour that it must have
  abbrev pub is_stale : State C M → Point → Bool
  is_stale m p = not (m.bad p) && not (shown m p == want m p)

  -- the number of stale points
  abbrev pub stale_count : State C M → ℕ
  stale_count m = count_on m.tree.size (is_stale m)

  -- the number of paint commands that wait for the leaves; it stops at 2^64 - 1
  abbrev pub waiting_count : State C M → ℕ
  waiting_count m =
      min (sum_by (λ n. length (leaf_batch client m (record { 0 = n }))) (range_with_len 0 (length m.windows))) (2 ^ 64 - 1)

-- the number of bad points
abbrev pub bad_count : {C M : Type 0} → State C M → ℕ
bad_count m = count_on m.tree.size m.bad
