-- The cuts of a session: the groups of streams. After 64 groups another stream begins.
use Rattle.std.specs.Prelude.{◌≡◌, ◌↔◌, ◌≤◌, ℕ, ◌+◌, ◌-◌, nat_le, List, [], ◌++◌, ◌∷◌, Option, Some, None, IsNone, map, min, if◌then◌else◌}
use Rattle.tr_base.specs.declared.Kind.{Kind}
use Rattle.tr_base.specs.Ops.{values_of}
use Rattle.tr_screen.specs.Pictures.{Picture}
use Rattle.tr_mirror.specs.Records.{spelled}
use Rattle.tr_mirror.specs.Standings.{most_groups}
use Rattle.tr_mirror.specs.Streams.{group_of}

-- the stream that goes on: the screen of its last cut, and the number of its groups
pub record CutsSoFar : Type 0 where
  pub last : Option Picture
  pub groups : ℕ

-- a stream without a group
abbrev pub no_cut : CutsSoFar
no_cut = record { last = None; groups = 0 }

-- the stream of the next group: another one, if this one has all its groups
abbrev pub open_stream : CutsSoFar → CutsSoFar
open_stream c = if nat_le most_groups c.groups then no_cut else c

-- the pixel, or the greatest value of the kind, if the pixel is none
abbrev pub fitted_pixel : Kind → ℕ → ℕ
fitted_pixel kind pixel = min pixel (values_of kind - 1)

-- the screen as a stream can have it: a bad point may have a pixel that is no value of the kind
abbrev pub fitted : Picture → Picture
fitted p = record p { rows = map (λ row. map (fitted_pixel p.kind) row) p.rows }

-- the bytes of the next group, which leads to this screen
abbrev pub cut_bytes : CutsSoFar → Picture → List ℕ
cut_bytes c now = spelled (group_of (open_stream c).last now ((open_stream c).groups + 1))

-- the cuts with that group
abbrev pub with_cut : CutsSoFar → Picture → CutsSoFar
with_cut c now = record { last = Some now; groups = (open_stream c).groups + 1 }

-- the bytes of the groups that lead to these screens, one after another
abbrev pub bytes_of_cuts : CutsSoFar → List Picture → List ℕ
bytes_of_cuts c [] = []
bytes_of_cuts c (now ∷ rest) = cut_bytes c now ++ bytes_of_cuts (with_cut c now) rest

-- there is a last screen if there is a group, and there are at most 64 groups
pub record AreCuts (c : CutsSoFar) : Type 0 where
  pub counted : IsNone c.last ↔ (c.groups ≡ 0)
  pub few : c.groups ≤ most_groups
