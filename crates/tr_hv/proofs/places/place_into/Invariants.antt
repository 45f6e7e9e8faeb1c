use Rattle.std.proofs.Common.{◌≡◌, ◌+◌, ◌*◌, map, length, take}
use Rattle.tr_base.specs.Layouts.{longest, along, places_by}
use Rattle.tr_hv.specs.Places.{child_start, place_of}
use Rattle.tr_hv.specs.Sums.{AreAtMost}
use Rattle.tr_hv.proofs.HvLemmas.{IsBefore}
use Rattle.tr_hv.proofs.places.place_into.Given as goal

-- the children so far have their places, and the sums are those of the wishes before the next child's three
abbrev pub invariant-loop-i : goal.invariant-loop-i
invariant-loop-i l = record {
  count : length l.rects ≡ length l.children;
  places : take l.i l.rects ≡ places_by (place_of l.vertical l.rect l.children) l.i;
  start : l.start ≡ child_start l.room (map (along l.vertical) l.children) l.i;
  before : IsBefore (map (along l.vertical) l.children) l.i l.before;
  small : AreAtMost (longest * (2 * length l.children + l.i)) l.before;
}
