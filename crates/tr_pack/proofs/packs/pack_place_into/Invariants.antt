use Rattle.std.proofs.Common.{◌≡◌, ◌+◌, ◌≤◌, length, take}
use Rattle.tr_base.specs.Layouts.{longest}
use Rattle.tr_pack.proofs.PackLemmas.{packing, Stands}
use Rattle.tr_pack.proofs.packs.pack_place_into.Given as goal

-- the children so far are packed, and the numbers of the running place are small
abbrev pub invariant-loop-i : goal.invariant-loop-i
invariant-loop-i l = record {
  count : length l.rects ≡ length l.children;
  stands : Stands (packing l.rows.down l.rect l.rows.gap (l.room, l.side) l.children) l.i (take l.i l.rects) l.pen;
  along : l.pen.along ≤ l.room + 255;
  start : l.pen.start ≤ l.side;
  deep : l.pen.deep ≤ longest;
}
