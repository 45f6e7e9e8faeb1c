use Rattle.std.proofs.Common.{sym, ap, ◌∙◌, arith}
use Rattle.std.proofs.lemmas.List.{take_at}
use Rattle.tr_pack.specs.Cuts.{extents}
use Rattle.tr_pack.specs.Packs.{room_of, places_in}
use Rattle.tr_pack.proofs.CutLemmas.{cut_is_right, only_cut}
use Rattle.tr_pack.proofs.packs.pack_place.Goals as goal

pub returns-clause-cut : goal.returns-clause-cut
returns-clause-cut c = cut_is_right (room_of c.args.down c.args.rect) c.args.gap (extents c.args.down (room_of c.args.down c.args.rect) c.args.children.now)

pub returns-clause-only : goal.returns-clause-only
returns-clause-only c = λ rows is.
    take_at c.pack_place_into.new.rects _ _ (omega (arith, c.in_ok-places.ensures.len)) ∙ c.pack_place_into.ensures.places
    ∙ ap (places_in c.args.down c.args.gap c.args.rect)
    (sym (only_cut (room_of c.args.down c.args.rect) c.args.gap (extents c.args.down (room_of c.args.down c.args.rect) c.args.children.now) rows is))
