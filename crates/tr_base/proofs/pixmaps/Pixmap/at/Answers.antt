use Rattle.std.proofs.Common.{w32, SFits, arith, rules}
use Rattle.std.proofs.lemmas.Int.{to_z-of_z}
use Rattle.std.proofs.lemmas.List.{get_or_read}
use Rattle.tr_base.proofs.PlaceLemmas.{place_fits}
use Rattle.tr_base.proofs.pixmaps.Pixmap.at.Goals as goal

pub index-requires : goal.index-requires
index-requires c =
    let m = c.self.inside in
    let p = c.args.p in
    let fits_v : SFits w32 p.v = search rules in
    let fits_h : SFits w32 p.h = search rules in
    let fits = place_fits m.size p (rw (← c.self.view_is) at c.requires) in
    rw (to_z-of_z w32 p.v fits_v, to_z-of_z w32 p.h fits_h, c.from.ensures) (omega (arith, m.pixels.ok.0, c.self.invariant.count))

pub returns : goal.returns
returns c =
    let m = c.self.inside in
    let p = c.args.p in
    let fits_v : SFits w32 p.v = search rules in
    let fits_h : SFits w32 p.h = search rules in
    let fits = place_fits m.size p (rw (← c.self.view_is) at c.requires) in
    let read = rw (to_z-of_z w32 p.v fits_v, to_z-of_z w32 p.h fits_h, c.from.ensures) at c.index.ensures in
    rw (← c.self.view_is) (get_or_read m.pixels.items _ _ (omega (arith, m.pixels.ok.0, c.self.invariant.count)) read 0)
