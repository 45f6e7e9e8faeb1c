use Rattle.std.proofs.Common.{◌≡◌, ◌-◌, ◌++◌, ◌||◌, take, drop, length, refl, sym, ap, ◌∙◌, rules}
use Rattle.std.proofs.lemmas.List.{take_rest}
use Rattle.tr_base.proofs.RectLemmas.{cast-in_reach}
use Rattle.tr_region.specs.Bands.{in_spans, spans_at}
use Rattle.tr_region.proofs.BandLemmas.{holds-canonical}
use Rattle.tr_region.proofs.SweepLemmas.{view_north}
use Rattle.tr_region.proofs.EndLemmas.{ended}
use Rattle.tr_region.proofs.sweeps.Made.followed_by.Goals as goal

pub returns-clause-canonical : goal.returns-clause-canonical
returns-clause-canonical c =
    let bands = c.rest.inside in
    let list : c.extend_from_slice.new.self.items
    ≡ c.add.new.self.rects.items ++ take (length bands.rects.now - bands.count) (drop bands.count bands.rects.now) =
    search rules in
    let added = c.in_ok-add.ensures in
    let north = cast-in_reach _ c.rest.invariant.top_reach in
    let south = cast-in_reach _ c.rest.invariant.bottom_reach in
    let row = rw north at c.spans.ensures in
    let ends = rw (view_north _ _ _ _ _ c.rest.invariant c.rest.view_is) at c.requires.made.ends in
    let is = ended c.args.self.rects.items c.add.new.self.rects.items bands.rects.now bands.count c.add.new.self.last bands.north bands.south c.args.rest _ _
    c.rest.invariant c.rest.view_is c.requires.some row refl north south ends added.rows added.made in
    rw (rw take_rest at list) is.canonical

pub returns-clause-points : goal.returns-clause-points
returns-clause-points c = λ p.
    let bands = c.rest.inside in
    let list : c.extend_from_slice.new.self.items
    ≡ c.add.new.self.rects.items ++ take (length bands.rects.now - bands.count) (drop bands.count bands.rects.now) =
    search rules in
    let added = c.in_ok-add.ensures in
    let north = cast-in_reach _ c.rest.invariant.top_reach in
    let south = cast-in_reach _ c.rest.invariant.bottom_reach in
    let row = rw north at c.spans.ensures in
    let ends = rw (view_north _ _ _ _ _ c.rest.invariant c.rest.view_is) at c.requires.made.ends in
    let is = ended c.args.self.rects.items c.add.new.self.rects.items bands.rects.now bands.count c.add.new.self.last bands.north bands.south c.args.rest _ _
    c.rest.invariant c.rest.view_is c.requires.some row refl north south ends added.rows added.made in
    rw (rw take_rest at list)
    (holds-canonical _ p is.canonical.bands ∙ is.points p.v p.h
    ∙ ap (λ t. t || in_spans (spans_at c.args.rest p.v) p.h) (sym (holds-canonical c.args.self.rects.items p c.requires.made.canonical.bands)))
