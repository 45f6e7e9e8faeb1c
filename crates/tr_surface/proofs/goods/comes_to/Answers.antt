use Rattle.std.proofs.Common.{◌-ℤ◌, w32, SFits, rules, refl, sym, ◌∙◌}
use Rattle.std.proofs.lemmas.Bool.{eq-eqb, ne_eqb}
use Rattle.tr_surface.proofs.NearLemmas.{fits_step, same_difference}
use Rattle.tr_surface.proofs.goods.comes_to.Goals as goal

pub returns-then-new-by : goal.returns-then-new-by
returns-then-new-by c =
    let h : SFits w32 c.args.old.h = search rules in
    let v : SFits w32 c.args.old.v = search rules in
    let bh : SFits w32 c.args.by.h = search rules in
    let bv : SFits w32 c.args.by.v = search rules in
    let dh : SFits w32 (c.args.new.h -ℤ c.args.by.h) = fits_step c.args.new.h c.args.by.h c.requires.across c.requires.by.west c.requires.by.east in
    let dv : SFits w32 (c.args.new.v -ℤ c.args.by.v) = fits_step c.args.new.v c.args.by.v c.requires.down c.requires.by.north c.requires.by.south in
    let across = sym (same_difference c.args.new.h c.args.by.h c.args.old.h c.requires.across dh bh h) ∙ eq-eqb _ _ c.if-new-by.true in
    rw (across) (same_difference c.args.new.v c.args.by.v c.args.old.v c.requires.down dv bv v)

pub returns-else-new-by : goal.returns-else-new-by
returns-else-new-by c =
    let h : SFits w32 c.args.old.h = search rules in
    let bh : SFits w32 c.args.by.h = search rules in
    let dh : SFits w32 (c.args.new.h -ℤ c.args.by.h) = fits_step c.args.new.h c.args.by.h c.requires.across c.requires.by.west c.requires.by.east in
    let none = ne_eqb _ _ c.if-new-by.false in
    let across = sym (same_difference c.args.new.h c.args.by.h c.args.old.h c.requires.across dh bh h) ∙ none in
    rw (across, none) refl
