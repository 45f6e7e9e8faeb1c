use Rattle.std.proofs.Common.{◌≡◌, ◌≤◌, ◌+◌, ◌-◌, List, ℕ, arith}
use Rattle.std.specs.Vec.{with_items}
use Rattle.std.proofs.lemmas.List.{with_items_is}
use Rattle.tr_screen.proofs.RunLemmas.{rows_fit, filled_rows}
use Rattle.tr_screen.proofs.screens.Screen.fill_rows.Goals as goal

pub fill_pixels-requires : goal.fill_pixels-requires
fill_pixels-requires c =
    let s = c.self.inside in
    let high = rw (← c.self.view_is) at c.requires.high in
    let rows : c.args.north + (c.args.south - c.args.north) ≤ s.size.high = omega (arith, c.requires.order, high) in
    rw (c.from-wide.ensures, c.from.ensures, c.from-2.ensures)
    (omega (arith, rows_fit s.size.wide c.args.north (c.args.south - c.args.north) s.size.high rows, c.deref_mut.ensures.len, c.self.invariant.1))

pub returns : goal.returns
returns c =
    let s = c.self.inside in
    let w : List ℕ = c.fill_pixels.new.pixels in
    let filled = rw (c.deref_mut.ensures.value, c.from-wide.ensures, c.from.ensures, c.from-2.ensures) at c.fill_pixels.ensures in
    let same : (with_items s.pixels w).items ≡ w = with_items_is s.pixels w (omega (arith, c.fill_pixels.auto.pixels, c.deref_mut.ensures.len)) in
    rw (← c.self.view_is, same)
    (filled_rows s.size s.kind s.pixels.items w c.args.north c.args.south c.args.pixel c.requires.order filled)
