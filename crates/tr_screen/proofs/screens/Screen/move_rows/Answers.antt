use Rattle.std.proofs.Common.{◌≡◌, ◌≤◌, ◌+◌, ◌-◌, List, ℕ, arith}
use Rattle.std.specs.Vec.{with_items}
use Rattle.std.proofs.lemmas.Int.{ints}
use Rattle.std.proofs.lemmas.List.{with_items_is}
use Rattle.tr_screen.proofs.RunLemmas.{rows_fit, moved_rows}
use Rattle.tr_screen.proofs.screens.Screen.move_rows.Goals as goal

pub copy_pixels-requires-clause-source : goal.copy_pixels-requires-clause-source
copy_pixels-requires-clause-source c =
    let s = c.self.inside in
    let last = rw (← c.self.view_is) at c.requires.from_south in
    let rows : c.row_before.result + (c.args.south - c.args.north) ≤ s.size.high = omega (arith, ints, c.requires.order, c.row_before.ensures, last) in
    rw (c.from-wide.ensures, c.from-2.ensures)
    (omega (arith, rows_fit s.size.wide c.row_before.result (c.args.south - c.args.north) s.size.high rows, c.deref_mut.ensures.len, c.self.invariant.1))

pub copy_pixels-requires-clause-target : goal.copy_pixels-requires-clause-target
copy_pixels-requires-clause-target c =
    let s = c.self.inside in
    let high = rw (← c.self.view_is) at c.requires.to in
    let rows : c.args.north + (c.args.south - c.args.north) ≤ s.size.high = omega (arith, c.requires.order, high) in
    rw (c.from-wide.ensures, c.from.ensures, c.from-2.ensures)
    (omega (arith, rows_fit s.size.wide c.args.north (c.args.south - c.args.north) s.size.high rows, c.deref_mut.ensures.len, c.self.invariant.1))

pub returns : goal.returns
returns c =
    let s = c.self.inside in
    let w : List ℕ = c.copy_pixels.new.pixels in
    let high = rw (← c.self.view_is) at c.requires.to in
    let last = rw (← c.self.view_is) at c.requires.from_south in
    let copied = rw (c.deref_mut.ensures.value, c.from-wide.ensures, c.from.ensures, c.from-2.ensures) at c.copy_pixels.ensures in
    let same : (with_items s.pixels w).items ≡ w = with_items_is s.pixels w (omega (arith, c.copy_pixels.auto.pixels, c.deref_mut.ensures.len)) in
    rw (← c.self.view_is, same)
    (moved_rows s.size s.kind s.pixels.items w c.args.north c.args.south c.row_before.result c.args.delta
    c.requires.order high c.requires.straight c.row_before.ensures last copied)
