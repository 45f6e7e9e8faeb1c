use Rattle.std.proofs.Common.{◌≡◌, List, ℕ, arith}
use Rattle.std.specs.Vec.{with_items}
use Rattle.std.proofs.lemmas.List.{with_items_is}
use Rattle.tr_screen.proofs.RunLemmas.{moved_run}
use Rattle.tr_screen.proofs.screens.Screen.move_run.Goals as goal

pub returns : goal.returns
returns c =
    let s = c.self.inside in
    let w : List ℕ = c.copy_pixels.new.pixels in
    let to = rw (← c.self.view_is) at c.requires.to in
    let from = rw (← c.self.view_is) at c.requires.from in
    let copied =
    rw (c.deref_mut.ensures.value, c.start_of-to.ensures.value, c.start_of-from.ensures.value, c.source_of.ensures, c.width_of-count.ensures.value)
    at c.copy_pixels.ensures in
    let same : (with_items s.pixels w).items ≡ w = with_items_is s.pixels w (omega (arith, c.copy_pixels.auto.pixels, c.deref_mut.ensures.len)) in
    rw (← c.self.view_is, same) (moved_run s.size s.kind s.pixels.items w c.args.run c.args.delta to from copied)
