use Rattle.std.proofs.Common.{◌≡◌, List, ℕ, take, length, arith}
use Rattle.std.specs.Vec.{with_items}
use Rattle.std.proofs.lemmas.List.{with_items_is, length-take-le}
use Rattle.tr_screen.proofs.RunLemmas.{moved_run}
use Rattle.tr_screen.proofs.screens.Screen.move_run_through.Goals as goal

pub returns : goal.returns
returns c =
    let s = c.self.inside in
    let w : List ℕ = c.copy_through.new.pixels in
    let to = rw (← c.self.view_is) at c.requires.to in
    let from = rw (← c.self.view_is) at c.requires.from in
    let count = c.width_of-count.result in
    let long : length (take count c.args.spare.now) ≡ count =
    length-take-le count c.args.spare.now (omega (arith, c.requires.room, c.width_of-count.ensures.value)) in
    let copied =
    rw (c.deref_mut.ensures.value, c.start_of-to.ensures.value, c.start_of-from.ensures.value, c.source_of.ensures, long, c.width_of-count.ensures.value)
    at c.copy_through.ensures in
    let same : (with_items s.pixels w).items ≡ w = with_items_is s.pixels w (omega (arith, c.copy_through.auto.pixels, c.deref_mut.ensures.len)) in
    rw (← c.self.view_is, same) (moved_run s.size s.kind s.pixels.items w c.args.run c.args.delta to from copied)
