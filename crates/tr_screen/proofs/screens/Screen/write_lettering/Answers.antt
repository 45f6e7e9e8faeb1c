use Rattle.std.proofs.Common.{◌≡◌, List, ℕ, length, cond, arith}
use Rattle.std.specs.Vec.{with_items}
use Rattle.std.proofs.lemmas.List.{with_items_is}
use Rattle.tr_kernel.specs.Letters.{bit_in_letters}
use Rattle.tr_screen.proofs.WritingLemmas.{letters_fit, letters_narrow, letters_paint}
use Rattle.tr_screen.proofs.screens.Screen.write_lettering.Goals as goal

pub letter_block-requires-clause-apart : goal.letter_block-requires-clause-apart
letter_block-requires-clause-apart c =
    let s = c.self.inside in
    let first = rw (← c.self.view_is) at c.requires.first in
    let last = rw (← c.self.view_is) at c.requires.last in
    rw c.from.ensures (letters_narrow s.size c.args.at (length c.args.lettering.now.text.now) first last)

pub letter_block-requires-clause-room : goal.letter_block-requires-clause-room
letter_block-requires-clause-room c =
    let s = c.self.inside in
    let first = rw (← c.self.view_is) at c.requires.first in
    let last = rw (← c.self.view_is) at c.requires.last in
    rw (c.from.ensures, c.index_of.ensures)
    (omega (arith, letters_fit s.size c.args.at (length c.args.lettering.now.text.now) first last, c.deref_mut.ensures.len, c.self.invariant.1))

pub returns : goal.returns
returns c =
    let s = c.self.inside in
    let l = c.args.lettering.now in
    let w : List ℕ = c.letter_block.new.pixels in
    let first = rw (← c.self.view_is) at c.requires.first in
    let last = rw (← c.self.view_is) at c.requires.last in
    let written = rw (c.deref_mut.ensures.value, c.from.ensures, c.index_of.ensures) at c.letter_block.ensures in
    let same : (with_items s.pixels w).items ≡ w = with_items_is s.pixels w (omega (arith, c.letter_block.auto.pixels, c.deref_mut.ensures.len)) in
    rw (← c.self.view_is, same)
    (letters_paint s.size c.args.at (length l.text.now) first last s.kind
    (λ v k. cond (bit_in_letters l.font.now l.text.now v k) l.one l.zero) s.pixels.items w written)
