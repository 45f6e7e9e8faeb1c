use Rattle.std.proofs.Common.{◌≡◌, ◌*◌, ◌/◌, ℕ, pos, cond, ◌+ℤ◌, ◌-ℤ◌, length, ap, sym, ◌∙◌, arith}
use Rattle.std.specs.Prelude.{slice_index, unsigned_abs}
use Rattle.std.proofs.lemmas.Int.{ints}
use Rattle.tr_base.specs.Fonts.{glyph_bit}
use Rattle.tr_exec.proofs.BrushLemmas.{run_in_picture}
use Rattle.tr_exec.proofs.StrokeLemmas.{abs-later}
use Rattle.tr_exec.proofs.brushes.LettersBrushBrush.paint.Goals as goal

pub letters_run-requires : goal.letters_run-requires
letters_run-requires c =
    let brush = c.args.self.now in
    let within = run_in_picture c.args.run brush.area brush.at (8 * length brush.lettering.now.text.now) 8 c.requires.some c.requires.within brush.within in
    rw (c.start_in.ensures, c.requires.long) (record { west = within.west; east = within.east; north = within.north; south = within.south })

pub returns : goal.returns
returns c = λ k lt.
    let brush = c.args.self.now in
    let run = c.args.run in
    let lettering = brush.lettering.now in
    let within = run_in_picture run brush.area brush.at (8 * length lettering.text.now) 8 c.requires.some c.requires.within brush.within in
    let start = (run.west +ℤ pos 0) -ℤ brush.at.h in
    let further : start +ℤ pos k ≡ (run.west +ℤ pos k) -ℤ brush.at.h = omega (arith, ints) in
    let column = sym (abs-later start k within.west) ∙ ap (λ x. unsigned_abs x) further in
    rw c.start_in.ensures at (c.letters_run.ensures k lt)
    ∙ ap (λ (h : ℕ). cond (glyph_bit lettering.font.now (slice_index lettering.text.now (h / 8)) h (unsigned_abs (run.v -ℤ brush.at.v)))
    lettering.one lettering.zero) column
