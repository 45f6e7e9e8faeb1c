use Rattle.std.proofs.Common.{◌≡◌, rules}
use Rattle.tr_base.proofs.FontLemmas.{same_glyphs}
use Rattle.tr_base.proofs.fonts.Font.same.Goals as goal

pub returns : goal.returns
returns c =
    let mine : c.as_slice.result.now ≡ c.args.self.now = search rules in
    let theirs : c.as_slice-2.result.now ≡ c.args.other.now = search rules in
    same_glyphs c.args.self.now c.args.other.now c.eq.result (rw (mine, theirs) at c.eq.ensures)
