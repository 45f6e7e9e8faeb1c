use Rattle.std.proofs.Common.{◌+◌, ◌*◌, get_or, ◌∙◌, ap}
use Rattle.tr_exec.proofs.GlyphLemmas.{turn, all_of, exchanged_at}
use Rattle.tr_exec.proofs.strokes.exchanged.Goals as goal

pub returns : goal.returns
returns c v k lv lk =
    let twice = c.turned-2.ensures ∙ ap turn (c.turned.ensures ∙ ap turn c.halves.ensures) in
    let all = c.joined.ensures ∙ ap all_of (c.turned-3.ensures ∙ ap turn twice) in
    ap (λ l. get_or l (8 * v + k) 0) all ∙ exchanged_at c.args.rows.now c.requires v k lv lk
