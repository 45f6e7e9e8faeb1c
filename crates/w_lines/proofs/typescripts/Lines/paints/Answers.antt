use Rattle.std.proofs.Common.{◌≡◌, ℕ, List, ap, ◌∙◌}
use Rattle.tr_client.specs.Texts.{room}
use Rattle.w_lines.specs.Lines.{newest_lines}
use Rattle.w_lines.proofs.typescripts.Lines.paints.Goals as goal

pub returns : goal.returns
returns c = λ look.
    let shown : c.last_of.result.now ≡ newest_lines (room c.args.size) c.args.self.now =
    c.last_of.ensures
    ∙ ap (λ n. newest_lines n c.lines.result.now) c.room.ensures
    ∙ ap (λ (lines : List (List ℕ)). newest_lines (room c.args.size) lines) c.lines.ensures.value in
    rw shown at (c.paint_lines.ensures look)
