use Rattle.std.proofs.Common.{ℕ, Vec, Global, ap, ◌∙◌}
use Rattle.tr_player.proofs.ResponseLemmas.{refusal_text}
use Rattle.tr_player.proofs.responses.refusal.Goals as goal

pub returns : goal.returns
returns c =
    ap (λ (v : Vec ℕ Global). v.items) c.into_bytes.ensures.value
    ∙ (c.in_ok-text.ensures.ok ∙ refusal_text (record { line = c.args.line; code = c.args.code }))
