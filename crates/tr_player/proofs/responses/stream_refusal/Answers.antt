use Rattle.std.proofs.Common.{ℕ, List, ◌++◌, Vec, Global, ap, ◌∙◌}
use Rattle.std.specs.Prelude.{codes, decimal}
use Rattle.tr_player.proofs.ResponseLemmas.{fault_text}
use Rattle.tr_player.proofs.responses.stream_refusal.Goals as goal

pub returns : goal.returns
returns c =
    let with_code : ℕ → List ℕ = λ n. codes "refused: byte " ++ (decimal c.args.fault.place ++ (codes " M" ++ (decimal n ++ codes "\n"))) in
    ap (λ (v : Vec ℕ Global). v.items) c.into_bytes.ensures.value
    ∙ (c.in_ok-text.ensures.ok ∙ (ap with_code c.number-code.ensures ∙ fault_text c.args.fault))
