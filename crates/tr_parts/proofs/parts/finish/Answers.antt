use Rattle.std.proofs.Common.{List, ◌++◌, ap, ◌∙◌}
use Rattle.std.specs.Prelude.{ℕ}
use Rattle.tr_parts.specs.Plays.{played_threads}
use Rattle.tr_parts.proofs.parts.finish.Goals as goal

pub returns-clause-text : goal.returns-clause-text
returns-clause-text g c = c.in_ok-append_bytes.ensures.ok ∙ ap (λ (text : List ℕ). text ++ played_threads) c.finish-end.ensures.text
