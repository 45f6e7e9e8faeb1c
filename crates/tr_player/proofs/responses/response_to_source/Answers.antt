use Rattle.std.proofs.Common.{Err, ap, ◌∙◌}
use Rattle.tr_player.specs.declared.errors.ReadError.{ReadError}
use Rattle.tr_player.specs.Answers.{read_fault}
use Rattle.tr_player.proofs.responses.response_to_source.Goals as goal

pub returns-in-Err-Failed-clause-due : goal.returns-in-Err-Failed-clause-due
returns-in-Err-Failed-clause-due g c =
    (read_fault, tt, c.read_all.ensures.failed (c.in-Err-Failed.is ∙ ap (λ (e : ReadError). Err e) c.in-Err-Failed.field-0-is))
