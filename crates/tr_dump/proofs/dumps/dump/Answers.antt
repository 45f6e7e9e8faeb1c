use Rattle.std.proofs.Common.{List, ◌++◌, ap, ◌∙◌}
use Rattle.std.specs.Prelude.{ℕ}
use Rattle.std.specs.List.{flat_map}
use Rattle.std.proofs.lemmas.Result.{on_ok_weaker}
use Rattle.tr_output.specs.Texts.{row_text}
use Rattle.tr_dump.proofs.dumps.dump.Goals as goal

pub returns-clause-ok : goal.returns-clause-ok
returns-clause-ok c =
    let old = c.args.out.now in
    let rows = flat_map row_text c.args.screen.now.rows in
    on_ok_weaker c.append_screen.result
    (λ is. is ∙ ap (λ (head : List ℕ). old ++ (head ++ rows)) (c.deref.ensures.value ∙ c.in_ok-head.ensures))
    c.append_screen.ensures.ok
