use Rattle.std.proofs.Common.{◌≡◌, ◌++◌, [], ◌∷◌, ap, ◌∙◌, rules, arith}
use Rattle.std.specs.Prelude.{codes}
use Rattle.std.proofs.lemmas.Grind.{common_steps}
use Rattle.tr_session.specs.Saving.{Saved}
use Rattle.tr_session.proofs.SavingLemmas.{opening_lines}
use Rattle.tr_session.proofs.saving.Saved.opening.Goals as goal

pub returns-clause-lines : goal.returns-clause-lines
returns-clause-lines c =
    let text = c.self.inside.text.items in
    let line = c.args.line.now in
    let new = c.extend_from_slice-2.new.self.items in
    let e : new ≡ (text ++ line) ++ codes "\nend\n" = first_of (search rules, grind (arith, common_steps)) in
    opening_lines text line new c.self.invariant.text c.self.invariant.plain c.requires e
    ∙ ap (λ (v : Saved). v.lines ++ line ∷ codes "end" ∷ []) c.self.view_is
