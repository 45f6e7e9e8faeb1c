use Rattle.std.proofs.Common.{◌≡◌, List, [], ◌∷◌, ◌++◌, ap, ◌∙◌}
use Rattle.std.specs.Prelude.{ℕ, codes}
use Rattle.tr_session.specs.Saving.{Saved}
use Rattle.tr_session.proofs.SavingLemmas.{pushed_lines, pushed_plain, pushed_text}
use Rattle.tr_session.proofs.saving.Saved.push.Goals as goal

pub invariant_of-self : goal.invariant_of-self
invariant_of-self c =
    let text = c.self.inside.text.items in
    let line = c.args.line.now in
    let new = c.extend_from_slice-2.new.self.items in
    let first = rw c.unwrap.ensures at c.extend_from_slice.ensures.items in
    let last = rw c.unwrap-2.ensures at c.extend_from_slice-2.ensures.items in
    let e : new ≡ (text ++ line) ++ codes "\n" = last ∙ ap (λ (t : List ℕ). t ++ codes "\n") first in
    record {
      text = pushed_text text line new c.self.invariant.text c.self.invariant.plain c.requires.plain e;
      plain = pushed_plain text line new c.self.invariant.text c.self.invariant.plain c.requires.plain e;
    }

pub returns-clause-lines : goal.returns-clause-lines
returns-clause-lines c =
    let text = c.self.inside.text.items in
    let line = c.args.line.now in
    let new = c.extend_from_slice-2.new.self.items in
    let first = rw c.unwrap.ensures at c.extend_from_slice.ensures.items in
    let last = rw c.unwrap-2.ensures at c.extend_from_slice-2.ensures.items in
    let e : new ≡ (text ++ line) ++ codes "\n" = last ∙ ap (λ (t : List ℕ). t ++ codes "\n") first in
    pushed_lines text line new c.self.invariant.text c.self.invariant.plain c.requires.plain e
    ∙ ap (λ (v : Saved). v.lines ++ line ∷ []) c.self.view_is
