use Rattle.std.proofs.Common.{◌≡◌, sym, ap, subst}
use Rattle.w_edit.specs.declared.commands.EditorCmd.{EditorCmd}
use Rattle.w_edit.specs.Contents.{Contents, IsContents, broken, inserted, effect}
use Rattle.w_edit.specs.ContentsLaws.{effect-is}
use Rattle.w_edit.proofs.EditLemmas.{contents_made}
use Rattle.w_edit.proofs.editors.Editor.edit.Goals as goal

pub returns-in-Split-clause-contents : goal.returns-in-Split-clause-contents
returns-in-Split-clause-contents c =
    let x = c.args.self.now in
    let is = effect-is x c.args.cmd.now c.invariant.ensures c.known.ensures c.requires in
    contents_made x (broken x) c.broken.result (subst (λ (cmd : EditorCmd). IsContents (effect x cmd)) c.in-Split.is is) c.broken.ensures

pub returns-in-Paste-clause-contents : goal.returns-in-Paste-clause-contents
returns-in-Paste-clause-contents c =
    let x = c.args.self.now in
    let is = effect-is x c.args.cmd.now c.invariant.ensures c.known.ensures c.requires in
    let clip : c.self.inside.clip ≡ x.clip = ap (λ (y : Contents). y.clip) c.self.view_is in
    contents_made x (inserted x c.self.inside.clip) c.inserted-in-Paste.result
    (subst (λ text. IsContents (inserted x text)) (sym clip) (subst (λ (cmd : EditorCmd). IsContents (effect x cmd)) c.in-Paste.is is))
    c.inserted-in-Paste.ensures
