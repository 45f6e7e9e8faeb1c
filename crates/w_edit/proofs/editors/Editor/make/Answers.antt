use Rattle.std.proofs.Common.{sym, subst}
use Rattle.w_edit.specs.Contents.{Contents, IsContents}
use Rattle.w_edit.proofs.EditLemmas.{line_made, joined_made, broken_made}
use Rattle.w_edit.proofs.editors.Editor.make.Goals as goal

pub returns-in-Line-clause-ok : goal.returns-in-Line-clause-ok
returns-in-Line-clause-ok c = line_made _ _ _ _ _ c.self.view_is c.in-Line.is c.self.invariant.row

pub returns-in-Joined-clause-ok : goal.returns-in-Joined-clause-ok
returns-in-Joined-clause-ok c =
    joined_made _ _ _ _ _ _ c.self.view_is c.in-Joined.is c.requires.edit c.self.invariant.row c.remove-lower.ensures.by_index.2

pub invariant_of-self-in-Joined : goal.invariant_of-self-in-Joined
invariant_of-self-in-Joined c =
    subst (λ (y : Contents). IsContents y)
    (sym (joined_made _ _ _ _ _ _ c.self.view_is c.in-Joined.is c.requires.edit c.self.invariant.row c.remove-lower.ensures.by_index.2))
    c.requires.contents

pub returns-in_ok-insert-in-Broken-clause-ok : goal.returns-in_ok-insert-in-Broken-clause-ok
returns-in_ok-insert-in-Broken-clause-ok c =
    broken_made _ _ _ _ _ _ c.self.view_is c.in-Broken.is c.self.invariant.row c.in_ok-insert-in-Broken.ensures.items

pub invariant_of-self-in-Broken : goal.invariant_of-self-in-Broken
invariant_of-self-in-Broken c =
    subst (λ (y : Contents). IsContents y)
    (sym (broken_made _ _ _ _ _ _ c.self.view_is c.in-Broken.is c.self.invariant.row c.in_ok-insert-in-Broken.ensures.items))
    c.requires.contents
