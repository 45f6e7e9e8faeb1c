use Rattle.std.proofs.Common.{◌≡◌, ◌<◌, ◌≤◌, ◌↔◌, List, length, take_all, subst, sym, ◌∙◌, false, arith, rules}
use Rattle.tr_base.proofs.RectLemmas.{false-true}
use Rattle.tr_journal.specs.declared.Step.{Step}
use Rattle.tr_play.specs.Workers.{AreNoCommands, is_command}
use Rattle.tr_play.proofs.ListLemmas.{none_more}
use Rattle.tr_play.proofs.lists.List.commands.Goals as goal
use Rattle.tr_play.proofs.lists.List.commands.Goals.{then-is_command, else-is_command}

pub loop-k-preserved : goal.loop-k-preserved
loop-k-preserved g c =
    let k = c.loop-k.k in
    let list = c.args.self.now in
    let x = c.step.result.now in
    let low : k < length list = search rules in
    let counts : c.if-is_command.commands ≡ 0 ↔ (c.loop-k.commands ≡ 0) × (is_command x ≡ false) =
    elim c.if-is_command.branch [
      | then-is_command w ↦ (
        λ none. absurd (omega (arith, none, w.commands-is, w.saturating_add-commands.ensures)),
        λ both. absurd (false-true (sym both.1 ∙ sym c.is_command.ensures ∙ w.if-is_command.true)),
      )
      | else-is_command w ↦ (
        λ none. (omega (arith, none, w.commands-is), sym c.is_command.ensures ∙ w.if-is_command.false),
        λ both. omega (arith, both.0, w.commands-is),
      )
    ] in
    none_more list k x c.loop-k.commands c.if-is_command.commands low c.step.ensures c.loop-k.invariant counts

pub returns : goal.returns
returns g c =
    let k = c.loop-k.k in
    let list = c.args.self.now in
    let past : length list ≤ k = search rules in
    let all = take_all k list past in (
      λ none. subst (λ (steps : List (Step _)). AreNoCommands steps) all (c.loop-k.invariant.0 none),
      λ are. c.loop-k.invariant.1 (subst (λ (steps : List (Step _)). AreNoCommands steps) (sym all) are),
    )
