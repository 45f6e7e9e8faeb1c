use Rattle.std.proofs.Common.{List, subst, sym}
use Rattle.std.specs.Prelude.{All}
use Rattle.tr_widget.specs.declared.WidgetCmd.{WidgetCmd}
use Rattle.tr_journal.specs.Openings.{tree_of}
use Rattle.tr_journal.specs.Parts.{Part}
use Rattle.tr_grammar.specs.Scripts.{IsPlayablePart}
use Rattle.tr_player_tests.proofs.changes.play_two.Goals as goal

pub play-requires-clause-playable : goal.play-requires-clause-playable
play-requires-clause-playable g c κs within =
    let t = (tree_of c.run_of-run.result.stage.opening).nodes in
    subst (λ (ps : List (Part WidgetCmd)). All (IsPlayablePart t) ps) (sym c.deref.ensures.value)
    (c.requires.playable t c.run_of-run.ensures.leaves)
