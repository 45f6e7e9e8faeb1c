use Rattle.std.proofs.Common.{◌≡◌, List, ap, subst, sym}
use Rattle.std.specs.Prelude.{All}
use Rattle.tr_journal.specs.declared.items.Item.{Item}
use Rattle.tr_journal.specs.Openings.{tree_of}
use Rattle.tr_widget.specs.declared.Widget.{Widget}
use Rattle.tr_widget.specs.declared.WidgetCmd.{WidgetCmd}
use Rattle.tr_journal.specs.Parts.{Part}
use Rattle.tr_grammar.specs.Scripts.{IsPlayablePart, Script}
use Rattle.tr_threads.proofs.ThreadLemmas.{played_by}
use Rattle.tr_threads.proofs.plays.play_side_by_side.Goals as goal

pub play-requires-clause-playable : goal.play-requires-clause-playable
play-requires-clause-playable g c κs within =
    let s = c.args.script.now in
    let opens : c.in-Ok-start.run'.stage.opening ≡ s.opening =
    cc (c.in-Ok-start.ensures.opening, c.in-Ok.ensures, ap (λ (x : Script). x.opening) c.script.view_is) in
    let parts : c.deref.result.now ≡ s.parts = cc (c.deref.ensures.value, ap (λ (x : Script). x.parts) c.script.view_is) in
    subst (λ (ps : List (Part WidgetCmd)). All (IsPlayablePart (tree_of c.in-Ok-start.run'.stage.opening).nodes) ps) (sym parts)
    (subst (λ (items : List (Item Widget)). All (IsPlayablePart (tree_of items).nodes) s.parts) (sym opens) c.requires.playable.parts)

pub returns-clause-ok : goal.returns-clause-ok
returns-clause-ok g c =
    let s = c.args.script.now in
    let opens : c.in-Ok-start.run'.stage.opening ≡ s.opening =
    cc (c.in-Ok-start.ensures.opening, c.in-Ok.ensures, ap (λ (x : Script). x.opening) c.script.view_is) in
    let parts : c.deref.result.now ≡ s.parts = cc (c.deref.ensures.value, ap (λ (x : Script). x.parts) c.script.view_is) in
    let names : c.in-Ok-start.run'.names ≡ s.names = cc (c.in-Ok-start.ensures.names, ap (λ (x : Script). x.names) c.script.view_is) in
    played_by (λ end. end.stage) (λ end. end.text) s _ _ _ c.play.result opens names parts c.play.ensures.journal c.play.ensures.text
