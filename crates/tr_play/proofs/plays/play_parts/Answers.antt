use Rattle.std.proofs.Common.{List, take, sym, ap, subst, ◌∙◌}
use Rattle.std.proofs.lemmas.Result.{err_from_is_err_and}
use Rattle.tr_journal.specs.declared.Item.{Item}
use Rattle.tr_journal.specs.Openings.{tree_of}
use Rattle.tr_widget.specs.declared.WidgetCmd.{WidgetCmd}
use Rattle.tr_widget.specs.Widgets.{widget_words}
use Rattle.tr_journal.specs.Parts.{Part}
use Rattle.tr_grammar.specs.Scripts.{IsPlayablePart}
use Rattle.tr_parts.specs.Runs.{HasPlayedParts}
use Rattle.tr_parts.proofs.PlayLemmas.{has_any, has_any-more, parts_more}
use Rattle.tr_play.proofs.PlayLemmas.{part_differed, parts_next}
use Rattle.tr_play.proofs.plays.play_parts.Goals as goal

pub play_part-requires-clause-playable : goal.play_part-requires-clause-playable
play_part-requires-clause-playable g c κs within =
    subst (λ (items : List (Item _)). IsPlayablePart (tree_of items).nodes c.part-item.result) (sym c.loop-part.invariant.opening)
    (subst (λ (part : Part WidgetCmd). IsPlayablePart (tree_of c.args.run.stage.opening).nodes part) (sym c.part-item.is)
    (c.requires.playable c.loop-part.part-index c.part-item.result c.loop-part-test.true))

pub loop-part-preserved : goal.loop-part-preserved
loop-part-preserved g c =
    let k = c.loop-part.part-index in
    let parts = c.args.parts.now in
    let next = parts_next parts k c.part-item.result (c.loop-part-test.true, c.part-item.is) in
    let played = c.in_ok-run.ensures.ok in
    record {
      played = subst (λ (ps : List (Part WidgetCmd)). HasPlayedParts g.C.Client widget_words c.args.run c.in_ok-run.run' ps) next
          (parts_more g.C.Client widget_words c.args.run c.loop-part.run c.in_ok-run.run' (take k parts) c.loop-part.is_later
          c.part-item.result c.loop-part.invariant.later c.loop-part.invariant.played played);
      later = has_any-more (take k parts) c.part-item.result ∙ ap (λ (ps : List (Part WidgetCmd)). has_any ps) next;
      mode = played.rest.adds.mode ∙ played.sync.mode ∙ c.loop-part.invariant.mode;
      opening = played.rest.adds.opening ∙ played.sync.opening ∙ c.loop-part.invariant.opening;
    }

pub returns-in_err-run-clause-differs : goal.returns-in_err-run-clause-differs
returns-in_err-run-clause-differs g c =
    let k = c.loop-part.part-index in
    let part = c.part-item.result in
    let given = err_from_is_err_and c.from_residual.result c.from_residual.ensures.1 in
    rw (given.1, given.2)
    (part_differed g.C.Client c.args.run c.loop-part.run c.args.parts.now k part c.loop-part.is_later c.in_err-run.field-0.0
    (c.loop-part-test.true, c.part-item.is) c.loop-part.invariant.later c.loop-part.invariant.mode c.loop-part.invariant.played
    c.in_err-run.ensures.differs)
