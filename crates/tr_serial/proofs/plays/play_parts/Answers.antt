use Rattle.std.proofs.Common.{◌+◌, List, ◌++◌, length, take, sym, ap, subst, ◌∙◌}
use Rattle.std.proofs.lemmas.Iterator.Adapters.{YieldsList-from_vec}
use Rattle.std.proofs.lemmas.Iterator.Consumers.{YieldsList-turn}
use Rattle.std.proofs.lemmas.List.{length_push}
use Rattle.tr_widget.specs.declared.WidgetCmd.{WidgetCmd}
use Rattle.tr_journal.specs.declared.Item.{Item}
use Rattle.tr_journal.specs.Openings.{tree_of}
use Rattle.tr_widget.specs.Widgets.{widget_words}
use Rattle.tr_journal.specs.Parts.{Part}
use Rattle.tr_grammar.specs.Scripts.{IsPlayablePart}
use Rattle.tr_serial.specs.Outputs.{cues}
use Rattle.tr_serial.proofs.CueLemmas.{cues_next, cues_of, goes_on, is_later_next}
use Rattle.tr_serial.proofs.plays.play_parts.Goals as goal

pub play_part-requires-clause-playable : goal.play_part-requires-clause-playable
play_part-requires-clause-playable g c = λ κs lives.
    let gives = c.into_iter-part-iterator.ensures.into_iter_gives in
    let items = YieldsList-from_vec {s = c.into_iter-part-iterator.result} _ gives.0 (gives.1 ∙ c.args.parts.ok.0) in
    let turn = YieldsList-turn items c.loop-part.yielded c.loop-part.part-iterator c.loop-part.yielded_by c.next.result c.next.new.self
    c.in-Some.part c.in-Some.is c.next.ensures.steps in
    subst (λ (opened : List (Item _)). IsPlayablePart (tree_of opened).nodes c.in-Some.part) (sym c.loop-part.invariant.did.opening)
    (subst (λ (p : Part WidgetCmd). IsPlayablePart (tree_of c.args.run.now.stage.opening).nodes p) (sym turn.1)
    (c.requires.playable (length c.loop-part.yielded) c.in-Some.part turn.0))

pub loop-part-preserved : goal.loop-part-preserved
loop-part-preserved g c =
    let gives = c.into_iter-part-iterator.ensures.into_iter_gives in
    let items = YieldsList-from_vec {s = c.into_iter-part-iterator.result} _ gives.0 (gives.1 ∙ c.args.parts.ok.0) in
    let turn = YieldsList-turn items c.loop-part.yielded c.loop-part.part-iterator c.loop-part.yielded_by c.next.result c.next.new.self
    c.in-Some.part c.in-Some.is c.next.ensures.steps in
    let k = length c.loop-part.yielded in
    let parts = c.args.parts.items in
    record {
      can_next = tt;
      is_finite = tt;
      did = rw (length_push c.loop-part.yielded c.in-Some.part)
          (goes_on g.C.Client widget_words c.args.run.now c.loop-part.run c.play_part.new.run (cues (take k parts))
          (cues_of c.loop-part.is_later c.in-Some.part) (cues (take (k + 1) parts)) c.loop-part.invariant.did c.in_ok-play_part.ensures
          (ap (λ later. cues (take k parts) ++ cues_of later c.in-Some.part) c.loop-part.invariant.later
          ∙ cues_next parts k c.in-Some.part (record { within = turn.0; is = turn.1 })));
      later = rw (length_push c.loop-part.yielded c.in-Some.part) (is_later_next k);
    }
