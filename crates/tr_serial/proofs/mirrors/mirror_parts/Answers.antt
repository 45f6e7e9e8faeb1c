use Rattle.std.proofs.Common.{◌≡◌, ◌+◌, ◌<◌, ℕ, List, ◌++◌, length, take, drop, get_or, sym, ap, subst, ◌∙◌, arith}
use Rattle.std.proofs.lemmas.Iterator.Adapters.{YieldsList-from_vec}
use Rattle.std.proofs.lemmas.Iterator.Consumers.{YieldsList-turn}
use Rattle.std.proofs.lemmas.List.{length_push}
use Rattle.std.proofs.lemmas.List.Sums.{sum_by-drop_more}
use Rattle.tr_widget.specs.declared.WidgetCmd.{WidgetCmd}
use Rattle.tr_journal.specs.declared.Item.{Item}
use Rattle.tr_journal.specs.Openings.{tree_of}
use Rattle.tr_widget.specs.Widgets.{widget_words}
use Rattle.tr_journal.specs.Parts.{Part}
use Rattle.tr_grammar.specs.Scripts.{IsPlayablePart}
use Rattle.tr_serial.specs.Outputs.{cues}
use Rattle.tr_serial.specs.Screens.{report_count}
use Rattle.tr_serial.proofs.CueLemmas.{cues_next, cues_of, is_later_next}
use Rattle.tr_serial.proofs.StreamLemmas.{mirrors_more}
use Rattle.tr_serial.proofs.mirrors.mirror_parts.Goals as goal

-- the reports of the parts to come are those of the next one, and of those behind it
reports_next : (parts : List (Part WidgetCmd)) (k : ℕ) (part : Part WidgetCmd) → k < length parts → part ≡ get_or parts k part →
    report_count (drop k parts) ≡ length part.reports + report_count (drop (k + 1) parts)
reports_next parts k part within is =
    sum_by-drop_more (λ (p : Part WidgetCmd). length p.reports) parts k part within
    ∙ ap (λ (p : Part WidgetCmd). length p.reports + report_count (drop (k + 1) parts)) (sym is)

pub mirror_part-requires-clause-playable : goal.mirror_part-requires-clause-playable
mirror_part-requires-clause-playable g c = λ κs lives.
    let gives = c.into_iter-part-iterator.ensures.into_iter_gives in
    let items = YieldsList-from_vec {s = c.into_iter-part-iterator.result} _ gives.0 (gives.1 ∙ c.args.parts.ok.0) in
    let turn = YieldsList-turn items c.loop-part.yielded c.loop-part.part-iterator c.loop-part.yielded_by c.next.result c.next.new.self
    c.in-Some.part c.in-Some.is c.next.ensures.steps in
    subst (λ (opened : List (Item _)). IsPlayablePart (tree_of opened).nodes c.in-Some.part) (sym c.loop-part.invariant.mirrors.did.opening)
    (subst (λ (p : Part WidgetCmd). IsPlayablePart (tree_of c.args.run.now.stage.opening).nodes p) (sym turn.1)
    (c.requires.playable (length c.loop-part.yielded) c.in-Some.part turn.0))

pub mirror_part-requires-clause-few : goal.mirror_part-requires-clause-few
mirror_part-requires-clause-few g c = λ κs lives.
    let gives = c.into_iter-part-iterator.ensures.into_iter_gives in
    let items = YieldsList-from_vec {s = c.into_iter-part-iterator.result} _ gives.0 (gives.1 ∙ c.args.parts.ok.0) in
    let turn = YieldsList-turn items c.loop-part.yielded c.loop-part.part-iterator c.loop-part.yielded_by c.next.result c.next.new.self
    c.in-Some.part c.in-Some.is c.next.ensures.steps in
    omega (arith, c.loop-part.invariant.few, reports_next c.args.parts.items (length c.loop-part.yielded) c.in-Some.part turn.0 turn.1)

pub loop-part-preserved : goal.loop-part-preserved
loop-part-preserved g c =
    let gives = c.into_iter-part-iterator.ensures.into_iter_gives in
    let items = YieldsList-from_vec {s = c.into_iter-part-iterator.result} _ gives.0 (gives.1 ∙ c.args.parts.ok.0) in
    let turn = YieldsList-turn items c.loop-part.yielded c.loop-part.part-iterator c.loop-part.yielded_by c.next.result c.next.new.self
    c.in-Some.part c.in-Some.is c.next.ensures.steps in
    let k = length c.loop-part.yielded in
    let parts = c.args.parts.items in
    record {
      can_next = tt;
      is_finite = tt;
      mirrors = rw (length_push c.loop-part.yielded c.in-Some.part)
          (mirrors_more g.C.Client widget_words c.args.run.now c.loop-part.run c.mirror_part.new.run (cues (take k parts))
          (cues_of c.loop-part.is_later c.in-Some.part) (cues (take (k + 1) parts)) c.args.stream.now c.loop-part.stream c.mirror_part.new.stream
          c.loop-part.invariant.mirrors c.in_ok-mirror_part.ensures.mirrors
          (ap (λ later. cues (take k parts) ++ cues_of later c.in-Some.part) c.loop-part.invariant.later
          ∙ cues_next parts k c.in-Some.part (record { within = turn.0; is = turn.1 })));
      few = rw (length_push c.loop-part.yielded c.in-Some.part)
          (omega (arith, c.loop-part.invariant.few, c.in_ok-mirror_part.ensures.count, reports_next parts k c.in-Some.part turn.0 turn.1));
      later = rw (length_push c.loop-part.yielded c.in-Some.part) (is_later_next k);
    }
