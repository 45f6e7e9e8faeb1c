use Rattle.std.proofs.Common.{◌≡◌, ◌∙◌, length, rules}
use Rattle.std.proofs.lemmas.Result.{err_from_is_err_and}
use Rattle.tr_mirror.specs.Readings.{fault_at_end}
use Rattle.tr_show.proofs.PassLemmas.{cause_is, ended_late, ended_well, fault_is, shown_more, text_is}
use Rattle.tr_show.proofs.shows.show.Goals as goal

pub returns-in_err-rest-clause-cause : goal.returns-in_err-rest-clause-cause
returns-in_err-rest-clause-cause c =
    let p = err_from_is_err_and c.from_residual-in_err-rest.result c.from_residual-in_err-rest.ensures.1 in
    let h = c.loop-rest.invariant.shown in
    rw (p.1, p.2) (cause_is c.args.stream.now c.loop-rest.rest.now c.loop-rest.text c.loop-rest.mirror h _
    c.loop-rest.invariant.short (c.in_err-rest.ensures.cause h.front h.came))

pub loop-rest-preserved : goal.loop-rest-preserved
loop-rest-preserved c =
    let h = c.loop-rest.invariant.shown in
    record {
      shown = shown_more c.args.stream.now c.loop-rest.rest.now c.in_ok-rest.rest.now c.loop-rest.text c.show_to_cut.new.text c.loop-rest.mirror
          c.show_to_cut.new.mirror h (c.in_ok-rest.ensures.pass h.front h.came);
      short = c.loop-rest.invariant.short;
    }

pub returns-in_err-end-clause-cause : goal.returns-in_err-end-clause-cause
returns-in_err-end-clause-cause c =
    let none : length c.loop-rest.rest.now ≡ 0 = search rules in
    let first = fault_is c.args.stream.now c.loop-rest.rest.now c.loop-rest.text c.loop-rest.mirror c.loop-rest.invariant.shown none
    c.loop-rest.invariant.short in
    let p = err_from_is_err_and c.from_residual-in_err-end.result c.from_residual-in_err-end.ensures.1 in
    rw (p.1, p.2)
    (first ∙ ended_late (fault_at_end c.loop-rest.mirror c.loop-rest.mirror.fault) c.end.result c.in_err-end.field-0.0 c.end.ensures c.in_err-end.was)

pub returns-clause-valid : goal.returns-clause-valid
returns-clause-valid c =
    let none : length c.loop-rest.rest.now ≡ 0 = search rules in
    fault_is c.args.stream.now c.loop-rest.rest.now c.loop-rest.text c.loop-rest.mirror c.loop-rest.invariant.shown none
    c.loop-rest.invariant.short
    ∙ ended_well (fault_at_end c.loop-rest.mirror c.loop-rest.mirror.fault) c.end.result c.in_ok-end.field-0 c.end.ensures c.in_ok-end.was

pub returns-clause-text : goal.returns-clause-text
returns-clause-text c =
    let none : length c.loop-rest.rest.now ≡ 0 = search rules in
    text_is c.args.stream.now c.loop-rest.rest.now c.loop-rest.text c.loop-rest.mirror c.loop-rest.invariant.shown none
