use Rattle.std.proofs.Common.{rules, arith, ◌≡◌, ℕ, List, ◌++◌, length, sym, ap, subst, ◌∙◌}
use Rattle.std.specs.Prelude.{OnOk}
use Rattle.std.proofs.lemmas.Grind.{common_steps}
use Rattle.tr_machine.specs.Pictures.{bad_count}
use Rattle.tr_stage.specs.Stages.{state}
use Rattle.tr_run.specs.Texts.{lag_line}
use Rattle.tr_run.proofs.ReportLemmas.{lag_text_of, lag_line-stage}
use Rattle.tr_run.proofs.reports.append_lag.Goals as goal

pub returns-clause-ok : goal.returns-clause-ok
returns-clause-ok g c =
    let s = c.args.stage.now in
    let number : c.len-number.result ≡ length s.journal = c.len-number.ensures.count ∙ ap (λ ls. length ls) c.journal.ensures.value in
    let text : c.as_bytes.result.now ≡ lag_text_of c.len-number.result c.in_ok-peek.peek.bad c.in_ok-peek.peek.stale 0 =
    first_of (search rules, grind (arith, common_steps)) in
    let line : c.as_bytes.result.now ≡ lag_line g.C.Client (length s.journal) (state g.C.Client s) =
    text
    ∙ ap (λ (n : ℕ). lag_text_of n c.in_ok-peek.peek.bad c.in_ok-peek.peek.stale 0) number
    ∙ ap (λ (n : ℕ). lag_text_of (length s.journal) n c.in_ok-peek.peek.stale 0) c.in_ok-peek.ensures.bad
    ∙ ap (λ (n : ℕ). lag_text_of (length s.journal) (bad_count (state g.C.Client s)) n 0) c.in_ok-peek.ensures.stale
    ∙ sym (lag_line-stage g.C.Client s (length s.journal) c.invariant.ensures.stands) in
    subst (λ (t : List ℕ). OnOk c.append_bytes.result (c.append_bytes.new.self ≡ c.args.out.now ++ t)) line c.append_bytes.ensures.ok
