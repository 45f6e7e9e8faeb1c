use Rattle.std.proofs.Common.{◌≡◌, ℕ, List, ◌++◌, codes, ap, sym, ◌∙◌}
use Rattle.tr_gen.specs.Draws.{DrawnValue, give}
use Rattle.tr_gen.specs.Scripts.{opening_lines, rounds_lines, text_of_lines}
use Rattle.tr_gen.specs.Writing.{continued, drawn_text}
use Rattle.tr_gen.proofs.RoundLemmas.{script-parts}
use Rattle.tr_gen.proofs.LineFeeds.{feeds, feeds-script}
use Rattle.tr_gen.proofs.scripts.script_of.Goals as goal

pub returns-clause-text : goal.returns-clause-text
unfolding opening_lines
returns-clause-text c =
    let opened : c.append.new.self ≡ give (text_of_lines opening_lines) c.args.number =
    c.in_ok-append.ensures ∙ ap (λ (m : DrawnValue (List ℕ)). continued m (give (text_of_lines opening_lines))) c.in_ok-script.ensures in
    let played : c.append_rounds.new.script ≡ continued (give (text_of_lines opening_lines) c.args.number) (drawn_text (rounds_lines 2000)) =
    c.in_ok-append_rounds.ensures ∙ ap (λ (m : DrawnValue (List ℕ)). continued m (drawn_text (rounds_lines 2000))) opened in
    c.into_text.ensures ∙ ap (λ (m : DrawnValue (List ℕ)). m.value) c.in_ok-append-2.ensures
    ∙ ap (λ (m : DrawnValue (List ℕ)). m.value ++ codes "dump\nend\n") played ∙ sym (script-parts c.args.number)

pub returns-clause-lines : goal.returns-clause-lines
returns-clause-lines c = ap feeds (returns-clause-text c) ∙ feeds-script c.args.number
