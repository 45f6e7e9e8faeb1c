use Rattle.std.proofs.Common.{◌≡◌, ◌∙◌, rules, ap, ap₂}
use Rattle.std.proofs.lemmas.Result.{IfOk-weaker}
use Rattle.clap.specs.Words.{App, Shape, app_of, rule_of, with_rule, with_subcommand}
use Rattle.tr_arguments.specs.Parsers.{gen, number_rule}
use Rattle.tr_arguments.proofs.parsers.parser.Goals as goal

pub returns : goal.returns
returns c =
    let number_is : rule_of c.required-number.result ≡ number_rule = search rules in
    let drawn_is : app_of c.in_ok-drawn.drawn ≡ gen =
    c.in_ok-drawn.ensures.shape (search rules) ∙ ap₂ with_rule c.new-2.ensures.app number_is
    in
    let top : App → Shape = λ a. a.top in
    let mirror_is = c.in_ok-subcommand.ensures.shape (search rules) ∙ ap₂ with_subcommand c.in_ok-playing.ensures (ap top c.new-3.ensures.app) in
    let show_is = c.in_ok-mirroring.ensures.shape (search rules) ∙ ap₂ with_subcommand mirror_is (ap top c.new-4.ensures.app) in
    IfOk-weaker c.subcommand-3.result _ _
    (λ made adds. adds.shape (search rules) ∙ ap₂ with_subcommand show_is (ap top drawn_is)) c.subcommand-3.ensures
