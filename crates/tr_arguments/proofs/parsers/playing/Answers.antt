use Rattle.std.proofs.Common.{◌≡◌, ◌∙◌, rules, ap, ap₂, true}
use Rattle.std.proofs.lemmas.Result.{IfOk-weaker}
use Rattle.clap.specs.Words.{App, Shape, app_of, with_subcommand}
use Rattle.clap.specs.Simple.{app_of_fields, on_top}
use Rattle.tr_arguments.specs.Parsers.{bare_words}
use Rattle.tr_arguments.proofs.parsers.playing.Goals as goal

pub returns : goal.returns
returns c =
    let top : App → Shape = λ a. a.top in
    let no_name : App → App = on_top (λ s. record s { no_binary_name = true }) in
    let no_flag : App → App = on_top (λ s. record s { disable_help_flag = true }) in
    let no_help : App → App = on_top (λ s. record s { disable_help_subcommand = true }) in
    let needs : App → App = on_top (λ s. record s { subcommand_required = true }) in
    let bare_is : app_of c.subcommand_required-bare.result ≡ bare_words =
    ap app_of_fields c.subcommand_required-bare.ensures ∙ ap needs
    (ap app_of_fields c.disable_help_subcommand.ensures ∙ ap no_help
    (ap app_of_fields c.disable_help_flag.ensures ∙ ap no_flag
    (ap app_of_fields c.no_binary_name.ensures ∙ ap no_name c.new.ensures.app)))
    in
    let play_is = c.in_ok-subcommand.ensures.shape (search rules) ∙ ap₂ with_subcommand bare_is (ap top c.new-2.ensures.app) in
    let serial_is = c.in_ok-subcommand-2.ensures.shape (search rules) ∙ ap₂ with_subcommand play_is (ap top c.new-3.ensures.app) in
    IfOk-weaker c.subcommand-3.result _ _
    (λ made adds. adds.shape (search rules) ∙ ap₂ with_subcommand serial_is (ap top c.new-4.ensures.app)) c.subcommand-3.ensures
