use Rattle.std.proofs.Common.{◌∙◌, sym}
use Rattle.clap.specs.Words.{app_of}
use Rattle.tr_arguments.specs.Commands.{texts_of}
use Rattle.tr_arguments.proofs.FlagLemmas.{texts_plain}
use Rattle.tr_arguments.proofs.ParserLemmas.{refused, taken}
use Rattle.tr_arguments.proofs.commands.parse.Goals as goal

pub returns-in-Ok : goal.returns-in-Ok
returns-in-Ok c =
    let words = c.args.words.now in
    c.found.ensures
    ∙ taken (app_of c.in_ok-parser.parser) (texts_of words) c.in-Ok.matches c.in_ok-parser.ensures (sym (texts_plain words) ∙ c.requires)
    c.in-Ok.ensures.kinds c.in-Ok.ensures.matches

pub returns : goal.returns
returns c =
    let words = c.args.words.now in
    refused (app_of c.in_ok-parser.parser) (texts_of words) c.in-Err.error c.in_ok-parser.ensures (sym (texts_plain words) ∙ c.requires)
    c.in-Err.ensures.kinds (λ e. c.in_default.not-OutOfMemory (c.kind.ensures ∙ e))
