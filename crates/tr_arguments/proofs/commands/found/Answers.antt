use Rattle.std.proofs.Common.{◌∙◌, option_map}
use Rattle.clap.specs.Words.{found_of}
use Rattle.tr_arguments.proofs.FoundLemmas.{found_command}
use Rattle.tr_arguments.proofs.commands.found.Goals as goal

pub returns-in-Some : goal.returns-in-Some
returns-in-Some c =
    let found = c.in-Some.ensures in
    c.named.ensures
    ∙ found_command c.args.matches.now c.in-Some.name.now (found_of c.in-Some.inner.now) (option_map (λ word. word.now) c.get_str.result)
    found.name found.rows c.get_str.ensures
