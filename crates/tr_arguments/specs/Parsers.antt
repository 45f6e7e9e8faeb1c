-- Private contracts alone cite this file.
-- The parser of the words, and its findings.
use Rattle.std.specs.Prelude.{ℕ, ◌==◌, Bool, true, List, [], ◌∷◌, Option, Some, None, codes, slice_index, option_and_then}
use Rattle.clap.specs.Walk.{Row, Rule, Text, first_of}
use Rattle.clap.specs.Simple.{App, new_app, new_rule, new_shape, on_top, with_rule, with_subcommand}
use Rattle.tr_arguments.specs.declared.commands.Command.{Command}
use Rattle.tr_arguments.specs.Commands.{command_of}

-- the word begins with a hyphen (45)
abbrev pub is_flag : List ℕ → Bool
is_flag word = slice_index word 0 == 45

-- the one argument of `gen`, which it must have
abbrev pub number_rule : Rule
number_rule = record (new_rule (codes "number")) { required = true }

-- the program's words without its name: no flags, no `help`, and one of the subcommands
abbrev pub bare_words : App
bare_words = on_top (λ s. record s {
  no_binary_name = true;
  disable_help_flag = true;
  disable_help_subcommand = true;
  subcommand_required = true;
}) (new_app (codes "trestle"))

abbrev pub gen : App
gen = with_rule (new_app (codes "gen")) number_rule

-- a subcommand with nothing after its name
abbrev pub with_command_name : App → Text → App
with_command_name app name = with_subcommand app (new_shape name)

-- the subcommands that take a script and play it
abbrev pub playing : App
playing = with_command_name (with_command_name (with_command_name bare_words (codes "play")) (codes "serial")) (codes "check")

-- the whole parser
abbrev pub parser : App
parser = with_subcommand (with_command_name (with_command_name playing (codes "mirror")) (codes "show")) gen.top

-- a word, if there is one, as a list
abbrev pub words_of_option : Option Text → List Text
words_of_option None = []
words_of_option (Some word) = word ∷ []

-- the words of a subcommand and its number
abbrev pub words_found : Text × List Row → List Text
words_found found = found.0 ∷ words_of_option (first_of (codes "number") found.1)

-- the command of a subcommand, if one was found
abbrev pub command_of_found : Option (Text × List Row) → Option Command
command_of_found found = option_and_then (λ f. command_of (words_found f)) found
