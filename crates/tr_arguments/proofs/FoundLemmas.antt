-- What the matches of a parse say of the subcommand that was found.
use Rattle.std.proofs.Common.{◌≡◌, List, ◌∷◌, Option, Some, None, option_map, refl, ap, ap₂, ◌∙◌, codes}
use Rattle.std.specs.Prelude.{Box}
use Rattle.std.specs.Box.{box_value}
use Rattle.clap.specs.Walk.{Row, Text, rows_of}
use Rattle.clap.specs.Simple.{subcommand_rows, subcommand_rows_of}
use Rattle.clap.specs.Matches.{first_value, found_of, subcommand_name_of}
use Rattle.clap.specs.declared.parser.matches.ArgMatches.{ArgMatches}
use Rattle.clap.specs.declared.parser.matches.ArgMatches.TheViews.{out-ArgMatches, out-SubCommand}
use Rattle.clap.specs.declared.parser.matches.SubCommand.{SubCommand}
use Rattle.clap.specs.declared.parser.matches.Found.{Found}
use Rattle.clap.proofs.WalkLemmas.{first_value-rows}
use Rattle.tr_arguments.specs.Commands.{command_of}
use Rattle.tr_arguments.specs.Parsers.{command_of_found, words_of_option}

module _ {Z : Type 0} where
  rows_found : (sub : Option (Box SubCommand Z)) (name : Text) (rows : List Row) →
      Some name ≡ option_map (λ b. (out-SubCommand (box_value b)).name.now) sub →
      Some rows ≡ option_map (λ p. p.1) (subcommand_rows sub) → Some (name, rows) ≡ subcommand_rows sub
  rows_found None name rows e f = cc
  rows_found (Some b) name rows e f =
      let same_name : name ≡ (out-SubCommand (box_value b)).name.now = cc in
      let same_rows : rows ≡ rows_of (found_of (out-SubCommand (box_value b)).matches) = cc in
      ap₂ (λ (n : Text) (r : List Row). Some (n, r)) same_name same_rows

-- a subcommand's name and number are what was found
pub found_command : (m : ArgMatches) (name : Text) (inner : Found) (number : Option Text) →
    Some name ≡ subcommand_name_of m → Some (rows_of inner) ≡ option_map (λ p. p.1) (subcommand_rows (out-ArgMatches m).subcommand) →
    number ≡ first_value inner (codes "number") → command_of (name ∷ words_of_option number) ≡ command_of_found (subcommand_rows_of m)
found_command m name inner number e f g =
    ap (λ (n : Option Text). command_of (name ∷ words_of_option n)) (g ∙ first_value-rows inner (codes "number"))
    ∙ ap command_of_found (rows_found (out-ArgMatches m).subcommand name (rows_of inner) e f)

-- and none is found where there is no subcommand
pub nothing_found : (m : ArgMatches) → None ≡ subcommand_name_of m → None ≡ command_of_found (subcommand_rows_of m)
nothing_found m e = go (out-ArgMatches m).subcommand e
  where
    go : {Z : Type 0} (sub : Option (Box SubCommand Z)) → None ≡ option_map (λ b. (out-SubCommand (box_value b)).name.now) sub →
        None ≡ command_of_found (subcommand_rows sub)
    go None e = refl
    go (Some b) e = cc
