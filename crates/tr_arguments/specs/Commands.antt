-- The command that the words after the program's name ask for.
use Rattle.std.specs.Prelude.{ℕ, List, [], ◌∷◌, Option, Some, None, if◌then◌else◌, bytes_eq, codes, map, String, string_bytes}
use Rattle.std.specs.declared.alloc.Global.{Global}
use Rattle.tr_grammar.specs.Words.{is_number, nat_of}
use Rattle.tr_arguments.specs.declared.commands.Command.{Command}
use Rattle.tr_arguments.specs.declared.commands.Command.TheVariants.{Play, Serial, Check, Mirror, Show, Gen}

-- the bytes of each word
abbrev pub texts_of : List (String Global) → List (List ℕ)
texts_of words = map string_bytes words

-- the command of one word alone
abbrev pub alone : List ℕ → Option Command
alone word =
    if bytes_eq word (codes "play") then Some Play
    else (if bytes_eq word (codes "serial") then Some Serial
    else (if bytes_eq word (codes "check") then Some Check
    else (if bytes_eq word (codes "mirror") then Some Mirror
    else (if bytes_eq word (codes "show") then Some Show
    else None))))

-- the command for the script of a number, which has one spelling
abbrev pub gen_of_number : List ℕ → Option Command
gen_of_number number = if is_number 0 4294967295 number then Some (Gen (nat_of number)) else None

-- the command of two words: `gen` and a number
abbrev pub with_number : List ℕ → List ℕ → Option Command
with_number word number = if bytes_eq word (codes "gen") then gen_of_number number else None

-- the command of a list of words, if it is an accepted one
abbrev pub command_of : List (List ℕ) → Option Command
command_of (word ∷ []) = alone word
command_of (word ∷ number ∷ []) = with_number word number
command_of _ = None
