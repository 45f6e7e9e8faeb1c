-- The numbers of names. The names of nodes and leaves are in the order of the lines that declare them.
use Rattle.std.specs.Prelude.{ℕ, ◌+◌, List, [], ◌∷◌, Option, Some, None, bytes_eq, if◌then◌else◌}
use Rattle.std.specs.Option.{option_map, unwrap_or}
use Rattle.tr_journal.specs.Names.{Names}

-- no node and no leaf has a name
abbrev pub no_names : Names
no_names = record { nodes = []; leaves = [] }

-- the number of a name in this list, if it is there: the count of names before it
abbrev pub number_of : List (List ℕ) → List ℕ → Option ℕ
number_of [] w = None
number_of (n ∷ ns) w = if bytes_eq n w then Some 0 else option_map (λ k. k + 1) (number_of ns w)

-- the number of a name that is in this list
abbrev pub numbered : List (List ℕ) → List ℕ → ℕ
numbered ns w = unwrap_or (number_of ns w) 0
