-- Lists of tests, and lists of lists.
use Rattle.std.specs.Prelude.{Bool, List, [], ◌∷◌, ◌++◌, Option, Some, None, if◌then◌else◌}

-- the first of these whose test is true
abbrev pub first_true : {A : Type 0} → List (A × Bool) → Option A
first_true [] = None
first_true (tested ∷ later) = if tested.1 then Some tested.0 else first_true later

-- all of these lists, one after another
abbrev pub joined : {A : Type 0} → List (List A) → List A
joined [] = []
joined (list ∷ lists) = list ++ joined lists
