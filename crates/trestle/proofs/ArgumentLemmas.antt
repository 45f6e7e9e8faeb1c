-- What follows of the arguments that the system handed out, and of what they ask for.
use Rattle.std.proofs.Common.{◌≡◌, ℕ, List, drop, Result, Ok, Option, Some, None, String, Global, sym, subst}
use Rattle.std.specs.Prelude.{IfSome}
use Rattle.std.specs.declared.vec.IntoIter.{IntoIter}
use Rattle.std.specs.Vec.Iter.{into_iter_items}
use Rattle.std.specs.declared.io.Error.{Error}
use Rattle.tr_arguments.specs.declared.Command.{Command}
use Rattle.tr_arguments.specs.declared.Command.TheVariants as commands
use Rattle.tr_arguments.specs.Commands.{texts_of}
use Rattle.tr_player.specs.Answers.{OfNumber}
use Rattle.trestle.specs.Arguments.{heard}

-- what the system hands out: the arguments, or why there are none
abbrev pub Handed : Type 0
Handed = Result (IntoIter (String Global) Global) Error

-- what holds of all words holds of those that are heard
pub of_any : (P : List (List ℕ) → Type 0) (words : Option (List (List ℕ))) → ((ws : List (List ℕ)) → P ws) → IfSome words P
of_any P None p = tt
of_any P (Some ws) p = p ws

-- what holds of the words after the first holds of those that are heard, where the system handed out arguments
pub of_heard : (P : List (List ℕ) → Type 0) (handed : Handed) (all : IntoIter (String Global) Global) (words : List (String Global)) → handed ≡ Ok all →
    words ≡ drop 1 (into_iter_items all) → P (texts_of words) → IfSome (heard handed) P
of_heard P handed all words is rest p =
    subst (λ (x : Handed). IfSome (heard x) P) (sym is) (subst (λ (ws : List (String Global)). P (texts_of ws)) rest p)

-- the first of two facts of a number that is summed up
pub first_of_number : (asked : Option Command) (P Q : ℕ → Type 0) → OfNumber asked (λ number. P number × Q number) → OfNumber asked P
first_of_number (Some (commands.Gen number)) P Q h = h.0
first_of_number asked P Q h = tt
