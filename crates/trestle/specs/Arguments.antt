-- The arguments that the system gives the program, and its end without them.
use Rattle.std.specs.Prelude.{ℕ, List, drop, Option, Some, None, Result, Ok, Err, String}
use Rattle.std.specs.declared.alloc.Global.{Global}
use Rattle.std.specs.declared.vec.IntoIter.{IntoIter}
use Rattle.std.specs.Vec.Iter.{into_iter_items}
use Rattle.std.specs.IoError.{error_kind}
use Rattle.std.specs.declared.io.Error.{Error}
use Rattle.std.specs.declared.io.ErrorKind.{ErrorKind}
use Rattle.std.specs.declared.io.ErrorKind.TheVariants.{OutOfMemory}
use Rattle.tr_player.specs.declared.statuses.Status.TheVariants.{NoMemory}
use Rattle.tr_player.specs.Statuses.{code}
use Rattle.tr_arguments.specs.Commands.{texts_of}

-- the status if the system refused the program its arguments
abbrev pub refused_status : ℕ
refused_status = 7

-- the end of the program if the system gave it no arguments: for want of memory, or for any other cause, as an argument that
-- is no text
abbrev pub status_without : ErrorKind → ℕ
status_without OutOfMemory = code NoMemory
status_without kind = refused_status

-- the same, if the arguments may have been given
abbrev pub status_unheard : Result (IntoIter (String Global) Global) Error → Option ℕ
status_unheard (Ok all) = None
status_unheard (Err e) = Some (status_without (error_kind e))

-- the arguments of the call, each as its bytes: those after the program's name
abbrev pub heard : Result (IntoIter (String Global) Global) Error → Option (List (List ℕ))
heard (Ok all) = Some (texts_of (drop 1 (into_iter_items all)))
heard (Err e) = None
