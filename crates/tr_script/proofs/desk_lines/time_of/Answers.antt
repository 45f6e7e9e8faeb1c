use Rattle.std.proofs.Common.{◌≡◌, Bool, true, false, not, refl, sym}
use Rattle.tr_script.proofs.desk_lines.time_of.Goals as goal

is_true : (b : Bool) → not b ≡ false → b ≡ true
is_true true e = refl
is_true false e = sym e

pub returns-clause-here : goal.returns-clause-here
returns-clause-here c = is_true _ c.in-Ok.ensures.0
