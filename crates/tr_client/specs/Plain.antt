-- Pictures of two colours.
use Rattle.std.specs.Prelude.{ℕ, Bool, if◌then◌else◌}
use Rattle.tr_base.specs.declared.Pair.{Pair}
use Rattle.tr_base.specs.declared.Op.TheVariants.{Bg, Fg}

-- the background for a bit that is 0, and the foreground for a bit that is 1
abbrev pub plain : Pair
plain = record { zero = Bg; one = Fg }

-- the colour of a bit in such a picture
abbrev pub colour_of : Bool → ℕ
colour_of bit = if bit then 1 else 0
