use Rattle.std.proofs.Common.{◌≡◌, ◌++◌, flat_map}
use Rattle.std.specs.List.{range_with_len}
use Rattle.tr_screen.specs.Pictures.{pixel_of}
use Rattle.tr_screen.specs.Readings.{row_in, run_by}
use Rattle.tr_screen.proofs.screens.Screen.append_rect.Given as goal

-- the rows before n are read
abbrev pub invariant-loop-n : goal.invariant-loop-n
invariant-loop-n l = l.pixels.items ≡ l.fn.pixels.items ++ flat_map (λ n. run_by (pixel_of l.self) (row_in l.rect n)) (range_with_len 0 l.n)
