use Rattle.std.proofs.Common.{◌≡◌, ◌*◌, length, refl, arith}
use Rattle.tr_screen.proofs.ReadingLemmas.{run_read}
use Rattle.tr_screen.proofs.screens.Screen.run.Goals as goal

pub returns-clause-pixels : goal.returns-clause-pixels
returns-clause-pixels c =
    let s = c.self.inside in
    let long : length s.pixels.items ≡ s.size.high * s.size.wide = omega (arith, s.pixels.ok.0) in
    let h = rw (← c.self.view_is) at c.requires in
    rw (← c.self.view_is, c.deref.ensures.value)
    (run_read s.size s.kind s.pixels.items c.args.run h long _ _ _ c.start_of-start.ensures.value c.width_of-count.ensures.value refl)
