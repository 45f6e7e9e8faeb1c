use Rattle.std.proofs.Common.{◌≡◌, ◌<◌, min, ap, arith}
use Rattle.tr_base.specs.declared.sizes.Size.{Size}
use Rattle.tr_screen.proofs.ResizingLemmas.{common_more}
use Rattle.tr_screen.proofs.screens.Screen.copy_common.Goals as goal

pub loop-v-preserved : goal.loop-v-preserved
loop-v-preserved c =
    let own = c.args.self.now.size in
    let other = c.args.other.now.size in
    let own_wide : c.size-own.result.wide ≡ own.wide = ap (λ (s : Size). s.wide) c.size-own.ensures.value in
    let other_wide : c.size-size.result.wide ≡ other.wide = ap (λ (s : Size). s.wide) c.size-size.ensures.value in
    let other_high : c.size-size.result.high ≡ other.high = ap (λ (s : Size). s.high) c.size-size.ensures.value in
    let wide : c.min-wide.result ≡ min own.wide other.wide = omega arith in
    let below : c.loop-v.v < other.high = omega arith in
    common_more c.args.other.now c.args.self.now c.loop-v.self c.copy_run.new.self c.loop-v.v
    c.min-wide.result wide below c.loop-v.invariant (rw (c.row_start.ensures) at c.copy_run.ensures)
