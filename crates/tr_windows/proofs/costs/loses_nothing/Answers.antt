use Rattle.std.proofs.Common.{◌≡◌, false, sym, subst, ◌∙◌}
use Rattle.tr_paint.specs.declared.Scrolls.{Scrolls}
use Rattle.tr_paint.specs.declared.Scrolls.TheVariants.{Absent, Alike}
use Rattle.tr_paint.specs.Sums.{AreScrolls, has_spoil}
use Rattle.tr_windows.proofs.LossLemmas.{loses-alike}
use Rattle.tr_windows.proofs.costs.loses_nothing.Goals as goal

pub returns-in-Absent : goal.returns-in-Absent
returns-in-Absent c = λ yes.
    let cs = c.args.batch.now in
    let none : has_spoil cs ≡ false = sym c.has_spoil.ensures ∙ c.if-has_spoil.false in
    loses-alike c.args.exposure.now Absent cs tt none (subst (λ (s : Scrolls). AreScrolls s cs) c.in-Absent.is c.scrolls.ensures.scrolls)

pub returns-in-Alike : goal.returns-in-Alike
returns-in-Alike c = λ yes.
    let cs = c.args.batch.now in
    let none : has_spoil cs ≡ false = sym c.has_spoil.ensures ∙ c.if-has_spoil.false in
    loses-alike c.args.exposure.now (Alike c.in-Alike.clip c.in-Alike.delta) cs
    (c.spares_scroll.ensures.whole yes, c.spares_scroll.ensures.own yes) none
    (subst (λ (s : Scrolls). AreScrolls s cs) c.in-Alike.is c.scrolls.ensures.scrolls)
