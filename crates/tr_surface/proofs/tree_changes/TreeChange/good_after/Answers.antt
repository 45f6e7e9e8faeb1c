use Rattle.std.proofs.Common.{◌≡◌, Bool, false, ◌&&◌, List, sym, ap, ◌∙◌, arith}
use Rattle.std.proofs.lemmas.Result.{IfOk-weaker}
use Rattle.tr_base.specs.Rects.{Edges, before_shift}
use Rattle.tr_region.specs.Points.{holds}
use Rattle.tr_tree.specs.Places.{domain}
use Rattle.tr_spot.specs.Spots.{from_corner, is_spot_of, region_of, spot}
use Rattle.tr_spot.proofs.WayLemmas.{and_left}
use Rattle.tr_surface.specs.Survivors.{goes_on, has_survivor, survivors_from, way_from}
use Rattle.tr_surface.proofs.TreeChangeLemmas.{goes_on_is}
use Rattle.tr_surface.proofs.tree_changes.TreeChange.good_after.Goals as goal

none_good : (held rest own : Bool) → held ≡ false → false ≡ ((held && rest) && own)
none_good held rest own h = sym (ap (λ b. (b && rest) && own) h)

pub returns-then-is_empty : goal.returns-then-is_empty
returns-then-is_empty g c = λ p.
    let s = c.args.self.now in
    let k = g.K.Keeper.keeping c.args.keeper.now in
    let by = way_from s.was.now s.is.now s.moved c.args.n in
    ap (λ (r : List Edges). holds r p) c.empty.ensures
    ∙ none_good (holds (region_of s.good.now c.args.n) (before_shift p by))
    (has_survivor k (survivors_from s.was.now s.is.now by c.args.n) (from_corner (domain s.is.now c.args.n) p))
    (is_spot_of s.is.now c.args.n (spot s.is.now p))
    (sym (ap (λ (r : List Edges). holds r (before_shift p by)) c.good_before.ensures) ∙ c.is_empty.ensures.points.0 c.if-is_empty.true (before_shift p by))

pub own-requires-clause-part : goal.own-requires-clause-part
own-requires-clause-part g c = λ p h.
    let s = c.args.self.now in
    let k = g.K.Keeper.keeping c.args.keeper.now in
    let by = way_from s.was.now s.is.now s.moved c.args.n in
    let left : holds c.in_ok-left.left p ≡ goes_on k s.was.now s.is.now s.moved s.good.now c.args.n p =
    goes_on_is k s.was.now s.is.now s.moved s.good.now c.args.n c.way-by.result c.survivors-survivors.result (holds c.in_ok-left.left p) p
    c.way-by.ensures.value c.survivors-survivors.ensures.value (c.in_ok-left.ensures p) in
    s.sides.own.points c.args.n (before_shift p by) (record { within = omega (arith, c.requires.node.within, s.sides.count) })
    (and_left (holds (region_of s.good.now c.args.n) (before_shift p by)) _ (sym left ∙ h))

pub returns : goal.returns
returns g c = IfOk-weaker c.own.result _ _ (λ r h p.
    let s = c.args.self.now in
    let k = g.K.Keeper.keeping c.args.keeper.now in
    let left : holds c.in_ok-left.left p ≡ goes_on k s.was.now s.is.now s.moved s.good.now c.args.n p =
    goes_on_is k s.was.now s.is.now s.moved s.good.now c.args.n c.way-by.result c.survivors-survivors.result (holds c.in_ok-left.left p) p
    c.way-by.ensures.value c.survivors-survivors.ensures.value (c.in_ok-left.ensures p) in
    h p ∙ ap (λ b. b && is_spot_of s.is.now c.args.n (spot s.is.now p)) left) c.own.ensures
