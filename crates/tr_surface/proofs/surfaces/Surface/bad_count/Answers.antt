use Rattle.std.proofs.Common.{◌≡◌, ◌≤◌, ◌+◌, ◌*◌, ℕ, List, length, sym, ap, subst, ◌∙◌, arith}
use Rattle.std.proofs.Math.Nat.{mul_comm}
use Rattle.tr_base.specs.declared.Size.{Size}
use Rattle.tr_base.specs.Rects.{Edges}
use Rattle.tr_region.specs.Points.{count_in_square}
use Rattle.tr_exec.proofs.SiteLemmas.{on_greatest}
use Rattle.tr_surface.specs.Counts.{count_on}
use Rattle.tr_surface.specs.Surfaces.{AreOwn, IsShown, Shown}
use Rattle.tr_surface.proofs.BadLemmas.{in_square, square_count}
use Rattle.tr_surface.proofs.CountLemmas.{count_end, count_more, count_none, item_on, left_after}
use Rattle.tr_surface.proofs.surfaces.Surface.bad_count.Goals as goal

pub loop-region-init : goal.loop-region-init
loop-region-init c =
    let s = c.args.self.now in
    ap (λ x. x * c.from-2.result) c.from.ensures
    ∙ ap (λ y. c.size-size.result.wide * y) c.from-2.ensures
    ∙ ap (λ (z : Size). z.wide * z.high) (c.size-size.ensures ∙ ap (λ (w : Shown). w.tree.size) c.self.view_is)
    ∙ mul_comm s.tree.size.wide s.tree.size.high
    ∙ sym (count_none s.tree c.deref-region-items.result.now)

pub count-requires : goal.count-requires
count-requires c =
    let size = c.invariant.ensures.screen in
    let items = c.deref-region-items.result.now in
    let own : AreOwn c.self.inside.tree items =
    subst (λ (g : List (List Edges)). AreOwn c.self.inside.tree g) (sym c.deref-region-items.ensures.value) c.self.invariant.0.own in
    in_square c.region-item.result c.invariant-in-loop-region.ensures
    (on_greatest c.self.inside.tree.size c.region-item.result
    (record { some_wide = size.some_wide; wide = size.wide; some_high = size.some_high; high = size.high })
    (item_on c.self.inside.tree c.invariant.ensures.forest items own c.loop-region.region-index c.region-item.result c.loop-region-test.true c.region-item.is))

few : (n : ℕ) (region : List Edges) → n ≡ count_in_square 1024 region → n ≤ 1048576
few n region e = subst (λ (m : ℕ). m ≤ 1048576) (sym e) (square_count region)

pub overflow_cast-count : goal.overflow_cast-count
overflow_cast-count c =
    let least : c.count.result ≤ 1048576 = few c.count.result c.region-item.result c.count.ensures in
    omega (arith, least)

-- one region's points less
taken : (c : goal.After-count) → c.loop-region.count
    ≡ count_on c.args.self.now.tree.size (left_after c.args.self.now.tree c.deref-region-items.result.now (c.loop-region.region-index + 1))
    + c.count.result
taken c =
    let s = c.args.self.now in
    let items = c.deref-region-items.result.now in
    let shown : IsShown s = subst (λ (w : Shown). IsShown w) c.self.view_is c.self.invariant.0 in
    let same : items ≡ s.good = c.deref-region-items.ensures.value ∙ ap (λ (w : Shown). w.good) c.self.view_is in
    let own : AreOwn s.tree items = subst (λ (g : List (List Edges)). AreOwn s.tree g) (sym same) shown.own in
    c.loop-region.invariant
    ∙ count_more s.tree shown.forest
    (subst (λ (w : Shown). w.tree.size.wide ≤ 1024) c.self.view_is c.invariant.ensures.screen.wide)
    (subst (λ (w : Shown). w.tree.size.high ≤ 1024) c.self.view_is c.invariant.ensures.screen.high)
    items own c.loop-region.region-index c.region-item.result c.loop-region-test.true c.region-item.is
    ∙ ap (λ n. count_on s.tree.size (left_after s.tree items (c.loop-region.region-index + 1)) + n) (sym c.count.ensures)

pub overflow_sub-count : goal.overflow_sub-count
overflow_sub-count c = let all = taken c in omega (arith, all)

pub loop-region-preserved : goal.loop-region-preserved
loop-region-preserved c = let all = taken c in omega (arith, all)

pub returns : goal.returns
returns c =
    let s = c.args.self.now in
    let same : c.deref-region-items.result.now ≡ s.good = c.deref-region-items.ensures.value ∙ ap (λ (w : Shown). w.good) c.self.view_is in
    c.loop-region.invariant
    ∙ ap (λ (g : List (List Edges)). count_on s.tree.size (left_after s.tree g c.loop-region.region-index)) same
    ∙ count_end s c.loop-region.region-index (subst (λ (g : List (List Edges)). length g ≤ c.loop-region.region-index) same c.loop-region-test.false)
