use Rattle.std.proofs.Common.{◌≡◌, ℕ, true, length, subst, sym, ap, ◌∙◌}
use Rattle.std.specs.Prelude.{IfOk, slice_index}
use Rattle.std.proofs.lemmas.Bool.{and_from}
use Rattle.std.proofs.lemmas.Result.{IfOk-weaker}
use Rattle.tr_base.specs.declared.Point.{Point}
use Rattle.tr_base.specs.Rects.{has_point, meet_of, whole_of, IsScreenSize}
use Rattle.tr_base.proofs.RectLemmas.{has_point-meet_of}
use Rattle.tr_region.specs.Points.{holds}
use Rattle.tr_paint.specs.Traces.{after, look_of}
use Rattle.tr_exec.specs.Executions.{IsOrigin, base_of, screen_point}
use Rattle.tr_exec.proofs.PlacedLemmas.{before-placed}
use Rattle.tr_sketch.proofs.SketchLemmas.{IsAside, IsSmall, aside_area, aside_held, aside_is, aside_place, small_domain, small_origin}
use Rattle.tr_sketch.proofs.sketches.painted.Goals as goal

pub size_of-sides-requires : goal.size_of-sides-requires
size_of-sides-requires g c =
    small_domain c.args.part.now (record { rect = c.invariant.ensures; near = c.requires.near; room = c.requires.room })

pub blank-requires : goal.blank-requires
blank-requires g c = subst IsScreenSize (sym c.size_of-sides.ensures) c.requires.room

pub execute-executed-requires-clause-origin : goal.execute-executed-requires-clause-origin
execute-executed-requires-clause-origin g c =
    subst IsOrigin (sym c.from_corner-origin.ensures)
    (small_origin c.args.part.now (record { rect = c.invariant.ensures; near = c.requires.near; room = c.requires.room }))

pub returns-clause-many : goal.returns-clause-many
returns-clause-many g c =
    let part = c.args.part.now in
    let all = c.in_ok-all.all in
    let origin = c.from_corner-origin.result in
    let small : IsSmall part = record { rect = c.invariant.ensures; near = c.requires.near; room = c.requires.room } in
    let aside : IsAside part all origin = aside_is part c.whole.result all origin c.size_of-sides.result small
    c.size_of-sides.ensures c.whole.ensures.edges c.in_ok-all.ensures.one c.from_corner-origin.ensures in
    subst (λ n. IfOk c.pixels_at-pixels.result (λ v. length v.items ≡ n)) (aside_area part all origin aside) c.pixels_at-pixels.ensures.many

pub returns-clause-colours : goal.returns-clause-colours
returns-clause-colours g c =
    let part = c.args.part.now in
    let all = c.in_ok-all.all in
    let origin = c.from_corner-origin.result in
    let small : IsSmall part = record { rect = c.invariant.ensures; near = c.requires.near; room = c.requires.room } in
    let aside : IsAside part all origin = aside_is part c.whole.result all origin c.size_of-sides.result small
    c.size_of-sides.ensures c.whole.ensures.edges c.in_ok-all.ensures.one c.from_corner-origin.ensures in
    let look = look_of c.args.env.now.kind c.args.env.now.font.now in
    let base = base_of origin all c.empty-unknown.result c.in-Ok.screen in
    let batch = c.in_ok-painting.painting in
    let picture : Point → ℕ = λ q. g.C.Client.pic look c.args.size c.args.content.now q in
    IfOk-weaker c.pixels_at-pixels.result _ _
    (λ v pixels q has.
    let there : Point = screen_point origin q in
    let held : holds all there ≡ true = aside_held part all origin aside q has in
    let inside : has_point (meet_of (whole_of c.args.size) part) q ≡ true =
    has_point-meet_of (whole_of c.args.size) part q ∙ and_from _ _ (c.requires.within q has) has in
    ap (λ n. slice_index v.items n) (sym (aside_place part all origin aside q))
    ∙ pixels there held
    ∙ c.in-Ok-executed.ensures.known there (picture q) held
    (ap (λ (r : Point). after look base batch r) (before-placed origin q) ∙ c.in_ok-painting.ensures.painting.shows base q held inside))
    c.pixels_at-pixels.ensures.pixels
