use Rattle.std.proofs.Common.{List, refl, sym, subst}
use Rattle.tr_base.specs.Rects.{Edges}
use Rattle.tr_screen.specs.Runs.{Repaints}
use Rattle.tr_spot.specs.Spots.{spot}
use Rattle.tr_surface.specs.Surfaces.{IsShown, Shown, any_holds, frame_colour}
use Rattle.tr_surface.specs.Frames.{AreBadFrames, AreGoodFrames}
use Rattle.tr_surface.proofs.ShownLemmas.{stays_shown}
use Rattle.tr_surface.proofs.FrameLemmas.{AreRepaired, frames_own, repaired}
use Rattle.tr_surface.proofs.surfaces.Surface.paint_frame.Goals as goal

pub invariant_of-self : goal.invariant_of-self
invariant_of-self c =
    let s : Shown = record { tree = c.self.inside.tree; screen = c.self.inside.screen; good = c.self.inside.good.items } in
    let good = subst (λ (w : Shown). AreGoodFrames w c.in-Ok.good.items) (sym c.self.view_is) c.in-Ok.ensures in (
      stays_shown c.self.inside.tree c.self.inside.good.items c.in-Ok.good.items c.self.inside.screen c.paint_frames.new.screen c.self.invariant.0
          c.paint_frames.ensures.size c.paint_frames.ensures.kind (frames_own s c.self.invariant.0 c.in-Ok.good.items good),
      c.self.invariant.1,
    )

all_repaired : (c : goal.After-drop-self-inside) →
    AreRepaired c.args.self.now (record { tree = c.self.inside.tree; screen = c.paint_frames.new.screen; good = c.in-Ok.good.items })
all_repaired c =
    let s : Shown = record { tree = c.self.inside.tree; screen = c.self.inside.screen; good = c.self.inside.good.items } in
    let new : Shown = record { tree = c.self.inside.tree; screen = c.paint_frames.new.screen; good = c.in-Ok.good.items } in
    let good : AreGoodFrames s c.in-Ok.good.items = subst (λ (w : Shown). AreGoodFrames w c.in-Ok.good.items) (sym c.self.view_is) c.in-Ok.ensures in
    let are : AreBadFrames s c.in_ok-frames.frames.items =
    subst (λ (t : Shown). AreBadFrames t c.in_ok-frames.frames.items) (sym c.self.view_is) c.in_ok-frames.ensures in
    let after : IsShown new = (invariant_of-self c).0 in
    let painted = subst (λ (frames : List (List Edges)). Repaints (any_holds frames) (λ p. frame_colour (spot s.tree p)) s.screen c.paint_frames.new.screen)
    c.deref.ensures.value c.paint_frames.ensures in
    subst (λ (t : Shown). AreRepaired t new) c.self.view_is
    (repaired s new c.self.invariant.0 after refl good c.in_ok-frames.frames.items are painted)

pub returns-clause-bad : goal.returns-clause-bad
returns-clause-bad c = (all_repaired c).bad_is

pub returns-clause-painted : goal.returns-clause-painted
returns-clause-painted c = (all_repaired c).painted

pub returns-clause-others : goal.returns-clause-others
returns-clause-others c = (all_repaired c).others
