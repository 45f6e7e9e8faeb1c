use Rattle.std.proofs.Common.{◌≡◌, subst, sym, ◌∙◌, arith}
use Rattle.tr_base.specs.Layouts.{IsDomain}
use Rattle.tr_forest.specs.Nodes.{IsNode}
use Rattle.tr_forest.proofs.FamilyLemmas.{parent_is_node}
use Rattle.tr_tree.specs.Places.{domain}
use Rattle.tr_tree.specs.Wishes.{shape}
use Rattle.tr_tree.specs.Laying.{laid}
use Rattle.tr_tree.proofs.LayLemmas.{domain_read}
use Rattle.tr_tree.proofs.StayLemmas.{child_has, domain_small, domains_of_all, laid_below, parent_has, shape_read}
use Rattle.tr_tree.proofs.layouts.Layout.place_moved.Goals as goal

pub index-requires : goal.index-requires
index-requires c =
    let up = sym c.parent.ensures ∙ c.in-Some.is in
    let node_is : IsNode c.args.forest.now c.in-Some.parent =
    parent_is_node c.args.forest.now c.args.child c.in-Some.parent c.invariant.ensures up in
    omega (arith, node_is.within, c.requires.places.domains)

pub preferred_place-place-requires-clause-domain : goal.preferred_place-place-requires-clause-domain
preferred_place-place-requires-clause-domain c =
    let t = c.args.forest.now in
    let up = sym c.parent.ensures ∙ c.in-Some.is in
    let inside : IsNode t c.in-Some.parent = parent_is_node t c.args.child c.in-Some.parent c.invariant.ensures up in
    let has = parent_has t c.args.size c.args.self.now c.args.child c.in-Some.parent c.invariant.ensures up c.requires.others in
    subst IsDomain
    (sym (domain_read (laid t c.args.size) c.in-Some.parent c.args.self.now.domains.items c.from.result c.index.result.now
    (omega (arith, inside.within, c.requires.places.domains)) c.from.ensures c.index.ensures has.right))
    (domain_small t c.args.size c.in-Some.parent c.args.self.now.domains.items c.invariant.ensures has)

pub lay-requires-clause-own : goal.lay-requires-clause-own
lay-requires-clause-own c =
    let t = c.args.forest.now in
    let l = c.args.self.now in
    let parent = c.in-Some.parent in
    let up = sym c.parent.ensures ∙ c.in-Some.is in
    let inside : IsNode t parent = parent_is_node t c.args.child parent c.invariant.ensures up in
    let has = parent_has t c.args.size l c.args.child parent c.invariant.ensures up c.requires.others in
    let here : c.index.result.now ≡ domain (laid t c.args.size) parent =
    domain_read (laid t c.args.size) parent l.domains.items c.from.result c.index.result.now
    (omega (arith, inside.within, c.requires.places.domains)) c.from.ensures c.index.ensures has.right in
    let wants : c.index-2.result.now ≡ shape t c.args.child =
    shape_read t c.args.child l.shapes.items c.from-2.result c.index-2.result.now
    (omega (arith, c.requires.child.within, c.requires.places.shapes)) c.from-2.ensures c.index-2.ensures (c.requires.shapes.each c.args.child) in
    rw c.from-3.ensures
    (child_has t c.args.size l c.args.child parent c.index.result.now c.preferred_place-place.result c.args.at c.index-2.result.now
    l.domains.items c.invariant.ensures up c.requires.placed c.requires.others (omega (arith, c.requires.child.within, c.requires.places.domains))
    here wants c.preferred_place-place.ensures.place c.preferred_place-place.ensures.near)

pub returns : goal.returns
returns c =
    let t = c.args.forest.now in
    record {
      screen = c.requires.size;
      places = record {
        shapes = c.requires.places.shapes;
        domains = c.lay.ensures.count;
        room_shapes = c.lay.ensures.room.shapes;
        room_places = c.lay.ensures.room.places;
      };
      shapes = record { each = c.requires.shapes.each };
      domains = domains_of_all t c.args.size _ c.invariant.ensures
          (laid_below t c.args.size c.args.self.now c.args.child c.preferred_place-place.result c.lay.new.domains.items c.invariant.ensures
          c.requires.others (rw c.from-3.ensures at c.lay.ensures.lays));
    }
