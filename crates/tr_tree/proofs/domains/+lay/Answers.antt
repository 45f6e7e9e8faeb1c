use Rattle.std.proofs.Common.{◌≡◌, ◌≢◌, AllPairs, ◌+◌, ◌-◌, List, length, get_or, take, subst, sym, ap, ◌∙◌, true, arith}
use Rattle.std.proofs.lemmas.List.{get_or_default, length-map}
use Rattle.tr_base.specs.declared.NodeId.{NodeId}
use Rattle.tr_base.specs.declared.Shapes.{Shapes}
use Rattle.tr_base.specs.Layouts.{IsDomain}
use Rattle.tr_forest.specs.Nodes.{node}
use Rattle.tr_forest.specs.Families.{depth, is_among}
use Rattle.tr_forest.proofs.FamilyLemmas.{among_at, depth_child}
use Rattle.tr_tree.specs.Places.{domain}
use Rattle.tr_tree.specs.Tables.{shape_in}
use Rattle.tr_tree.specs.Laying.{laid, IsRectangle}
use Rattle.tr_tree.proofs.KinLemmas.{few_children}
use Rattle.tr_tree.proofs.FitLemmas.{at_is_domain, at_more}
use Rattle.tr_tree.proofs.PlaceLemmas.{child_read, shapes_read}
use Rattle.tr_tree.proofs.LayLemmas.{laying_from, laying_next, laying_end, laying_nothing, domain_read}
use Rattle.tr_tree.proofs.domains.+lay.Goals as goal

pub gather-requires-clause-within : goal.gather-requires-clause-within
gather-requires-clause-within t c = λ k d lt.
    let node_is = child_read c.args.plan.now.forest.now c.requires.forest c.args.n c.children-children.result.now k d c.children-children.ensures lt in
    omega (arith, node_is.within, c.requires.plan.count)

pub gather-requires-clause-room : goal.gather-requires-clause-room
gather-requires-clause-room t c =
    omega (
      arith,
      ap length c.children-children.ensures,
      few_children c.args.plan.now.forest.now c.requires.forest c.args.n c.requires.node,
      c.requires.room.shapes,
    )

pub place_first-requires-clause-parent : goal.place_first-requires-clause-parent
place_first-requires-clause-parent t c =
    let s = laid c.args.plan.now.forest.now c.args.plan.now.size in
    let own = c.requires.own in
    let deep = c.requires.forest.depths c.args.n in
    let here : c.index.result.now ≡ domain s c.args.n = domain_read s c.args.n c.args.domains.now.items c.from.result c.index.result.now
    (omega (arith, c.requires.node.within, c.requires.count)) c.from.ensures c.index.ensures c.requires.own.right in
    record {
      forest = c.requires.forest;
      is_node = c.requires.node;
      own = subst IsRectangle (sym here) own.at.own;
      small = subst IsDomain (sym here)
          (at_is_domain (domain s c.args.n) (at_more (depth s.nodes c.args.n - 1) 15 (domain s c.args.n) (omega (arith, deep)) own.at));
      shapes_are = shapes_read c.args.plan.now.forest.now c.args.n c.args.plan.now.shapes.now _ c.children-children.result.now c.requires.plan.shapes_are
          c.children-children.ensures (rw c.deref.ensures.value c.gather.ensures.shapes);
    }

pub place_first-requires-clause-room : goal.place_first-requires-clause-room
place_first-requires-clause-room t c =
    omega (
      arith,
      ap length c.children-children.ensures,
      few_children c.args.plan.now.forest.now c.requires.forest c.args.n c.requires.node,
      c.requires.room.places,
    )

pub spread-requires-clause-within : goal.spread-requires-clause-within
spread-requires-clause-within t c = λ k d lt.
    let node_is = child_read c.args.plan.now.forest.now c.requires.forest c.args.n c.children-children.result.now k d c.children-children.ensures lt in
    omega (arith, node_is.within, c.requires.count)

pub loop-child-init : goal.loop-child-init
loop-child-init t c =
    let s = laid c.args.plan.now.forest.now c.args.plan.now.size in
    let here : c.index.result.now ≡ domain s c.args.n = domain_read s c.args.n c.args.domains.now.items c.from.result c.index.result.now
    (omega (arith, c.requires.node.within, c.requires.count)) c.from.ensures c.index.ensures c.requires.own.right in
    record {
      room = record { shapes = c.gather.ensures.count ∙ c.requires.room.shapes; places = c.place_first.ensures.count ∙ c.requires.room.places };
      count = c.spread.ensures.count ∙ c.requires.count;
      laying = laying_from s c.requires.forest c.args.n c.children-children.result.now c.index.result.now c.place_first.new.places.items
          c.args.domains.now.items c.spread.new.domains.items c.children-children.ensures here c.requires.own c.place_first.ensures.places
          c.spread.ensures.spreads;
    }

pub lay-requires : goal.lay-requires
lay-requires t c =
    let nodes = c.args.plan.now.forest.now in
    let cs = c.children-children.result.now in
    let i = c.loop-child.child-index in
    let d : NodeId = record { 0 = 0 } in
    let child : NodeId = get_or cs i d in
    let among : is_among child cs ≡ true = among_at cs i d c.loop-child-test.true in
    let below : is_among child (node nodes c.args.n).children ≡ true = subst (λ (l : List NodeId). is_among child l ≡ true) c.children-children.ensures among in
    let deep : depth nodes child ≡ depth nodes c.args.n + 1 = depth_child nodes c.args.n child c.requires.forest below in (
      omega (arith, deep, c.requires.forest.depths child, c.decreases),
      (
        c.requires.forest,
        (
          c.requires.plan,
          (
            child_read nodes c.requires.forest c.args.n cs i d c.children-children.ensures c.loop-child-test.true,
            (c.loop-child.invariant.room, (c.loop-child.invariant.count, c.loop-child.invariant.laying.children child among)),
          ),
        ),
      ),
    )

pub loop-child-preserved : goal.loop-child-preserved
loop-child-preserved t c =
    let cs = c.children-children.result.now in
    let i = c.loop-child.child-index in
    let d : NodeId = record { 0 = 0 } in
    let child : NodeId = get_or cs i d in
    record {
      room = c.lay.ensures.room;
      count = c.lay.ensures.count;
      laying = laying_next (laid c.args.plan.now.forest.now c.args.plan.now.size) c.requires.forest c.args.n i c.args.domains.now.items cs child
          c.loop-child.domains.items c.lay.new.domains.items c.loop-child-test.true (get_or_default cs i d child c.loop-child-test.true)
          c.loop-child.invariant.laying c.lay.ensures.lays;
    }

pub returns-clause-lays : goal.returns-clause-lays
returns-clause-lays t c =
    laying_end (laid c.args.plan.now.forest.now c.args.plan.now.size) c.requires.forest c.args.n c.children-children.result.now c.loop-child.child-index
    c.args.domains.now.items c.loop-child.domains.items c.children-children.ensures (omega arith) c.loop-child.invariant.laying

pub spread-requires-clause-once : goal.spread-requires-clause-once
spread-requires-clause-once t c =
    subst (λ (cs : List NodeId). AllPairs (λ (a b : NodeId). a.0 ≢ b.0) cs) (sym c.children-children.ensures) (c.requires.forest.once c.args.n)

pub spread-requires-clause-room : goal.spread-requires-clause-room
spread-requires-clause-room t c =
    omega (
      arith,
      ap length c.children-children.ensures,
      few_children c.args.plan.now.forest.now c.requires.forest c.args.n c.requires.node,
      c.place_first.ensures.count,
      c.requires.room.places,
    )

pub slice_bounds-parent-end : goal.slice_bounds-parent-end
slice_bounds-parent-end t c =
    let cs = c.children-children.result.now in
    sym (ap (λ (l : List Shapes). length (take (length cs) l)) c.deref.ensures.value ∙ ap length c.gather.ensures.shapes
    ∙ length-map cs (shape_in c.args.plan.now.shapes.now))

pub returns-clause-room : goal.returns-clause-room
returns-clause-room t c = c.loop-child.invariant.room

pub returns-clause-count : goal.returns-clause-count
returns-clause-count t c = c.loop-child.invariant.count

pub returns-then-is_empty-clause-lays : goal.returns-then-is_empty-clause-lays
returns-then-is_empty-clause-lays t c =
    laying_nothing (laid c.args.plan.now.forest.now c.args.plan.now.size) c.requires.forest c.args.n c.children-children.result.now
    c.args.domains.now.items c.children-children.ensures (sym c.is_empty.ensures ∙ c.if-is_empty.true) c.requires.own
