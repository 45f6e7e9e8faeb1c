use Rattle.tr_region.proofs.StepLemmas.{are_edges, is_open, next_both, next_first, next_second, passes_next}
use Rattle.tr_region.proofs.strips.Strip.step.Goals as goal

pub pass-requires : goal.pass-requires
pass-requires c =
    let edges = are_edges c.args.walk.now c.args.inside _ _ _ _ c.requires.inside c.has_first.ensures c.has_second.ensures
    c.edge-first_edge.ensures c.edge-second_edge.ensures c.edge-first_edge.type_inv c.edge-second_edge.type_inv in
    let ready = is_open c.args.self.now.operation c.args.walk.now _ _ _ _ c.requires.ahead c.requires.left
    (next_first c.args.walk.now _ _ edges c.if-first_edge-second_edge.true) in
    record {
      inside = c.requires.inside;
      first = rw c.requires.inside c.requires.ahead.first_entered;
      second = rw c.requires.inside c.requires.ahead.second_entered;
      across = ready.across;
      room = ready.room;
      x = ready.x;
      west = c.requires.ahead.reach;
    }

pub returns-then-first_edge-second_edge-clause-passes : goal.returns-then-first_edge-second_edge-clause-passes
returns-then-first_edge-second_edge-clause-passes c =
    let edges = are_edges c.args.walk.now c.args.inside _ _ _ _ c.requires.inside c.has_first.ensures c.has_second.ensures
    c.edge-first_edge.ensures c.edge-second_edge.ensures c.edge-first_edge.type_inv c.edge-second_edge.type_inv in
    passes_next _ _ _ _ _ _ _ (next_first c.args.walk.now _ _ edges c.if-first_edge-second_edge.true) c.pass.ensures.passes

pub pass-requires-then-second_edge-first_edge : goal.pass-requires-then-second_edge-first_edge
pass-requires-then-second_edge-first_edge c =
    let edges = are_edges c.args.walk.now c.args.inside _ _ _ _ c.requires.inside c.has_first.ensures c.has_second.ensures
    c.edge-first_edge.ensures c.edge-second_edge.ensures c.edge-first_edge.type_inv c.edge-second_edge.type_inv in
    let ready = is_open c.args.self.now.operation c.args.walk.now _ _ _ _ c.requires.ahead c.requires.left
    (next_second c.args.walk.now _ _ edges c.if-second_edge-first_edge.true) in
    record {
      inside = c.requires.inside;
      first = rw c.requires.inside c.requires.ahead.first_entered;
      second = rw c.requires.inside c.requires.ahead.second_entered;
      across = ready.across;
      room = ready.room;
      x = ready.x;
      west = c.requires.ahead.reach;
    }

pub returns-then-second_edge-first_edge-clause-passes : goal.returns-then-second_edge-first_edge-clause-passes
returns-then-second_edge-first_edge-clause-passes c =
    let edges = are_edges c.args.walk.now c.args.inside _ _ _ _ c.requires.inside c.has_first.ensures c.has_second.ensures
    c.edge-first_edge.ensures c.edge-second_edge.ensures c.edge-first_edge.type_inv c.edge-second_edge.type_inv in
    passes_next _ _ _ _ _ _ _ (next_second c.args.walk.now _ _ edges c.if-second_edge-first_edge.true) c.pass-then-second_edge-first_edge.ensures.passes

pub pass-requires-else-second_edge-first_edge : goal.pass-requires-else-second_edge-first_edge
pass-requires-else-second_edge-first_edge c =
    let edges = are_edges c.args.walk.now c.args.inside _ _ _ _ c.requires.inside c.has_first.ensures c.has_second.ensures
    c.edge-first_edge.ensures c.edge-second_edge.ensures c.edge-first_edge.type_inv c.edge-second_edge.type_inv in
    let ready = is_open c.args.self.now.operation c.args.walk.now _ _ _ _ c.requires.ahead c.requires.left
    (next_both c.args.walk.now _ _ edges c.if-first_edge-second_edge.false c.if-second_edge-first_edge.false c.requires.left) in
    record {
      inside = c.requires.inside;
      first = rw c.requires.inside c.requires.ahead.first_entered;
      second = rw c.requires.inside c.requires.ahead.second_entered;
      across = ready.across;
      room = ready.room;
      x = ready.x;
      west = c.requires.ahead.reach;
    }

pub returns-else-second_edge-first_edge-clause-passes : goal.returns-else-second_edge-first_edge-clause-passes
returns-else-second_edge-first_edge-clause-passes c =
    let edges = are_edges c.args.walk.now c.args.inside _ _ _ _ c.requires.inside c.has_first.ensures c.has_second.ensures
    c.edge-first_edge.ensures c.edge-second_edge.ensures c.edge-first_edge.type_inv c.edge-second_edge.type_inv in
    passes_next _ _ _ _ _ _ _ (next_both c.args.walk.now _ _ edges c.if-first_edge-second_edge.false c.if-second_edge-first_edge.false c.requires.left)
    c.pass-else-second_edge-first_edge.ensures.passes
