use Rattle.std.proofs.Common.{◌≡◌, ◌<◌, length, Some, sym, ◌∙◌, rules, arith}
use Rattle.std.specs.Prelude.{slice_get, vec_len}
use Rattle.tr_journal.specs.Openings.{contents_of}
use Rattle.tr_journal.proofs.OpeningLemmas.{kept_count, placed, kept_valid, some_within}
use Rattle.tr_journal.proofs.openings.Opening.content.Goals as goal

pub index-place-requires : goal.index-place-requires
index-place-requires g c =
    let n : length c.self.inside.leaves.items ≡ vec_len c.self.inside.leaves = search rules in
    let all = kept_count c.self.invariant.0 in
    let within : c.args.leaf.0 < length (contents_of c.self.inside.items.items) = rw c.self.view_is c.requires in
    omega arith

pub index-requires : goal.index-requires
index-requires g c =
    let n : length c.self.inside.items.items ≡ vec_len c.self.inside.items = search rules in
    let all = kept_count c.self.invariant.0 in
    let asked : c.args.leaf.0 < length (contents_of c.self.inside.items.items) = rw c.self.view_is c.requires in
    let within : c.from.result < length c.self.inside.leaves.items = omega arith in
    let place = placed c.from.result c.index-place.result.now c.self.invariant.0 within c.index-place.ensures in
    omega (arith, place.within)

pub content_of-requires-after_bounds : goal.content_of-requires-after_bounds
content_of-requires-after_bounds g c κs bounds =
    let all = kept_count c.self.invariant.0 in
    let asked : c.args.leaf.0 < length (contents_of c.self.inside.items.items) = rw c.self.view_is c.requires in
    let within : c.from.result < length c.self.inside.leaves.items = omega arith in
    let here : c.from.result < length (contents_of c.self.inside.items.items) = omega arith in
    let place = placed c.from.result c.index-place.result.now c.self.invariant.0 within c.index-place.ensures in
    rw (place.content c.index.result.now c.index.ensures) (some_within (contents_of c.self.inside.items.items) c.from.result here)

pub returns-clause-content : goal.returns-clause-content
returns-clause-content g c =
    let all = kept_count c.self.invariant.0 in
    let asked : c.args.leaf.0 < length (contents_of c.self.inside.items.items) = rw c.self.view_is c.requires in
    let within : c.from.result < length c.self.inside.leaves.items = omega arith in
    let place = placed c.from.result c.index-place.result.now c.self.invariant.0 within c.index-place.ensures in
    let is : slice_get (contents_of c.self.inside.items.items) c.from.result ≡ Some c.content_of.result.now =
    sym (place.content c.index.result.now c.index.ensures) ∙ c.content_of.ensures in
    rw (← c.self.view_is, ← c.from.ensures) is

pub returns-clause-valid : goal.returns-clause-valid
returns-clause-valid g c =
    let all = kept_count c.self.invariant.0 in
    let asked : c.args.leaf.0 < length (contents_of c.self.inside.items.items) = rw c.self.view_is c.requires in
    let within : c.from.result < length c.self.inside.leaves.items = omega arith in
    let place = placed c.from.result c.index-place.result.now c.self.invariant.0 within c.index-place.ensures in
    let is : slice_get (contents_of c.self.inside.items.items) c.from.result ≡ Some c.content_of.result.now =
    sym (place.content c.index.result.now c.index.ensures) ∙ c.content_of.ensures in
    kept_valid c.from.result c.content_of.result.now c.self.invariant.0 is
