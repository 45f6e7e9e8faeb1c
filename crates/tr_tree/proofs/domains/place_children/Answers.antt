use Rattle.std.proofs.Common.{◌≡◌, true, false, map, length, refl, sym, ap, ◌∙◌, arith}
use Rattle.std.proofs.lemmas.List.Elements.{All-same}
use Rattle.tr_base.specs.declared.Shapes.{Shapes}
use Rattle.tr_base.specs.Rects.{Edges}
use Rattle.tr_base.specs.Layouts.{farthest, IsNear}
use Rattle.tr_stack.specs.Stacks.{t_places, page_places}
use Rattle.tr_forest.specs.declared.NodeKind.{NodeKind}
use Rattle.tr_forest.specs.declared.NodeKind.TheVariants as kinds
use Rattle.tr_forest.specs.Nodes.{IsPer, node}
use Rattle.tr_tree.specs.Places.{shown_index}
use Rattle.tr_tree.specs.Laying.{offsets_of}
use Rattle.tr_tree.proofs.KinLemmas.{few_children}
use Rattle.tr_tree.proofs.PlaceLemmas.{placed_by, same_count, filled_map, kind_fits, no_children, none_placed}
use Rattle.tr_tree.proofs.FitLemmas.{fits_side_by_side, fits_over, fits_shown, fits_pages, fits_border, fits_rigid, fits_moved, fits_packed, fits_none}
use Rattle.tr_tree.proofs.domains.place_children.Goals as goal

pub place_into-requires-clause-count : goal.place_into-requires-clause-count
place_into-requires-clause-count c =
    omega (
      arith,
      same_count c.args.parent.now.forest.now c.args.parent.now.n c.args.parent.now.rect c.args.parent.now.shapes.now c.requires.parent,
      few_children c.args.parent.now.forest.now c.requires.parent.forest c.args.parent.now.n c.requires.parent.is_node,
      c.requires.parent.forest.count,
    )

pub place_into-requires-in-V-clause-count : goal.place_into-requires-in-V-clause-count
place_into-requires-in-V-clause-count c =
    omega (
      arith,
      same_count c.args.parent.now.forest.now c.args.parent.now.n c.args.parent.now.rect c.args.parent.now.shapes.now c.requires.parent,
      few_children c.args.parent.now.forest.now c.requires.parent.forest c.args.parent.now.n c.requires.parent.is_node,
      c.requires.parent.forest.count,
    )

pub returns-in-H : goal.returns-in-H
returns-in-H c =
    let p = c.args.parent.now in
    placed_by p.forest.now p.n p.rect p.shapes.now kinds.H _ c.requires.parent (sym c.in-H.is ∙ c.kind_of.ensures) c.place_into.ensures.places
    (fits_side_by_side false p.rect p.shapes.now c.requires.parent.own c.requires.parent.small)

pub returns-in-V : goal.returns-in-V
returns-in-V c =
    let p = c.args.parent.now in
    placed_by p.forest.now p.n p.rect p.shapes.now kinds.V _ c.requires.parent (sym c.in-V.is ∙ c.kind_of.ensures) c.place_into-in-V.ensures.places
    (fits_side_by_side true p.rect p.shapes.now c.requires.parent.own c.requires.parent.small)

pub returns-in-Z : goal.returns-in-Z
returns-in-Z c =
    let p = c.args.parent.now in
    placed_by p.forest.now p.n p.rect p.shapes.now kinds.Z _ c.requires.parent (sym c.in-Z.is ∙ c.kind_of.ensures) c.place_over.ensures.places
    (fits_over p.rect (offsets_of p.forest.now p.n) p.shapes.now
    (All-same (λ (child : Edges). IsNear farthest child p.rect) _ _ (sym c.place_over.ensures.places) c.place_over.ensures.near))

pub returns-in-T : goal.returns-in-T
returns-in-T c =
    let p = c.args.parent.now in
    let cs = (node p.forest.now p.n).children in
    let k : NodeKind = kinds.T c.in-T.shown in
    placed_by p.forest.now p.n p.rect p.shapes.now k _ c.requires.parent (sym c.in-T.is ∙ c.kind_of.ensures)
    (c.place_shown.ensures ∙ ap (λ i. t_places p.rect i (length c.args.places.now)) c.index_shown.ensures
    ∙ ap (t_places p.rect (shown_index c.in-T.shown cs)) c.requires.room)
    (fits_shown p.rect (shown_index c.in-T.shown cs) (length cs) c.requires.parent.own c.requires.parent.small)

pub place_pages-requires-clause-per : goal.place_pages-requires-clause-per
place_pages-requires-clause-per c =
    let p = c.args.parent.now in
    let k : NodeKind = kinds.Page c.in-Page.per c.in-Page.page in
    let per : IsPer c.in-Page.per = kind_fits p.forest.now c.requires.parent.forest p.n k (sym c.in-Page.is ∙ c.kind_of.ensures) in
    per.low

pub returns-in-Page : goal.returns-in-Page
returns-in-Page c =
    let p = c.args.parent.now in
    let cs = (node p.forest.now p.n).children in
    let k : NodeKind = kinds.Page c.in-Page.per c.in-Page.page in
    let per : IsPer c.in-Page.per = kind_fits p.forest.now c.requires.parent.forest p.n k (sym c.in-Page.is ∙ c.kind_of.ensures) in
    placed_by p.forest.now p.n p.rect p.shapes.now k _ c.requires.parent (sym c.in-Page.is ∙ c.kind_of.ensures)
    (c.place_pages.ensures ∙ ap (page_places p.rect c.in-Page.per c.in-Page.page) c.requires.room)
    (fits_pages p.rect c.in-Page.per c.in-Page.page (length cs) per.low c.requires.parent.own c.requires.parent.small)

pub returns-in-Border : goal.returns-in-Border
returns-in-Border c =
    let p = c.args.parent.now in
    let k : NodeKind = kinds.Border c.in-Border.width in
    let many : length c.fill.new.places ≡ length p.shapes.now = c.fill.ensures.count ∙ c.requires.room ∙ sym
    (same_count p.forest.now p.n p.rect p.shapes.now c.requires.parent) in
    placed_by p.forest.now p.n p.rect p.shapes.now k _ c.requires.parent (sym c.in-Border.is ∙ c.kind_of.ensures)
    (filled_map c.fill.new.places p.shapes.now c.border_place.result c.fill.ensures.rects many
    ∙ ap (λ (r : Edges). map (λ (s : Shapes). r) p.shapes.now) c.border_place.ensures.place)
    (fits_border p.rect c.in-Border.width p.shapes.now c.requires.parent.small)

pub returns-in-Rigid : goal.returns-in-Rigid
returns-in-Rigid c =
    let p = c.args.parent.now in
    let k : NodeKind = kinds.Rigid c.in-Rigid.size in
    let many : length c.fill-in-Rigid.new.places ≡ length p.shapes.now = c.fill-in-Rigid.ensures.count ∙ c.requires.room ∙ sym
    (same_count p.forest.now p.n p.rect p.shapes.now c.requires.parent) in
    placed_by p.forest.now p.n p.rect p.shapes.now k _ c.requires.parent (sym c.in-Rigid.is ∙ c.kind_of.ensures)
    (filled_map c.fill-in-Rigid.new.places p.shapes.now p.rect c.fill-in-Rigid.ensures.rects many)
    (fits_rigid p.rect p.shapes.now c.requires.parent.own c.requires.parent.small)

pub place_moved-requires-clause-offset : goal.place_moved-requires-clause-offset
place_moved-requires-clause-offset c =
    let p = c.args.parent.now in
    let k : NodeKind = kinds.Translate c.in-Translate.by in
    kind_fits p.forest.now c.requires.parent.forest p.n k (sym c.in-Translate.is ∙ c.kind_of.ensures)

pub returns-in-Translate : goal.returns-in-Translate
returns-in-Translate c =
    let p = c.args.parent.now in
    let k : NodeKind = kinds.Translate c.in-Translate.by in
    placed_by p.forest.now p.n p.rect p.shapes.now k _ c.requires.parent (sym c.in-Translate.is ∙ c.kind_of.ensures) c.place_moved.ensures.places
    (fits_moved p.rect c.in-Translate.by p.shapes.now
    (All-same (λ (child : Edges). IsNear farthest child p.rect) _ _ (sym c.place_moved.ensures.places) c.place_moved.ensures.near))

pub returns-in-Pack : goal.returns-in-Pack
returns-in-Pack c =
    let p = c.args.parent.now in
    let k : NodeKind = kinds.Pack c.in-Pack.down c.in-Pack.gap in
    placed_by p.forest.now p.n p.rect p.shapes.now k _ c.requires.parent (sym c.in-Pack.is ∙ c.kind_of.ensures) c.pack_place_into.ensures.places
    (fits_packed c.in-Pack.down c.in-Pack.gap p.rect p.shapes.now c.requires.parent.small)

pub returns-in-Leaf : goal.returns-in-Leaf
returns-in-Leaf c =
    let p = c.args.parent.now in
    let k : NodeKind = kinds.Leaf c.in-Leaf.leaf c.in-Leaf.shapes in
    let is = sym c.in-Leaf.is ∙ c.kind_of.ensures in
    placed_by p.forest.now p.n p.rect p.shapes.now k _ c.requires.parent is
    (none_placed c.args.places.now (node p.forest.now p.n).children c.requires.room (no_children p.forest.now c.requires.parent.forest p.n k is refl))
    (fits_none p.rect)

pub place_into-requires-clause-domain : goal.place_into-requires-clause-domain
place_into-requires-clause-domain c = c.requires.parent.small

pub place_into-requires-in-V-clause-domain : goal.place_into-requires-in-V-clause-domain
place_into-requires-in-V-clause-domain c = c.requires.parent.small

pub place_pages-requires-clause-domain : goal.place_pages-requires-clause-domain
place_pages-requires-clause-domain c = c.requires.parent.small

pub border_place-requires : goal.border_place-requires
border_place-requires c = c.requires.parent.small

pub place_moved-requires-clause-domain : goal.place_moved-requires-clause-domain
place_moved-requires-clause-domain c = c.requires.parent.small

pub pack_place_into-requires-clause-domain : goal.pack_place_into-requires-clause-domain
pack_place_into-requires-clause-domain c = c.requires.parent.small

pub place_into-requires-clause-room : goal.place_into-requires-clause-room
place_into-requires-clause-room c =
    c.requires.room ∙ sym (same_count c.args.parent.now.forest.now c.args.parent.now.n c.args.parent.now.rect c.args.parent.now.shapes.now c.requires.parent)

pub place_into-requires-in-V-clause-room : goal.place_into-requires-in-V-clause-room
place_into-requires-in-V-clause-room c =
    c.requires.room ∙ sym (same_count c.args.parent.now.forest.now c.args.parent.now.n c.args.parent.now.rect c.args.parent.now.shapes.now c.requires.parent)

pub place_moved-requires-clause-room : goal.place_moved-requires-clause-room
place_moved-requires-clause-room c =
    c.requires.room ∙ sym (same_count c.args.parent.now.forest.now c.args.parent.now.n c.args.parent.now.rect c.args.parent.now.shapes.now c.requires.parent)

pub pack_place_into-requires-clause-room : goal.pack_place_into-requires-clause-room
pack_place_into-requires-clause-room c =
    c.requires.room ∙ sym (same_count c.args.parent.now.forest.now c.args.parent.now.n c.args.parent.now.rect c.args.parent.now.shapes.now c.requires.parent)

pub place_over-requires : goal.place_over-requires
place_over-requires c = c.requires

pub index_shown-requires : goal.index_shown-requires
index_shown-requires c = c.requires.parent.is_node
