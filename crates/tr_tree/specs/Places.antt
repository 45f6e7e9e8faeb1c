-- The domain of each node: its rectangle, computed downwards from the root's.
use Rattle.std.specs.Prelude.{ℕ, zero, suc, ◌==◌, false, true, if◌then◌else◌, List, [], ◌∷◌, map, length, get_or, Option, Some, None}
use Rattle.tr_base.specs.declared.Point.{Point}
use Rattle.tr_base.specs.declared.NodeId.{NodeId}
use Rattle.tr_base.specs.declared.Shapes.{Shapes}
use Rattle.tr_base.specs.Rects.{Edges, empty_rect, whole_of}
use Rattle.tr_base.specs.Layouts.{preferred_place}
use Rattle.tr_forest.specs.declared.NodeKind.{NodeKind}
use Rattle.tr_forest.specs.declared.NodeKind.TheVariants as kinds
use Rattle.tr_forest.specs.Nodes.{Nodes, node}
use Rattle.tr_forest.specs.Families.{levels}
use Rattle.tr_forest.specs.Edits.{is_root}
use Rattle.tr_hv.specs.Places as hv
use Rattle.tr_stack.specs.Stacks.{z_places, t_places, page_places}
use Rattle.tr_filter.specs.Filters.{border_place}
use Rattle.tr_pack.specs.Packs.{pack_places}
use Rattle.tr_tree.specs.Trees.{Seen}
use Rattle.tr_tree.specs.Wishes.{shape}

-- the number of nodes before n in the list
abbrev pub index_of : NodeId → List NodeId → ℕ
index_of n [] = 0
index_of n (m ∷ ms) = if m.0 == n.0 then 0 else suc (index_of n ms)

-- the index of the child that a T shows: the named one, or the first
abbrev pub shown_index : Option NodeId → List NodeId → ℕ
shown_index None cs = 0
shown_index (Some shown) cs = index_of shown cs

-- the rectangles of a node's children in order, from its kind, the children's offsets and shapes, and its own rectangle
abbrev pub places_of : NodeKind → List NodeId → List Point → List Shapes → Edges → List Edges
places_of kinds.H cs ats shapes e = hv.places false e shapes
places_of kinds.V cs ats shapes e = hv.places true e shapes
places_of kinds.Z cs ats shapes e = z_places e ats shapes
places_of (kinds.T shown) cs ats shapes e = t_places e (shown_index shown cs) (length cs)
places_of (kinds.Page per page) cs ats shapes e = page_places e per page (length cs)
places_of (kinds.Border width) cs ats shapes e = map (λ s. border_place e width) shapes
places_of (kinds.Rigid size) cs ats shapes e = map (λ s. e) shapes
places_of (kinds.Translate by) cs ats shapes e = map (preferred_place e by) shapes
places_of (kinds.Pack down gap) cs ats shapes e = pack_places down gap e shapes
places_of (kinds.Leaf leaf own) cs ats shapes e = []

-- the rectangles of a node's children, from its own
abbrev pub child_places : Nodes → NodeId → Edges → List Edges
child_places t n e =
    let cs = (node t n).children in
    places_of (node t n).kind cs (map (λ c. (node t c).at) cs) (map (shape t) cs) e

-- the rectangle of a child, from its parent's; without a parent it is empty
abbrev pub place_below : Nodes → NodeId → Option NodeId → (NodeId → Edges) → Edges
place_below t child None up = empty_rect
place_below t child (Some parent) up =
    get_or (child_places t parent (up parent)) (index_of child (node t parent).children) empty_rect

-- the domain of a node, if it has at most this depth: the root has the whole screen, and depth 1
unfoldable pub domain_within : ℕ → Seen → NodeId → Edges
domain_within zero t n = empty_rect
domain_within (suc f) t n =
    if is_root t.nodes n then whole_of t.size
    else place_below t.nodes n (node t.nodes n).parent (domain_within f t)

-- the domain of a node: no node is deeper than 16
abbrev pub domain : Seen → NodeId → Edges
domain t n = domain_within levels t n
