-- What is placed, by the kind of the node.
use Rattle.std.proofs.Common.{◌≡◌, ℕ, ◌+◌, ◌<◌, ◌≤◌, true, List, [], ◌∷◌, ◌++◌, map, length, get_or, take, All, refl, sym, ap, subst, ◌∙◌, arith}
use Rattle.std.proofs.lemmas.List.{take_all, length-map, get_or-map, get_or_default, map_more}
use Rattle.std.proofs.lemmas.List.Elements.{All-head, All-tail, All-same}
use Rattle.tr_base.specs.declared.NodeId.{NodeId}
use Rattle.tr_base.specs.declared.Point.{Point}
use Rattle.tr_base.specs.declared.Shapes.{Shapes}
use Rattle.tr_base.specs.Rects.{Edges}
use Rattle.tr_base.specs.Layouts.{preferred_place}
use Rattle.tr_base.proofs.LayoutLemmas.{taken_more}
use Rattle.tr_stack.specs.Stacks.{z_places}
use Rattle.tr_stack.proofs.StackLemmas.{length-z_places, z_place_read}
use Rattle.tr_forest.specs.declared.NodeKind.{NodeKind}
use Rattle.tr_forest.specs.Nodes.{Nodes, IsNode, IsNodeKind, node, is_leaf}
use Rattle.tr_forest.specs.Families.{is_among}
use Rattle.tr_forest.specs.Forests.{IsForest}
use Rattle.tr_forest.proofs.FamilyLemmas.{among_at, child_is_node}
use Rattle.tr_tree.specs.Wishes.{shape}
use Rattle.tr_tree.specs.Tables.{shape_in}
use Rattle.tr_tree.specs.Places.{places_of}
use Rattle.tr_tree.specs.Laying.{offsets_of, StandsInNode, IsParent, ArePlaced}

-- what is placed by the node's kind and its children's shapes
pub placed_by : (t : Nodes) (n : NodeId) (e : Edges) (shapes : List Shapes) (kind : NodeKind) (places : List Edges) → IsParent t n e shapes →
    kind ≡ (node t n).kind →
    places ≡ places_of kind (node t n).children (offsets_of t n) shapes e →
    All (StandsInNode e) (places_of kind (node t n).children (offsets_of t n) shapes e) → ArePlaced t n e places
placed_by t n e shapes kind places parent is are fit = record {
  right = are ∙ ap (λ (s : List Shapes). places_of kind (node t n).children (offsets_of t n) s e) parent.shapes_are
      ∙ ap (λ (k : NodeKind). places_of k (node t n).children (offsets_of t n) (map (shape t) (node t n).children) e) is;
  fit = All-same (StandsInNode e) _ _ are fit;
}

pub same_count : (t : Nodes) (n : NodeId) (e : Edges) (shapes : List Shapes) → IsParent t n e shapes → length shapes ≡ length (node t n).children
same_count t n e shapes parent = ap length parent.shapes_are ∙ length-map (node t n).children (shape t)

-- each place is the same
pub filled_map : (places : List Edges) (shapes : List Shapes) (e : Edges) → All (λ (r : Edges). r ≡ e) places → length places ≡ length shapes →
    places ≡ map (λ s. e) shapes
filled_map [] [] e all h = refl
filled_map [] (s ∷ ss) e all h = absurd (omega arith)
filled_map (p ∷ ps) [] e all h = absurd (omega arith)
filled_map (p ∷ ps) (s ∷ ss) e all h =
    let first : p ≡ e = All-head (λ (r : Edges). r ≡ e) p ps all in
    let rest : ps ≡ map (λ (s : Shapes). e) ss = filled_map ps ss e (All-tail (λ (r : Edges). r ≡ e) p ps all) (omega arith) in
    rw (first, rest) refl

-- what is known of the kind of a node
pub kind_fits : (t : Nodes) → IsForest t → (n : NodeId) (kind : NodeKind) → kind ≡ (node t n).kind → IsNodeKind kind
kind_fits t forest n kind is = subst IsNodeKind (sym is) (forest.kinds n)

-- a window has no children
pub no_children : (t : Nodes) → IsForest t → (n : NodeId) (kind : NodeKind) → kind ≡ (node t n).kind → is_leaf kind ≡ true → (node t n).children ≡ []
no_children t forest n kind is leaf = forest.leaves n (sym (ap is_leaf is) ∙ leaf)

pub none_placed : (places : List Edges) (cs : List NodeId) → length places ≡ length cs → cs ≡ [] → places ≡ []
none_placed [] cs h none = refl
none_placed (p ∷ ps) cs h none = absurd (omega (arith, ap length none))

-- a child that is read from the list of children is a node
pub child_read : (t : Nodes) → IsForest t → (n : NodeId) (cs : List NodeId) (i : ℕ) (d : NodeId) → cs ≡ (node t n).children → i < length cs →
    IsNode t (get_or cs i d)
child_read t forest n cs i d is lt =
    child_is_node t n (get_or cs i d) forest (subst (λ (l : List NodeId). is_among (get_or cs i d) l ≡ true) is (among_at cs i d lt))

same_map : (t : Nodes) (table : List Shapes) (cs : List NodeId) → ((m : NodeId) → shape_in table m ≡ shape t m) → map (shape_in table) cs ≡ map (shape t) cs
same_map t table [] are = refl
same_map t table (c ∷ cs) are = rw (are c, same_map t table cs are) refl

-- the shapes that were read from the table are the children's
pub shapes_read : (t : Nodes) (n : NodeId) (table shapes : List Shapes) (cs : List NodeId) → ((m : NodeId) → shape_in table m ≡ shape t m) →
    cs ≡ (node t n).children →
    shapes ≡ map (shape_in table) cs → shapes ≡ map (shape t) (node t n).children
shapes_read t n table shapes cs are is read = read ∙ same_map t table cs are ∙ ap (map (shape t)) is

-- ---- the children of a Z

offsets_count : (t : Nodes) (n : NodeId) → length (offsets_of t n) ≡ length (node t n).children
offsets_count t n = length-map (node t n).children (λ (c : NodeId). (node t c).at)

pub over_count : (t : Nodes) (n : NodeId) (e : Edges) (shapes : List Shapes) → IsParent t n e shapes →
    length (z_places e (offsets_of t n) shapes) ≡ length (node t n).children
over_count t n e shapes parent =
    length-z_places e (offsets_of t n) shapes (offsets_count t n ∙ sym (same_count t n e shapes parent)) ∙ same_count t n e shapes parent

pub over_more : (t : Nodes) (n : NodeId) (e : Edges) (shapes : List Shapes) (cs : List NodeId) (i : ℕ) (now : List Edges)
    (at : Point) (r : Edges) (d : NodeId) (s : Shapes) →
    IsParent t n e shapes → cs ≡ (node t n).children → i < length cs → at ≡ (node t (get_or cs i d)).at → r ≡ preferred_place e at (get_or shapes i s) →
    take i now ≡ take i (z_places e (offsets_of t n) shapes) → take i now ++ r ∷ [] ≡ take (i + 1) (z_places e (offsets_of t n) shapes)
over_more t n e shapes cs i now at r d s parent is lt stands place so_far =
    let below : i < length (node t n).children = subst (λ (l : List NodeId). i < length l) is lt in
    let short : i < length (offsets_of t n) = omega (arith, offsets_count t n) in
    let within : i < length shapes = omega (arith, same_count t n e shapes parent) in
    let all : i < length (z_places e (offsets_of t n) shapes) = omega (arith, over_count t n e shapes parent) in
    let offset : at ≡ get_or (offsets_of t n) i at =
    stands ∙ ap (λ (l : List NodeId). (node t (get_or l i d)).at) is ∙ sym (get_or-map (λ (c : NodeId). (node t c).at) (node t n).children i d at below) in
    let child : Shapes = get_or shapes i s in
    taken_more (z_places e (offsets_of t n) shapes) (take i now) i r all
    (z_place_read e (offsets_of t n) shapes i at child r short within (get_or_default shapes i s child within)
    (place ∙ ap (λ (p : Point). preferred_place e p child) offset)) so_far

-- room that is filled from the front has all places in the end
pub taken_all : (answer now : List Edges) (i : ℕ) → length now ≤ i → length answer ≤ i → take i now ≡ take i answer → now ≡ answer
taken_all answer now i le most e = sym (take_all i now le) ∙ e ∙ take_all i answer most

-- ---- the child of a Translate

pub moved_more : (place : Shapes → Edges) (shapes : List Shapes) (places : List Edges) (i : ℕ) (s : Shapes) (r : Edges) → i < length shapes →
    s ≡ get_or shapes i s →
    r ≡ place s → places ≡ map place (take i shapes) → places ++ r ∷ [] ≡ map place (take (i + 1) shapes)
moved_more place shapes places i s r lt is at so_far =
    ap (λ (l : List Edges). l ++ r ∷ []) so_far ∙ ap (λ (e : Edges). map place (take i shapes) ++ e ∷ []) (at ∙ ap place is)
    ∙ sym (map_more place shapes i s lt)
