-- The effect of an edit on the nodes, and the reasons for its refusal.
use Rattle.std.specs.Prelude.{◌≡◌, ℕ, ◌+◌, ⊤, Bool, true, false, not, ◌&&◌, ◌||◌, ◌==◌, nat_lt, if◌then◌else◌, List, [], ◌∷◌, ◌++◌, Option, Some, None, is_some, set, length}
use Rattle.std.specs.List.{filter}
use Rattle.tr_base.specs.declared.Point.{Point}
use Rattle.tr_base.specs.declared.NodeId.{NodeId}
use Rattle.tr_base.specs.declared.Shapes.{Shapes}
use Rattle.tr_base.specs.Layouts.{farthest, IsOffset}
use Rattle.tr_base.specs.Rects.{IsScreenSize}
use Rattle.tr_forest.specs.declared.kinds.NodeKind.{NodeKind}
use Rattle.tr_forest.specs.declared.kinds.NodeKind.TheVariants as kinds
use Rattle.tr_forest.specs.declared.edits.Edit.{Edit}
use Rattle.tr_forest.specs.declared.edits.Edit.TheVariants as edits
use Rattle.tr_forest.specs.declared.edits.NodeFault.{NodeFault}
use Rattle.tr_forest.specs.declared.edits.NodeFault.TheVariants as faults
use Rattle.tr_forest.specs.declared.edits.EditRefused.{EditRefused}
use Rattle.tr_forest.specs.declared.edits.EditRefused.TheVariants as refused
use Rattle.tr_forest.specs.Nodes.{Entry, Nodes, IsNode, IsSize, node, is_leaf, is_z, is_t, is_page, is_border, is_rigid, is_translate, is_filter}
use Rattle.tr_forest.specs.Families.{levels, depth, height, is_among, is_under, of_parent}

-- the numbers of an edit are those of nodes, and its values are within their ranges
abbrev pub IsEdit : Nodes → Edit → Type 0
IsEdit t (edits.Attach child parent at) = IsNode t child × IsNode t parent × IsOffset farthest at
IsEdit t (edits.Detach child) = IsNode t child
IsEdit t (edits.Tint n tint) = IsNode t n
IsEdit t (edits.Border n width) = IsNode t n
IsEdit t (edits.Offset n by) = IsNode t n × IsOffset farthest by
IsEdit t (edits.Fix n size) = IsNode t n × IsSize size
IsEdit t (edits.Move child at) = IsNode t child × IsOffset farthest at
IsEdit t (edits.Lift child) = IsNode t child
IsEdit t (edits.Show n child) = IsNode t n × IsNode t child
IsEdit t (edits.Turn n page) = IsNode t n
IsEdit t (edits.Shapes n shapes) = IsNode t n
IsEdit t (edits.Resize size) = IsScreenSize size
IsEdit t (edits.Rescreen kind) = ⊤

-- one of the nodes is changed
abbrev pub changed : NodeId → (Entry → Entry) → Nodes → Nodes
changed n change t = record t { entries = set t.entries n.0 (change (node t n)) }

-- a list of children without one of them
abbrev pub without : NodeId → List NodeId → List NodeId
without child cs = filter (λ c. not (c.0 == child.0)) cs

-- a Z takes a child in front of all others, another node after them
abbrev pub with_child : NodeId → Entry → Entry
with_child child e = record e { children = if is_z e.kind then child ∷ e.children else e.children ++ child ∷ [] }

-- the child gets a parent and a place
abbrev pub hung : NodeId → Point → Entry → Entry
hung parent at e = record e { parent = Some parent; at = at }

-- a T that shows the child by name shows none by name
abbrev pub forgetting : NodeId → NodeKind → NodeKind
forgetting child (kinds.T (Some shown)) = kinds.T (if shown.0 == child.0 then None else Some shown)
forgetting child kind = kind

-- a node has lost a child
abbrev pub bereft : NodeId → Entry → Entry
bereft child e = record e { kind = forgetting child e.kind; children = without child e.children }

-- the child has no parent
abbrev pub loose : Entry → Entry
loose e = record e { parent = None }

-- the child becomes the first one, in front of all others
abbrev pub lifting : NodeId → Entry → Entry
lifting child e = record e { children = child ∷ without child e.children }

-- a node gets this kind
abbrev pub turned_to : NodeKind → Entry → Entry
turned_to kind e = record e { kind = kind }

-- the nodes after a change of the parent, if there is a parent
abbrev pub at_parent : Option NodeId → (NodeId → Nodes → Nodes) → Nodes → Nodes
at_parent None change t = t
at_parent (Some parent) change t = change parent t

-- a Page shows this page
abbrev pub paged : ℕ → NodeKind → NodeKind
paged page (kinds.Page per old) = kinds.Page per page
paged page kind = kind

-- a leaf gets these shapes
abbrev pub reshaped : Shapes → NodeKind → NodeKind
reshaped shapes (kinds.Leaf leaf old) = kinds.Leaf leaf shapes
reshaped shapes kind = kind

-- the nodes after an edit that isn't refused
abbrev pub edited : Nodes → Edit → Nodes
edited t (edits.Attach child parent at) = changed child (hung parent at) (changed parent (with_child child) t)
edited t (edits.Detach child) =
    changed child loose (at_parent (node t child).parent (λ parent. changed parent (bereft child)) t)
edited t (edits.Tint n tint) = changed n (λ e. record e { tint = tint }) t
edited t (edits.Border n width) = changed n (turned_to (kinds.Border width)) t
edited t (edits.Offset n by) = changed n (turned_to (kinds.Translate by)) t
edited t (edits.Fix n size) = changed n (turned_to (kinds.Rigid size)) t
edited t (edits.Move child at) = changed child (λ e. record e { at = at }) t
edited t (edits.Lift child) = at_parent (node t child).parent (λ parent. changed parent (lifting child)) t
edited t (edits.Show n child) = changed n (turned_to (kinds.T (Some child))) t
edited t (edits.Turn n page) = changed n (λ e. turned_to (paged page e.kind) e) t
edited t (edits.Shapes n shapes) = changed n (λ e. turned_to (reshaped shapes e.kind) e) t
edited t (edits.Resize size) = t
edited t (edits.Rescreen kind) = t

-- the node is the root
abbrev pub is_root : Nodes → NodeId → Bool
is_root t n = of_parent t.root (λ root. root.0 == n.0)

-- the node has a parent that isn't a Z
abbrev pub hangs_outside_z : Nodes → NodeId → Bool
hangs_outside_z t n = of_parent (node t n).parent (λ parent. not (is_z (node t parent).kind))

-- the node has a parent
abbrev pub hangs : Nodes → NodeId → Bool
hangs t n = is_some (node t n).parent

-- the node is a filter that has its child
abbrev pub is_occupied : Nodes → NodeId → Bool
is_occupied t n = is_filter (node t n).kind && not (length (node t n).children == 0)

-- an Attach makes a list of children longer, and may run out of memory; no other edit does
abbrev pub wants_memory : Edit → Bool
wants_memory (edits.Attach child parent at) = true
wants_memory edit = false

-- the faults that an edit can have, in their order, and whether it has them
abbrev pub faults_of : Nodes → Edit → List (Bool × NodeFault)
faults_of t (edits.Attach child parent at) =
    (is_leaf (node t parent).kind, faults.WrongKind)
    ∷ (is_under t child parent, faults.Cycle)
    ∷ (is_occupied t parent, faults.Occupied)
    ∷ ((hangs t child || is_root t child), faults.Attached)
    ∷ (nat_lt levels (depth t parent + height t child), faults.TooDeep) ∷ []
faults_of t (edits.Detach child) = (not (hangs t child), faults.NotChild) ∷ []
faults_of t (edits.Tint n tint) = (is_leaf (node t n).kind, faults.WrongKind) ∷ []
faults_of t (edits.Border n width) = (not (is_border (node t n).kind), faults.WrongKind) ∷ []
faults_of t (edits.Offset n by) = (not (is_translate (node t n).kind), faults.WrongKind) ∷ []
faults_of t (edits.Fix n size) = (not (is_rigid (node t n).kind), faults.WrongKind) ∷ []
faults_of t (edits.Move child at) = (hangs_outside_z t child, faults.WrongKind) ∷ (not (hangs t child), faults.NotChild) ∷ []
faults_of t (edits.Lift child) = (hangs_outside_z t child, faults.WrongKind) ∷ (not (hangs t child), faults.NotChild) ∷ []
faults_of t (edits.Show n child) =
    (not (is_t (node t n).kind), faults.WrongKind) ∷ (not (is_among child (node t n).children), faults.NotChild) ∷ []
faults_of t (edits.Turn n page) = (not (is_page (node t n).kind), faults.WrongKind) ∷ []
faults_of t (edits.Shapes n shapes) = (not (is_leaf (node t n).kind), faults.WrongKind) ∷ []
faults_of t (edits.Resize size) = []
faults_of t (edits.Rescreen kind) = []

-- the first fault that is found
abbrev pub first_node_fault : List (Bool × NodeFault) → Option NodeFault
first_node_fault [] = None
first_node_fault (x ∷ xs) = if x.0 then Some x.1 else first_node_fault xs

-- the reason for the refusal of an edit, if it is refused
abbrev pub refusal : Nodes → Edit → Option NodeFault
refusal t edit = first_node_fault (faults_of t edit)

-- an edit is refused for its fault; an edit without a fault may run out of memory
abbrev pub IsCause : Option NodeFault → EditRefused → Type 0
IsCause fault refused.NoMemory = fault ≡ None
IsCause fault (refused.Fault f) = fault ≡ Some f
