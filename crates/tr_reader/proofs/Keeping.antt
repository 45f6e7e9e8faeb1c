-- What a line adds keeps what is so of every script so far.
use Rattle.std.proofs.Common.{◌≡◌, ℕ, ◌+◌, true, false, List, All, [], ◌∷◌, ◌++◌, length, Option, Some, None, is_some, is_none, refl, sym, ap, subst, ◌∙◌, arith, length-append}
use Rattle.std.specs.Prelude.{sum_by}
use Rattle.std.proofs.lemmas.List.Elements.{All-nil, All-push, All-append}
use Rattle.std.proofs.lemmas.List.Sums.{sum_by-append}
use Rattle.tr_base.specs.declared.Size.{Size}
use Rattle.tr_base.specs.declared.Kind.{Kind}
use Rattle.tr_base.specs.declared.LeafId.{LeafId}
use Rattle.tr_forest.specs.declared.NodeKind.TheVariants as kinds
use Rattle.tr_forest.specs.declared.NodeFault.{NodeFault}
use Rattle.tr_forest.specs.Nodes.{Nodes, leaf_count, new_entry}
use Rattle.tr_tree.specs.Trees.{Seen}
use Rattle.tr_journal.specs.declared.Item.{Item}
use Rattle.tr_journal.specs.declared.Item.TheVariants as items
use Rattle.tr_journal.specs.declared.Actor.{Actor}
use Rattle.tr_journal.specs.declared.Step.{Step}
use Rattle.tr_journal.specs.declared.Query.{Query}
use Rattle.tr_journal.specs.Openings.{tree_of, tree_after}
use Rattle.tr_journal.specs.Steps.{IsQuery}
use Rattle.tr_journal.proofs.OpeningLemmas.{tree_more, node_leaves, leaf_leaves, put_keeps}
use Rattle.tr_widget.specs.declared.Widget.{Widget}
use Rattle.tr_widget.specs.declared.WidgetCmd.{WidgetCmd}
use Rattle.tr_grammar.specs.declared.Place.{Place}
use Rattle.tr_grammar.specs.declared.Place.TheVariants as places
use Rattle.tr_grammar.specs.declared.Meaning.{Meaning}
use Rattle.tr_grammar.specs.declared.Meaning.TheVariants as meanings
use Rattle.tr_journal.specs.Names.{Names}
use Rattle.tr_journal.specs.Parts.{Part}
use Rattle.tr_grammar.specs.Names.{number_of}
use Rattle.tr_grammar.specs.States.{SoFar, empty_part, nothing_yet}
use Rattle.tr_grammar.specs.Faults.{version_line, screen_line, opening_line, step_line, report_line, allows, is_refused, nodes_so_far, reports_so_far, has_ended}
use Rattle.tr_grammar.specs.Scripts.{after_meaning, with_name, with_glyph, whole, IsPlayable, IsPlayablePart, IsPlayableScript}
use Rattle.tr_reader.proofs.NameLemmas.{none_before, none_after}
use Rattle.tr_reader.specs.Laws.{IsBare, HasNoPart, HasParts, HasRead, IsSoFar}
use Rattle.tr_reader.specs.Adding.{is_at_steps, with_steps, sort_of_meaning, IsSoundItem, IsSoundValue}
use Rattle.tr_reader.specs.declared.readers.Reader.TheInside.{Inside}
use Rattle.tr_reader.specs.declared.readers.Declared.{Declared}
use Rattle.tr_reader.specs.Insides.{items_in, names_in, so_far, HoldsTogether}

-- ---- what was read before a line of a sort

before_version : (p : Place) (c : SoFar) → allows p version_line ≡ true → HasRead p c → IsBare c
before_version places.Start c a h = h
before_version places.Head c a h = cc
before_version places.Opening c a h = cc
before_version places.Gap c a h = cc
before_version places.Steps c a h = cc
before_version places.Ended c a h = cc

before_screen : (p : Place) (c : SoFar) → allows p screen_line ≡ true → HasRead p c → IsBare c
before_screen places.Start c a h = cc
before_screen places.Head c a h = h
before_screen places.Opening c a h = cc
before_screen places.Gap c a h = cc
before_screen places.Steps c a h = cc
before_screen places.Ended c a h = cc

before_item : (p : Place) (c : SoFar) → allows p opening_line ≡ true → HasRead p c → HasNoPart c
before_item places.Start c a h = cc
before_item places.Head c a h = cc
before_item places.Opening c a h = h
before_item places.Gap c a h = cc
before_item places.Steps c a h = cc
before_item places.Ended c a h = cc

before_step : (p : Place) (c : SoFar) → allows p step_line ≡ true → HasRead p c → HasParts c
before_step places.Start c a h = cc
before_step places.Head c a h = cc
before_step places.Opening c a h = cc
before_step places.Gap c a h = h
before_step places.Steps c a h = h
before_step places.Ended c a h = cc

before_report : (p : Place) (c : SoFar) → allows p report_line ≡ true → HasRead p c → HasParts c
before_report places.Start c a h = cc
before_report places.Head c a h = cc
before_report places.Opening c a h = cc
before_report places.Gap c a h = h
before_report places.Steps c a h = cc
before_report places.Ended c a h = cc

-- ---- what a line keeps

-- a name that isn't a node's isn't a leaf's
abbrev IsShared : Names → Type 0
IsShared names = (q : List ℕ) → number_of names.nodes q ≡ None → number_of names.leaves q ≡ None

-- a name more of a node, and of a leaf
shared_node : (names : Names) (w : List ℕ) → IsShared names → number_of names.nodes w ≡ None → IsShared (record names { nodes = names.nodes ++ w ∷ [] })
shared_node names w shared new q none = shared q (none_before names.nodes w q new none).1

shared_leaf : (names : Names) (w : List ℕ) → IsShared names → number_of names.nodes w ≡ None →
    IsShared (record { nodes = names.nodes ++ w ∷ []; leaves = names.leaves ++ w ∷ [] })
shared_leaf names w shared new q none =
    let before = none_before names.nodes w q new none in
    none_after names.leaves w q (shared w new) before.0 (shared q before.1)

-- an item of the opening, and its name
item_kept : (c : SoFar) (w : List ℕ) (item : Item Widget) → HasNoPart c →
    length (with_name w item c.names).nodes ≡ length (tree_after (tree_of c.items) item).nodes.entries →
    length (with_name w item c.names).leaves ≡ leaf_count (tree_after (tree_of c.items) item).nodes →
    IsShared (with_name w item c.names) → IsSoFar (after_meaning c w (meanings.Item item))
item_kept c w item none nodes leaves shared = record {
  nodes = nodes ∙ ap (λ (t : Seen). length t.nodes.entries) (sym (tree_more c.items item));
  leaves = leaves ∙ ap (λ (t : Seen). leaf_count t.nodes) (sym (tree_more c.items item));
  shared = shared;
  read = record { ended = none.ended; part = none.part };
}

-- one name more, and one node more
one_more : {A B : Type 0} (xs : List A) (ys : List B) (x : A) (y : B) → length xs ≡ length ys → length (xs ++ x ∷ []) ≡ length (ys ++ y ∷ [])
one_more xs ys x y same = length-append xs (x ∷ []) ∙ ap (λ n. n + 1) same ∙ sym (length-append ys (y ∷ []))

is_there : {A : Type 0} (o : Option A) → is_none o ≡ false → is_some o ≡ true
is_there None h = cc
is_there (Some x) h = refl

no_reports : (t : Nodes) → IsPlayablePart t empty_part
no_reports t = record { reports = All-nil (IsQuery t); steps = All-nil (IsPlayable t) }

-- behind the screen line
with_screen : (n : ℕ) (p : Place) (w : List ℕ) (size : Size) (kind : Kind) →
    IsSoFar (after_meaning (record nothing_yet { version = n; place = p }) w (meanings.Item (items.Screen size kind)))
with_screen n p w size kind = record { nodes = refl; leaves = refl; shared = λ q none. none; read = record { ended = refl; part = refl } }

pub keeps : (c : SoFar) (w : List ℕ) (m : Meaning) → IsSoFar c → allows c.place (sort_of_meaning m) ≡ true → IsSoundValue c w m →
    is_refused c m ≡ false → IsSoFar (after_meaning c w m)
keeps c w (meanings.Version n) h a v r = record {
  nodes = h.nodes;
  leaves = h.leaves;
  shared = h.shared;
  read = ap (λ (d : SoFar). record d { version = n; place = places.Head }) (before_version c.place c a h.read);
}
keeps c w (meanings.Item (items.Screen size kind)) h a v r =
    subst (λ (d : SoFar). IsSoFar (after_meaning d w (meanings.Item (items.Screen size kind)))) (sym (before_screen c.place c a h.read))
    (with_screen c.version c.place w size kind)
keeps c w (meanings.Item (items.Glyph byte rows)) h a v r =
    item_kept c w (items.Glyph byte rows) (before_item c.place c a h.read) h.nodes h.leaves h.shared
keeps c w (meanings.Item (items.Node kind tint)) h a v r =
    item_kept c w (items.Node kind tint) (before_item c.place c a h.read)
    (one_more c.names.nodes (nodes_so_far c).entries w (new_entry kind tint) h.nodes)
    (h.leaves ∙ sym (node_leaves (tree_of c.items) kind tint v.3))
    (shared_node c.names w h.shared v.0)
keeps c w (meanings.Item (items.Leaf shapes content)) h a v r =
    let leaf : LeafId = record { 0 = leaf_count (nodes_so_far c) } in
    item_kept c w (items.Leaf shapes content) (before_item c.place c a h.read)
    (one_more c.names.nodes (nodes_so_far c).entries w (new_entry (kinds.Leaf leaf shapes) 0) h.nodes)
    (length-append c.names.leaves (w ∷ []) ∙ ap (λ n. n + 1) h.leaves ∙ sym (leaf_leaves (tree_of c.items) leaf shapes))
    (shared_leaf c.names w h.shared v)
keeps c w (meanings.Item (items.Put child parent at)) h a v r =
    let same = put_keeps (nodes_so_far c) child parent at v.0 v.1 in
    item_kept c w (items.Put child parent at) (before_item c.place c a h.read) (h.nodes ∙ sym same.count) (h.leaves ∙ sym same.leaf_count)
    h.shared
keeps c w (meanings.Item (items.Root node)) h a v r =
    item_kept c w (items.Root node) (before_item c.place c a h.read) h.nodes h.leaves h.shared
keeps c w meanings.Begin h a v r =
    let none = before_item c.place c a h.read in
    record {
      nodes = h.nodes;
      leaves = h.leaves;
      shared = h.shared;
      read = record {
        root = is_there (nodes_so_far c).root r;
        ended = rw none.ended (All-nil (IsPlayablePart (nodes_so_far c)));
        part = rw none.part (no_reports (nodes_so_far c));
      };
    }
keeps c w (meanings.Step actor step) h a v r =
    let old = before_step c.place c a h.read in
    record {
      nodes = h.nodes;
      leaves = h.leaves;
      shared = h.shared;
      read = record {
        root = old.root;
        ended = old.ended;
        part = record { reports = old.part.reports; steps = All-push (IsPlayable (nodes_so_far c)) c.part.steps (actor, step) old.part.steps v };
      };
    }
keeps c w meanings.Sync h a v r =
    let old = before_step c.place c a h.read in
    record {
      nodes = h.nodes;
      leaves = h.leaves;
      shared = h.shared;
      read = record {
        root = old.root;
        ended = All-push (IsPlayablePart (nodes_so_far c)) c.ended c.part old.ended old.part;
        part = no_reports (nodes_so_far c);
      };
    }
keeps c w (meanings.Report query) h a v r =
    let old = before_report c.place c a h.read in
    record {
      nodes = h.nodes;
      leaves = h.leaves;
      shared = h.shared;
      read = record {
        root = old.root;
        ended = old.ended;
        part = record { reports = All-push (IsQuery (nodes_so_far c)) c.part.reports query old.part.reports v; steps = old.part.steps };
      };
    }
keeps c w meanings.End h a v r =
    let old = before_report c.place c a h.read in
    record { nodes = h.nodes; leaves = h.leaves; shared = h.shared; read = record { root = old.root; ended = old.ended; part = old.part } }

-- ---- what the fields keep

-- how many reports a line is
abbrev pub reports_in : Meaning → ℕ
reports_in (meanings.Report query) = 1
reports_in m = 0

one_report : (sum : ℕ) (qs : List Query) (query : Query) → sum + length (qs ++ query ∷ []) ≡ sum + length qs + 1
one_report sum qs query = let more = length-append qs (query ∷ []) in omega arith

ended_reports : (ended : List (Part WidgetCmd)) (part : Part WidgetCmd) →
    sum_by (λ p. length p.reports) (ended ++ part ∷ []) + 0 ≡ sum_by (λ p. length p.reports) ended + length part.reports + 0
ended_reports ended part =
    let both = sum_by-append (λ (p : Part WidgetCmd). length p.reports) ended (part ∷ []) in
    omega arith

more_reports : (c : SoFar) (w : List ℕ) (m : Meaning) → reports_so_far (after_meaning c w m) ≡ reports_so_far c + reports_in m
more_reports c w (meanings.Version n) = omega arith
more_reports c w (meanings.Item item) = omega arith
more_reports c w meanings.Begin = omega arith
more_reports c w (meanings.Step actor step) = omega arith
more_reports c w meanings.Sync = ended_reports c.ended c.part
more_reports c w (meanings.Report query) = one_report (sum_by (λ p. length p.reports) c.ended) c.part.reports query
more_reports c w meanings.End = omega arith

-- the fields keep it behind a line, where c is what they say before it
pub kept_after : (r new : Inside) (c : SoFar) (w : List ℕ) (m : Meaning) → so_far r ≡ c → HoldsTogether r →
    allows c.place (sort_of_meaning m) ≡ true → IsSoundValue c w m → is_refused c m ≡ false →
    so_far new ≡ after_meaning (so_far r) w m → new.report_count ≡ r.report_count + reports_in m → HoldsTogether new
kept_after r new c w m is kept a v taken made counted =
    let same : so_far new ≡ after_meaning c w m = made ∙ ap (λ (s : SoFar). after_meaning s w m) is in
    let more : r.report_count + reports_in m ≡ reports_so_far c + reports_in m =
    ap (λ (n : ℕ). n + reports_in m) (kept.reports ∙ ap (λ (s : SoFar). reports_so_far s) is) in
    record {
      law = subst (λ (s : SoFar). IsSoFar s) (sym same) (keeps c w m (subst (λ (s : SoFar). IsSoFar s) is kept.law) a v taken);
      reports = counted ∙ more ∙ sym (more_reports c w m) ∙ ap (λ (s : SoFar). reports_so_far s) (sym same);
    }

-- behind steps there is a root, and all parts can be played
behind_steps : (p : Place) (c : SoFar) → is_at_steps p ≡ true → HasRead p c → HasParts c
behind_steps places.Start c a h = cc
behind_steps places.Head c a h = cc
behind_steps places.Opening c a h = cc
behind_steps places.Gap c a h = cc
behind_steps places.Steps c a h = h
behind_steps places.Ended c a h = cc

-- the same of what is read behind them
reads_steps : (p : Place) (c : SoFar) → is_at_steps p ≡ true → HasParts c → HasRead p c
reads_steps places.Start c a h = cc
reads_steps places.Head c a h = cc
reads_steps places.Opening c a h = cc
reads_steps places.Gap c a h = cc
reads_steps places.Steps c a h = h
reads_steps places.Ended c a h = cc

-- steps that can be played keep what is so of every script so far
keeps_steps : (c : SoFar) (made : List (Actor × Step WidgetCmd)) → IsSoFar c → is_at_steps c.place ≡ true →
    All (IsPlayable (nodes_so_far c)) made → IsSoFar (with_steps c made)
keeps_steps c made h a playable =
    let old = behind_steps c.place c a h.read in
    let parts : HasParts (with_steps c made) = record {
      root = old.root;
      ended = old.ended;
      part = record {
        reports = old.part.reports;
        steps = All-append (IsPlayable (nodes_so_far c)) c.part.steps made old.part.steps playable;
      };
    } in
    record { nodes = h.nodes; leaves = h.leaves; shared = h.shared; read = reads_steps c.place (with_steps c made) a parts }

-- the fields keep it behind such steps, where c is what they say before them
pub kept_behind_steps : (r new : Inside) (c : SoFar) (made : List (Actor × Step WidgetCmd)) → so_far r ≡ c → HoldsTogether r →
    is_at_steps c.place ≡ true → All (IsPlayable (nodes_so_far c)) made →
    so_far new ≡ with_steps (so_far r) made → new.report_count ≡ r.report_count → HoldsTogether new
kept_behind_steps r new c made is kept a playable added counted =
    let same : so_far new ≡ with_steps c made = added ∙ ap (λ (s : SoFar). with_steps s made) is in
    record {
      law = subst (λ (s : SoFar). IsSoFar s) (sym same) (keeps_steps c made (subst (λ (s : SoFar). IsSoFar s) is kept.law) a playable);
      reports = counted ∙ kept.reports ∙ ap (λ (s : SoFar). reports_so_far s) is ∙ ap (λ (s : SoFar). reports_so_far s) (sym same);
    }

-- an item of the opening stands there
place_is : (p : Place) → allows p opening_line ≡ true → p ≡ places.Opening
place_is places.Start a = cc
place_is places.Head a = cc
place_is places.Opening a = refl
place_is places.Gap a = cc
place_is places.Steps a = cc
place_is places.Ended a = cc

-- the script that the fields say, with these in place of theirs
abbrev seen : Inside → Place → Names → List (Item Widget) → List ℕ → SoFar
seen r p names items glyphs = record {
  version = r.version;
  place = p;
  names = names;
  items = items;
  glyphs = glyphs;
  ended = r.ended.items;
  part = record { reports = r.reports.items; steps = r.steps };
}

-- the opening before an item that is no screen, and behind it
pub record IsMore (r : Inside) (d new : Declared) (w : List ℕ) (item : Item Widget) : Type 0 where
  pub before : r.declared ≡ Some d
  pub opening : new.opening ≡ d.opening ++ item ∷ []
  pub names : names_in (Some new) ≡ with_name w item (names_in (Some d))
  pub glyphs : with_glyph item r.glyphs.items ≡ r.glyphs.items
  pub sort : sort_of_meaning (meanings.Item item) ≡ opening_line
  pub reports : reports_in (meanings.Item item) ≡ 0

made_item : (r : Inside) (d new : Declared) (w : List ℕ) (item : Item Widget) → IsMore r d new w item → r.place ≡ places.Opening →
    so_far (record r { declared = Some new }) ≡ after_meaning (so_far r) w (meanings.Item item)
made_item r d new w item more here =
    let names : names_in (Some new) ≡ with_name w item (names_in r.declared) =
    more.names ∙ ap (λ (o : Option Declared). with_name w item (names_in o)) (sym more.before) in
    let items : new.opening ≡ items_in r.declared ++ item ∷ [] =
    more.opening ∙ ap (λ (o : Option Declared). items_in o ++ item ∷ []) (sym more.before) in
    let gs = r.glyphs.items in
    ap (λ (p : Place). seen r p (names_in (Some new)) new.opening gs) here
    ∙ ap (λ (n : Names). seen r places.Opening n new.opening gs) names
    ∙ ap (λ (xs : List (Item Widget)). seen r places.Opening (with_name w item (names_in r.declared)) xs gs) items
    ∙ ap (λ (bs : List ℕ). seen r places.Opening (with_name w item (names_in r.declared)) (items_in r.declared ++ item ∷ []) bs) (sym more.glyphs)

pub kept_item : (r : Inside) (c : SoFar) (d new : Declared) (w : List ℕ) (item : Item Widget) → so_far r ≡ c → HoldsTogether r →
    IsMore r d new w item → allows c.place opening_line ≡ true → IsSoundItem c w item → is_refused c (meanings.Item item) ≡ false →
    HoldsTogether (record r { declared = Some new })
kept_item r c d new w item is kept more a v taken =
    let here = place_is r.place (subst (λ (s : SoFar). allows s.place opening_line ≡ true) (sym is) a) in
    kept_after r (record r { declared = Some new }) c w (meanings.Item item) is kept (rw more.sort a) v taken
    (made_item r d new w item more here) (rw more.reports (omega arith))

-- where the opening refuses nothing, the script so far doesn't
pub not_refused : (r : Inside) (c : SoFar) (d : Declared) (fault : List (Item Widget) → Option NodeFault) → so_far r ≡ c → r.declared ≡ Some d →
    fault d.opening ≡ None → is_some (fault c.items) ≡ false
not_refused r c d fault is at none =
    let same : c.items ≡ d.opening = ap (λ (s : SoFar). s.items) (sym is) ∙ ap (λ (o : Option Declared). items_in o) at in
    ap (λ (o : Option NodeFault). is_some o) (ap fault same ∙ none)

-- a whole script is made of the fields
pub whole_is : (r : Inside) (c : SoFar) (d : Declared) → so_far r ≡ c → r.declared ≡ Some d →
    record { opening = d.opening; names = names_in (Some d); parts = r.ended.items ++ record { reports = r.reports.items; steps = r.steps } ∷ [] } ≡ whole c
whole_is r c d is at =
    ap (λ (o : Option Declared). whole (seen r r.place (names_in o) (items_in o) r.glyphs.items)) (sym at) ∙ ap (λ (s : SoFar). whole s) is

-- a name that no node has is no leaf's
pub leaf_is_new : (r : Inside) (c : SoFar) (d : Declared) (w : List ℕ) → so_far r ≡ c → HoldsTogether r → r.declared ≡ Some d →
    number_of c.names.nodes w ≡ None → number_of d.leaves w ≡ None
leaf_is_new r c d w is kept at new =
    let none = (subst (λ (s : SoFar). IsSoFar s) is kept.law).shared w new in
    let names : c.names ≡ names_in (Some d) = ap (λ (s : SoFar). s.names) (sym is) ∙ ap (λ (o : Option Declared). names_in o) at in
    ap (λ (n : Names). number_of n.leaves w) (sym names) ∙ none

-- ---- the end

is_ended : (p : Place) (c : SoFar) → has_ended p ≡ true → HasRead p c → HasParts c
is_ended places.Ended c e h = h
is_ended places.Start c e h = cc
is_ended places.Head c e h = cc
is_ended places.Opening c e h = cc
is_ended places.Gap c e h = cc
is_ended places.Steps c e h = cc

-- a script so far whose end was read is a whole one
pub finished : (c : SoFar) → IsSoFar c → has_ended c.place ≡ true → IsPlayableScript (whole c)
finished c h e =
    let read = is_ended c.place c e h.read in
    record { root = read.root; nodes = h.nodes; leaves = h.leaves; parts = All-push (IsPlayablePart (nodes_so_far c)) c.ended c.part read.ended read.part }
