-- What each step leaves of a state: its counts, its root, and that its nodes are a forest.
use Rattle.std.proofs.Common.{◌≡◌, ℕ, ◌<◌, Bool, List, Option, Some, None, length, refl, sym, subst}
use Rattle.tr_base.specs.declared.Point.{Point}
use Rattle.tr_base.specs.declared.NodeId.{NodeId}
use Rattle.tr_base.specs.declared.LeafId.{LeafId}
use Rattle.tr_base.specs.declared.Event.{Event}
use Rattle.tr_client.specs.declared.clients.Client.{Ghosts}
use Rattle.tr_forest.specs.declared.Edit.{Edit}
use Rattle.tr_forest.specs.declared.Edit.TheVariants as edits
use Rattle.tr_forest.specs.declared.NodeFault.{NodeFault}
use Rattle.tr_forest.specs.Nodes.{Nodes, IsNode, leaf_count}
use Rattle.tr_forest.specs.Forests.{IsForest}
use Rattle.tr_forest.specs.Edits.{IsEdit, refusal}
use Rattle.tr_forest.proofs.Keeping.{Follows}
use Rattle.tr_forest.proofs.Editing.{follows_edited}
use Rattle.tr_tree.specs.Trees.{edited_tree}
use Rattle.tr_desk.specs.declared.desks.DeskFault.{DeskFault}
use Rattle.tr_desk.specs.Faults.{time_fault, mouse_fault, own_fault, disown_fault}
use Rattle.tr_mail.specs.Mails.{Mails, Sending}
use Rattle.tr_mail.specs.Deliveries as mail
use Rattle.tr_journal.specs.declared.steps.Step.{Step}
use Rattle.tr_journal.specs.declared.steps.Step.TheVariants as steps
use Rattle.tr_journal.specs.declared.steps.Query.{Query}
use Rattle.tr_journal.specs.declared.steps.Query.TheVariants as queries
use Rattle.tr_journal.specs.Steps.{AreAsMany, IsLeaf, IsQuery, IsStep}
use Rattle.tr_machine.specs.Windows.{Window, Command, Mark, updated, with_change}
use Rattle.tr_machine.specs.States.{State, content_of, with_window}
use Rattle.tr_machine.specs.Paintings.{acted, flushed, repainted, framed}
use Rattle.tr_machine.specs.Machines.{edit_step, obeyed, asked_of, taken, delivered_or_refused}
use Rattle.tr_machine.specs.Replays.{next}
use Rattle.tr_machine.proofs.ListLemmas.{refitted_from-length, with_window-length}

module _ {C M : Type 0} (client : Ghosts C M) where
  -- what each step leaves of a state: the font, how many windows, nodes and leaves there are, the root, and that the nodes are a forest
  pub record IsKept (m new : State C M) : Type 0 where
    pub font : new.font ≡ m.font
    pub windows : length new.windows ≡ length m.windows
    pub nodes : length new.tree.nodes.entries ≡ length m.tree.nodes.entries
    pub leaves : leaf_count new.tree.nodes ≡ leaf_count m.tree.nodes
    pub root : new.tree.nodes.root ≡ m.tree.nodes.root
    pub forest : IsForest new.tree.nodes

  -- a state with other mail, bad points and windows, which are as many
  pub kept_but : (m : State C M) (bad : Point → Bool) (mail : Mails) (windows : List (Window C M)) → IsForest m.tree.nodes →
      length windows ≡ length m.windows → IsKept m (record m { bad = bad; mail = mail; windows = windows })
  kept_but m bad mail windows forest many = record { font = refl; windows = many; nodes = refl; leaves = refl; root = refl; forest = forest }

  -- the state itself
  pub kept_itself : (m : State C M) → IsForest m.tree.nodes → IsKept m m
  kept_itself m forest = kept_but m m.bad m.mail m.windows forest refl

  -- a state with other mail
  pub kept_mail : (m : State C M) (mail : Mails) → IsForest m.tree.nodes → IsKept m (record m { mail = mail })
  kept_mail m mail forest = kept_but m m.bad mail m.windows forest refl

  -- a state in which something was made of a leaf's window, or also other points are bad
  kept_window : (m : State C M) (leaf : LeafId) (change : Window C M → Window C M) (bad : Point → Bool) → IsForest m.tree.nodes →
      IsKept m (record (with_window leaf change m) { bad = bad })
  kept_window m leaf change bad forest = kept_but m bad m.mail (with_window leaf change m).windows forest (with_window-length leaf change m)

  -- a step that the desk refuses, or not
  kept_unless : (o : Option DeskFault) (m : State C M) (s : Sending) → IsForest m.tree.nodes → IsKept m (delivered_or_refused o m s).state
  kept_unless None m s forest = kept_mail m s.mail forest
  kept_unless (Some fault) m s forest = kept_itself m forest

  -- an event that is taken, if there is one
  kept_taken : (m : State C M) (leaf : LeafId) (o : Option Event) → IsForest m.tree.nodes → IsKept m (taken client leaf o m).state
  kept_taken m leaf None forest = kept_itself m forest
  kept_taken m leaf (Some event) forest = by_command (asked_of client (content_of client m leaf) event)
    where
      by_command : (o : Option M) → IsKept m (obeyed client leaf o (record m { mail = mail.front_taken leaf m.mail }))
      by_command None = kept_mail m (mail.front_taken leaf m.mail) forest
      by_command (Some cmd) =
          kept_but m m.bad (mail.front_taken leaf m.mail) (acted leaf cmd m).windows forest (with_window-length leaf (with_change (Command cmd)) m)

  -- an edit that the tree refuses, or not
  kept_edited : (m : State C M) (edit : Edit) → IsForest m.tree.nodes → IsEdit m.tree.nodes edit →
      (o : Option NodeFault) → refusal m.tree.nodes edit ≡ o →
      IsKept m (edit_step client o edit m).state
  kept_edited m edit forest fits None allowed =
      let f : Follows m.tree.nodes (edited_tree m.tree edit).nodes = follows_edited m.tree.nodes edit forest fits allowed in
      record {
        font = refl;
        windows = refitted_from-length client 0 m.tree (edited_tree m.tree edit) m.windows;
        nodes = f.values.count;
        leaves = f.values.leaf_count;
        root = f.values.root;
        forest = f.forest;
      }
  kept_edited m edit forest fits (Some fault) refused = kept_itself m forest

  -- each step keeps it
  pub kept_next : (m : State C M) (step : Step M) → IsForest m.tree.nodes → IsStep m.tree.nodes step → IsKept m (next client m step)
  kept_next m (steps.Act leaf cmd) forest fits = kept_window m leaf (with_change (Command cmd)) m.bad forest
  kept_next m (steps.Mark leaf clip) forest fits = kept_window m leaf (with_change (Mark clip)) m.bad forest
  kept_next m (steps.Take leaf) forest fits = kept_taken m leaf (mail.front_of m.mail leaf) forest
  kept_next m (steps.SetCage leaf cage) forest fits = kept_mail m (mail.caged m.tree leaf cage m.mail).mail forest
  kept_next m (steps.Own leaf selection time) forest fits = kept_unless (own_fault m.mail.desk leaf time) m (mail.owned leaf selection m.mail) forest
  kept_next m (steps.Disown leaf selection) forest fits = kept_unless (disown_fault m.mail.desk leaf selection) m (mail.disowned selection m.mail) forest
  kept_next m (steps.Read leaf selection) forest fits = kept_itself m forest
  kept_next m (steps.Mouse time button down) forest fits =
      kept_unless (mouse_fault m.mail.desk time button down) m (mail.moused m.tree time button down m.mail) forest
  kept_next m (steps.Motion time at) forest fits = kept_unless (time_fault m.mail.desk time) m (mail.cursor_moved m.tree time at m.mail) forest
  kept_next m (steps.Key time code) forest fits = kept_unless (time_fault m.mail.desk time) m (mail.keyed time code m.mail) forest
  kept_next m (steps.Alter edit) forest fits = kept_edited m edit forest fits (refusal m.tree.nodes edit) refl
  kept_next m (steps.Flush leaf) forest fits = kept_window m leaf (updated client) (flushed client leaf m).bad forest
  kept_next m (steps.Repaint leaf) forest fits = kept_window m leaf (updated client) (repainted client leaf m).bad forest
  kept_next m steps.PaintFrame forest fits = kept_but m (framed m).bad m.mail m.windows forest refl
  kept_next m steps.Sync forest fits = kept_itself m forest
  kept_next m (steps.Report query) forest fits = kept_itself m forest

-- ---- the numbers of a step

-- what is a node, a leaf, an edit or a query of the first is one of the second
module _ (t new : Nodes) (many : AreAsMany t new) where
  -- a node
  node_along : (n : NodeId) → IsNode t n → IsNode new n
  node_along n h = record { within = subst (λ (k : ℕ). n.0 < k) (sym many.nodes) h.within }

  -- a leaf
  leaf_along : (leaf : LeafId) → IsLeaf t leaf → IsLeaf new leaf
  leaf_along leaf h = record { within = subst (λ (k : ℕ). leaf.0 < k) (sym many.leaves) h.within }

  -- an edit
  edit_along : (edit : Edit) → IsEdit t edit → IsEdit new edit
  edit_along (edits.Attach child parent at) h = (node_along child h.0, node_along parent h.1, h.2)
  edit_along (edits.Detach child) h = node_along child h
  edit_along (edits.Tint n tint) h = node_along n h
  edit_along (edits.Border n width) h = node_along n h
  edit_along (edits.Offset n by) h = (node_along n h.0, h.1)
  edit_along (edits.Fix n size) h = (node_along n h.0, h.1)
  edit_along (edits.Move child at) h = (node_along child h.0, h.1)
  edit_along (edits.Lift child) h = node_along child h
  edit_along (edits.Show n child) h = (node_along n h.0, node_along child h.1)
  edit_along (edits.Turn n page) h = node_along n h
  edit_along (edits.Shapes n shapes) h = node_along n h
  edit_along (edits.Resize size) h = h
  edit_along (edits.Rescreen kind) h = h

  -- a query
  query_along : (query : Query) → IsQuery t query → IsQuery new query
  query_along (queries.Where at) h = h
  query_along (queries.Inbox leaf) h = leaf_along leaf h
  query_along query h = h

  -- the numbers of a step are still those of leaves and nodes
  pub step_along : {M : Type 0} (step : Step M) → IsStep t step → IsStep new step
  step_along (steps.Act leaf cmd) h = leaf_along leaf h
  step_along (steps.Mark leaf clip) h = (leaf_along leaf h.0, h.1)
  step_along (steps.Take leaf) h = leaf_along leaf h
  step_along (steps.SetCage leaf cage) h = (leaf_along leaf h.0, h.1)
  step_along (steps.Own leaf selection time) h = (leaf_along leaf h.0, h.1)
  step_along (steps.Disown leaf selection) h = leaf_along leaf h
  step_along (steps.Read leaf selection) h = leaf_along leaf h
  step_along (steps.Mouse time button down) h = h
  step_along (steps.Motion time at) h = h
  step_along (steps.Key time code) h = h
  step_along (steps.Alter edit) h = edit_along edit h
  step_along (steps.Flush leaf) h = leaf_along leaf h
  step_along (steps.Repaint leaf) h = leaf_along leaf h
  step_along steps.PaintFrame h = h
  step_along steps.Sync h = h
  step_along (steps.Report query) h = query_along query h

-- ---- journals

module _ {C M : Type 0} (client : Ghosts C M) where
  -- a kept state has as many nodes and leaves
  pub as_many : (m new : State C M) → IsKept client m new → AreAsMany m.tree.nodes new.tree.nodes
  as_many m new kept = record { nodes = kept.nodes; leaves = kept.leaves }
