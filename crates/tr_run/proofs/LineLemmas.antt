-- What a line of a journal names has a name, where each node and each leaf has one.
use Rattle.std.proofs.Common.{◌≡◌, ℕ, ◌<◌, true, ◌==◌, List, [], ◌∷◌, ◌++◌, Option, Some, None, refl, sym, ap, subst, ◌∙◌, arith}
use Rattle.std.specs.Prelude.{All}
use Rattle.std.proofs.lemmas.List.Elements.{All-append, All-cons, All-nil, All-push, All-weaker}
use Rattle.tr_base.specs.declared.LeafId.{LeafId}
use Rattle.tr_base.specs.declared.NodeId.{NodeId}
use Rattle.tr_base.specs.declared.Event.{Event}
use Rattle.tr_base.specs.declared.Spot.{Spot}
use Rattle.tr_base.specs.declared.Spot.TheVariants as spots
use Rattle.tr_base.proofs.RectLemmas.{false-true}
use Rattle.tr_base.proofs.BoolLemmas.{from_or_false}
use Rattle.tr_client.specs.declared.clients.Client.{Ghosts}
use Rattle.tr_forest.specs.declared.Edit.{Edit}
use Rattle.tr_forest.specs.declared.Edit.TheVariants as edits
use Rattle.tr_forest.specs.declared.NodeFault.{NodeFault}
use Rattle.tr_forest.specs.Edits.{IsEdit, refusal}
use Rattle.tr_forest.specs.Forests.{IsForest}
use Rattle.tr_forest.specs.Nodes.{Nodes, IsNode, leaf_count}
use Rattle.tr_tree.specs.Trees.{edited_tree}
use Rattle.tr_spot.specs.Spots.{spot}
use Rattle.tr_spot.specs.Spots as below
use Rattle.tr_spot.proofs.WayLemmas.{equal_numbers}
use Rattle.tr_inbox.specs.declared.Delivery.{Delivery}
use Rattle.tr_desk.specs.declared.desks.DeskFault.{DeskFault}
use Rattle.tr_desk.specs.Faults.{time_fault, mouse_fault, own_fault, disown_fault}
use Rattle.tr_mail.specs.Mails.{Sending}
use Rattle.tr_mail.specs.Deliveries as mail
use Rattle.tr_levels.specs.declared.Level.{Level}
use Rattle.tr_levels.specs.declared.Level.TheVariants.{Mu, Share, Win}
use Rattle.tr_journal.specs.declared.items.Item.{Item}
use Rattle.tr_journal.specs.declared.steps.Actor.{Actor}
use Rattle.tr_journal.specs.declared.steps.Actor.TheVariants as actors
use Rattle.tr_journal.specs.declared.steps.Query.{Query}
use Rattle.tr_journal.specs.declared.steps.Query.TheVariants as queries
use Rattle.tr_journal.specs.declared.steps.Step.{Step}
use Rattle.tr_journal.specs.declared.steps.Step.TheVariants as steps
use Rattle.tr_journal.specs.Journals.{JournalLine}
use Rattle.tr_journal.specs.Openings.{tree_of}
use Rattle.tr_journal.specs.Steps.{AreAsMany, AreLevels, IsLevel, IsOwn, IsQuery, IsStep, may, stated}
use Rattle.tr_journal.proofs.LevelLemmas.{stated_levels}
use Rattle.tr_machine.specs.States.{State, content_of, start}
use Rattle.tr_machine.specs.Machines as machine
use Rattle.tr_machine.specs.Machines.{Outcome, asked_of, delivered_or_refused, edit_step, obeyed, taken}
use Rattle.tr_machine.specs.Replays.{IsLegal, IsLegalFrom, line_of_step, next, replay, replay_from}
use Rattle.tr_machine.proofs.JournalLemmas.{replay-append}
use Rattle.tr_machine.proofs.KeptLemmas.{IsKept, kept_next, step_along}
use Rattle.tr_journal.specs.Names.{HasLeaf, HasNode, Names}
use Rattle.tr_dump.specs.Names.{IsNamedActor, IsNamedEdit, IsNamedLevel, IsNamedLine, IsNamedQuery, IsNamedStep}
use Rattle.tr_stage.specs.Stages.{IsOf, IsPainters, StageView, state}
use Rattle.tr_stage.specs.Standings.{Stands}
use Rattle.tr_run.specs.Views.{AreNamed, IsKnowing, IsNamed}
use Rattle.tr_run.proofs.RunLemmas.{state_made}
use Rattle.tr_run.proofs.MailLemmas.{IsBelow, IsSending, caged-knows, disowned-knows, edited-knows, keyed-knows, moused-knows, moved-knows, owned-knows, taken-knows}
use Rattle.tr_run.proofs.SpotLemmas.{IsWithin, spot_within}

-- ---- the levels of a step

-- a step of the painter holds the tree's lock alone
pub under_lock : {M : Type 0} (t : Nodes) (step : Step M) → IsPainters t step → stated step ≡ Mu ∷ []
under_lock t (steps.Act leaf cmd) is = absurd (false-true is.own.may)
under_lock t (steps.Mark leaf clip) is = absurd (false-true is.own.may)
under_lock t (steps.Take leaf) is = absurd (false-true is.own.may)
under_lock t (steps.SetCage leaf cage) is = absurd (false-true is.own.may)
under_lock t (steps.Own leaf selection time) is = absurd (false-true is.own.may)
under_lock t (steps.Disown leaf selection) is = absurd (false-true is.own.may)
under_lock t (steps.Read leaf selection) is = absurd (false-true is.own.may)
under_lock t step is = refl

-- ---- names

-- a node of the tree has a name
has_node : (names : Names) (t : Nodes) (n : NodeId) → AreNamed names t → IsNode t n → HasNode names n
has_node names t n named is = record { within = omega (arith, named.nodes, is.within) }

-- a leaf of the tree has one
has_leaf : (names : Names) (t : Nodes) (leaf : LeafId) → AreNamed names t → leaf.0 < leaf_count t → HasLeaf names leaf
has_leaf names t leaf named low = record { within = omega (arith, named.leaves, low) }

-- what an edit names
named_edit : (names : Names) (t : Nodes) (edit : Edit) → AreNamed names t → IsEdit t edit → IsNamedEdit names edit
named_edit names t (edits.Attach child parent at) named is = (has_node names t child named is.0, has_node names t parent named is.1)
named_edit names t (edits.Detach child) named is = has_node names t child named is
named_edit names t (edits.Tint n tint) named is = has_node names t n named is
named_edit names t (edits.Border n width) named is = has_node names t n named is
named_edit names t (edits.Offset n by) named is = has_node names t n named is.0
named_edit names t (edits.Fix n size) named is = has_node names t n named is.0
named_edit names t (edits.Move child at) named is = has_node names t child named is.0
named_edit names t (edits.Lift child) named is = has_node names t child named is
named_edit names t (edits.Show n child) named is = (has_node names t n named is.0, has_node names t child named is.1)
named_edit names t (edits.Turn n page) named is = has_node names t n named is
named_edit names t (edits.Shapes n shapes) named is = has_node names t n named is
named_edit names t (edits.Resize size) named is = tt
named_edit names t (edits.Rescreen kind) named is = tt

-- what a report names
named_query : (names : Names) (t : Nodes) (query : Query) → AreNamed names t → IsQuery t query → IsNamedQuery names query
named_query names t (queries.Inbox leaf) named is = has_leaf names t leaf named is.within
named_query names t queries.Dump named is = tt
named_query names t queries.Peek named is = tt
named_query names t queries.Journal named is = tt
named_query names t (queries.Where at) named is = tt

-- what a step names
pub named_step : {M : Type 0} (names : Names) (t : Nodes) (step : Step M) → AreNamed names t → IsStep t step → IsNamedStep names step
named_step names t (steps.Alter edit) named is = named_edit names t edit named is
named_step names t (steps.Flush leaf) named is = has_leaf names t leaf named is.within
named_step names t (steps.Repaint leaf) named is = has_leaf names t leaf named is.within
named_step names t (steps.Report query) named is = named_query names t query named is
named_step names t step named is = tt

-- a leaf's own steps are those of a leaf of the tree
own_leaf : {M : Type 0} (t : Nodes) (own : LeafId) (step : Step M) → may (actors.Leaf own) step ≡ true → IsStep t step → own.0 < leaf_count t
own_leaf t own (steps.Act leaf cmd) h is = omega (arith, equal_numbers own.0 leaf.0 h, is.within)
own_leaf t own (steps.Mark leaf clip) h is = omega (arith, equal_numbers own.0 leaf.0 h, is.0.within)
own_leaf t own (steps.Take leaf) h is = omega (arith, equal_numbers own.0 leaf.0 h, is.within)
own_leaf t own (steps.SetCage leaf cage) h is = omega (arith, equal_numbers own.0 leaf.0 h, is.0.within)
own_leaf t own (steps.Own leaf selection time) h is = omega (arith, equal_numbers own.0 leaf.0 h, is.0.within)
own_leaf t own (steps.Disown leaf selection) h is = omega (arith, equal_numbers own.0 leaf.0 h, is.within)
own_leaf t own (steps.Read leaf selection) h is = omega (arith, equal_numbers own.0 leaf.0 h, is.within)
own_leaf t own (steps.Mouse time button down) h is = absurd (false-true h)
own_leaf t own (steps.Motion time at) h is = absurd (false-true h)
own_leaf t own (steps.Key time code) h is = absurd (false-true h)
own_leaf t own (steps.Alter edit) h is = absurd (false-true h)
own_leaf t own (steps.Flush leaf) h is = omega (arith, equal_numbers own.0 leaf.0 (from_or_false (own.0 == leaf.0) h), is.within)
own_leaf t own (steps.Repaint leaf) h is = omega (arith, equal_numbers own.0 leaf.0 (from_or_false (own.0 == leaf.0) h), is.within)
own_leaf t own steps.PaintFrame h is = absurd (false-true h)
own_leaf t own steps.Sync h is = absurd (false-true h)
own_leaf t own (steps.Report query) h is = absurd (false-true h)

-- the actor of a step
pub named_actor : {M : Type 0} (names : Names) (t : Nodes) (actor : Actor) (step : Step M) → AreNamed names t → may actor step ≡ true →
    IsStep t step → IsNamedActor names actor
named_actor names t (actors.Leaf own) step named h is = has_leaf names t own named (own_leaf t own step h is)
named_actor names t actor step named h is = tt

-- levels of leaves
pub named_levels : (names : Names) (t : Nodes) (levels : List Level) → AreNamed names t → AreLevels t levels → All (IsNamedLevel names) levels
named_levels names t levels named are = All-weaker (IsLevel t) (IsNamedLevel names) each levels are
  where
    each : (level : Level) → IsLevel t level → IsNamedLevel names level
    each Mu is = tt
    each (Share leaf) is = has_leaf names t leaf named is.within
    each (Win leaf) is = has_leaf names t leaf named is.within

-- ---- what a step sends

module _ {C M : Type 0} (client : Ghosts C M) where
  -- the mail of what becomes of a step knows so many leaves, and the step sent events to no others
  record IsGoing (count : ℕ) (out : Outcome C M) : Type 0 where
    mail : IsKnowing count out.state.mail
    sent : All (IsBelow count) out.sent

  -- a step that the desk refuses, or not
  going_unless : (count : ℕ) (o : Option DeskFault) (m : State C M) (s : Sending) → IsKnowing count m.mail → IsSending count s →
      IsGoing count (delivered_or_refused o m s)
  going_unless count None m s is sends = record { mail = sends.mail; sent = sends.sent }
  going_unless count (Some fault) m s is sends = record { mail = is; sent = All-nil (IsBelow count) }

  -- an event that is taken, if there is one
  going_taken : (count : ℕ) (leaf : LeafId) (o : Option Event) (m : State C M) → IsKnowing count m.mail → IsGoing count (taken client leaf o m)
  going_taken count leaf None m is = record { mail = is; sent = All-nil (IsBelow count) }
  going_taken count leaf (Some event) m is =
      record { mail = by_command (asked_of client (content_of client m leaf) event); sent = All-nil (IsBelow count) }
    where
      by_command : (o : Option M) → IsKnowing count (obeyed client leaf o (record m { mail = mail.front_taken leaf m.mail })).mail
      by_command None = taken-knows count leaf m.mail is
      by_command (Some cmd) = taken-knows count leaf m.mail is

  -- an edit that the tree refuses, or not
  going_edited : (count : ℕ) (o : Option NodeFault) (edit : Edit) (m : State C M) → IsKnowing count m.mail → IsGoing count (edit_step client o edit m)
  going_edited count (Some fault) edit m is = record { mail = is; sent = All-nil (IsBelow count) }
  going_edited count None edit m is =
      let sends : IsSending count (mail.tree_edited m.tree (edited_tree m.tree edit) m.mail) = edited-knows count m.tree (edited_tree m.tree edit) m.mail is in
      record { mail = sends.mail; sent = sends.sent }

  -- the spot of a leaf is below the count of leaves
  spot_low : (count : ℕ) (t : Nodes) (s : Spot) → leaf_count t ≡ count → IsWithin t s → below.IsLeafBelow count s
  spot_low count t (spots.Leaf leaf at size kind) same within = omega (arith, same, within)
  spot_low count t (spots.Frame n tint kind) same within = tt
  spot_low count t spots.Off same within = tt

  -- a state whose tree is a forest with as many leaves as another one, and whose mail knows them
  record IsReady (t : Nodes) (m : State C M) : Type 0 where
    forest : IsForest m.tree.nodes
    leaves : leaf_count m.tree.nodes ≡ leaf_count t
    mail : IsKnowing (leaf_count t) m.mail

  -- each step sends events to leaves of the tree
  going : (t : Nodes) (m : State C M) (step : Step M) → IsReady t m → IsStep t step → IsGoing (leaf_count t) (machine.step client m step)
  going t m (steps.Act leaf cmd) ready is = record { mail = ready.mail; sent = All-nil (IsBelow (leaf_count t)) }
  going t m (steps.Mark leaf clip) ready is = record { mail = ready.mail; sent = All-nil (IsBelow (leaf_count t)) }
  going t m (steps.Take leaf) ready is = going_taken (leaf_count t) leaf (mail.front_of m.mail leaf) m ready.mail
  going t m (steps.SetCage leaf cage) ready is =
      let sends : IsSending (leaf_count t) (mail.caged m.tree leaf cage m.mail) = caged-knows (leaf_count t) m.tree leaf cage m.mail ready.mail in
      record { mail = sends.mail; sent = sends.sent }
  going t m (steps.Own leaf selection time) ready is =
      going_unless (leaf_count t) (own_fault m.mail.desk leaf time) m (mail.owned leaf selection m.mail) ready.mail
      (owned-knows (leaf_count t) leaf selection m.mail is.0.within ready.mail)
  going t m (steps.Disown leaf selection) ready is =
      going_unless (leaf_count t) (disown_fault m.mail.desk leaf selection) m (mail.disowned selection m.mail) ready.mail
      (disowned-knows (leaf_count t) selection m.mail ready.mail)
  going t m (steps.Read leaf selection) ready is = record { mail = ready.mail; sent = All-nil (IsBelow (leaf_count t)) }
  going t m (steps.Mouse time button down) ready is =
      going_unless (leaf_count t) (mouse_fault m.mail.desk time button down) m (mail.moused m.tree time button down m.mail) ready.mail
      (moused-knows (leaf_count t) m.tree time button down m.mail
      (spot_low (leaf_count t) m.tree.nodes (spot m.tree m.mail.desk.cursor) ready.leaves (spot_within m.tree ready.forest m.mail.desk.cursor)) ready.mail)
  going t m (steps.Motion time at) ready is =
      going_unless (leaf_count t) (time_fault m.mail.desk time) m (mail.cursor_moved m.tree time at m.mail) ready.mail
      (moved-knows (leaf_count t) m.tree time at m.mail ready.mail)
  going t m (steps.Key time code) ready is =
      going_unless (leaf_count t) (time_fault m.mail.desk time) m (mail.keyed time code m.mail) ready.mail
      (keyed-knows (leaf_count t) time code m.mail ready.mail)
  going t m (steps.Alter edit) ready is = going_edited (leaf_count t) (refusal m.tree.nodes edit) edit m ready.mail
  going t m (steps.Flush leaf) ready is = record { mail = ready.mail; sent = All-nil (IsBelow (leaf_count t)) }
  going t m (steps.Repaint leaf) ready is = record { mail = ready.mail; sent = All-nil (IsBelow (leaf_count t)) }
  going t m steps.PaintFrame ready is = record { mail = ready.mail; sent = All-nil (IsBelow (leaf_count t)) }
  going t m steps.Sync ready is = record { mail = ready.mail; sent = All-nil (IsBelow (leaf_count t)) }
  going t m (steps.Report query) ready is = record { mail = ready.mail; sent = All-nil (IsBelow (leaf_count t)) }

  -- ---- stages

  -- from one stage to the next an actor made a step, holding the step's levels
  pub record IsStepped (s n : StageView C M) (actor : Actor) (step : Step M) : Type 0 where
    pub stands : Stands client s
    pub like : IsOf s.opening (state client s)
    pub own : IsOwn (tree_of s.opening).nodes actor step
    pub opening : n.opening ≡ s.opening
    pub journal : n.journal ≡ s.journal ++ line_of_step client (state client s) actor (stated step) step ∷ []

  -- the next one's journal names what has names, too
  pub named_next : (names : Names) (s n : StageView C M) (actor : Actor) (step : Step M) → IsNamed client names s → IsStepped s n actor step →
      IsNamed client names n
  named_next names s n actor step is made = record {
    tree = subst (λ (items : List (Item C)). AreNamed names (tree_of items).nodes) (sym made.opening) is.tree;
    lines = subst (λ (ls : List (JournalLine M)). All (IsNamedLine names) ls) (sym made.journal)
        (All-push (IsNamedLine names) s.journal (line_of_step client (state client s) actor (stated step) step) is.lines line);
    mail = subst (λ (items : List (Item C)). IsKnowing (leaf_count (tree_of items).nodes) (state client n).mail) (sym made.opening)
        (subst (λ (m : State C M). IsKnowing (leaf_count t) m.mail) (sym (state_made client s n actor (stated step) step made.opening made.journal)) goes.mail);
  }
    where
      t : Nodes
      t = (tree_of s.opening).nodes

      goes : IsGoing (leaf_count t) (machine.step client (state client s) step)
      goes = going t (state client s) step (record { forest = made.stands.forest; leaves = made.like.leaves; mail = is.mail }) made.own.values

      line : IsNamedLine names (line_of_step client (state client s) actor (stated step) step)
      line = record {
        entry = record {
          actor = named_actor names t actor step is.tree made.own.may made.own.values;
          levels = named_levels names t (stated step) is.tree (stated_levels t step made.own.values);
          step = named_step names t step is.tree made.own.values;
        };
        sent = All-weaker (IsBelow (leaf_count t)) (λ (delivery : Delivery). HasLeaf names delivery.leaf)
            (λ (delivery : Delivery) low. has_leaf names t delivery.leaf is.tree low) (machine.step client (state client s) step).sent goes.sent;
      }

  -- ---- lines that others made

  -- a state whose tree is a forest with as many nodes and leaves as another one, and whose mail knows them
  pub record IsLike (t : Nodes) (m : State C M) : Type 0 where
    pub forest : IsForest m.tree.nodes
    pub many : AreAsMany t m.tree.nodes
    pub mail : IsKnowing (leaf_count t) m.mail

  -- a line that the machine made
  named_made : (names : Names) (t : Nodes) (m : State C M) (actor : Actor) (held : List Level) (step : Step M) → AreNamed names t →
      IsLike t m → may actor step ≡ true → IsStep t step → AreLevels t held → IsNamedLine names (line_of_step client m actor held step)
  named_made names t m actor held step named like may values levels =
      let goes : IsGoing (leaf_count t) (machine.step client m step) =
      going t m step (record { forest = like.forest; leaves = like.many.leaves; mail = like.mail }) values in
      record {
        entry = record {
          actor = named_actor names t actor step named may values;
          levels = named_levels names t held named levels;
          step = named_step names t step named values;
        };
        sent = All-weaker (IsBelow (leaf_count t)) (λ (delivery : Delivery). HasLeaf names delivery.leaf)
            (λ (delivery : Delivery) low. has_leaf names t delivery.leaf named low) (machine.step client m step).sent goes.sent;
      }

  -- the state after a step
  like_next : (t : Nodes) (m : State C M) (step : Step M) → IsLike t m → IsStep t step → IsLike t (next client m step)
  like_next t m step like values =
      let kept : IsKept client m (next client m step) = kept_next client m step like.forest (step_along t m.tree.nodes like.many step values) in
      let goes : IsGoing (leaf_count t) (machine.step client m step) =
      going t m step (record { forest = like.forest; leaves = like.many.leaves; mail = like.mail }) values in
      record {
        forest = kept.forest;
        many = record { nodes = kept.nodes ∙ like.many.nodes; leaves = kept.leaves ∙ like.many.leaves };
        mail = goes.mail;
      }

  -- what some lines name has names, and the mail after them knows the leaves
  record AreNamedTo (names : Names) (t : Nodes) (m : State C M) (lines : List (JournalLine M)) : Type 0 where
    named : All (IsNamedLine names) lines
    mail : IsKnowing (leaf_count t) (replay_from client m lines).mail

  named_lines : (names : Names) (t : Nodes) (m : State C M) (lines : List (JournalLine M)) → AreNamed names t → IsLike t m →
      IsLegalFrom client t m lines → AreNamedTo names t m lines
  named_lines names t m [] named like legal = record { named = All-nil (IsNamedLine names); mail = like.mail }
  named_lines names t m (line ∷ lines) named like legal =
      let new : State C M = next client m line.entry.step in
      let first : IsNamedLine names (line_of_step client m line.entry.actor line.entry.level line.entry.step) =
      named_made names t m line.entry.actor line.entry.level line.entry.step named like legal.0.allowed.own.may legal.0.allowed.own.values
      legal.0.allowed.levels in
      let later : AreNamedTo names t new lines =
      named_lines names t new lines named (like_next t m line.entry.step like legal.0.allowed.own.values) legal.1 in
      record {
        named = All-cons (IsNamedLine names) line lines (subst (λ (l : JournalLine M). IsNamedLine names l) (sym legal.0.made) first) later.named;
        mail = later.mail;
      }

  -- of a legal journal the later lines are legal, from the state that the earlier ones led to
  pub legal_later : (t : Nodes) (m : State C M) (xs ys : List (JournalLine M)) → IsLegalFrom client t m (xs ++ ys) →
      IsLegalFrom client t (replay_from client m xs) ys
  legal_later t m [] ys legal = legal
  legal_later t m (x ∷ xs) ys legal = legal_later t (next client m x.entry.step) xs ys legal.1

  -- from one stage to a later one some lines were added, by whomever
  pub record IsLater (s n : StageView C M) (lines : List (JournalLine M)) : Type 0 where
    pub stands : Stands client s
    pub like : IsOf s.opening (state client s)
    pub legal : IsLegal client n.opening n.journal
    pub opening : n.opening ≡ s.opening
    pub journal : n.journal ≡ s.journal ++ lines

  -- the later one's journal names what has names, too
  pub named_later : (names : Names) (s n : StageView C M) (lines : List (JournalLine M)) → IsNamed client names s → IsLater s n lines →
      IsNamed client names n
  named_later names s n lines is later = record {
    tree = subst (λ (items : List (Item C)). AreNamed names (tree_of items).nodes) (sym later.opening) is.tree;
    lines = subst (λ (ls : List (JournalLine M)). All (IsNamedLine names) ls) (sym later.journal)
        (All-append (IsNamedLine names) s.journal lines is.lines named.named);
    mail = subst (λ (items : List (Item C)). IsKnowing (leaf_count (tree_of items).nodes) (state client n).mail) (sym later.opening)
        (subst (λ (m : State C M). IsKnowing (leaf_count t) m.mail) (sym after) named.mail);
  }
    where
      t : Nodes
      t = (tree_of s.opening).nodes

      after : state client n ≡ replay_from client (state client s) lines
      after =
          ap (λ (items : List (Item C)). replay client items n.journal) later.opening
          ∙ ap (λ (ls : List (JournalLine M)). replay client s.opening ls) later.journal
          ∙ replay-append client s.opening s.journal lines

      legal : IsLegalFrom client t (state client s) lines
      legal = legal_later t (start s.opening) s.journal lines
          (subst (λ (ls : List (JournalLine M)). IsLegal client s.opening ls) later.journal
          (subst (λ (items : List (Item C)). IsLegal client items n.journal) later.opening later.legal))

      named : AreNamedTo names t (state client s) lines
      named = named_lines names t (state client s) lines is.tree
          (record { forest = later.stands.forest; many = record { nodes = later.like.nodes; leaves = later.like.leaves }; mail = is.mail })
          legal
