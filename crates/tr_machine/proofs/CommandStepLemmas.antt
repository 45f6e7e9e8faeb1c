-- Commands that are handed over: their lines, and the state after them.
use Rattle.std.proofs.Common.{◌≡◌, Bool, true, false, List, [], ◌∷◌, ◌++◌, map, length, refl, sym, ap, ◌∙◌, arith, append-nil}
use Rattle.std.specs.Prelude.{◌||◌, ◌&&◌}
use Rattle.std.specs.List.{list_any}
use Rattle.std.proofs.Math.Path.{fun_ext}
use Rattle.std.proofs.lemmas.List.{append_assoc}
use Rattle.std.proofs.lemmas.List.Elements.{All-head, All-push, All-tail, All-weaker}
use Rattle.std.proofs.lemmas.Bool.{or_right}
use Rattle.tr_base.specs.declared.LeafId.{LeafId}
use Rattle.tr_base.proofs.BoolLemmas.{same_number}
use Rattle.tr_client.specs.declared.clients.Client.{Ghosts}
use Rattle.tr_forest.specs.Nodes.{Nodes}
use Rattle.tr_levels.specs.declared.Level.{Level}
use Rattle.tr_levels.specs.declared.Level.TheVariants.{Mu, Share, Win}
use Rattle.tr_levels.specs.Levels.{HaveLevels, HoldsNoLeaf, IsTreeLock}
use Rattle.tr_journal.specs.declared.steps.Actor.TheVariants.{Leaf}
use Rattle.tr_journal.specs.declared.steps.Step.TheVariants.{Act}
use Rattle.tr_journal.specs.Journals.{JournalLine, silent}
use Rattle.tr_journal.specs.Steps.{AreLevels, IsLeaf, IsLevel, is_level}
use Rattle.tr_machine.specs.Windows.{Window, Command, with_change}
use Rattle.tr_machine.specs.States.{State, changed_at, with_window}
use Rattle.tr_machine.specs.Paintings.{acted}
use Rattle.tr_machine.specs.Replays.{IsLegalFrom, line_of_step, lines_by, replay_from}
use Rattle.tr_machine.specs.CommandSteps.{act_entries, act_steps}
use Rattle.tr_machine.proofs.ListLemmas.{changed_at-twice, unchanged}

-- ---- levels

-- what holds no leaf, and then a window, is levels of leaves
window_levels : (t : Nodes) (held : List Level) (leaf : LeafId) → HoldsNoLeaf held → IsLeaf t leaf → AreLevels t (held ++ Win leaf ∷ [])
window_levels t held leaf free is = All-push (IsLevel t) held (Win leaf) (All-weaker IsTreeLock (IsLevel t) lock held free) is
  where
    lock : (level : Level) → IsTreeLock level → IsLevel t level
    lock Mu h = tt
    lock (Share a) h = absurd h
    lock (Win a) h = absurd h

-- the last of a list passes a test
last_passes : (p : Level → Bool) (held : List Level) (x : Level) → p x ≡ true → list_any p (held ++ x ∷ []) ≡ true
last_passes p [] x is = ap (λ b. b || false) is
last_passes p (y ∷ ys) x is = or_right (p y) (list_any p (ys ++ x ∷ [])) (last_passes p ys x is)

module _ {C M : Type 0} (client : Ghosts C M) where
  -- ---- the state

  -- commands in a row
  abbrev pub with_commands : List M → Window C M → Window C M
  with_commands cmds w = record w { made = w.made ++ map Command cmds }

  -- one, and then others
  pub commands_more : (cmd : M) (cmds : List M) (w : Window C M) → with_commands cmds (with_change (Command cmd) w) ≡ with_commands (cmd ∷ cmds) w
  commands_more cmd cmds w = ap (λ made. record w { made = made }) (append_assoc w.made (Command cmd ∷ []) (map Command cmds))

  -- none
  pub no_commands : (w : Window C M) → with_commands [] w ≡ w
  no_commands w = ap (λ made. record w { made = made }) (append-nil w.made)

  -- commands of a leaf in a row
  abbrev pub handed : LeafId → List M → State C M → State C M
  handed leaf cmds m = with_window leaf (with_commands cmds) m

  -- one, and then others
  pub handed_more : (leaf : LeafId) (cmd : M) (cmds : List M) (m : State C M) → handed leaf cmds (acted leaf cmd m) ≡ handed leaf (cmd ∷ cmds) m
  handed_more leaf cmd cmds m =
      let with : List (Window C M) → State C M = λ ws. record m { windows = ws } in
      ap with (changed_at-twice leaf.0 (with_change (Command cmd)) (with_commands cmds) m.windows
      ∙ ap (λ f. changed_at leaf.0 f m.windows) (fun_ext (commands_more cmd cmds)))

  -- none
  pub handed_none : (leaf : LeafId) (m : State C M) → handed leaf [] m ≡ m
  handed_none leaf m =
      let with : List (Window C M) → State C M = λ ws. record m { windows = ws } in
      ap with (unchanged (with_commands []) m.windows leaf.0 no_commands)

  -- the state after their lines
  pub replay_handed : (m : State C M) (leaf : LeafId) (cmds : List M) (levels : List (List Level)) → length levels ≡ length cmds →
      replay_from client m (lines_by client (Leaf leaf) m (act_steps leaf cmds levels)) ≡ handed leaf cmds m
  replay_handed m leaf [] [] same = sym (handed_none leaf m)
  replay_handed m leaf [] (l ∷ levels) same = absurd (omega arith)
  replay_handed m leaf (c ∷ cmds) [] same = absurd (omega arith)
  replay_handed m leaf (c ∷ cmds) (l ∷ levels) same =
      replay_handed (acted leaf c m) leaf cmds levels (omega arith) ∙ handed_more leaf c cmds m

  -- ---- the lines

  -- they send nothing, and depend on no state
  pub handed_lines : (m : State C M) (leaf : LeafId) (cmds : List M) (levels : List (List Level)) →
      lines_by client (Leaf leaf) m (act_steps leaf cmds levels) ≡ silent (act_entries leaf cmds levels)
  handed_lines m leaf [] levels = refl
  handed_lines m leaf (c ∷ cmds) [] = refl
  handed_lines m leaf (c ∷ cmds) (l ∷ levels) =
      ap (λ (ls : List (JournalLine M)). line_of_step client m (Leaf leaf) (l ++ Win leaf ∷ []) (Act leaf c) ∷ ls)
      (handed_lines (acted leaf c m) leaf cmds levels)

  -- they are the machine's
  pub legal_handed : (t : Nodes) (m : State C M) (leaf : LeafId) (cmds : List M) (levels : List (List Level)) → IsLeaf t leaf →
      HaveLevels cmds levels → IsLegalFrom client t m (lines_by client (Leaf leaf) m (act_steps leaf cmds levels))
  legal_handed t m leaf [] levels is have = tt
  legal_handed t m leaf (c ∷ cmds) [] is have = tt
  legal_handed t m leaf (c ∷ cmds) (l ∷ levels) is have = (
    record {
      allowed = record {
        own = record { may = same_number leaf.0; values = is };
        covers = ap (λ b. b && true) (last_passes (is_level (Win leaf)) l (Win leaf) (same_number leaf.0));
        levels = window_levels t l leaf (All-head HoldsNoLeaf l levels have.free) is;
      };
      made = refl;
    },
    legal_handed t (acted leaf c m) leaf cmds levels is (record {
      counts = omega (arith, have.counts);
      free = All-tail HoldsNoLeaf l levels have.free;
    }),
  )
