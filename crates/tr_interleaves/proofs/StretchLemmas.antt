-- Lines in a row: the steps of an actor among them, their stretches, and that the screen is settled whenever it is dumped.
use Rattle.std.proofs.Common.{◌≡◌, Bool, true, false, cond, List, [], ◌∷◌, ◌++◌, refl, sym, ap, subst, ◌∙◌, append_assoc}
use Rattle.std.specs.Prelude.{map}
use Rattle.std.proofs.lemmas.List.{append-nil, map-append}
use Rattle.tr_base.proofs.RectLemmas.{false-true}
use Rattle.tr_client.specs.declared.clients.Client.{Ghosts}
use Rattle.tr_forest.specs.Nodes.{Nodes}
use Rattle.tr_journal.specs.declared.entries.Entry.{Entry}
use Rattle.tr_journal.specs.declared.steps.Actor.{Actor}
use Rattle.tr_journal.specs.declared.steps.Actor.TheVariants as actors
use Rattle.tr_journal.specs.declared.steps.Query.{Query}
use Rattle.tr_journal.specs.declared.steps.Query.TheVariants.{Dump}
use Rattle.tr_journal.specs.declared.steps.Step.{Step}
use Rattle.tr_journal.specs.declared.steps.Step.TheVariants as steps
use Rattle.tr_journal.specs.Actors.{entries_of, is_by, is_maker, steps_by, steps_of}
use Rattle.tr_journal.specs.Journals.{JournalLine}
use Rattle.tr_journal.specs.Steps.{is_player, may}
use Rattle.tr_journal.specs.Parts.{Part}
use Rattle.tr_journal.proofs.ActorLemmas.{steps_by-append}
use Rattle.tr_machine.specs.States.{State}
use Rattle.tr_machine.specs.Replays.{IsLegalFrom, next, replay_from}
use Rattle.tr_interleaves.specs.Interleaves.{steps_in, is_sync, stretches_from, stretches, IsPlayerFirst, IsStretch, AreStretches, AreDumpsSettled}
use Rattle.tr_interleaves.specs.Stretches.{HasNoMaker, HasNoSync, AreReports, IsPart, AreParts}

-- ---- the steps of an actor

-- of lines in a row
pub steps_in-append : {M : Type 0} (actor : Actor) (xs ys : List (JournalLine M)) → steps_in actor (xs ++ ys) ≡ steps_in actor xs ++ steps_in actor ys
steps_in-append {M} actor xs ys =
    ap (λ (es : List (Entry M)). steps_by actor es) (map-append (λ (line : JournalLine M). line.entry) xs ys)
    ∙ steps_by-append actor (entries_of xs) (entries_of ys)

-- where an actor made no step, the first one is another's, and so are the later ones
pub no_steps : {M : Type 0} (b : Bool) (x : Step M) (xs : List (Step M)) → cond b (x ∷ xs) xs ≡ [] → (b ≡ false) × (xs ≡ [])
no_steps {M} true x xs is = absurd (false-true (sym (ap (λ (zs : List (Step M)). some zs) is)))
  where
    some : {M : Type 0} → List (Step M) → Bool
    some [] = false
    some (z ∷ zs) = true
no_steps false x xs is = (refl, is)

-- ---- lines that none of some actors made

pub no_maker-append : {M : Type 0} (xs ys : List (JournalLine M)) → HasNoMaker xs → HasNoMaker ys → HasNoMaker (xs ++ ys)
no_maker-append [] ys first second = second
no_maker-append (x ∷ xs) ys first second = (first.0, no_maker-append xs ys first.1 second)

-- a leaf's actor or the desk is nobody else
not_same : (actor other : Actor) → is_maker actor ≡ true → is_maker other ≡ false → is_by actor other ≡ false
not_same (actors.Leaf a) (actors.Leaf b) is not = absurd (false-true (sym not))
not_same (actors.Leaf a) actors.Desk is not = refl
not_same (actors.Leaf a) actors.Painter is not = refl
not_same (actors.Leaf a) actors.Player is not = refl
not_same actors.Desk (actors.Leaf b) is not = refl
not_same actors.Desk actors.Desk is not = absurd (false-true (sym not))
not_same actors.Desk actors.Painter is not = refl
not_same actors.Desk actors.Player is not = refl
not_same actors.Painter other is not = absurd (false-true is)
not_same actors.Player other is not = absurd (false-true is)

pub no_maker-steps : {M : Type 0} (actor : Actor) (lines : List (JournalLine M)) → is_maker actor ≡ true → HasNoMaker lines → steps_in actor lines ≡ []
no_maker-steps actor [] is none = refl
no_maker-steps {M} actor (line ∷ lines) is none =
    ap (λ (b : Bool). cond b (line.entry.step ∷ steps_in actor lines) (steps_in actor lines)) (not_same actor line.entry.actor is none.0)
    ∙ no_maker-steps actor lines is none.1

pub no_sync-append : {M : Type 0} (xs ys : List (JournalLine M)) → HasNoSync xs → HasNoSync ys → HasNoSync (xs ++ ys)
no_sync-append [] ys first second = second
no_sync-append (x ∷ xs) ys first second = (first.0, no_sync-append xs ys first.1 second)

-- ---- the player's lines before the others

none_first : {M : Type 0} (lines : List (JournalLine M)) → steps_in actors.Player lines ≡ [] → IsPlayerFirst lines
none_first [] none = tt
none_first (line ∷ lines) none =
    let later : steps_in actors.Player lines ≡ [] =
    (no_steps (is_player line.entry.actor) line.entry.step (steps_in actors.Player lines) none).1 in
    (λ maker. later, none_first lines later)

pub player_first : {M : Type 0} (xs ys : List (JournalLine M)) → HasNoMaker xs → steps_in actors.Player ys ≡ [] → IsPlayerFirst (xs ++ ys)
player_first [] ys first none = none_first ys none
player_first (x ∷ xs) ys first none = (λ maker. absurd (false-true (sym first.0 ∙ maker)), player_first xs ys first.1 none)

-- ---- stretches

-- lines without a sync are one stretch
pub cut_whole : {M : Type 0} (before lines : List (JournalLine M)) → HasNoSync lines → stretches_from before lines ≡ (before ++ lines) ∷ []
cut_whole {M} before [] none = ap (λ (ls : List (JournalLine M)). ls ∷ []) (sym (append-nil before))
cut_whole {M} before (line ∷ lines) none =
    ap (λ (b : Bool). cond b (before ∷ stretches_from [] lines) (stretches_from (before ++ line ∷ []) lines)) none.0
    ∙ cut_whole (before ++ line ∷ []) lines none.1
    ∙ ap (λ (ls : List (JournalLine M)). ls ∷ []) (append_assoc before (line ∷ []) lines)

-- behind a sync they are one more
pub cut_more : {M : Type 0} (before lines : List (JournalLine M)) (sync : JournalLine M) (more : List (JournalLine M)) →
    is_sync sync.entry.step ≡ true → HasNoSync more → stretches_from before (lines ++ sync ∷ more) ≡ stretches_from before lines ++ more ∷ []
cut_more {M} before [] sync more is none =
    ap (λ (b : Bool). cond b (before ∷ stretches_from [] more) (stretches_from (before ++ sync ∷ []) more)) is
    ∙ ap (λ (xss : List (List (JournalLine M))). before ∷ xss) (cut_whole [] more none)
cut_more {M} before (line ∷ lines) sync more is none =
    by_test (is_sync line.entry.step) (cut_more [] lines sync more is none) (cut_more (before ++ line ∷ []) lines sync more is none)
  where
    by_test : (b : Bool) → stretches_from [] (lines ++ sync ∷ more) ≡ stretches_from [] lines ++ more ∷ [] →
        stretches_from (before ++ line ∷ []) (lines ++ sync ∷ more) ≡ stretches_from (before ++ line ∷ []) lines ++ more ∷ [] →
        cond b (before ∷ stretches_from [] (lines ++ sync ∷ more)) (stretches_from (before ++ line ∷ []) (lines ++ sync ∷ more))
        ≡ cond b (before ∷ stretches_from [] lines) (stretches_from (before ++ line ∷ []) lines) ++ more ∷ []
    by_test true anew on = ap (λ (xss : List (List (JournalLine M))). before ∷ xss) anew
    by_test false anew on = on

-- one part more
pub stretches-more : {M : Type 0} (parts : List (Part M)) (xss : List (List (JournalLine M))) (part : Part M) (xs : List (JournalLine M)) →
    AreStretches parts xss → IsStretch part xs → AreStretches (parts ++ part ∷ []) (xss ++ xs ∷ [])
stretches-more [] [] part xs are is = (is, tt)
stretches-more [] (ys ∷ yss) part xs are is = absurd are
stretches-more (p ∷ ps) [] part xs are is = absurd are
stretches-more (p ∷ ps) (ys ∷ yss) part xs are is = (are.0, stretches-more ps yss part xs are.1 is)

-- ---- dumps

module _ {C M : Type 0} (client : Ghosts C M) where
  -- lines in a row
  pub dumps-append : (m : State C M) (xs ys : List (JournalLine M)) → AreDumpsSettled client m xs →
      AreDumpsSettled client (replay_from client m xs) ys → AreDumpsSettled client m (xs ++ ys)
  dumps-append m [] ys first second = second
  dumps-append m (x ∷ xs) ys first second = (first.0, dumps-append (next client m x.entry.step) xs ys first.1 second)

  -- what lines of a legal journal are that the player didn't make
  pub record AreOthers (m : State C M) (lines : List (JournalLine M)) : Type 0 where
    pub syncs : HasNoSync lines
    pub dumps : AreDumpsSettled client m lines

  no_sync : (actor : Actor) (step : Step M) → may actor step ≡ true → is_player actor ≡ false → is_sync step ≡ false
  no_sync actor steps.Sync h not = absurd (false-true (sym not ∙ h))
  no_sync actor (steps.Act leaf cmd) h not = refl
  no_sync actor step h not = refl

  no_dump : (actor : Actor) (step : Step M) → may actor step ≡ true → is_player actor ≡ false → step ≡ steps.Report Dump → ⊥
  no_dump actor step h not is = false-true (sym not ∙ sym (ap (λ (s : Step M). may actor s) is) ∙ h)

  pub others : (t : Nodes) (m : State C M) (lines : List (JournalLine M)) → IsLegalFrom client t m lines →
      steps_in actors.Player lines ≡ [] → AreOthers m lines
  others t m [] legal none = record { syncs = tt; dumps = tt }
  others t m (line ∷ lines) legal none =
      let here : (is_player line.entry.actor ≡ false) × (steps_in actors.Player lines ≡ []) =
      no_steps (is_player line.entry.actor) line.entry.step (steps_in actors.Player lines) none in
      let later : AreOthers (next client m line.entry.step) lines = others t (next client m line.entry.step) lines legal.1 here.1 in
      record {
        syncs = (no_sync line.entry.actor line.entry.step legal.0.allowed.own.may here.0, later.syncs);
        dumps = (λ is. absurd (no_dump line.entry.actor line.entry.step legal.0.allowed.own.may here.0 is), later.dumps);
      }

  -- ---- a part

  -- a report, as a step
  abbrev report : Query → Step M
  report query = steps.Report query

  pub reports-none : (m : State C M) → AreReports client m [] []
  reports-none m = record { makers = tt; syncs = tt; player = refl; dumps = tt }

  pub reports-append : (m : State C M) (qs rs : List Query) (xs ys : List (JournalLine M)) → AreReports client m qs xs →
      AreReports client (replay_from client m xs) rs ys → AreReports client m (qs ++ rs) (xs ++ ys)
  reports-append m qs rs xs ys first second = record {
    makers = no_maker-append xs ys first.makers second.makers;
    syncs = no_sync-append xs ys first.syncs second.syncs;
    player = steps_in-append actors.Player xs ys
        ∙ ap (λ (zs : List (Step M)). zs ++ steps_in actors.Player ys) first.player
        ∙ ap (λ (zs : List (Step M)). map steps.Report qs ++ zs) second.player
        ∙ sym (map-append report qs rs);
    dumps = dumps-append m xs ys first.dumps second.dumps;
  }

  -- reports, and then the others' steps
  pub part_is : (t : Nodes) (m : State C M) (part : Part M) (xs ys : List (JournalLine M)) → AreReports client m part.reports xs →
      IsLegalFrom client t (replay_from client m xs) ys → steps_in actors.Player ys ≡ [] →
      ((actor : Actor) → is_maker actor ≡ true → steps_in actor ys ≡ steps_of actor part.steps) → IsPart client m part (xs ++ ys)
  part_is t m part xs ys first legal none made =
      let other : AreOthers (replay_from client m xs) ys = others t (replay_from client m xs) ys legal none in
      record {
        stretch = record {
          steps = λ actor maker.
              steps_in-append actor xs ys
              ∙ ap (λ (zs : List (Step M)). zs ++ steps_in actor ys) (no_maker-steps actor xs maker first.makers)
              ∙ made actor maker;
          reports = steps_in-append actors.Player xs ys
              ∙ ap (λ (zs : List (Step M)). steps_in actors.Player xs ++ zs) none
              ∙ append-nil (steps_in actors.Player xs)
              ∙ first.player;
          first = player_first xs ys first.makers none;
        };
        syncs = no_sync-append xs ys first.syncs other.syncs;
        dumps = dumps-append m xs ys first.dumps other.dumps;
      }

  -- the first part, or one more behind a sync
  pub first_part : (m : State C M) (part : Part M) (lines : List (JournalLine M)) → IsPart client m part lines → AreParts client m (part ∷ []) lines
  first_part m part lines is = record {
    stretches = subst (λ (xss : List (List (JournalLine M))). AreStretches (part ∷ []) xss) (sym (cut_whole [] lines is.syncs)) (is.stretch, tt);
    dumps = is.dumps;
  }

  pub later_part : (m : State C M) (parts : List (Part M)) (part : Part M) (before : List (JournalLine M)) (sync : JournalLine M)
      (lines : List (JournalLine M)) → AreParts client m parts before → sync.entry.step ≡ steps.Sync →
      IsPart client (next client (replay_from client m before) sync.entry.step) part lines → AreParts client m (parts ++ part ∷ []) (before ++ sync ∷ lines)
  later_part m parts part before sync lines are is more = record {
    stretches = subst (λ (xss : List (List (JournalLine M))). AreStretches (parts ++ part ∷ []) xss)
        (sym (cut_more [] before sync lines (ap (λ (s : Step M). is_sync s) is) more.syncs))
        (stretches-more parts (stretches before) part lines are.stretches more.stretch);
    dumps = dumps-append m before (sync ∷ lines) are.dumps (λ dumped. absurd (is_no_dump (sym is ∙ dumped)), more.dumps);
  }
    where
      is_no_dump : (let sync : Step M = steps.Sync in sync ≡ steps.Report Dump) → ⊥
      is_no_dump h = false-true (sym (ap (λ (s : Step M). is_sync s) h))
