-- Parts that are played one after another.
use Rattle.std.proofs.Common.{◌≡◌, ℕ, ◌+◌, ◌<◌, Bool, true, false, List, [], ◌∷◌, ◌++◌, length, refl, sym, ap, subst, ◌∙◌, take, drop, get_or, arith}
use Rattle.std.specs.List.{flat_map}
use Rattle.std.proofs.lemmas.List.{append-nil, flat_map_more, take_more, take-append-drop}
use Rattle.std.proofs.lemmas.List.Concat.{flat_map-append}
use Rattle.tr_base.proofs.RectLemmas.{false-true}
use Rattle.tr_client.specs.declared.clients.Client.{Ghosts}
use Rattle.tr_forest.specs.Nodes.{Nodes}
use Rattle.tr_journal.specs.declared.items.Item.{Item}
use Rattle.tr_journal.specs.declared.steps.Actor.{Actor}
use Rattle.tr_journal.specs.declared.steps.Actor.TheVariants.{Player}
use Rattle.tr_journal.specs.declared.steps.Query.{Query}
use Rattle.tr_journal.specs.declared.steps.Step.{Step}
use Rattle.tr_journal.specs.declared.steps.Step.TheVariants as steps
use Rattle.tr_journal.specs.Journals.{JournalLine}
use Rattle.tr_journal.specs.Names.{Names}
use Rattle.tr_journal.specs.Openings.{tree_of}
use Rattle.tr_journal.specs.Steps.{is_player, may, stated}
use Rattle.tr_journal.specs.Parts.{Part}
use Rattle.tr_machine.specs.States.{State, start}
use Rattle.tr_machine.specs.Replays.{IsLegal, IsLegalFrom, line_of_step, next, replay}
use Rattle.tr_interleaves.specs.Interleaves.{AreDumpsSettled, AreStretches, steps_in, stretches}
use Rattle.tr_interleaves.specs.Stretches.{AreReports, IsPart}
use Rattle.tr_interleaves.proofs.StretchLemmas.{first_part, later_part, no_steps, part_is, reports-append, reports-none}
use Rattle.tr_stage.specs.Stages.{IsOf, StageView, state}
use Rattle.tr_stage.specs.Standings.{Stands}
use Rattle.tr_run.specs.declared.modes.Mode.{Mode}
use Rattle.tr_run.specs.declared.modes.Mode.TheVariants.{Serial}
use Rattle.tr_run.specs.Runs.{Cue, reporting, run_lines}
use Rattle.tr_run.specs.Texts.{sum_from, texts_from, told_text}
use Rattle.tr_run.specs.Views.{AddsLines, Does, DoesSome, IsNamed, RunView}
use Rattle.tr_run.proofs.LineLemmas.{legal_later, named_later}
use Rattle.tr_run.proofs.RunLemmas.{Adds-append, Adds-none, Does-append, DoesSome-after, DoesSome-more, state_adds}
use Rattle.tr_parts.specs.Plays.{HasInterleaved, journal_texts}
use Rattle.tr_parts.specs.Runs.{IsNewRun, HasBegunPart, HasPlayedNext, HasPlayedPart, HasPlayedParts, HasPlayedSome, HasReported}
use Rattle.tr_parts.specs.Turns.{HasRun}
use Rattle.tr_parts.proofs.RunLemmas.{reported}

-- ---- lists

-- a list has an element
abbrev pub has_any : {A : Type 0} → List A → Bool
has_any [] = false
has_any (x ∷ xs) = true

pub has_any-more : {A : Type 0} (xs : List A) (x : A) → true ≡ has_any (xs ++ x ∷ [])
has_any-more [] x = refl
has_any-more (y ∷ ys) x = refl

-- ---- what a scheduler leaves

module _ {C M : Type 0} (client : Ghosts C M) where
  pub later_legal : (s n : StageView C M) (lines : List (JournalLine M)) → n.opening ≡ s.opening → n.journal ≡ s.journal ++ lines →
      IsLegal client n.opening n.journal → IsLegalFrom client (tree_of s.opening).nodes (state client s) lines
  later_legal s n lines opening journal legal =
      legal_later client (tree_of s.opening).nodes (start s.opening) s.journal lines
      (subst (λ (ls : List (JournalLine M)). IsLegal client s.opening ls) journal
      (subst (λ (items : List (Item C)). IsLegal client items n.journal) opening legal))

  -- a stage names what has names, also where others made steps on it
  pub run_named : (names : Names) (s n : StageView C M) (made : List (Actor × Step M)) → IsNamed client names s → Stands client s →
      IsOf s.opening (state client s) → IsLegal client n.opening n.journal → HasRun s n made → IsNamed client names n
  run_named names s n made is stands like legal ran =
      named_later client names s n ran.lines is (record {
        stands = stands;
        like = like;
        legal = legal;
        opening = ran.opening;
        journal = ran.journal;
      })

module _ {C M : Type 0} (client : Ghosts C M) (words : M → List ℕ) where
  -- ---- reports

  pub reported_none : (a : RunView C M) → HasReported client words a a []
  reported_none a = record { lines = []; adds = Adds-none client words a; are = reports-none client (state client a.stage) }

  reported_more : (a now new : RunView C M) (before more : List Query) → HasReported client words a now before →
      HasReported client words now new more → HasReported client words a new (before ++ more)
  reported_more a now new before more first second = record {
    lines = first.lines ++ second.lines;
    adds = Adds-append client words a now new first.lines second.lines first.adds second.adds;
    are = reports-append client (state client a.stage) before more first.lines second.lines first.are
        (subst (λ (m : State C M). AreReports client m more second.lines) (state_adds client {words = words} a now first.lines first.adds) second.are);
  }

  -- the reports so far, and one more
  pub reported_next : (a now new : RunView C M) (queries : List Query) (k : ℕ) (query : Query) →
      (k < length queries) × (query ≡ get_or queries k query) → HasReported client words a now (take k queries) →
      HasReported client words now new (query ∷ []) → HasReported client words a new (take (k + 1) queries)
  reported_next a now new queries k query at first second =
      subst (λ (qs : List Query). HasReported client words a new qs)
      (ap (λ (q : Query). take k queries ++ q ∷ []) at.1 ∙ sym (take_more queries k query at.0))
      (reported_more a now new (take k queries) (query ∷ []) first second)

  -- the cues of the reports so far, and of one more
  cues_next : (queries : List Query) (k : ℕ) (query : Query) → (k < length queries) × (query ≡ get_or queries k query) →
      flat_map (reporting {M = M}) (take k queries) ++ reporting query ≡ flat_map (reporting {M = M}) (take (k + 1) queries)
  cues_next queries k query at =
      flat_map_more (reporting {M = M}) [] (take k queries) query
      ∙ ap (λ (q : Query). flat_map (reporting {M = M}) (take k queries ++ q ∷ [])) at.1
      ∙ ap (λ (qs : List Query). flat_map (reporting {M = M}) qs) (sym (take_more queries k query at.0))

  -- they were done
  pub did_next : (a now new : RunView C M) (queries : List Query) (k : ℕ) (query : Query) →
      (k < length queries) × (query ≡ get_or queries k query) → Does client words a now (flat_map reporting (take k queries)) →
      Does client words now new (reporting query) → Does client words a new (flat_map reporting (take (k + 1) queries))
  did_next a now new queries k query at first second =
      subst (λ (cues : List (Cue M)). Does client words a new cues) (cues_next queries k query at)
      (Does-append client words a now new (flat_map reporting (take k queries)) (reporting query) first second)

  -- for one more memory was wanting
  pub did_some : (a now new : RunView C M) (queries : List Query) (k : ℕ) (query : Query) →
      (k < length queries) × (query ≡ get_or queries k query) → Does client words a now (flat_map reporting (take k queries)) →
      DoesSome client words now new (reporting query) → DoesSome client words a new (flat_map reporting queries)
  did_some a now new queries k query at first second =
      subst (λ (cues : List (Cue M)). DoesSome client words a new cues)
      (ap (λ (cues : List (Cue M)). cues ++ flat_map reporting (drop (k + 1) queries)) (cues_next queries k query at)
      ∙ sym (flat_map-append (reporting {M = M}) (take (k + 1) queries) (drop (k + 1) queries))
      ∙ ap (λ (qs : List Query). flat_map (reporting {M = M}) qs) (take-append-drop (k + 1) queries))
      (DoesSome-more client words a new (flat_map reporting (take k queries) ++ reporting query) (flat_map reporting (drop (k + 1) queries))
      (DoesSome-after client words a now new (flat_map reporting (take k queries)) (reporting query) first second))

  pub has_reported : (a b : RunView C M) (query : Query) → Stands client a.stage → Does client words a b (reporting query) →
      HasReported client words a b (query ∷ [])
  has_reported a b query stands did = record {
    lines = run_lines client (state client a.stage) (reporting query);
    adds = did;
    are = reported client a.stage query stands;
  }

  -- ---- lines of others

  -- they write nothing
  other_texts : (t : Nodes) (names : Names) (earlier : List (JournalLine M)) (m : State C M) (lines : List (JournalLine M)) →
      IsLegalFrom client t m lines → steps_in Player lines ≡ [] → texts_from client words names Serial earlier m lines ≡ []
  other_texts t names earlier m [] legal none = refl
  other_texts t names earlier m (line ∷ lines) legal none =
      let here : (is_player line.entry.actor ≡ false) × (steps_in Player lines ≡ []) =
      no_steps (is_player line.entry.actor) line.entry.step (steps_in Player lines) none in
      ap (λ (xs : List ℕ). xs ++ texts_from client words names Serial (earlier ++ line ∷ []) (next client m line.entry.step) lines)
      (untold line.entry.step line.entry.actor legal.0.allowed.own.may here.0)
      ∙ other_texts t names (earlier ++ line ∷ []) (next client m line.entry.step) lines legal.1 here.1
    where
      untold : (step : Step M) (actor : Actor) → may actor step ≡ true → is_player actor ≡ false → told_text client words names earlier m step ≡ []
      untold (steps.Report query) actor h not = absurd (false-true (sym not ∙ h))
      untold step actor h not = refl

  other_sum : (m : State C M) (sum : ℕ) (lines : List (JournalLine M)) → sum_from client Serial m sum lines ≡ sum
  other_sum m sum [] = refl
  other_sum m sum (line ∷ lines) = other_sum (next client m line.entry.step) sum lines

  -- ---- a pause in a run

  -- a run that was paused, and goes on with a stage on which others made steps meanwhile
  pub record HasResumed (a n : RunView C M) (made : List (Actor × Step M)) : Type 0 where
    pub mode : a.mode ≡ Serial
    pub names : n.names ≡ a.names
    pub mode_kept : n.mode ≡ a.mode
    pub text : n.text ≡ a.text
    pub sum : n.sum ≡ a.sum
    pub ran : HasRun a.stage n.stage made
    pub legal : IsLegal client n.stage.opening n.stage.journal

  resumed_adds : (a n : RunView C M) (made : List (Actor × Step M)) (is : HasResumed a n made) → AddsLines client words a n is.ran.lines
  resumed_adds a n made is = record {
    opening = is.ran.opening;
    names = is.names;
    mode = is.mode_kept;
    journal = is.ran.journal;
    text = is.text ∙ sym (append-nil a.text) ∙ ap (λ (xs : List ℕ). a.text ++ xs) (sym none);
    sum = is.sum ∙ sym (ap (λ (mode : Mode). sum_from client mode m a.sum is.ran.lines) is.mode ∙ other_sum m a.sum is.ran.lines);
  }
    where
      m : State C M
      m = state client a.stage

      none : texts_from client words a.names a.mode a.stage.journal m is.ran.lines ≡ []
      none =
          ap (λ (mode : Mode). texts_from client words a.names mode a.stage.journal m is.ran.lines) is.mode
          ∙ other_texts (tree_of a.stage.opening).nodes a.names a.stage.journal m is.ran.lines
          (later_legal client a.stage n.stage is.ran.lines is.ran.opening is.ran.journal is.legal) is.ran.player

  -- ---- a part

  -- reports, and then the steps of others
  part_played : (a b c : RunView C M) (queries : List Query) (made : List (Actor × Step M)) → HasReported client words a b queries →
      HasResumed b c made → HasPlayedPart client words a c (record { reports = queries; steps = made })
  part_played a b c queries made first second = record {
    lines = first.lines ++ second.ran.lines;
    adds = Adds-append client words a b c first.lines second.ran.lines first.adds (resumed_adds b c made second);
    is = part_is client t (state client a.stage) (record { reports = queries; steps = made }) first.lines second.ran.lines first.are
        (subst (λ (m : State C M). IsLegalFrom client t m second.ran.lines) (state_adds client {words = words} a b first.lines first.adds)
        (later_legal client b.stage c.stage second.ran.lines second.ran.opening second.ran.journal second.legal))
        second.ran.player second.ran.made;
  }
    where
      t : Nodes
      t = (tree_of b.stage.opening).nodes

  -- the next part: a sync or none, reports, and then the steps of others
  pub next_played : (a b c : RunView C M) (is_later : Bool) (part : Part M) → HasBegunPart client words a b is_later part.reports →
      HasResumed b c part.steps → HasPlayedNext client words a c is_later part
  next_played a b c is_later part first second = record {
    begun = first.begun;
    sync = first.sync;
    rest = part_played first.begun b c part.reports part.steps first.reported second;
  }

  -- ---- parts

  -- one part more
  pub parts_more : (a now new : RunView C M) (parts : List (Part M)) (is_later : Bool) (part : Part M) → is_later ≡ has_any parts →
      HasPlayedParts client words a now parts → HasPlayedNext client words now new is_later part → HasPlayedParts client words a new (parts ++ part ∷ [])
  parts_more a now new [] true part later so_far is = absurd (false-true (sym later))
  parts_more a now new [] false part later so_far is =
      let first : AddsLines client words a is.begun [] = Adds-append client words a now is.begun [] [] so_far is.sync in
      record {
        lines = is.rest.lines;
        adds = Adds-append client words a is.begun new [] is.rest.lines first is.rest.adds;
        are = first_part client (state client a.stage) part is.rest.lines
            (subst (λ (m : State C M). IsPart client m part is.rest.lines) (state_adds client {words = words} a is.begun [] first) is.rest.is);
      }
  parts_more a now new (p ∷ ps) false part later so_far is = absurd (false-true later)
  parts_more a now new (p ∷ ps) true part later so_far is = record {
    lines = so_far.lines ++ sync ∷ is.rest.lines;
    adds = Adds-append client words a now new so_far.lines (sync ∷ is.rest.lines) so_far.adds
        (Adds-append client words now is.begun new (sync ∷ []) is.rest.lines is.sync is.rest.adds);
    are = later_part client was (p ∷ ps) part so_far.lines sync is.rest.lines so_far.are refl
        (subst (λ (m : State C M). IsPart client (next client m steps.Sync) part is.rest.lines)
        (state_adds client {words = words} a now so_far.lines so_far.adds)
        (subst (λ (m : State C M). IsPart client m part is.rest.lines) (state_adds client {words = words} now is.begun (sync ∷ []) is.sync) is.rest.is));
  }
    where
      was : State C M
      was = state client a.stage

      sync : JournalLine M
      sync = line_of_step client (state client now.stage) Player (stated {M = M} steps.Sync) steps.Sync

  -- ---- the whole

  some_played : (a b : RunView C M) (parts : List (Part M)) → 0 < length parts → HasPlayedParts client words a b parts → HasPlayedSome client words a b parts
  some_played a b [] some is = let none : 0 < 0 = some in absurd (omega arith)
  some_played a b (p ∷ ps) some is = is

  -- a run after all parts
  pub record HasEnded (a b : RunView C M) (parts : List (Part M)) : Type 0 where
    pub stage : HasInterleaved client a.stage.opening parts b.stage
    pub text : b.text ≡ journal_texts client words a.names a.stage.opening b.stage.journal
    pub sum : b.sum ≡ a.sum

  pub all_played : (a b : RunView C M) (parts : List (Part M)) → IsNewRun a → 0 < length parts → HasPlayedParts client words a b parts →
      IsLegal client b.stage.opening b.stage.journal → HasEnded a b parts
  all_played a b parts begun some is legal = record {
    stage = record {
      opening = played.adds.opening;
      legal = legal;
      journal = record {
        stretches = subst (λ (ls : List (JournalLine M)). AreStretches parts (stretches ls)) (sym lines) played.are.stretches;
        dumps = subst (λ (ls : List (JournalLine M)). AreDumpsSettled client (start items) ls) (sym lines)
            (subst (λ (m : State C M). AreDumpsSettled client m played.lines) at_start played.are.dumps);
      };
    };
    text = played.adds.text
        ∙ ap (λ (t : List ℕ). t ++ texts_from client words a.names a.mode a.stage.journal was played.lines) begun.text
        ∙ ap (λ (mode : Mode). texts_from client words a.names mode a.stage.journal was played.lines) begun.mode
        ∙ ap (λ (ls : List (JournalLine M)). texts_from client words a.names Serial ls was played.lines) begun.journal
        ∙ ap (λ (m : State C M). texts_from client words a.names Serial [] m played.lines) at_start
        ∙ ap (λ (ls : List (JournalLine M)). texts_from client words a.names Serial [] (start items) ls) (sym lines);
    sum = played.adds.sum
        ∙ ap (λ (mode : Mode). sum_from client mode was a.sum played.lines) begun.mode
        ∙ other_sum was a.sum played.lines;
  }
    where
      played : HasPlayedSome client words a b parts
      played = some_played a b parts some is

      items : List (Item C)
      items = a.stage.opening

      was : State C M
      was = state client a.stage

      lines : b.stage.journal ≡ played.lines
      lines = played.adds.journal ∙ ap (λ (ls : List (JournalLine M)). ls ++ played.lines) begun.journal

      at_start : was ≡ start items
      at_start = ap (λ (ls : List (JournalLine M)). replay client items ls) begun.journal
