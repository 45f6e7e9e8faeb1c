-- The lines that a session takes, one after another.
use Rattle.std.proofs.Common.{◌≡◌, ℕ, Bool, true, false, ◌&&◌, List, [], ◌∷◌, ◌++◌, Some, None, refl, sym, ap, subst, ◌∙◌}
use Rattle.std.specs.Prelude.{◌==◌, Option, codes}
use Rattle.std.proofs.lemmas.Option.{none-some}
use Rattle.tr_base.proofs.RectLemmas.{false-true}
use Rattle.tr_base.proofs.BoolLemmas.{and_false}
use Rattle.tr_widget.specs.declared.WidgetCmd.{WidgetCmd}
use Rattle.tr_journal.specs.declared.Item.TheVariants as items
use Rattle.tr_journal.specs.Names.{Names}
use Rattle.tr_journal.specs.Parts.{Part}
use Rattle.tr_grammar.specs.declared.Code.TheVariants.{B1, B5, B8, B9}
use Rattle.tr_grammar.specs.declared.Meaning.{Meaning}
use Rattle.tr_grammar.specs.declared.Meaning.TheVariants as meanings
use Rattle.tr_grammar.specs.declared.Place.{Place}
use Rattle.tr_grammar.specs.declared.Place.TheVariants as places
use Rattle.tr_grammar.specs.States.{SoFar, empty_part}
use Rattle.tr_grammar.specs.Texts.{is_plain, is_silent}
use Rattle.tr_grammar.specs.Words.{word_at, words_of}
use Rattle.tr_grammar.specs.Forms.{Form, form_of, Version}
use Rattle.tr_grammar.specs.Meanings.{meaning_of}
use Rattle.tr_grammar.specs.Faults.{Sort, version_line, screen_line, opening_line, report_line, allows, fault_as, fault_of, has_ended, sort_of}
use Rattle.tr_grammar.specs.Scripts.{after_all_lines, after_as, after_line, after_meaning}
use Rattle.tr_reader.specs.Adding.{is_at_steps, sort_of_meaning}
use Rattle.tr_script.specs.Apart.{meaning_as, meaning_of_line}
use Rattle.tr_script.proofs.LineLemmas.{IsLoud, fault_of_words}
use Rattle.tr_session.specs.Insides.{opening_of, reader_place}
use Rattle.tr_session.specs.Lines.{added_lines, at_any_time, ends_steps, fault_of_line, has_begun, needs_sync, sync_lines, tried_against}
use Rattle.tr_session.specs.Sessions.{AreTaken}

-- ---- lists of lines

pub taken-append : (c : SoFar) (xs ys : List (List ℕ)) → AreTaken c xs → AreTaken (after_all_lines c xs) ys → AreTaken c (xs ++ ys)
taken-append c [] ys none more = more
taken-append c (x ∷ xs) ys taken more = (taken.0, taken.1, taken-append (after_line c x) xs ys taken.2 more)

-- a line without a fault is plain
pub plain_if_taken : (c : SoFar) (n : ℕ) (line : List ℕ) → fault_of c n line ≡ None → is_plain line ≡ true
unfolding fault_of
plain_if_taken c n line none = by_test (is_plain line) refl
  where
    by_test : (b : Bool) → is_plain line ≡ b → is_plain line ≡ true
    by_test true is = is
    by_test false is = let bad = rw is at none in absurd (none-some B9 (sym bad))

-- ---- a sync before a line

-- after a step a sync has no fault, whatever the version is
sync_passes : (c : SoFar) (second : Bool) → (c.version == 2) ≡ second →
    fault_of (record c { place = places.Gap; ended = []; part = empty_part }) 1 (codes "sync") ≡ None
unfolding fault_of is_plain
sync_passes c true is = rw is refl
sync_passes c false is = rw is refl

-- its meaning is a sync
sync_says : (c : SoFar) (second : Bool) → (c.version == 2) ≡ second → meaning_of_line c (codes "sync") ≡ Some meanings.Sync
unfolding meaning_of_line
sync_says c true is = rw is refl
sync_says c false is = rw is refl

pub sync_follows : (c : SoFar) (second : Bool) → (c.version == 2) ≡ second →
    after_line c (codes "sync") ≡ record c { place = places.Gap; ended = c.ended ++ c.part ∷ []; part = empty_part }
unfolding after_line
sync_follows c true is = rw is refl
sync_follows c false is = rw is refl

-- after it a report may come
sync_place : (c : SoFar) → (after_line c (codes "sync")).place ≡ places.Gap
sync_place c = by_test (c.version == 2) refl
  where
    by_test : (second : Bool) → (c.version == 2) ≡ second → (after_line c (codes "sync")).place ≡ places.Gap
    by_test second is = ap (λ (d : SoFar). d.place) (sync_follows c second is)

-- a line needs no sync after a sync
no_sync_at : (p : Place) (b : Bool) → p ≡ places.Gap → (is_at_steps p && b) ≡ false
no_sync_at p b gap = ap (λ (q : Place). is_at_steps q && b) gap

-- ---- the sort of a line, by its meaning

-- the form of a line and its meaning have one sort
pub sort_by_form : (names : Names) (ws : List (List ℕ)) (f : Form) → sort_of_meaning (meaning_of names ws f) ≡ sort_of f
sort_by_form names ws Version = refl
sort_by_form names ws f = refl

-- ---- a line that isn't silent

-- a line that isn't silent comes before the end, if it has no fault
pub loud_if_taken : (c : SoFar) (n : ℕ) (line : List ℕ) → fault_of c n line ≡ None → is_silent line ≡ false → IsLoud c line
unfolding fault_of
loud_if_taken c n line none loud = record { plain = plain; loud = loud; early = by_test (has_ended c.place) refl }
  where
    plain : is_plain line ≡ true
    plain = plain_if_taken c n line none

    by_test : (b : Bool) → has_ended c.place ≡ b → has_ended c.place ≡ false
    by_test true is = let bad = rw (plain, loud, is) at none in absurd (none-some B8 (sym bad))
    by_test false is = is

-- a line of this form may come there, if it has no fault
allowed_if_none : (c : SoFar) (n : ℕ) (f : Form) (ws : List (List ℕ)) → fault_as c n (Some f) ws ≡ None → allows c.place (sort_of f) ≡ true
allowed_if_none c n f ws none = by_test (allows c.place (sort_of f)) refl
  where
    by_test : (b : Bool) → allows c.place (sort_of f) ≡ b → allows c.place (sort_of f) ≡ true
    by_test true is = is
    by_test false is = let bad = rw is at none in absurd (none-some B5 (sym bad))

-- the meaning of a line that a session takes; it may come there
pub record HasMeaning (c : SoFar) (line : List ℕ) : Type 0 where
  pub m : Meaning
  pub said : meaning_of_line c line ≡ Some m
  pub allowed : allows (at_any_time c.place) (sort_of_meaning m) ≡ true
  pub next : after_line c line ≡ after_meaning c (word_at (words_of line) 1) m
  pub anywhere : (d : SoFar) → d.version ≡ c.version → d.names ≡ c.names → after_line d line ≡ after_meaning d (word_at (words_of line) 1) m
  pub form : Form
  pub formed : form_of c.version (words_of line) ≡ Some form
  pub means : m ≡ meaning_of c.names (words_of line) form
  pub passed : fault_as (tried_against c) 1 (Some form) (words_of line) ≡ None

pub has_meaning : (c : SoFar) (line : List ℕ) → fault_of_line c line ≡ None → is_silent line ≡ false → HasMeaning c line
unfolding meaning_of_line after_line
has_meaning c line none loud = by_form (form_of c.version ws) refl
  where
    ws : List (List ℕ)
    ws = words_of line

    in_words : fault_as (tried_against c) 1 (form_of c.version ws) ws ≡ None
    in_words = sym (fault_of_words (tried_against c) 1 line (loud_if_taken (tried_against c) 1 line none loud)) ∙ none

    by_form : (form : Option Form) → form_of c.version ws ≡ form → HasMeaning c line
    by_form None is = let bad = rw is at in_words in absurd (none-some B1 (sym bad))
    by_form (Some f) is =
        let now : fault_as (tried_against c) 1 (Some f) ws ≡ None =
        ap (λ (form : Option Form). fault_as (tried_against c) 1 form ws) (sym is) ∙ in_words in
        record {
          m = meaning_of c.names ws f;
          said = rw loud (ap (λ (form : Option Form). meaning_as c form ws) is);
          allowed = ap (λ (sort : Sort). allows (at_any_time c.place) sort) (sort_by_form c.names ws f)
              ∙ allowed_if_none (tried_against c) 1 f ws now;
          next = rw loud (ap (λ (form : Option Form). after_as c form ws) is);
          anywhere = λ d version names.
              rw loud (ap (λ (n : ℕ). after_as d (form_of n ws) ws) version
              ∙ ap (λ (form : Option Form). after_as d form ws) is
              ∙ ap (λ (known : Names). after_meaning d (word_at ws 1) (meaning_of known ws f)) names);
          form = f;
          formed = is;
          means = refl;
          passed = now;
        }

-- after a sync the meaning of a line adds what it adds before
pub after_sync : (c : SoFar) (line : List ℕ) (has : HasMeaning c line) →
    after_all_lines c (codes "sync" ∷ line ∷ []) ≡ after_meaning (after_meaning c [] meanings.Sync) (word_at (words_of line) 1) has.m
after_sync c line has = by_test (c.version == 2) refl
  where
    by_test : (second : Bool) → (c.version == 2) ≡ second →
        after_line (after_line c (codes "sync")) line ≡ after_meaning (after_meaning c [] meanings.Sync) (word_at (words_of line) 1) has.m
    by_test second is = ap (λ (d : SoFar). after_line d line) (sync_follows c second is) ∙ has.anywhere (after_meaning c [] meanings.Sync) refl refl

-- a silent line adds nothing
pub silent_next : (c : SoFar) (line : List ℕ) → is_silent line ≡ true → after_line c line ≡ c
unfolding after_line
silent_next c line silent = rw silent refl

-- ---- the parts so far

-- before `begin` there is no part, and where a report may come the current part has no step
abbrev pub RestsAt : Place → List (Part WidgetCmd) → Part WidgetCmd → Type 0
RestsAt places.Gap ended part = part.steps ≡ []
RestsAt places.Steps ended part = Unit {0}
RestsAt places.Ended ended part = Unit {0}
RestsAt p ended part = (ended ≡ []) × (part ≡ empty_part)

abbrev pub Rests : SoFar → Type 0
Rests c = RestsAt c.place c.ended c.part

-- the place before a line of a sort
only_start : (p : Place) → allows (at_any_time p) version_line ≡ true → p ≡ places.Start
only_start places.Start allowed = refl
only_start places.Head allowed = absurd (false-true allowed)
only_start places.Opening allowed = absurd (false-true allowed)
only_start places.Gap allowed = absurd (false-true allowed)
only_start places.Steps allowed = absurd (false-true allowed)
only_start places.Ended allowed = absurd (false-true allowed)

only_head : (p : Place) → allows (at_any_time p) screen_line ≡ true → p ≡ places.Head
only_head places.Start allowed = absurd (false-true allowed)
only_head places.Head allowed = refl
only_head places.Opening allowed = absurd (false-true allowed)
only_head places.Gap allowed = absurd (false-true allowed)
only_head places.Steps allowed = absurd (false-true allowed)
only_head places.Ended allowed = absurd (false-true allowed)

only_opening : (p : Place) → allows (at_any_time p) opening_line ≡ true → p ≡ places.Opening
only_opening places.Start allowed = absurd (false-true allowed)
only_opening places.Head allowed = absurd (false-true allowed)
only_opening places.Opening allowed = refl
only_opening places.Gap allowed = absurd (false-true allowed)
only_opening places.Steps allowed = absurd (false-true allowed)
only_opening places.Ended allowed = absurd (false-true allowed)

-- a report that needs no sync
pub only_gap : (p : Place) → allows (at_any_time p) report_line ≡ true → (is_at_steps p && true) ≡ false → p ≡ places.Gap
only_gap places.Start allowed none = absurd (false-true allowed)
only_gap places.Head allowed none = absurd (false-true allowed)
only_gap places.Opening allowed none = absurd (false-true allowed)
only_gap places.Gap allowed none = refl
only_gap places.Steps allowed none = absurd (false-true (sym none))
only_gap places.Ended allowed none = absurd (false-true allowed)

-- the parts rest at one of these places
at_place : (c : SoFar) (p : Place) → Rests c → c.place ≡ p → RestsAt p c.ended c.part
at_place c p rested is = let P : Place → Type 0 = λ q. RestsAt q c.ended c.part in subst P is rested

-- they rest after each line that may come there and needs no sync
rested_next : (c : SoFar) (w : List ℕ) (m : Meaning) → Rests c → allows (at_any_time c.place) (sort_of_meaning m) ≡ true →
    needs_sync c (Some m) ≡ false → Rests (after_meaning c w m)
rested_next c w (meanings.Version n) rested allowed none = at_place c places.Start rested (only_start c.place allowed)
rested_next c w (meanings.Item (items.Screen size kind)) rested allowed none = at_place c places.Head rested (only_head c.place allowed)
rested_next c w (meanings.Item (items.Glyph byte rows)) rested allowed none = at_place c places.Opening rested (only_opening c.place allowed)
rested_next c w (meanings.Item (items.Node kind tint)) rested allowed none = at_place c places.Opening rested (only_opening c.place allowed)
rested_next c w (meanings.Item (items.Leaf shapes content)) rested allowed none = at_place c places.Opening rested (only_opening c.place allowed)
rested_next c w (meanings.Item (items.Put child parent at)) rested allowed none = at_place c places.Opening rested (only_opening c.place allowed)
rested_next c w (meanings.Item (items.Root node)) rested allowed none = at_place c places.Opening rested (only_opening c.place allowed)
rested_next c w meanings.Begin rested allowed none =
    let opening = at_place c places.Opening rested (only_opening c.place allowed) in
    ap (λ (part : Part WidgetCmd). part.steps) opening.1
rested_next c w (meanings.Step actor step) rested allowed none = tt
rested_next c w meanings.Sync rested allowed none = refl
rested_next c w (meanings.Report query) rested allowed none = at_place c places.Gap rested (only_gap c.place allowed none)
rested_next c w meanings.End rested allowed none = tt

rested_line : (c : SoFar) (line : List ℕ) → fault_of_line c line ≡ None → needs_sync c (meaning_of_line c line) ≡ false → Rests c →
    Rests (after_line c line)
rested_line c line none no_sync rested = by_test (is_silent line) refl
  where
    by_test : (b : Bool) → is_silent line ≡ b → Rests (after_line c line)
    by_test true silent = subst (λ (d : SoFar). Rests d) (sym (silent_next c line silent)) rested
    by_test false loud =
        let has = has_meaning c line none loud in
        let needs : needs_sync c (Some has.m) ≡ false = ap (needs_sync c) (sym has.said) ∙ no_sync in
        subst (λ (d : SoFar). Rests d) (sym has.next) (rested_next c (word_at (words_of line) 1) has.m rested has.allowed needs)

-- the parts of the lines that a session has taken rest
pub rested_all : (c : SoFar) (lines : List (List ℕ)) → AreTaken c lines → Rests c → Rests (after_all_lines c lines)
rested_all c [] taken rested = rested
rested_all c (line ∷ lines) taken rested =
    rested_all (after_line c line) lines taken.2 (rested_line c line taken.0 taken.1 rested)

pub rested_at_gap : (c : SoFar) → Rests c → c.place ≡ places.Gap → c.part.steps ≡ []
rested_at_gap c rested gap = at_place c places.Gap rested gap

-- before `begin` the opening is all
pub opening_is : (c : SoFar) → Rests c → has_begun c.place ≡ false → opening_of c ≡ c
opening_is c rested fresh = by_place c.place refl
  where
    whole : (p : Place) → c.place ≡ p → reader_place p ≡ p → (c.ended ≡ []) × (c.part ≡ empty_part) → opening_of c ≡ c
    whole p is same none =
        ap (λ (q : Place). record c { place = reader_place q; ended = []; part = empty_part }) is
        ∙ ap (λ (q : Place). record c { place = q; ended = []; part = empty_part }) (same ∙ sym is)
        ∙ ap (λ (ended : List (Part WidgetCmd)). record c { ended = ended; part = empty_part }) (sym none.0)
        ∙ ap (λ (part : Part WidgetCmd). record c { part = part }) (sym none.1)

    by_place : (p : Place) → c.place ≡ p → opening_of c ≡ c
    by_place places.Start is = whole places.Start is refl (at_place c places.Start rested is)
    by_place places.Head is = whole places.Head is refl (at_place c places.Head rested is)
    by_place places.Opening is = whole places.Opening is refl (at_place c places.Opening rested is)
    by_place places.Gap is = absurd (false-true (sym fresh ∙ ap (λ (q : Place). has_begun q) is))
    by_place places.Steps is = absurd (false-true (sym fresh ∙ ap (λ (q : Place). has_begun q) is))
    by_place places.Ended is = absurd (false-true (sym fresh ∙ ap (λ (q : Place). has_begun q) is))

-- ---- the lines that a line adds

-- a sync has no fault after a step, and leads to another part
pub sync_taken : (c : SoFar) → c.place ≡ places.Steps → AreTaken c (codes "sync" ∷ [])
sync_taken c at = by_test (c.version == 2) refl
  where
    tried : tried_against c ≡ record c { place = places.Gap; ended = []; part = empty_part }
    tried = ap (λ (p : Place). record c { place = at_any_time p; ended = []; part = empty_part }) at

    by_test : (second : Bool) → (c.version == 2) ≡ second → AreTaken c (codes "sync" ∷ [])
    by_test second is = (
      ap (λ (d : SoFar). fault_of d 1 (codes "sync")) tried ∙ sync_passes c second is,
      ap (needs_sync c) (sync_says c second is) ∙ and_false (is_at_steps c.place),
      tt,
    )

-- after the sync a line is tested against the same script
pub tried_after_sync : (c : SoFar) → c.place ≡ places.Steps → tried_against (after_line c (codes "sync")) ≡ tried_against c
tried_after_sync c at = by_test (c.version == 2) refl
  where
    by_test : (second : Bool) → (c.version == 2) ≡ second → tried_against (after_line c (codes "sync")) ≡ tried_against c
    by_test second is =
        ap tried_against (sync_follows c second is)
        ∙ ap (λ (p : Place). record c { place = at_any_time p; ended = []; part = empty_part }) (sym at)

-- the lines that a line without a fault adds are taken
pub added_taken : (c : SoFar) (line : List ℕ) → fault_of_line c line ≡ None → AreTaken c (added_lines c line)
added_taken c line none = by_test (needs_sync c (meaning_of_line c line)) refl
  where
    at_steps : (p : Place) (b : Bool) → (is_at_steps p && b) ≡ true → p ≡ places.Steps
    at_steps places.Start b both = absurd (false-true both)
    at_steps places.Head b both = absurd (false-true both)
    at_steps places.Opening b both = absurd (false-true both)
    at_steps places.Gap b both = absurd (false-true both)
    at_steps places.Steps b both = refl
    at_steps places.Ended b both = absurd (false-true both)

    by_test : (b : Bool) → needs_sync c (meaning_of_line c line) ≡ b → AreTaken c (added_lines c line)
    by_test true needs =
        let at = at_steps c.place (ends_steps (meaning_of_line c line)) needs in
        let gap : (after_line c (codes "sync")).place ≡ places.Gap = sync_place c in
        subst (λ (b : Bool). AreTaken c (sync_lines b ++ line ∷ [])) (sym needs)
        (taken-append c (codes "sync" ∷ []) (line ∷ []) (sync_taken c at) (
          ap (λ (d : SoFar). fault_of d 1 line) (tried_after_sync c at) ∙ none,
          no_sync_at (after_line c (codes "sync")).place (ends_steps (meaning_of_line (after_line c (codes "sync")) line)) gap,
          tt,
        ))
    by_test false needs = subst (λ (b : Bool). AreTaken c (sync_lines b ++ line ∷ [])) (sym needs) (none, needs, tt)
