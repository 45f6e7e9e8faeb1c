-- The lines of all rounds have no fault.
use Rattle.std.proofs.Common.{◌≡◌, ◌≢◌, ℕ, zero, suc, ◌+◌, ◌*◌, ◌/◌, ◌%◌, ◌<◌, ◌≤◌, Bool, true, false, cond, not, List, [], ◌∷◌, ◌++◌, length, refl, ap, subst, add-one, length-append, arith}
use Rattle.std.specs.Prelude.{codes, ◌==◌}
use Rattle.std.proofs.lemmas.Bool.{lt-leb}
use Rattle.std.proofs.lemmas.Bool.Decides.{nat_tests}
use Rattle.std.proofs.lemmas.List.Sums.{sum_by-append}
use Rattle.tr_widget.specs.declared.WidgetCmd.{WidgetCmd}
use Rattle.tr_journal.specs.Parts.{Part}
use Rattle.tr_gen.specs.Lines.{round_line}
use Rattle.tr_gen.specs.Scripts.{round_lines, rounds_lines}
use Rattle.tr_grammar.specs.declared.places.Place.TheVariants as places
use Rattle.tr_grammar.specs.Texts.{is_plain}
use Rattle.tr_grammar.specs.Forms.{Sync}
use Rattle.tr_grammar.specs.Faults.{reports_so_far}
use Rattle.tr_gen_valid.proofs.Passing.{IsOfForm, HaveNoFault, Pass, none_pass, one_passes, both_pass}
use Rattle.tr_gen_valid.proofs.Playing.{Playing, state, at_begin, synced, IsPlaying}
use Rattle.tr_gen_valid.proofs.StepLines.{GoOn, line_goes_on}
use Rattle.tr_gen_valid.proofs.RoundLines.{round_steps}

-- ---- syncs

-- a round more may be played, and line n is its first
record IsNextRound (rounds : ℕ) (x : Playing) (n : ℕ) : Type 0 where
  playing : IsPlaying rounds x
  among : rounds < 2000
  early : n ≤ 99999

pub sync_plain : is_plain (codes "sync") ≡ true
unfolding is_plain
sync_plain = refl

-- behind every hundredth round all windows are waited for
sync_passes : (rounds : ℕ) (x : Playing) (n : ℕ) → IsNextRound rounds x n → (rounds + 1) % 100 ≡ 0 →
    IsPlaying (rounds + 1) (synced x) × Pass (state x) (n + 1) (codes "sync" ∷ []) (state (synced x))
sync_passes rounds x n h hundredth =
    let playing = h.playing in
    let line : IsOfForm (state x) (codes "sync") Sync (codes "sync" ∷ []) =
    record { plain = sync_plain; loud = refl; early = playing.early; words = refl; form = refl }
    in
    let right : HaveNoFault (state x) Sync (codes "sync" ∷ []) = record {
      placed = ap not playing.placed;
      spelled = refl;
      new = refl;
      declared = refl;
      own = refl;
      taken = refl;
      few = lt-leb 1000 (length x.ended) (omega (arith, playing.syncs, h.among));
    } in
    let syncs : 100 * length (x.ended ++ x.part ∷ []) ≤ rounds + 1 = omega (arith, length-append x.ended (x.part ∷ []), playing.syncs) in
    let reports : reports_so_far (state (synced x)) ≡ 0 =
    omega (arith, sum_by-append (λ (p : Part WidgetCmd). length p.reports) x.ended (x.part ∷ []), playing.reports)
    in
    (record { placed = refl; early = refl; syncs = syncs; reports = reports }, one_passes (n + 1) line right (omega (arith, h.early)))

-- ---- one round

-- behind every hundredth round a report may come next
abbrev pub IsAtGap : ℕ → Playing → Type 0
IsAtGap rounds x = rounds % 100 ≡ 0 → x.place ≡ places.Gap

-- the lines of one round more
record PlayOn (rounds : ℕ) (x : Playing) (n : ℕ) (ts : List (List ℕ)) : Type 0 where
  goes : GoOn (rounds + 1) x n ts
  gap : IsAtGap (rounds + 1) goes.behind
  count : rounds + rounds / 100 + length ts ≡ (rounds + 1) + (rounds + 1) / 100

round_plays_on : (rounds : ℕ) (x : Playing) (n s : ℕ) → IsNextRound rounds x n → PlayOn rounds x n (round_lines (rounds + 1) s).value
round_plays_on rounds x n s h = by_test ((rounds + 1) % 100 == 0) refl
  where
    line : List ℕ
    line = (round_line s).value

    step : GoOn rounds x n (line ∷ [])
    step = line_goes_on rounds x n line (h.playing, round_steps s, omega (arith, h.early))

    more : IsPlaying (rounds + 1) step.behind
    more = record {
      placed = step.playing.placed;
      early = step.playing.early;
      syncs = omega (arith, step.playing.syncs);
      reports = step.playing.reports;
    }

    by_test : (b : Bool) → ((rounds + 1) % 100 == 0) ≡ b → PlayOn rounds x n (line ∷ cond b (codes "sync" ∷ []) [])
    by_test false is =
        let other : (rounds + 1) % 100 ≢ 0 = grind (arith, nat_tests) in
        record {
          goes = record { behind = step.behind; playing = more; pass = step.pass };
          gap = λ hundredth. absurd (other hundredth);
          count = omega arith;
        }
    by_test true is =
        let hundredth : (rounds + 1) % 100 ≡ 0 = grind (arith, nat_tests) in
        let sync = sync_passes rounds step.behind n (record { playing = step.playing; among = h.among; early = h.early }) hundredth in
        record {
          goes = record { behind = synced step.behind; playing = sync.0; pass = both_pass step.pass sync.1 };
          gap = λ hundredth. refl;
          count = omega arith;
        }

-- ---- all rounds

-- the lines of so many rounds, the first of which is line 18
pub record AllPlayed (rounds : ℕ) (ts : List (List ℕ)) : Type 0 where
  pub goes : GoOn rounds at_begin 18 ts
  pub gap : IsAtGap rounds goes.behind
  pub count : length ts ≡ rounds + rounds / 100

one_more_played : (rounds : ℕ) (ts : List (List ℕ)) (s : ℕ) → AllPlayed rounds ts → rounds < 2000 →
    AllPlayed (rounds + 1) (ts ++ (round_lines (rounds + 1) s).value)
one_more_played rounds ts s before few =
    let round = round_plays_on rounds before.goes.behind (18 + length ts) s
    (record { playing = before.goes.playing; among = few; early = omega (arith, before.count) })
    in
    record {
      goes = record { behind = round.goes.behind; playing = round.goes.playing; pass = both_pass before.goes.pass round.goes.pass };
      gap = round.gap;
      count = omega (arith, length-append ts (round_lines (rounds + 1) s).value, before.count, round.count);
    }

pub all_played : (rounds s : ℕ) → rounds ≤ 2000 → AllPlayed rounds (rounds_lines rounds s).value
unfolding rounds_lines
all_played zero s few = record {
  goes = record {
    behind = at_begin;
    playing = record { placed = refl; early = refl; syncs = omega arith; reports = refl };
    pass = none_pass (state at_begin) 18;
  };
  gap = λ hundredth. refl;
  count = refl;
}
all_played (suc rounds) s few =
    let before = rounds_lines rounds s in
    subst (λ (n : ℕ). AllPlayed n (before.value ++ (round_lines n before.state).value)) (add-one rounds)
    (one_more_played rounds before.value before.state (all_played rounds s (omega arith)) (omega arith))
