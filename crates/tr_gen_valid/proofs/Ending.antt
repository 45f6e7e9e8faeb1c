-- The last two lines, a dump and the end, have no fault.
use Rattle.std.proofs.Common.{◌≡◌, ℕ, ◌+◌, ◌≤◌, true, not, leb, [], ◌∷◌, ◌++◌, refl, ap, arith}
use Rattle.std.specs.Prelude.{codes}
use Rattle.tr_journal.specs.declared.Query.TheVariants as queries
use Rattle.tr_grammar.specs.declared.places.Place.TheVariants as places
use Rattle.tr_grammar.specs.Texts.{is_plain}
use Rattle.tr_grammar.specs.Forms.{Dump, End}
use Rattle.tr_grammar.specs.Faults.{allows, report_line, has_ended, reports_so_far}
use Rattle.tr_gen_valid.proofs.Passing.{IsOfForm, HaveNoFault, Pass, one_passes, both_pass}
use Rattle.tr_gen_valid.proofs.Playing.{Playing, state}

ending_plain : (is_plain (codes "dump") ≡ true) × (is_plain (codes "end") ≡ true)
unfolding is_plain
ending_plain = (refl, refl)

-- behind the dump
abbrev pub dumped : Playing → Playing
dumped x = record { place = places.Gap; ended = x.ended; part = record { reports = x.part.reports ++ queries.Dump ∷ []; steps = x.part.steps } }

-- behind the end
abbrev pub over : Playing → Playing
over x = record { place = places.Ended; ended = x.ended; part = x.part }

dump_passes : (x : Playing) (n : ℕ) → x.place ≡ places.Gap → reports_so_far (state x) ≡ 0 → n ≤ 100000 →
    Pass (state x) n (codes "dump" ∷ []) (state (dumped x))
dump_passes x n gap reports early =
    let line : IsOfForm (state x) (codes "dump") Dump (codes "dump" ∷ []) =
    record { plain = ending_plain.0; loud = refl; early = ap has_ended gap; words = refl; form = refl }
    in
    let right : HaveNoFault (state x) Dump (codes "dump" ∷ []) = record {
      placed = ap (λ place. not (allows place report_line)) gap;
      spelled = refl;
      new = refl;
      declared = refl;
      own = refl;
      taken = refl;
      few = ap (leb 64) reports;
    } in
    one_passes n line right early

end_passes : (x : Playing) (n : ℕ) → x.place ≡ places.Gap → n ≤ 100000 → Pass (state x) n (codes "end" ∷ []) (state (over x))
end_passes x n gap early =
    let line : IsOfForm (state x) (codes "end") End (codes "end" ∷ []) =
    record { plain = ending_plain.1; loud = refl; early = ap has_ended gap; words = refl; form = refl }
    in
    let right : HaveNoFault (state x) End (codes "end" ∷ []) = record {
      placed = ap (λ place. not (allows place report_line)) gap;
      spelled = refl;
      new = refl;
      declared = refl;
      own = refl;
      taken = refl;
      few = refl;
    } in
    one_passes n line right early

pub ending_passes : (x : Playing) (n : ℕ) → x.place ≡ places.Gap → reports_so_far (state x) ≡ 0 → n ≤ 99999 →
    Pass (state x) n (codes "dump" ∷ codes "end" ∷ []) (state (over (dumped x)))
ending_passes x n gap reports early =
    both_pass (dump_passes x n gap reports (omega arith)) (end_passes (dumped x) (n + 1) refl (omega arith))
