-- The text that is drawn from a number is a script of 2,039 lines: none of them has a fault.
use Rattle.std.proofs.Common.{◌≡◌, ℕ, ◌+◌, false, cond, ltb, List, [], ◌∷◌, ◌++◌, length, Some, None, sym, ap, ◌∙◌, subst, append-nil, length-append, refl, arith}
use Rattle.std.specs.Prelude.{codes}
use Rattle.std.proofs.lemmas.Bool.{le-ltb}
use Rattle.std.proofs.lemmas.Option.{none-some}
use Rattle.tr_gen.specs.Scripts as gen
use Rattle.tr_grammar.specs.declared.Code.TheVariants.{B7}
use Rattle.tr_grammar.specs.declared.ReadRefused.{ReadRefused}
use Rattle.tr_grammar.specs.declared.ReadRefused.TheVariants as refused
use Rattle.tr_grammar.specs.Texts.{lines_of}
use Rattle.tr_grammar.specs.States.{nothing_yet}
use Rattle.tr_grammar.specs.Scripts.{first_bad_line, most_script_bytes, refusal_of, refused_at, IsReadCause}
use Rattle.tr_gen_valid.proofs.Cutting.{lines_of-text_of, length-text_of-le}
use Rattle.tr_gen_valid.proofs.Passing.{Pass, both_pass}
use Rattle.tr_gen_valid.proofs.Playing.{Playing, state, at_begin}
use Rattle.tr_gen_valid.proofs.Opening.{length_opening, opening_passes}
use Rattle.tr_gen_valid.proofs.Rounds.{all_played}
use Rattle.tr_gen_valid.proofs.Ending.{dumped, over, ending_passes}

-- the lines have no fault, and the last of them is the end
record ArePassed (ts : List (List ℕ)) : Type 0 where
  ended : Playing
  pass : Pass nothing_yet 1 ts (state (over ended))
  count : length ts ≡ 2039

all_pass : (number : ℕ) → ArePassed (gen.script_lines number)
all_pass number =
    let rounds = (gen.rounds_lines 2000 number).value in
    let ending = codes "dump" ∷ codes "end" ∷ [] in
    let played = all_played 2000 number (omega arith) in
    let behind = played.goes.behind in
    let before : 18 ≡ 1 + length gen.opening_lines = omega (arith, length_opening) in
    let middle = subst (λ (n : ℕ). Pass (state at_begin) n rounds (state behind)) before played.goes.pass in
    let joined = length-append gen.opening_lines rounds in
    let last : 2038 ≡ 1 + length (gen.opening_lines ++ rounds) = omega (arith, length_opening, played.count, joined) in
    let end = ending_passes behind 2038 (played.gap refl) played.goes.playing.reports (omega arith) in
    let back = subst (λ (n : ℕ). Pass (state behind) n ending (state (over (dumped behind)))) last end in
    record {
      ended = dumped behind;
      pass = both_pass (both_pass opening_passes middle) back;
      count = omega (arith, last, length-append (gen.opening_lines ++ rounds) ending);
    }

pub is_a_script : (number : ℕ) → refusal_of (gen.script_of_number number) ≡ None
unfolding refusal_of
is_a_script number =
    let ts = gen.script_lines number in
    let text = gen.script_of_number number in
    let all = all_pass number in
    let short : ltb most_script_bytes (length text) ≡ false =
    le-ltb most_script_bytes (length text) (omega (arith, length-text_of-le ts all.pass.plain, all.count))
    in
    ap (λ b. cond b (Some (refused_at 0 B7)) (first_bad_line nothing_yet 1 (lines_of text))) short
    ∙ ap (first_bad_line nothing_yet 1) (lines_of-text_of ts all.pass.plain ∙ sym (append-nil ts))
    ∙ all.pass.on []

pub line_count : (number : ℕ) → length (lines_of (gen.script_of_number number)) ≡ 2039
line_count number =
    let all = all_pass number in
    ap (λ (ts : List (List ℕ)). length ts) (lines_of-text_of (gen.script_lines number) all.pass.plain) ∙ all.count

-- a reader of it answers at most want of memory
pub only_memory : (number : ℕ) (e : ReadRefused) → IsReadCause (refusal_of (gen.script_of_number number)) e → e ≡ refused.NoMemory
only_memory number refused.NoMemory cause = refl
only_memory number (refused.Refused line code) cause = absurd (none-some _ (sym (is_a_script number) ∙ cause))
