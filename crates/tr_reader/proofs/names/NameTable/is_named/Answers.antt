use Rattle.std.proofs.Common.{◌≡◌, ℕ, List, Some, length, refl, sym, ap, ◌∙◌}
use Rattle.std.specs.Prelude.{option_map, slice_get}
use Rattle.std.specs.Borrow.{Bor}
use Rattle.std.proofs.lemmas.Option.{slice_get-map, slice_get_read}
use Rattle.std.proofs.lemmas.Slice.Eq.{bytes_eq-Decides}
use Rattle.tr_grammar.specs.Names.{number_of}
use Rattle.tr_words.specs.Answers.{texts}
use Rattle.tr_reader.proofs.names.NameTable.is_named.Goals as goal

pub returns-in-Some : goal.returns-in-Some
returns-in-Some c = λ same.
    let names = c.self.inside.names.items in
    let number = c.args.number in
    let name = c.args.name.now in
    let found = c.in-Some.found.now in
    let seen = rw c.deref.ensures.value at c.in-Some.ensures.lookup in
    let at : slice_get names number ≡ Some found = slice_get_read names (length names) number found refl seen.3.0 (seen.3.1 found) in
    let is : found.now ≡ name = (bytes_eq-Decides found.now name).0 (sym c.eq.ensures ∙ same) in
    let placed : slice_get (texts names) number ≡ Some name =
    slice_get-map (λ (w : Bor (List ℕ)). w.now) names number ∙ ap (option_map (λ (w : Bor (List ℕ)). w.now)) at ∙ ap (λ (w : List ℕ). Some w) is
    in
    ap (λ (ns : List (List ℕ)). number_of ns name) (sym c.self.view_is) ∙ c.self.invariant.2 number name placed
