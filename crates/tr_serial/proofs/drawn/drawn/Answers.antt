use Rattle.std.proofs.Common.{◌≡◌, ℕ, List, sym, subst, ◌∙◌}
use Rattle.std.proofs.lemmas.Option.{none-some}
use Rattle.tr_gen.specs.Scripts as gen
use Rattle.tr_grammar.specs.declared.ReadRefused.{ReadRefused}
use Rattle.tr_grammar.specs.declared.ReadRefused.TheVariants as refused
use Rattle.tr_grammar.specs.Scripts.{refusal_of, IsReadCause}
use Rattle.tr_gen_valid.proofs.DrawnLemmas.{is_a_script}
use Rattle.tr_serial.proofs.drawn.drawn.Goals as goal

-- a text that is drawn isn't refused
not_refused : (number : ℕ) (bytes : List ℕ) (line code : ℕ) → bytes ≡ gen.script_of_number number →
    IsReadCause (refusal_of bytes) (refused.Refused line code) → ⊥
not_refused number bytes line code is cause =
    let none = subst (λ (text : List ℕ). IsReadCause (refusal_of text) (refused.Refused line code)) is cause in
    none-some _ (sym (is_a_script number) ∙ none)

pub unreachable-requires : goal.unreachable-requires
unreachable-requires c =
    let text = c.deref.ensures.value ∙ c.in_ok-text.ensures.text in
    let P : ReadRefused → Type 0 = λ e. IsReadCause (refusal_of c.deref.result.now) e in
    not_refused c.args.number c.deref.result.now _ _ text (subst P c.in-Err-Refused.field-0-is c.in-Err-Refused.ensures.cause)
