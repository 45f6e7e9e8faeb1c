use Rattle.std.proofs.Common.{◌≡◌, ℕ, ◌-◌, true, length, drop}
use Rattle.std.proofs.lemmas.List.Elements.{All-take, All-drop}
use Rattle.tr_base.specs.Lines.{is_printable}
use Rattle.tr_exec.proofs.strokes.letters_from.Goals as goal

pub returns-clause-printable : goal.returns-clause-printable
returns-clause-printable c =
    let P = λ (x : ℕ). is_printable x ≡ true in
    let text = c.args.text.now in
    rw c.bytes.ensures.value
    (All-take P (length text - c.args.first) (drop c.args.first text) (All-drop P c.args.first text c.bytes.ensures.invariant.printable))
