use Rattle.w_plain.proofs.HexLemmas.{printable-hex}
use Rattle.w_plain.proofs.boards.digits_of.Goals as goal

pub returns-clause-printable : goal.returns-clause-printable
returns-clause-printable c =
    let written = rw c.unwrap.ensures at c.encode_to_slice.ensures.written in
    rw written (printable-hex c.as_slice-rows.result.now c.tell_bytes.ensures)
