use Rattle.std.proofs.Common.{◌<◌, ◌^◌, rules}
use Rattle.tr_client.proofs.TextLemmas.{printable-decimal}
use Rattle.tr_client.proofs.texts.decimal_line.Goals as goal

pub of-requires-clause-printable : goal.of-requires-clause-printable
of-requires-clause-printable c =
    let small : c.args.n < 2 ^ 64 = search rules in
    rw (c.as_bytes.ensures.value, c.format.ensures.text) (printable-decimal c.args.n small)
