use Rattle.std.proofs.Common.{◌≡◌, ℕ, List, ◌+◌, ◌++◌, take, drop, length, sym, ap, ◌∙◌, append_assoc}
use Rattle.std.proofs.lemmas.List.{take_at, length-append}
use Rattle.tr_client.proofs.texts.both.Goals as goal

-- two texts in front of others
two_first : (front back rest : List ℕ) → take (length front + length back) (front ++ (back ++ rest)) ≡ front ++ back
two_first front back rest =
    ap (λ all. take (length front + length back) all) (sym (append_assoc front back rest))
    ∙ take_at (front ++ back) rest (length front + length back) (length-append front back)

pub returns-clause-text : goal.returns-clause-text
returns-clause-text c =
    rw (c.copy_from_slice.ensures.after, c.copy_from_slice-2.ensures.after)
    (two_first c.args.front.now c.args.back.now (drop (length c.args.back.now) c.split_at_mut-first.result.1.now))
