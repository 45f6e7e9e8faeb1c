use Rattle.std.proofs.Common.{◌≡◌, ◌<◌, List, length, false, sym, ap, ◌∙◌, arith}
use Rattle.tr_base.specs.declared.LeafId.{LeafId}
use Rattle.tr_tree.specs.Trees.{Seen}
use Rattle.tr_inbox.specs.declared.Delivery.{Delivery}
use Rattle.tr_mail.specs.Mails.{unsent}
use Rattle.tr_mail.specs.Deliveries.{is_reshaped, told}
use Rattle.tr_mail.proofs.SizeLemmas.{sizes_kept, unreshaped}
use Rattle.tr_mail.proofs.mails.Mail.edited_by.Goals as goal

pub returns-then-keeps_sizes-clause-sent : goal.returns-then-keeps_sizes-clause-sent
returns-then-keeps_sizes-clause-sent c =
    let was = c.args.was.now in
    let is = c.args.tree.now in
    let kept : (leaf : LeafId) → leaf.0 < length c.args.self.now.inboxes → is_reshaped was is leaf ≡ false = λ leaf lt.
    ap (λ (t : Seen). is_reshaped was t leaf) c.requires.is
    ∙ sizes_kept was c.args.edit.now c.invariant.ensures.forest c.requires.edit c.requires.allowed (sym c.keeps_sizes.ensures ∙ c.if-keeps_sizes.true) leaf
    (omega (arith, lt, c.requires.before)) in
    c.tell_all.ensures.sent
    ∙ ap (λ (out : List Delivery). told is (record { mail = c.args.self.now; sent = out })) c.clear.ensures
    ∙ ap (told is) (sym (unreshaped (length c.args.self.now.inboxes) was is (unsent c.args.self.now) kept))
