use Rattle.std.proofs.Common.{arith, ap, subst, ◌≡◌, ℕ, ◌+◌, ◌-◌, ◌≤◌, min, ◌∙◌, [], ◌∷◌, ◌++◌, length}
use Rattle.std.specs.Prelude.{vec_len, vec_capacity}
use Rattle.tr_journal.specs.Journals.{spare_of}
use Rattle.tr_journal.proofs.JournalLemmas.{lines_of-push, kept-push}
use Rattle.tr_journal.proofs.journals.Journal.push.Goals as goal

pub invariant_of-self-2 : goal.invariant_of-self-2
invariant_of-self-2 g c =
    let fields = c.self.inside in
    let kept = kept-push fields.entries.items fields.ends.items fields.sent.items (record { entry = c.args.entry; sent = c.args.sent.now })
    c.self.invariant (record { count = c.requires.counted }) in
    let end : c.len.result ≡ length fields.sent.items + length c.args.sent.now =
    omega (arith, c.len.ensures, c.in-Ok-extend_from_slice.ensures.len, fields.sent.ok.0) in
    rw (
      c.push_reserved-2.ensures.items,
      c.reserve.ensures.items,
      c.push_reserved.ensures.items,
      c.reserve-2.ensures.items,
      c.in-Ok-extend_from_slice.ensures.items,
      end,
    ) kept

pub returns-clause-ok : goal.returns-clause-ok
returns-clause-ok g c =
    let fields = c.self.inside in
    let more = lines_of-push fields.entries.items fields.sent.items (record { entry = c.args.entry; sent = c.args.sent.now })
    c.self.invariant.all (record { count = c.requires.counted }) in
    rw (c.push_reserved-2.ensures.items, c.reserve.ensures.items, c.in-Ok-extend_from_slice.ensures.items)
    (more ∙ ap (λ v. v.lines ++ record { entry = c.args.entry; sent = c.args.sent.now } ∷ []) c.self.view_is)

-- where each room falls by what one entry takes at most, there is room for one entry less
spare_next : (e d s e' d' s' : ℕ) → e ≤ e' + 1 → d ≤ d' + 1 → s ≤ s' + 32 → spare_of e d s ≤ spare_of e' d' s' + 1
spare_next e d s e' d' s' he hd hs = omega arith

silent_next : (e d e' d' : ℕ) → e ≤ e' + 1 → d ≤ d' + 1 → min e d ≤ min e' d' + 1
silent_next e d e' d' he hd = omega arith

pub returns-clause-spare : goal.returns-clause-spare
returns-clause-spare g c = λ few.
    let i = c.self.inside in
    let e = c.push_reserved-2.new.self in
    let d = c.push_reserved.new.self in
    let s = c.extend_from_slice.new.self in
    subst (λ (n : ℕ). n ≤ spare_of (vec_capacity e - vec_len e) (vec_capacity d - vec_len d) (vec_capacity s - vec_len s) + 1)
    (ap (λ v. v.spare) c.self.view_is)
    (spare_next (vec_capacity i.entries - vec_len i.entries) (vec_capacity i.ends - vec_len i.ends) (vec_capacity i.sent - vec_len i.sent)
    (vec_capacity e - vec_len e) (vec_capacity d - vec_len d) (vec_capacity s - vec_len s)
    (omega (arith, c.reserve.ensures.len, c.reserve.ensures.capacity, c.push_reserved-2.ensures.len, c.push_reserved-2.ensures.capacity))
    (omega (arith, c.reserve-2.ensures.len, c.reserve-2.ensures.capacity, c.push_reserved.ensures.len, c.push_reserved.ensures.capacity))
    (omega (arith, few, c.in-Ok-extend_from_slice.ensures.len, c.in-Ok-extend_from_slice.ensures.capacity)))

pub returns-clause-silent_spare : goal.returns-clause-silent_spare
returns-clause-silent_spare g c =
    let i = c.self.inside in
    let e = c.push_reserved-2.new.self in
    let d = c.push_reserved.new.self in
    subst (λ (n : ℕ). n ≤ min (vec_capacity e - vec_len e) (vec_capacity d - vec_len d) + 1)
    (ap (λ v. v.silent_spare) c.self.view_is)
    (silent_next (vec_capacity i.entries - vec_len i.entries) (vec_capacity i.ends - vec_len i.ends)
    (vec_capacity e - vec_len e) (vec_capacity d - vec_len d)
    (omega (arith, c.reserve.ensures.len, c.reserve.ensures.capacity, c.push_reserved-2.ensures.len, c.push_reserved-2.ensures.capacity))
    (omega (arith, c.reserve-2.ensures.len, c.reserve-2.ensures.capacity, c.push_reserved.ensures.len, c.push_reserved.ensures.capacity)))
