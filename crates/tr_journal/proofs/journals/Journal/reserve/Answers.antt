use Rattle.std.proofs.Common.{ℕ, ◌-◌, ◌≤◌, ap, subst, arith}
use Rattle.std.specs.Prelude.{vec_len, vec_capacity}
use Rattle.tr_journal.specs.Journals.{spare_of}
use Rattle.tr_journal.proofs.journals.Journal.reserve.Goals as goal

-- where no room falls, there is room for as many entries
spare_rises : (e d s e' d' s' : ℕ) → e ≤ e' → d ≤ d' → s ≤ s' → spare_of e d s ≤ spare_of e' d' s'
spare_rises e d s e' d' s' he hd hs = omega arith

pub returns-clause-spare : goal.returns-clause-spare
returns-clause-spare g c =
    let i = c.self.inside in
    let e = c.reserve.new.self in
    let d = c.reserve-2.new.self in
    let s = c.reserve-3.new.self in
    subst (λ (n : ℕ). n ≤ spare_of (vec_capacity e - vec_len e) (vec_capacity d - vec_len d) (vec_capacity s - vec_len s))
    (ap (λ v. v.spare) c.self.view_is)
    (spare_rises (vec_capacity i.entries - vec_len i.entries) (vec_capacity i.ends - vec_len i.ends) (vec_capacity i.sent - vec_len i.sent)
    (vec_capacity e - vec_len e) (vec_capacity d - vec_len d) (vec_capacity s - vec_len s)
    (omega (arith, c.reserve.ensures.len, c.reserve.ensures.capacity))
    (omega (arith, c.reserve-2.ensures.len, c.reserve-2.ensures.capacity))
    (omega (arith, c.reserve-3.ensures.len, c.reserve-3.ensures.capacity)))
