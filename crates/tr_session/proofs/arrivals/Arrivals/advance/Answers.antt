use Rattle.std.proofs.Common.{◌≡◌, List, ℕ, Some, None, ap, subst, ◌∙◌}
use Rattle.std.specs.Prelude.{slice_range}
use Rattle.memchr.specs.Find.{IsFirstByte, is_byte}
use Rattle.tr_session.specs.Arrivals.{ArrivalsView}
use Rattle.tr_session.proofs.ArrivalLemmas.{open_line, whole_line}
use Rattle.tr_session.proofs.arrivals.Arrivals.advance.Goals as goal

pub returns-in-Some-clause-whole : goal.returns-in-Some-clause-whole
returns-in-Some-clause-whole c = λ yes.
    let i = c.self.inside in
    let seen : slice_range c.deref.result.now i.start i.end ≡ c.args.self.now.rest =
    ap (λ (piece : List ℕ). slice_range piece i.start i.end) c.deref.ensures.value ∙ ap (λ (v : ArrivalsView). v.rest) c.self.view_is in
    let found = subst (λ (rest : List ℕ). IsFirstByte (is_byte 10) rest (Some c.in-Some.count)) seen c.in-Some.ensures in
    whole_line c.args.self.now c.keep.new.self c.skip.new.self c.in-Some.count found
    c.keep.ensures.begun c.keep.ensures.rest c.skip.ensures.begun c.skip.ensures.rest

pub returns-in-None-clause-open : goal.returns-in-None-clause-open
returns-in-None-clause-open c = λ no.
    let i = c.self.inside in
    let seen : slice_range c.deref.result.now i.start i.end ≡ c.args.self.now.rest =
    ap (λ (piece : List ℕ). slice_range piece i.start i.end) c.deref.ensures.value ∙ ap (λ (v : ArrivalsView). v.rest) c.self.view_is in
    let none = subst (λ (rest : List ℕ). IsFirstByte (is_byte 10) rest None) seen c.in-None.ensures in
    let count = c.rest_len-count.result in
    open_line c.args.self.now c.keep-in-None.new.self count none
    c.rest_len-count.ensures c.keep-in-None.ensures.begun c.keep-in-None.ensures.rest
