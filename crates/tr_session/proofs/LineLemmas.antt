-- The opening that a reader keeps, and the script that a line is tested against.
use Rattle.std.proofs.Common.{◌≡◌, ℕ, Bool, true, false, List, refl, sym, ap}
use Rattle.tr_base.proofs.RectLemmas.{false-true}
use Rattle.tr_grammar.specs.declared.Place.{Place}
use Rattle.tr_grammar.specs.declared.Place.TheVariants as places
use Rattle.tr_grammar.specs.States.{SoFar}
use Rattle.tr_grammar.specs.Faults.{has_ended}
use Rattle.tr_session.specs.Answering.{tried_by}
use Rattle.tr_session.specs.Insides.{opening_of, reader_place}
use Rattle.tr_session.specs.Lines.{at_any_time, has_begun, tried_against}

-- after `begin` the reader stays where a step and a report may come
pub stays_at_gap : (p : Place) → has_begun p ≡ true → reader_place p ≡ places.Gap
stays_at_gap places.Start begun = absurd (false-true begun)
stays_at_gap places.Head begun = absurd (false-true begun)
stays_at_gap places.Opening begun = absurd (false-true begun)
stays_at_gap places.Gap begun = refl
stays_at_gap places.Steps begun = refl
stays_at_gap places.Ended begun = refl

module _ (c : SoFar) (w : List ℕ) (begun : has_begun c.place ≡ true) where
  -- the opening stays the same after a step, a sync, a report and the end
  pub opening_at_gap : record (opening_of c) { place = places.Gap } ≡ opening_of c
  opening_at_gap = ap (λ (p : Place). record (opening_of c) { place = p }) (sym (stays_at_gap c.place begun))

-- the place of a test against the opening, or after the end
abbrev tried_place : Place → Bool → Place
tried_place p true = places.Ended
tried_place p false = reader_place p

place_tried : (p : Place) → has_begun p ≡ true → (b : Bool) → has_ended p ≡ b → at_any_time p ≡ tried_place p b
place_tried places.Start begun b ended = absurd (false-true begun)
place_tried places.Head begun b ended = absurd (false-true begun)
place_tried places.Opening begun b ended = absurd (false-true begun)
place_tried places.Gap begun true ended = absurd (false-true ended)
place_tried places.Gap begun false ended = refl
place_tried places.Steps begun true ended = absurd (false-true ended)
place_tried places.Steps begun false ended = refl
place_tried places.Ended begun true ended = refl
place_tried places.Ended begun false ended = absurd (false-true (sym ended))

-- the script that a line is tested against is the opening, or the opening after the end
pub tried_is : (c : SoFar) → has_begun c.place ≡ true → tried_against c ≡ tried_by (opening_of c) (has_ended c.place)
tried_is c begun = by_test (has_ended c.place) refl
  where
    by_test : (b : Bool) → has_ended c.place ≡ b → tried_against c ≡ tried_by (opening_of c) b
    by_test true ended = ap (λ (p : Place). record (tried_against c) { place = p }) (place_tried c.place begun true ended)
    by_test false ended = ap (λ (p : Place). record (tried_against c) { place = p }) (place_tried c.place begun false ended)
