-- The passes with which a session begins.
use Rattle.std.proofs.Common.{◌≡◌, ℕ, ◌+◌, ◌<◌, ◌==◌, Bool, true, false, List, [], ◌∷◌, ◌++◌, length, get_or, refl, ap, ◌∙◌, arith}
use Rattle.std.specs.Prelude.{nat_lt, if◌then◌else◌}
use Rattle.std.proofs.lemmas.Bool.Decides.{nat_tests}
use Rattle.std.proofs.lemmas.List.{length-append, get_or_append_left}
use Rattle.std.proofs.Math.Seq.{get_or-append_seam}
use Rattle.tr_journal.specs.declared.steps.Actor.TheVariants.{Leaf, Desk, Painter}
use Rattle.tr_server.specs.Passes.{AreFresh, PassView, fresh_pass}

-- the desk's pass and the painter's behind those of clients
abbrev pub with_others : {M : Type 0} → List (PassView M) → List (PassView M)
with_others clients = (clients ++ fresh_pass Desk ∷ []) ++ fresh_pass Painter ∷ []

-- those of clients have no step, by their numbers
abbrev pub AreClients : {M : Type 0} → ℕ → List (PassView M) → Type 0
AreClients {M} leaves clients = (i : ℕ) (d : PassView M) → i < leaves → get_or clients i d ≡ fresh_pass (Leaf (record { 0 = i }))

-- the pass at a place
at_place : {M : Type 0} (leaves i : ℕ) (clients : List (PassView M)) (d : PassView M) → length clients ≡ leaves → AreClients leaves clients →
    i < leaves + 2 → (low here : Bool) → nat_lt i leaves ≡ low → (i == leaves) ≡ here →
    get_or (with_others clients) i d ≡ fresh_pass (if low then Leaf (record { 0 = i }) else if here then Desk else Painter)
at_place leaves i clients d many are within true here is_low is_here =
    let low : i < leaves = grind (arith, nat_tests) in
    let more : length (clients ++ fresh_pass Desk ∷ []) ≡ length clients + 1 = length-append clients (fresh_pass Desk ∷ []) in
    get_or_append_left (clients ++ fresh_pass Desk ∷ []) (fresh_pass Painter ∷ []) d i (omega (arith, low, many, more))
    ∙ (get_or_append_left clients (fresh_pass Desk ∷ []) d i (omega (arith, low, many)) ∙ are i d low)
at_place leaves i clients d many are within false true is_low is_here =
    let here : i ≡ length clients = grind (arith, nat_tests) in
    let more : length (clients ++ fresh_pass Desk ∷ []) ≡ length clients + 1 = length-append clients (fresh_pass Desk ∷ []) in
    get_or_append_left (clients ++ fresh_pass Desk ∷ []) (fresh_pass Painter ∷ []) d i (omega (arith, here, more))
    ∙ (ap (λ (k : ℕ). get_or (clients ++ fresh_pass Desk ∷ []) k d) here ∙ get_or-append_seam clients (fresh_pass Desk) [] d)
at_place leaves i clients d many are within false false is_low is_here =
    let more : length (clients ++ fresh_pass Desk ∷ []) ≡ length clients + 1 = length-append clients (fresh_pass Desk ∷ []) in
    let last : i ≡ length (clients ++ fresh_pass Desk ∷ []) = grind (arith, nat_tests) in
    ap (λ (k : ℕ). get_or (with_others clients) k d) last ∙ get_or-append_seam (clients ++ fresh_pass Desk ∷ []) (fresh_pass Painter) [] d

-- all of them
pub all_fresh : {M : Type 0} (leaves : ℕ) (clients more all : List (PassView M)) → length clients ≡ leaves → AreClients leaves clients →
    more ≡ clients ++ fresh_pass Desk ∷ [] → all ≡ more ++ fresh_pass Painter ∷ [] → AreFresh leaves all
all_fresh leaves clients more all many are desk painter =
    let is : all ≡ with_others clients = painter ∙ ap (λ (ps : List (PassView _)). ps ++ fresh_pass Painter ∷ []) desk in
    record {
      count =
          ap length painter
          ∙ (length-append more (fresh_pass Painter ∷ [])
          ∙ omega (arith, ap length desk ∙ length-append clients (fresh_pass Desk ∷ []), many));
      fresh = λ i d within.
          ap (λ (ps : List (PassView _)). get_or ps i d) is ∙ at_place leaves i clients d many are within (nat_lt i leaves) (i == leaves) refl refl;
    }
