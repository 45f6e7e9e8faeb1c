-- Vectors of 16 lanes, as lists made lane by lane.
use Rattle.std.proofs.Common.{◌≡◌, ℕ, ◌+◌, ◌<◌, ◌||◌, Bool, true, false, cond, eqb, not, List, [], ◌∷◌, map, length, get_or, replicate, bit_and, bit_or, bit_xor, w8, refl, ap, ap₂, ◌∙◌, arith}
use Rattle.std.specs.List.{range_with_len}
use Rattle.std.proofs.lemmas.List.FromFn.{length-range_with_len, length-map-range_with_len, get_or-map-range_with_len, fill_by_all}
use Rattle.std.proofs.lemmas.Simd.{tops_compared, zip2_of_maps, splat_is_map, map-map}
use Rattle.std.proofs.Math.Bool.{not-not}
use Rattle.tr_base.proofs.LaneLemmas.{either_lane}
use lib.Lanes.{zip2, sel_l, top}
use Rattle.tr_kernel.specs.declared.lanes.Steps.{Steps}
use Rattle.tr_kernel.specs.Steps.{flipped, stepped_by}

-- the numbers of the lanes
abbrev pub sixteen : List ℕ
sixteen = range_with_len 0 16

-- a vector as the list of its lanes
pub by_lane : (xs : List ℕ) → length xs ≡ 16 → xs ≡ map (λ k. get_or xs k 0) sixteen
by_lane xs long = fill_by_all (λ k. get_or xs k 0) xs 16 0 long (λ k lt. refl)

-- a vector that was made lane by lane
module _ {X : Type 0} (f : ℕ → X) (xs : List X) (made : xs ≡ map f sixteen) where
  pub lanes_made : length xs ≡ 16
  lanes_made = ap length made ∙ length-map-range_with_len f 0 16

  pub lane_made : (k : ℕ) (d : X) → k < 16 → get_or xs k d ≡ f k
  lane_made k d lt = ap (λ l. get_or l k d) made ∙ get_or-map-range_with_len f 0 16 k k d lt (omega arith)

pub sel_of_maps : {V X : Type 0} (m : V → Bool) (g h : V → X) (vs : List V) {ms : List Bool} {xs ys : List X} → ms ≡ map m vs → xs ≡ map g vs → ys ≡ map h vs
    → sel_l ms xs ys ≡ map (λ v. cond (m v) (g v) (h v)) vs
sel_of_maps {V} m g h vs a b c = (λ i. sel_l (a i) (b i) (c i)) ∙ go vs
  where
    go : (vs : List V) → sel_l (map m vs) (map g vs) (map h vs) ≡ map (λ v. cond (m v) (g v) (h v)) vs
    go [] = refl
    go (v ∷ vs) = ap (λ l. cond (m v) (g v) (h v) ∷ l) (go vs)

-- the comparison of two vectors, as `select` and `to_bitmask` read it
pub equal_lanes : (f g : ℕ → ℕ) (xs ys : List ℕ) → xs ≡ map f sixteen → ys ≡ map g sixteen
    → map (top 7) (zip2 (λ a b. cond (eqb a b) 255 0) xs ys) ≡ map (λ k. eqb (f k) (g k)) sixteen
equal_lanes f g xs ys e h = tops_compared w8 eqb xs ys ∙ zip2_of_maps eqb f g sixteen e h

pub splat_made : (n : ℕ) → replicate 16 n ≡ map (λ _. n) sixteen
splat_made n = splat_is_map sixteen 16 n (length-range_with_len 0 16)

abbrev pub same_lanes : List ℕ → List ℕ → List ℕ
same_lanes = zip2 (λ a b. cond (eqb a b) 255 0)

-- x and y change places in each lane
abbrev pub flip_lanes : List ℕ → List ℕ → List ℕ → List ℕ
flip_lanes old x y = zip2 bit_xor old (sel_l (map (top 7) (zip2 bit_or (same_lanes old x) (same_lanes old y))) (zip2 bit_xor x y) (replicate 16 0))

abbrev pub flip_at : List ℕ → List ℕ → List ℕ → ℕ → ℕ
flip_at old x y k = flipped (get_or x k 0) (get_or y k 0) (get_or old k 0)

pub flips_made : (old x y : List ℕ) → length old ≡ 16 → length x ≡ 16 → length y ≡ 16 → flip_lanes old x y ≡ map (flip_at old x y) sixteen
flips_made old x y long_old long_x long_y =
    let o = λ (k : ℕ). get_or old k 0 in
    let p = λ (k : ℕ). get_or x k 0 in
    let q = λ (k : ℕ). get_or y k 0 in
    let old_is = by_lane old long_old in
    let x_is = by_lane x long_x in
    let y_is = by_lane y long_y in
    let at_x = zip2_of_maps (λ (a b : ℕ). cond (eqb a b) 255 0) o p sixteen old_is x_is in
    let at_y = zip2_of_maps (λ (a b : ℕ). cond (eqb a b) 255 0) o q sixteen old_is y_is in
    let both = zip2_of_maps bit_or (λ k. cond (eqb (o k) (p k)) 255 0) (λ k. cond (eqb (o k) (q k)) 255 0) sixteen at_x at_y in
    let tops = ap (map (top 7)) both ∙ map-map (top 7) (λ k. bit_or (cond (eqb (o k) (p k)) 255 0) (cond (eqb (o k) (q k)) 255 0)) sixteen in
    let hits = tops ∙ (λ i. map (λ k. either_lane (eqb (o k) (p k)) (eqb (o k) (q k)) i) sixteen) in
    let bits = zip2_of_maps bit_xor p q sixteen x_is y_is in
    let chosen = sel_of_maps (λ k. eqb (o k) (p k) || eqb (o k) (q k)) (λ k. bit_xor (p k) (q k)) (λ _. 0) sixteen hits bits (splat_made 0) in
    zip2_of_maps bit_xor o (λ k. cond (eqb (o k) (p k) || eqb (o k) (q k)) (bit_xor (p k) (q k)) 0) sixteen old_is chosen

-- one of two numbers in each lane: the first where the lane of `bits` is 0
abbrev pub choice_lanes : List ℕ → ℕ → ℕ → List ℕ
choice_lanes bits n m = sel_l (map (top 7) (same_lanes bits (replicate 16 0))) (replicate 16 n) (replicate 16 m)

abbrev pub choice_at : List ℕ → ℕ → ℕ → ℕ → ℕ
choice_at bits n m k = cond (eqb (get_or bits k 0) 0) n m

choices_made : (bits : List ℕ) (n m : ℕ) → length bits ≡ 16 → choice_lanes bits n m ≡ map (choice_at bits n m) sixteen
choices_made bits n m long =
    sel_of_maps (λ k. eqb (get_or bits k 0) 0) (λ _. n) (λ _. m) sixteen
    (equal_lanes (λ k. get_or bits k 0) (λ _. 0) bits (replicate 16 0) (by_lane bits long) (splat_made 0)) (splat_made n) (splat_made m)

-- what the lanes of a step compute, from the lanes that were exchanged
abbrev pub step_lanes : Steps → List ℕ → List ℕ → List ℕ
step_lanes s bits e = zip2 bit_or (zip2 bit_and e (choice_lanes bits s.zero.kept s.one.kept)) (choice_lanes bits s.zero.written s.one.written)

abbrev pub merge_at : Steps → List ℕ → List ℕ → ℕ → ℕ
merge_at s bits e k = bit_or (bit_and (get_or e k 0) (choice_at bits s.zero.kept s.one.kept k)) (choice_at bits s.zero.written s.one.written k)

pub steps_made : (s : Steps) (bits e : List ℕ) → length bits ≡ 16 → length e ≡ 16 → step_lanes s bits e ≡ map (merge_at s bits e) sixteen
steps_made s bits e long_bits long_e =
    let kept = choice_at bits s.zero.kept s.one.kept in
    let written = choice_at bits s.zero.written s.one.written in
    let masked = zip2_of_maps bit_and (λ k. get_or e k 0) kept sixteen (by_lane e long_e) (choices_made bits s.zero.kept s.one.kept long_bits) in
    zip2_of_maps bit_or (λ k. bit_and (get_or e k 0) (kept k)) written sixteen masked (choices_made bits s.zero.written s.one.written long_bits)

step_by_case : (s : Steps) (old : ℕ) (b : Bool)
    → bit_or (bit_and (flipped (cond b s.zero.x s.one.x) (cond b s.zero.y s.one.y) old) (cond b s.zero.kept s.one.kept)) (cond b s.zero.written s.one.written)
    ≡ stepped_by s (not b) old
step_by_case s old true = refl
step_by_case s old false = refl

-- a lane of the whole
pub step_at : (s : Steps) (bits old e : List ℕ) → length bits ≡ 16 → length e ≡ 16
    → ((k : ℕ) → k < 16 → get_or e k 0 ≡ flipped (get_or (choice_lanes bits s.zero.x s.one.x) k 0) (get_or (choice_lanes bits s.zero.y s.one.y) k 0)
    (get_or old k 0))
    → (k : ℕ) → k < 16 → get_or (step_lanes s bits e) k 0 ≡ stepped_by s (not (eqb (get_or bits k 0) 0)) (get_or old k 0)
step_at s bits old e long_bits long_e each k lt =
    let unset = eqb (get_or bits k 0) 0 in
    let x = lane_made (choice_at bits s.zero.x s.one.x) (choice_lanes bits s.zero.x s.one.x) (choices_made bits s.zero.x s.one.x long_bits) k 0 lt in
    let y = lane_made (choice_at bits s.zero.y s.one.y) (choice_lanes bits s.zero.y s.one.y) (choices_made bits s.zero.y s.one.y long_bits) k 0 lt in
    let here = each k lt ∙ ap₂ (λ x y. flipped x y (get_or old k 0)) x y in
    lane_made (merge_at s bits e) (step_lanes s bits e) (steps_made s bits e long_bits long_e) k 0 lt
    ∙ ap (λ n. bit_or (bit_and n (cond unset s.zero.kept s.one.kept)) (cond unset s.zero.written s.one.written)) here
    ∙ step_by_case s (get_or old k 0) unset

-- lanes that were computed from the bits and the pixels from `at` on are the painted pixels
pub lanes_painted : (s : Steps) (bit : ℕ → Bool) (old bits here ys : List ℕ) (at : ℕ)
    → ((k : ℕ) → k < 16 → get_or ys k 0 ≡ stepped_by s (not (eqb (get_or bits k 0) 0)) (get_or here k 0))
    → ((k : ℕ) → k < 16 → eqb (get_or bits k 0) 0 ≡ not (bit (at + k)))
    → ((k : ℕ) → k < 16 → get_or here k 0 ≡ get_or old (at + k) 0)
    → (k : ℕ) → k < 16 → get_or ys k 0 ≡ stepped_by s (bit (at + k)) (get_or old (at + k) 0)
lanes_painted s bit old bits here ys at each bits_are here_is k lt = each k lt ∙ ap₂ (stepped_by s) (ap not (bits_are k lt)
    ∙ not-not (bit (at + k))) (here_is k lt)
