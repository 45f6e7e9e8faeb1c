-- How the screens at a stream's cuts go with where it stands.
use Rattle.std.proofs.Common.{◌≡◌, ℕ, ◌+◌, ◌<◌, ◌≤◌, ◌==◌, ◌⊎◌, if◌then◌else◌, true, false, List, [], ◌∷◌, ◌++◌, length, drop, Option, Some, None, refl, sym, ap, subst, ◌∙◌, arith, inl, inr, append_assoc, length-append, is_some, is_none, not, ◌≢◌, IsSome}
use Rattle.std.proofs.lemmas.Bool.{true≢false, ne_eqb, eq-eqb, cases_eq, or_parts}
use Rattle.std.proofs.lemmas.List.{append-nil}
use Rattle.tr_screen.specs.Pictures.{Picture}
use Rattle.tr_mirror.specs.declared.faults.StreamFault.{StreamFault}
use Rattle.tr_mirror.specs.declared.headers.Header.{Header}
use Rattle.tr_mirror.specs.declared.headers.Header.TheVariants.{Screen, Run, Fill, Cut}
use Rattle.tr_mirror.specs.Headers.{header_len, header_of, record_len}
use Rattle.tr_mirror.specs.Standings.{Standing, after_record, header_fault}
use Rattle.tr_mirror.specs.Readings.{Reading, list_of_option, cut_between, last_of}
use Rattle.tr_mirror.specs.Automata.{at_first, record_fault, judged, tried, after_byte, after_bytes, try_len, IsReading, shown_from}
use Rattle.tr_mirror.specs.Pieces.{EndsAtCut}
use Rattle.tr_mirror.proofs.HeaderLemmas.{no_fault}
use Rattle.tr_mirror.proofs.ReadingLemmas.{IsClean, IsClean-append, IsReading-tried, next_free}

-- ---- one byte puts one record on, or none

pub record IsPut (m n : Reading) : Type 0 where
  pub header : Header
  pub pixels : List ℕ
  pub sound : header_fault m.standing header ≡ None
  pub standing : n.standing ≡ after_record m.standing header pixels
  pub begun : n.begun ≡ []
  pub fault : n.fault ≡ m.fault

pub record IsStill (m n : Reading) : Type 0 where
  pub standing : n.standing ≡ m.standing

moves_judged : (m : Reading) (bytes : List ℕ) (o : Option StreamFault) → (o ≡ None → IsClean m.standing bytes) →
    IsStill m (judged m bytes o) ⊎ IsPut m (judged m bytes o)
moves_judged m bytes (Some fault) clean = inl (record { standing = refl })
moves_judged m bytes None clean = elim (cases_eq (length bytes) (record_len bytes)) [
  | inl e ↦ rw (eq-eqb (length bytes) (record_len bytes) e) (inr (record {
    header = header_of bytes;
    pixels = drop (header_len bytes) bytes;
    sound = (clean refl).sound (omega arith);
    standing = refl;
    begun = refl;
    fault = refl;
  }))
  | inr n ↦ rw (ne_eqb (length bytes) (record_len bytes) n) (inl (record { standing = refl }))
]

moves_tried : (m : Reading) (front : List ℕ) → IsReading m → 0 < length front → length m.begun + length front ≤ try_len m.begun →
    IsStill m (tried m (m.begun ++ front)) ⊎ IsPut m (tried m (m.begun ++ front))
unfolding tried
moves_tried m front w some reach = moves_judged m (m.begun ++ front) (record_fault m.standing (m.begun ++ front))
    (λ none. IsClean-append m front w some reach none)

-- a record that counts a cut has a screen
pub cut_screen : (s : Standing) (header : Header) (pixels : List ℕ) → header_fault s header ≡ None →
    (after_record s header pixels).cuts ≢ s.cuts → IsSome (after_record s header pixels).screen
unfolding after_record
cut_screen s (Screen wide high kind) pixels sound more = absurd (more refl)
cut_screen s (Run segment) pixels sound more = absurd (more refl)
cut_screen s (Fill segment) pixels sound more = absurd (more refl)
cut_screen s (Cut number) pixels sound more =
    some_of s.screen (or_parts (is_none s.screen) (not (number == s.cuts + 1)) (no_fault s (Cut number) sound).1).0
  where
    some_of : (o : Option Picture) → is_none o ≡ false → IsSome o
    some_of None h = absurd (cc)
    some_of (Some p) h = refl

-- it ends its group
cut_within : (s : Standing) (header : Header) (pixels : List ℕ) → (after_record s header pixels).cuts ≢ s.cuts → (after_record s header pixels).within ≡ false
unfolding after_record
cut_within s (Screen wide high kind) pixels more = absurd (more refl)
cut_within s (Run segment) pixels more = absurd (more refl)
cut_within s (Fill segment) pixels more = absurd (more refl)
cut_within s (Cut number) pixels more = refl

-- a record was put on, or none was, and then a cut was counted only by a whole Cut
pub EndsAtCut-put : (m n : Reading) → m.fault ≡ None → IsPut m n → EndsAtCut m n
EndsAtCut-put m n free put =
    let P : Standing → Type 0 = λ t. t.cuts ≢ m.standing.cuts → IsSome t.screen in
    let Q : Standing → Type 0 = λ t. t.cuts ≢ m.standing.cuts → t.within ≡ false in
    record {
      screen = subst P (sym put.standing) (cut_screen m.standing put.header put.pixels put.sound);
      between = λ more. rw (subst Q (sym put.standing) (cut_within m.standing put.header put.pixels) more, put.begun) refl;
      fault = λ failed. absurd (let e : false ≡ true = ap (λ o. is_some o) (sym (put.fault ∙ free)) ∙ failed in cc);
    }

pub EndsAtCut-tried : (m : Reading) (front : List ℕ) → m.fault ≡ None → IsReading m → 0 < length front → length m.begun + length front ≤ try_len m.begun →
    EndsAtCut m (tried m (m.begun ++ front))
EndsAtCut-tried m front free w some reach = elim (moves_tried m front w some reach) [
  | inl still ↦
      let same = ap (λ (s : Standing). s.cuts) still.standing in
      record { screen = λ more. absurd (more same); between = λ more. absurd (more same); fault = λ _. same }
  | inr put ↦ EndsAtCut-put m (tried m (m.begun ++ front)) free put
]

-- what a byte does where it is read
pub record IsStep (m n : Reading) : Type 0 where
  pub moves : IsStill m n ⊎ IsPut m n
  pub reading : IsReading n

step_by : (m : Reading) (b : ℕ) (o : Option _) → m.fault ≡ o → IsReading m → IsStep m (after_byte m b)
step_by m b None free w =
    let fits : length m.begun + 1 ≤ try_len m.begun = omega (arith, w.short) in
    rw (next_free m b free) (record { moves = moves_tried m (b ∷ []) w (omega arith) fits; reading = IsReading-tried m (b ∷ []) w (omega arith) fits })
step_by m b (Some fault) failed w =
    let same : after_byte m b ≡ m = ap (λ o. if is_some o then m else tried m (m.begun ++ b ∷ [])) failed in
    rw same (record { moves = inl (record { standing = refl }); reading = w })

pub IsStep-next : (m : Reading) (b : ℕ) → IsReading m → IsStep m (after_byte m b)
IsStep-next m b w = step_by m b m.fault refl w

-- ---- what is kept byte by byte

pub record IsAccount (s : Standing) (before : List Picture) : Type 0 where
  pub cuts : length before ≡ s.cuts
  pub last : s.within ≡ false → last_of before ≡ s.screen
  pub rested : s.within ≡ false → s.south ≡ 0

pub last_of-push : (xs : List Picture) (p : Picture) → last_of (xs ++ p ∷ []) ≡ Some p
last_of-push [] p = refl
last_of-push (x ∷ []) p = refl
last_of-push (x ∷ y ∷ ys) p = last_of-push (y ∷ ys) p

pub no_cut : (s t : Standing) → s.cuts ≡ t.cuts → cut_between s t ≡ []
no_cut s t same = rw (eq-eqb s.cuts t.cuts same) refl

same_list : (before xs : List Picture) → xs ≡ [] → before ++ xs ≡ before
same_list before xs none = rw none (append-nil before)

cut_listed : (o : Option Picture) (before : List Picture) → is_none o ≡ false → (length (before ++ list_of_option o) ≡ length before + 1)
    × (last_of (before ++ list_of_option o) ≡ o)
cut_listed None before h = absurd (cc)
cut_listed (Some p) before h = (length-append before (p ∷ []), last_of-push before p)

module _ (s : Standing) (before : List Picture) (k : IsAccount s before) where
  row_put : (t : Standing) → t.cuts ≡ s.cuts → t.within ≡ true → IsAccount t (before ++ cut_between s t)
  row_put t cuts within = record {
    cuts = rw (same_list before (cut_between s t) (no_cut s t (sym cuts))) (k.cuts ∙ sym cuts);
    last = λ between. absurd (true≢false (sym within ∙ between));
    rested = λ between. absurd (true≢false (sym within ∙ between));
  }

  pub IsAccount-after : (header : Header) (pixels : List ℕ) → header_fault s header ≡ None →
      IsAccount (after_record s header pixels) (before ++ cut_between s (after_record s header pixels))
  unfolding after_record
  IsAccount-after (Screen wide high kind) pixels sound = row_put (after_record s (Screen wide high kind) pixels) refl refl
  IsAccount-after (Run segment) pixels sound = row_put (after_record s (Run segment) pixels) refl refl
  IsAccount-after (Fill segment) pixels sound = row_put (after_record s (Fill segment) pixels) refl refl
  IsAccount-after (Cut number) pixels sound =
      let t : Standing = after_record s (Cut number) pixels in
      let some = (or_parts (is_none s.screen) (not (number == s.cuts + 1)) (no_fault s (Cut number) sound).1).0 in
      let added = cut_listed s.screen before some in
      let new : cut_between s t ≡ list_of_option s.screen = rw (ne_eqb s.cuts (s.cuts + 1) (λ e. omega arith)) refl in
      record {
        cuts = rw new (omega (arith, added.0, k.cuts));
        last = λ _. rw new added.1;
        rested = λ _. refl;
      }

-- one byte more
account_step : (m n : Reading) (before : List Picture) → IsAccount m.standing before → IsStep m n →
    IsAccount n.standing (before ++ cut_between m.standing n.standing)
account_step m n before k step = elim step.moves [
  | inl still ↦ rw (still.standing, no_cut m.standing m.standing refl, append-nil before) k
  | inr put ↦ rw put.standing (IsAccount-after m.standing before k put.header put.pixels put.sound)
]

pub record IsKept (m : Reading) (before : List Picture) : Type 0 where
  pub reading : IsReading m
  pub account : IsAccount m.standing before

pub IsKept-read : (m : Reading) (before : List Picture) (xs : List ℕ) → IsKept m before → IsKept (after_bytes m xs) (before ++ shown_from m xs)
IsKept-read m before [] k = rw (append-nil before) k
IsKept-read m before (x ∷ xs) k =
    let n : Reading = after_byte m x in
    let step = IsStep-next m x k.reading in
    let now : List Picture = before ++ cut_between m.standing n.standing in
    let more = IsKept-read n now xs (record { reading = step.reading; account = account_step m n before k.account step }) in
    subst (λ l. IsKept (after_bytes n xs) l) (append_assoc before (cut_between m.standing n.standing) (shown_from n xs)) more

pub IsReading-at_first : IsReading at_first
IsReading-at_first = record {
  short = omega arith;
  sound = λ some. absurd (omega arith);
  bounded = record { cuts = omega arith; spent = omega arith; south = omega arith; sized = λ p h. absurd (cc) };
}

-- what every stream's reading has
pub IsKept-at_first : (stream : List ℕ) → IsKept (after_bytes at_first stream) (shown_from at_first stream)
IsKept-at_first stream = IsKept-read at_first [] stream (record {
  reading = IsReading-at_first;
  account = record { cuts = refl; last = λ _. refl; rested = λ _. refl };
})

pub shown_from-append : (m : Reading) (xs ys : List ℕ) → shown_from m (xs ++ ys) ≡ shown_from m xs ++ shown_from (after_bytes m xs) ys
shown_from-append m [] ys = refl
shown_from-append m (x ∷ xs) ys =
    ap (λ l. cut_between m.standing (after_byte m x).standing ++ l) (shown_from-append (after_byte m x) xs ys)
    ∙ sym (append_assoc (cut_between m.standing (after_byte m x).standing) (shown_from (after_byte m x) xs) (shown_from (after_bytes (after_byte m x) xs) ys))
