-- A list with a word that begins with a hyphen asks for nothing.
use Rattle.std.proofs.Common.{◌≡◌, ℕ, ◌^◌, ◌<◌, ◌≤◌, Bool, true, false, leb, ◌&&◌, ◌||◌, List, [], ◌∷◌, get_or, None, refl, sym, ap, ◌∙◌, arith, codes}
use Rattle.std.specs.Prelude.{bytes_eq, decimal, String, string_bytes}
use Rattle.std.specs.List.{list_any}
use Rattle.std.specs.declared.alloc.Global.{Global}
use Rattle.std.proofs.lemmas.Bool.{and_parts, leb-true, false_from_ne_true, false≢true, eqb-true}
use Rattle.std.proofs.lemmas.Slice.Eq.{bytes_eq-Decides}
use Rattle.std.proofs.lemmas.Str.Parse.{digit_at}
use Rattle.std.proofs.lemmas.Fmt.{decimal_is_IsNumeral, decimal_nonempty}
use Rattle.clap.proofs.WalkLemmas.{list_any-map}
use Rattle.tr_grammar.specs.Words.{is_number, nat_of}
use Rattle.tr_arguments.specs.Commands.{command_of, texts_of}
use Rattle.tr_arguments.specs.Parsers.{is_flag}

-- such a word is no other that doesn't begin with one
no_word : (t word : List ℕ) → is_flag t ≡ false → is_flag word ≡ true → bytes_eq word t ≡ false
no_word t word other flag =
    false_from_ne_true _ (λ e. false≢true (sym other ∙ sym (ap is_flag ((bytes_eq-Decides word t).0 e)) ∙ flag))

-- and no number
no_number : (word : List ℕ) → is_flag word ≡ true → is_number 0 4294967295 word ≡ false
unfolding is_number
no_number word flag = false_from_ne_true _ (λ t.
    let n = nat_of word in
    let parts = and_parts (bytes_eq word (decimal n)) (leb 0 n && leb n 4294967295) t in
    let range = and_parts (leb 0 n) (leb n 4294967295) parts.1 in
    let below : n ≤ 4294967295 = leb-true n 4294967295 range.1 in
    let small : n < 2 ^ 64 = omega arith in
    let text : word ≡ decimal n = (bytes_eq-Decides word (decimal n)).0 parts.0 in
    let digit = digit_at (decimal n) 0 (decimal_is_IsNumeral n small).0.1 (decimal_nonempty n small) in
    let hyphen : get_or word 0 0 ≡ 45 = eqb-true _ _ flag in
    let first : get_or word 0 0 ≡ get_or (decimal n) 0 0 = ap (λ (w : List ℕ). get_or w 0 0) text in
    omega (arith, digit, hyphen, first))

flagged : (ws : List (List ℕ)) → list_any is_flag ws ≡ true → None ≡ command_of ws
flagged [] any = refl
flagged (w ∷ []) any = alone_first (is_flag w) refl any
  where
    alone_first : (b : Bool) → is_flag w ≡ b → (b || false) ≡ true → None ≡ command_of (w ∷ [])
    alone_first false e h = absurd (false≢true h)
    alone_first true e h =
        rw (
          no_word (codes "play") w refl e,
          no_word (codes "serial") w refl e,
          no_word (codes "check") w refl e,
          no_word (codes "mirror") w refl e,
          no_word (codes "show") w refl e,
        ) refl
flagged (w ∷ n ∷ []) any = one (is_flag w) (is_flag n) (bytes_eq w (codes "gen")) refl refl refl any
  where
    one : (b c g : Bool) → is_flag w ≡ b → is_flag n ≡ c → bytes_eq w (codes "gen") ≡ g → (b || (c || false)) ≡ true →
        None ≡ command_of (w ∷ n ∷ [])
    one b c false e f is h = rw is refl
    one true c true e f is h = absurd (false≢true (sym (no_word (codes "gen") w refl e) ∙ is))
    one false true true e f is h = rw (is, no_number n f) refl
    one false false true e f is h = absurd (false≢true h)
flagged (w ∷ n ∷ m ∷ more) any = refl

-- the test of the words themselves, as one of their texts
pub texts_plain : (words : List (String Global)) → list_any (λ word. is_flag (string_bytes word)) words ≡ list_any is_flag (texts_of words)
texts_plain words = list_any-map is_flag string_bytes words

pub has_flagged : (words : List (String Global)) → true ≡ list_any (λ word. is_flag (string_bytes word)) words → None ≡ command_of (texts_of words)
has_flagged words any = flagged (texts_of words) (sym (texts_plain words) ∙ sym any)
