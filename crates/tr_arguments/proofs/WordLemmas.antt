-- A word without a hyphen in front, at any command: it is no flag, so that it names a subcommand or goes to a positional.
use Rattle.std.proofs.Common.{◌≡◌, ℕ, Bool, false, ◌&&◌, List, [], ◌∷◌, Option, Some, None, option_map, refl, ap, ap₂, ◌∙◌}
use Rattle.std.specs.Prelude.{bytes_eq, find, if◌then◌else◌, option_and_then}
use Rattle.std.specs.Option.{option_map_or}
use Rattle.clap.specs.Lexer.{long_of, long_of_rest, short_of, short_of_rest, strip_byte}
use Rattle.clap.specs.Walk.{Held, Names, Rule, Step, Text, Walk, after_step, answers_to, arg_by_index, idle, long_or_other, short_or_plain, subcommand_or_other, to_positional, trailing, value, walked, word_met}
use Rattle.clap.specs.Simple.{Shape}
use Rattle.clap.specs.Kinds.{Kinds, or_else}
use Rattle.clap.specs.Faults.{bundle_fault, flag_word_fault, other_fault, step_fault, turn_fault, walk_fault, word_fault}
use Rattle.tr_arguments.specs.Parsers.{is_flag}

-- the word is no option, no bundle of flags and no `--`
record IsPlain (word : Text) : Type 0 where
  hyphens : bytes_eq word (45 ∷ 45 ∷ []) ≡ false
  long : long_of word ≡ None
  short : short_of word ≡ None

no_flag : (word : Text) → is_flag word ≡ false → IsPlain word
no_flag [] plain = record { hyphens = refl; long = refl; short = refl }
no_flag (b ∷ bs) plain = record {
  hyphens = ap (λ (t : Bool). t && bytes_eq bs (45 ∷ [])) plain;
  long = ap (λ (t : Bool). option_and_then long_of_rest (option_and_then (strip_byte 45) (if t then Some bs else None))) plain;
  short = ap (λ (t : Bool). option_and_then short_of_rest (if t then Some bs else None)) plain;
}

-- a walk between two words, where nothing waits for a value
abbrev pub between : Held → ℕ → Walk
between held position = record { held = held; waiting = idle; position = position; is_trailing = false; stopped = None }

module _ (names : Names) (held : Held) (position : ℕ) (word : Text) (plain : is_flag word ≡ false) (none : find (answers_to word) names ≡ None) where
  -- such a word that names no subcommand is a value
  met_is : (rules : List Rule) → word_met rules names false idle position word held ≡ (held, value)
  met_is rules =
      let p = no_flag word plain in
      ap (λ (o : Option (Text × List Text)). subcommand_or_other rules (option_map (λ s. s.0) o) idle position word held) none
      ∙ (ap (λ (t : Bool). if t then (held, trailing position) else long_or_other rules idle word (long_of word) held) p.hyphens
      ∙ (ap (λ (o : Option (Text × Option Text)). long_or_other rules idle word o held) p.long
      ∙ ap (λ (o : Option Text). short_or_plain rules idle word o held) p.short))

  -- without a fault
  no_fault : (s : Shape) → word_fault s names false idle word held ≡ []
  no_fault s =
      let p = no_flag word plain in
      let flags : Option Text → Kinds = λ o. option_map_or (λ f. bundle_fault s.rules s.args_override_self f held) o [] in
      ap (λ (o : Option (Text × List Text)). other_fault s (option_map (λ n. n.0) o) word held) none
      ∙ (ap (λ (t : Bool). if t then [] else flag_word_fault s.rules s.args_override_self (long_of word) word held) p.hyphens
      ∙ (ap (λ (o : Option (Text × Option Text)). flag_word_fault s.rules s.args_override_self o word held) p.long
      ∙ ap flags p.short))

  -- the walk after it
  pub walked_plain : (rules : List Rule) →
      walked rules names (between held position) word
      ≡ to_positional rules (arg_by_index rules position) word (between held position) held
  unfolding walked
  walked_plain rules = ap (λ (met : Held × Step). after_step rules word (between held position) met.0 met.1) (met_is rules)

  -- and its fault is that of going to a positional
  pub turn_plain : (s : Shape) → turn_fault s names (between held position) word ≡ step_fault s position held value
  turn_plain s =
      ap₂ (λ (fault : Kinds) (met : Held × Step). or_else fault (step_fault s position met.0 met.1)) (no_fault s) (met_is s.rules)

-- the faults of a walk begin with those of its first word
pub walk_next : (s : Shape) (names : Names) (w after : Walk) (word : Text) (rest : List Text) (fault : Kinds) →
    turn_fault s names w word ≡ fault → walked s.rules names w word ≡ after →
    walk_fault s names w (word ∷ rest) ≡ or_else fault (walk_fault s names after rest)
unfolding walk_fault
walk_next s names w after word rest fault turn next =
    ap₂ (λ (k : Kinds) (v : Walk). or_else k (walk_fault s names v rest)) turn next
