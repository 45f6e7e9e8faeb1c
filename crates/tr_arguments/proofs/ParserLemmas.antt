-- What the parser makes of words without a hyphen in front: where it takes a list of them it finds the words again, and
-- no list that it refuses asks for anything.
use Rattle.std.proofs.Common.{◌≡◌, ◌⊎◌, Bool, true, false, List, [], ◌∷◌, Option, Some, None, option_map, is_some, refl, sym, ap, ap₂, subst, ◌∙◌, inl, inr, codes}
use Rattle.std.specs.Prelude.{bytes_eq, find, fold}
use Rattle.std.specs.List.{list_any}
use Rattle.std.proofs.lemmas.Bool.{false_from_ne_true, false≢true, or_parts}
use Rattle.std.proofs.lemmas.Slice.Eq.{bytes_eq-Decides}
use Rattle.clap.specs.Walk.{Names, Row, Text, Walk, answers_to, arg_by_index, finished, nothing_held, settled, walk, walk_from, walked}
use Rattle.clap.specs.Simple.{App, HasMatchesOf, Shape, built, built_leaf, entered, inherited, is_simple, names_of, new_shape, subcommand_of, subcommand_rows_of}
use Rattle.clap.specs.Kinds.{HasKind, Kinds, or_else}
use Rattle.clap.specs.Faults.{check_fault, defaults_fault, entered_fault, fault_of, is_simple_and_free, level_fault, settle_fault, stray_fault, turn_fault, walk_fault}
use Rattle.clap.specs.declared.error.kind.ErrorKind.{ErrorKind}
use Rattle.clap.specs.declared.error.kind.ErrorKind.TheVariants.{InvalidSubcommand, MissingRequiredArgument, MissingSubcommand, OutOfMemory, UnknownArgument}
use Rattle.clap.specs.declared.error.Error.{Error}
use Rattle.clap.specs.declared.parser.matches.ArgMatches.{ArgMatches}
use Rattle.clap.specs.Values.{kind_of}
use Rattle.clap.proofs.OnLiterals.{clap_on_literals}
use Rattle.clap.proofs.FaultLemmas.{stopped_fault}
use Rattle.clap.proofs.WalkLemmas.{walk_stopped}
use Rattle.tr_arguments.specs.Commands.{command_of}
use Rattle.tr_arguments.specs.Parsers.{command_of_found, gen, is_flag, parser, words_found}
use Rattle.tr_arguments.proofs.WordLemmas.{between, turn_plain, walk_next, walked_plain}

-- the parser as it is built, and its subcommands' names
abbrev top : Shape
top = (built parser).top

abbrev names : Names
names = names_of (built parser)

abbrev start : Walk
start = walk_from nothing_held

-- the walk after a first word that names a subcommand, to which the others are left
abbrev left_to : Text → List Text → Walk
left_to name rest = record start { stopped = Some (name, rest) }

-- what a list of words is: taken and found again, or refused and no accepted list
abbrev Reads : List Text → Type 0
Reads ws =
    ((fault_of parser ws ≡ []) × (option_map words_found (subcommand_of parser ws) ≡ Some ws))
    ⊎ ((k : ErrorKind) × (ks : Kinds) × (fault_of parser ws ≡ k ∷ ks) × (command_of ws ≡ None))

simple_and_free : is_simple_and_free parser ≡ true
unfolding clap_on_literals
simple_and_free = refl

simple : is_simple parser ≡ true
unfolding clap_on_literals
simple = refl

-- ---- by the walk over the words of the parser itself

abbrev fault_with : Walk → Kinds → Kinds
fault_with w first =
    or_else first (or_else (entered_fault (built parser) w.stopped)
    (or_else (settle_fault top.rules top.args_override_self w.held)
    (or_else (defaults_fault (settled top.rules w.held).rows top.rules)
    (check_fault top (finished top.rules w.held) (is_some (entered (built parser) w.stopped))))))

fault_is : (ws : List Text) → fault_of parser ws ≡ fault_with (walk top.rules names nothing_held ws) (walk_fault top names start ws)
fault_is ws = refl

module _ (name : Text) (rest : List Text) (enters : walked top.rules names start name ≡ left_to name []) where
  walk_is : walk top.rules names nothing_held (name ∷ rest) ≡ left_to name rest
  walk_is = ap (λ (w : Walk). fold (walked top.rules names) w rest) enters ∙ sym (walk_stopped top.rules names start name [] rest)

  found_is : subcommand_of parser (name ∷ rest) ≡ entered (built parser) (Some (name, rest))
  found_is = ap (λ (w : Walk). entered (built parser) w.stopped) walk_is

  entered_is : turn_fault top names start name ≡ [] → fault_of parser (name ∷ rest) ≡ fault_with (left_to name rest) []
  entered_is passes =
      let first = walk_next top names start (left_to name []) name rest [] passes enters ∙ stopped_fault top names start (name, []) rest in
      fault_is (name ∷ rest) ∙ ap₂ fault_with walk_is first

-- ---- a first word that names no subcommand

stray : (s : Shape) (names : Names) (word : Text) (rest : List Text) (k : ErrorKind) (ks : Kinds) → is_flag word ≡ false →
    find (answers_to word) names ≡ None → arg_by_index s.rules 1 ≡ None → stray_fault s ≡ k ∷ ks →
    walk_fault s names start (word ∷ rest) ≡ k ∷ ks
stray s names word rest k ks plain none no_rule kinds =
    let turn : turn_fault s names start word ≡ k ∷ ks = turn_plain names nothing_held 1 word plain none s ∙ rw no_rule kinds in
    walk_next s names start (walked s.rules names start word) word rest (k ∷ ks) turn refl

unknown_fault : (word : Text) (rest : List Text) → is_flag word ≡ false → find (answers_to word) names ≡ None →
    fault_of parser (word ∷ rest) ≡ UnknownArgument ∷ InvalidSubcommand ∷ []
unknown_fault word rest plain none =
    let first = stray top names word rest UnknownArgument (InvalidSubcommand ∷ []) plain none refl refl in
    fault_is (word ∷ rest) ∙ ap (fault_with (walk top.rules names nothing_held (word ∷ rest))) first

-- ---- what a subcommand is left

-- a subcommand as it is built
abbrev sub : Shape → Shape
sub s = built_leaf (inherited top s)

-- a subcommand's level fails as the walk over its words begins to
level_first : (s : Shape) (words : List Text) (k : ErrorKind) (ks : Kinds) → walk_fault s [] start words ≡ k ∷ ks →
    level_fault s [] nothing_held words false [] ≡ k ∷ ks
level_first s words k ks e = rw e refl

-- the kinds of a subcommand, at its end
abbrev below : Shape → List Text → Kinds
below s rest = or_else (level_fault s [] nothing_held rest false []) []

refused_below : (s : Shape) (rest : List Text) (k : ErrorKind) (ks : Kinds) → walk_fault s [] start rest ≡ k ∷ ks → below s rest ≡ k ∷ ks
refused_below s rest k ks e = ap (λ (kinds : Kinds). or_else kinds []) (level_first s rest k ks e)

-- ---- the words that stand alone

abbrev alone : Text → Shape
alone name = sub (new_shape name)

alone_passes : (name : Text) → below (alone name) [] ≡ []
unfolding clap_on_literals
alone_passes name = refl

module _ (name : Text) (faults : (rest : List Text) → fault_of parser (name ∷ rest) ≡ below (alone name) rest)
    (found : option_map words_found (subcommand_of parser (name ∷ [])) ≡ Some (name ∷ []))
    (no_more : (x : Text) (more : List Text) → command_of (name ∷ x ∷ more) ≡ None) where
  alone_reads : (rest : List Text) → list_any is_flag rest ≡ false → Reads (name ∷ rest)
  alone_reads [] plain = inl (faults [] ∙ alone_passes name, found)
  alone_reads (x ∷ more) plain =
      let parts = or_parts (is_flag x) (list_any is_flag more) plain in
      let first = stray (alone name) [] x more UnknownArgument [] parts.0 refl refl refl in
      inr (UnknownArgument, [], faults (x ∷ more) ∙ refused_below (alone name) (x ∷ more) UnknownArgument [] first, no_more x more)

no_number : (name : Text) → bytes_eq name (codes "gen") ≡ false → (x : Text) (more : List Text) → command_of (name ∷ x ∷ more) ≡ None
no_number name e x [] = rw e refl
no_number name e x (y ∷ more) = refl

play_reads : (rest : List Text) → list_any is_flag rest ≡ false → Reads (codes "play" ∷ rest)
unfolding clap_on_literals
play_reads rest plain =
    alone_reads (codes "play") (λ r. entered_is (codes "play") r refl refl) refl (no_number (codes "play") refl) rest plain

serial_reads : (rest : List Text) → list_any is_flag rest ≡ false → Reads (codes "serial" ∷ rest)
unfolding clap_on_literals
serial_reads rest plain =
    alone_reads (codes "serial") (λ r. entered_is (codes "serial") r refl refl) refl (no_number (codes "serial") refl) rest plain

check_reads : (rest : List Text) → list_any is_flag rest ≡ false → Reads (codes "check" ∷ rest)
unfolding clap_on_literals
check_reads rest plain =
    alone_reads (codes "check") (λ r. entered_is (codes "check") r refl refl) refl (no_number (codes "check") refl) rest plain

mirror_reads : (rest : List Text) → list_any is_flag rest ≡ false → Reads (codes "mirror" ∷ rest)
unfolding clap_on_literals
mirror_reads rest plain =
    alone_reads (codes "mirror") (λ r. entered_is (codes "mirror") r refl refl) refl (no_number (codes "mirror") refl) rest plain

show_reads : (rest : List Text) → list_any is_flag rest ≡ false → Reads (codes "show" ∷ rest)
unfolding clap_on_literals
show_reads rest plain =
    alone_reads (codes "show") (λ r. entered_is (codes "show") r refl refl) refl (no_number (codes "show") refl) rest plain

-- ---- `gen`, which takes a number

abbrev drawn : Shape
drawn = sub gen.top

gen_faults : (rest : List Text) → fault_of parser (codes "gen" ∷ rest) ≡ below drawn rest
unfolding clap_on_literals
gen_faults rest = entered_is (codes "gen") rest refl refl

gen_found : (rest : List Text) → subcommand_of parser (codes "gen" ∷ rest) ≡ entered (built parser) (Some (codes "gen", rest))
unfolding clap_on_literals
gen_found rest = found_is (codes "gen") rest refl

-- the walk after the word behind `gen`
abbrev given : Text → Walk
given word = between (record { rows = []; pending = Some (codes "number", word ∷ []); skip = 0 }) 2

given_is : (word : Text) → is_flag word ≡ false → walked drawn.rules [] start word ≡ given word
given_is word plain = walked_plain [] nothing_held 1 word plain refl drawn.rules

given_passes : (word : Text) → is_flag word ≡ false → turn_fault drawn [] start word ≡ []
given_passes word plain = turn_plain [] nothing_held 1 word plain refl drawn

abbrev level_with : Walk → Kinds → Kinds
level_with w first =
    or_else first (or_else (settle_fault drawn.rules drawn.args_override_self w.held)
    (or_else (defaults_fault (settled drawn.rules w.held).rows drawn.rules)
    (check_fault drawn (finished drawn.rules w.held) false)))

number_ends : (word : Text) → level_with (given word) (or_else [] (walk_fault drawn [] (given word) [])) ≡ []
unfolding clap_on_literals
number_ends word = refl

number_passes : (word : Text) → is_flag word ≡ false → level_fault drawn [] nothing_held (word ∷ []) false [] ≡ []
number_passes word plain =
    ap₂ level_with (given_is word plain) (walk_next drawn [] start (given word) word [] [] (given_passes word plain) (given_is word plain))
    ∙ number_ends word

number_found : (word : Text) → is_flag word ≡ false →
    option_map words_found (subcommand_of parser (codes "gen" ∷ word ∷ [])) ≡ Some (codes "gen" ∷ word ∷ [])
number_found word plain =
    let row : (w : Walk) → Option (List Text) = λ w. Some (words_found (codes "gen", finished drawn.rules w.held)) in
    ap (option_map words_found) (gen_found (word ∷ [])) ∙ ap row (given_is word plain)

gen_alone : fault_of parser (codes "gen" ∷ []) ≡ MissingRequiredArgument ∷ []
unfolding clap_on_literals
gen_alone = refl

gen_reads : (rest : List Text) → list_any is_flag rest ≡ false → Reads (codes "gen" ∷ rest)
gen_reads [] plain = inr (MissingRequiredArgument, [], gen_alone, refl)
gen_reads (n ∷ []) plain =
    let parts = or_parts (is_flag n) false plain in
    inl (gen_faults (n ∷ []) ∙ ap (λ (kinds : Kinds). or_else kinds []) (number_passes n parts.0), number_found n parts.0)
gen_reads (n ∷ m ∷ more) plain =
    let parts = or_parts (is_flag n) (list_any is_flag (m ∷ more)) plain in
    let others = or_parts (is_flag m) (list_any is_flag more) parts.1 in
    let held = (given n).held in
    let turn : turn_fault drawn [] (given n) m ≡ UnknownArgument ∷ [] = turn_plain [] held 2 m others.0 refl drawn in
    let second = walk_next drawn [] (given n) (walked drawn.rules [] (given n) m) m more (UnknownArgument ∷ []) turn refl in
    let first = walk_next drawn [] start (given n) n (m ∷ more) [] (given_passes n parts.0) (given_is n parts.0) ∙ second in
    inr (UnknownArgument, [], gen_faults (n ∷ m ∷ more) ∙ refused_below drawn (n ∷ m ∷ more) UnknownArgument [] first, refl)

-- ---- any words

nothing_reads : fault_of parser [] ≡ MissingSubcommand ∷ []
unfolding clap_on_literals
nothing_reads = refl

other_way : (t w : Text) → bytes_eq t w ≡ false → bytes_eq w t ≡ false
other_way t w e = false_from_ne_true _ (λ h. false≢true (sym e ∙ (bytes_eq-Decides t w).1 (sym ((bytes_eq-Decides w t).0 h))))

-- the word is none of the six
record IsOther (word : Text) : Type 0 where
  play : bytes_eq (codes "play") word ≡ false
  serial : bytes_eq (codes "serial") word ≡ false
  check : bytes_eq (codes "check") word ≡ false
  mirror : bytes_eq (codes "mirror") word ≡ false
  show : bytes_eq (codes "show") word ≡ false
  gen : bytes_eq (codes "gen") word ≡ false

no_name : (word : Text) → IsOther word → find (answers_to word) names ≡ None
no_name word other = rw (other.play, other.serial, other.check, other.mirror, other.show, other.gen) refl

no_command : (word : Text) (rest : List Text) → IsOther word → command_of (word ∷ rest) ≡ None
no_command word [] other =
    rw (
      other_way (codes "play") word other.play,
      other_way (codes "serial") word other.serial,
      other_way (codes "check") word other.check,
      other_way (codes "mirror") word other.mirror,
      other_way (codes "show") word other.show,
    ) refl
no_command word (n ∷ []) other = rw (other_way (codes "gen") word other.gen) refl
no_command word (n ∷ m ∷ more) other = refl

named : (t word : Text) (rest : List Text) → bytes_eq t word ≡ true → Reads (t ∷ rest) → Reads (word ∷ rest)
named t word rest e = subst (λ (w : Text). Reads (w ∷ rest)) ((bytes_eq-Decides t word).0 e)

by_name : (word : Text) (rest : List Text) → is_flag word ≡ false → list_any is_flag rest ≡ false → (p s c m w g : Bool) →
    bytes_eq (codes "play") word ≡ p → bytes_eq (codes "serial") word ≡ s → bytes_eq (codes "check") word ≡ c →
    bytes_eq (codes "mirror") word ≡ m → bytes_eq (codes "show") word ≡ w → bytes_eq (codes "gen") word ≡ g → Reads (word ∷ rest)
by_name word rest flag plain true s c m w g e f h k l i = named (codes "play") word rest e (play_reads rest plain)
by_name word rest flag plain false true c m w g e f h k l i = named (codes "serial") word rest f (serial_reads rest plain)
by_name word rest flag plain false false true m w g e f h k l i = named (codes "check") word rest h (check_reads rest plain)
by_name word rest flag plain false false false true w g e f h k l i = named (codes "mirror") word rest k (mirror_reads rest plain)
by_name word rest flag plain false false false false true g e f h k l i = named (codes "show") word rest l (show_reads rest plain)
by_name word rest flag plain false false false false false true e f h k l i = named (codes "gen") word rest i (gen_reads rest plain)
by_name word rest flag plain false false false false false false e f h k l i =
    let other : IsOther word = record { play = e; serial = f; check = h; mirror = k; show = l; gen = i } in
    inr (UnknownArgument, InvalidSubcommand ∷ [], unknown_fault word rest flag (no_name word other), no_command word rest other)

reads : (ws : List Text) → list_any is_flag ws ≡ false → Reads ws
reads [] plain = inr (MissingSubcommand, [], nothing_reads, refl)
reads (word ∷ rest) plain =
    let parts = or_parts (is_flag word) (list_any is_flag rest) plain in
    by_name word rest parts.0 parts.1 _ _ _ _ _ _ refl refl refl refl refl refl

-- ---- what a parse tells

-- the command of a list that is found again is its own
again : (ws : List Text) (found : Option (Text × List Row)) → option_map words_found found ≡ Some ws → command_of_found found ≡ command_of ws
again ws None e = cc
again ws (Some f) e =
    let same : words_found f ≡ ws = cc in
    ap command_of same

-- a parse that succeeds has found what the words ask for
pub taken : (a : App) (ws : List Text) (m : ArgMatches) → a ≡ parser → list_any is_flag ws ≡ false →
    (is_simple_and_free a ≡ true → fault_of a ws ≡ []) → HasMatchesOf a ws m → command_of_found (subcommand_rows_of m) ≡ command_of ws
taken a ws m is plain passes matches =
    let no_fault : fault_of parser ws ≡ [] = subst (λ (x : App). fault_of x ws ≡ []) is (passes (ap is_simple_and_free is ∙ simple_and_free)) in
    let rows : subcommand_rows_of m ≡ subcommand_of parser ws = (matches (ap is_simple is ∙ simple)).1 ∙ ap (λ (x : App). subcommand_of x ws) is in
    elim (reads ws plain) [
      | inl r ↦ ap command_of_found rows ∙ again ws (subcommand_of parser ws) r.1
      | inr r ↦ let bad : [] ≡ r.0 ∷ r.1 = sym no_fault ∙ r.2 in cc
    ]

-- and one that is refused leaves an accepted list only where memory was wanted
pub refused : (a : App) (ws : List Text) (e : Error) → a ≡ parser → list_any is_flag ws ≡ false →
    (is_simple_and_free a ≡ true → HasKind (fault_of a ws) e) → (kind_of e ≡ OutOfMemory → ⊥) → None ≡ command_of ws
refused a ws e is plain kinds other =
    let has : HasKind (fault_of parser ws) e = subst (λ (x : App). HasKind (fault_of x ws) e) is (kinds (ap is_simple_and_free is ∙ simple_and_free)) in
    elim (reads ws plain) [
      | inl r ↦
          let none : HasKind [] e = subst (λ (k : Kinds). HasKind k e) r.0 has in
          elim none [ inl memory ↦ absurd (other memory) | inr bad ↦ absurd bad ]
      | inr r ↦ sym r.3
    ]
