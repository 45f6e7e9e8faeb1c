-- The commands of a list when stored commands, texts and places are added.
use Rattle.std.proofs.Common.{◌≡◌, ℕ, ◌<◌, ◌≤◌, List, [], ◌∷◌, ◌++◌, length, map, get_or, refl, sym, ap, subst, ◌∙◌, arith}
use Rattle.std.proofs.lemmas.List.{append-nil, get_or_append_left, get_or_push, get_or_read, length-append, length_push, map_push}
use Rattle.std.proofs.lemmas.List.Elements.{All-head, All-push, All-tail, All-weaker}
use Rattle.tr_base.specs.declared.Pair.{Pair}
use Rattle.tr_base.specs.Rects.{Edges, empty_rect}
use Rattle.tr_paint.specs.declared.paints.Paint.{Paint}
use Rattle.tr_paint.specs.declared.paints.Paint.TheVariants.{Text, Spoil}
use Rattle.tr_paint.specs.declared.places.TextAt.{TextAt}
use Rattle.tr_paint.specs.declared.places.Places.{Places}
use Rattle.tr_paint.specs.CommandLists.{HaveParts, ListGrew, HasText, IsStoredAt, DiffersInTextAlone, IsNoText, HasPlacesWithin, stored_at, no_text, text_at, command_at_places, with_text_at}

-- a text whose bytes are replaced twice has the last ones
with_twice : (c : Paint) (a b : TextAt) → with_text_at (with_text_at c a) b ≡ with_text_at c b
with_twice (Text ops clip at text) a b = refl
with_twice c a b = refl

-- a command that isn't a text stays
pub with-none : (c : Paint) (placed : TextAt) → IsNoText c → with_text_at c placed ≡ c
with-none (Text ops clip at text) placed h = absurd h
with-none c placed h = refl

pub has-none : (c : Paint) (k n : ℕ) → IsNoText c → HasText c k n
has-none (Text ops clip at text) k n h = absurd h
has-none c k n h = tt

has-with : (c : Paint) (placed : TextAt) (k n : ℕ) → HasText c k n → HasText (with_text_at c placed) k n
has-with (Text ops clip at text) placed k n h = h
has-with c placed k n h = tt

has-more : (c : Paint) (k m n : ℕ) → HasText c k m → m ≤ n → HasText c k n
has-more (Text ops clip at text) k m n h le = omega (arith, h, le)
has-more c k m n h le = tt

-- more texts change no command
text-more : (c : Paint) (texts others : List TextAt) (k : ℕ) → HasText c k (length texts) →
    with_text_at c (text_at (texts ++ others) k) ≡ with_text_at c (text_at texts k)
text-more (Text ops clip at text) texts others k h =
    ap (λ (p : TextAt). Text ops clip p.at p.text) (get_or_append_left texts others no_text k h)
text-more c texts others k h = refl

-- more stored commands and texts change no command
stored-more : (stored more : List Paint) (k : ℕ) → k < length stored → stored_at (stored ++ more) k ≡ stored_at stored k
stored-more stored more k h = get_or_append_left stored more (Spoil empty_rect) k h

parts-more : (stored more : List Paint) (texts others : List TextAt) (own : Places) → HasPlacesWithin stored texts own →
    HasPlacesWithin (stored ++ more) (texts ++ others) own
parts-more stored more texts others own is = record {
  command = omega (arith, is.command, length-append stored more);
  text =
      subst (λ (c : Paint). HasText c own.text (length (texts ++ others))) (sym (stored-more stored more own.command is.command))
      (has-more (stored_at stored own.command) own.text (length texts) (length (texts ++ others)) is.text (omega (arith, length-append texts others)));
}

command-more : (stored more : List Paint) (texts others : List TextAt) (own : Places) → HasPlacesWithin stored texts own →
    command_at_places (stored ++ more) (texts ++ others) own ≡ command_at_places stored texts own
command-more stored more texts others own is =
    ap (λ (c : Paint). with_text_at c (text_at (texts ++ others) own.text)) (stored-more stored more own.command is.command)
    ∙ text-more (stored_at stored own.command) texts others own.text is.text

commands-more : (stored more : List Paint) (texts others : List TextAt) (places : List Places) → HaveParts stored texts places →
    map (command_at_places (stored ++ more) (texts ++ others)) places ≡ map (command_at_places stored texts) places
commands-more stored more texts others [] are = refl
commands-more stored more texts others (own ∷ places) are =
    ap (λ (c : Paint). c ∷ map (command_at_places (stored ++ more) (texts ++ others)) places)
    (command-more stored more texts others own (All-head (HasPlacesWithin stored texts) own places are))
    ∙ ap (λ (cs : List Paint). command_at_places stored texts own ∷ cs)
    (commands-more stored more texts others places (All-tail (HasPlacesWithin stored texts) own places are))

-- a list that is as it was
pub grew-none : {X : Type 0} (xs : List X) → ListGrew xs xs
grew-none xs = ([], sym (append-nil xs))

module _ (stored next : List Paint) (texts later : List TextAt) (places : List Places) (k j : ℕ) (c : Paint) where
  -- the places of a command and of its text give this command behind the others
  pub pushed : HaveParts stored texts places → IsStoredAt stored next c k → ListGrew texts later → with_text_at c (text_at later j) ≡ c →
      map (command_at_places next later) (places ++ record { command = k; text = j } ∷ []) ≡ map (command_at_places stored texts) places ++ c ∷ []
  pushed are found grew is =
      map_push (command_at_places next later) places (record { command = k; text = j })
      ∙ ap (λ (cs : List Paint). cs ++ command_at_places next later (record { command = k; text = j }) ∷ []) others
      ∙ ap (λ (d : Paint). map (command_at_places stored texts) places ++ d ∷ []) last
    where
      others : map (command_at_places next later) places ≡ map (command_at_places stored texts) places
      others =
          ap (λ (fs : List Paint). map (command_at_places fs later) places) found.grew.1
          ∙ ap (λ (ts : List TextAt). map (command_at_places (stored ++ found.grew.0) ts) places) grew.1
          ∙ commands-more stored found.grew.0 texts grew.0 places are

      last : with_text_at (stored_at next k) (text_at later j) ≡ c
      last = ap (λ (d : Paint). with_text_at d (text_at later j)) found.like.1 ∙ with_twice c found.like.0 (text_at later j) ∙ is

  -- and all places are within the lists
  pub parts-pushed : HaveParts stored texts places → IsStoredAt stored next c k → ListGrew texts later → HasText c j (length later) →
      HaveParts next later (places ++ record { command = k; text = j } ∷ [])
  parts-pushed are found grew has =
      All-push (HasPlacesWithin next later) places (record { command = k; text = j })
      (All-weaker (HasPlacesWithin stored texts) (HasPlacesWithin next later) stays places are)
      (record {
        command = found.within;
        text = subst (λ (d : Paint). HasText d j (length later)) (sym found.like.1) (has-with c found.like.0 j (length later) has);
      })
    where
      stays : (r : Places) → HasPlacesWithin stored texts r → HasPlacesWithin next later r
      stays r is =
          subst (λ (fs : List Paint). HasPlacesWithin fs later r) (sym found.grew.1)
          (subst (λ (ts : List TextAt). HasPlacesWithin (stored ++ found.grew.0) ts r) (sym grew.1) (parts-more stored found.grew.0 texts grew.0 r is))

-- an added text has its place
pub text-pushed : (ops : Pair) (clip : Edges) (texts : List TextAt) (placed : TextAt) (j : ℕ) → length texts ≡ j →
    with_text_at (Text ops clip placed.at placed.text) (text_at (texts ++ placed ∷ []) j) ≡ Text ops clip placed.at placed.text
text-pushed ops clip texts placed j is = ap (λ (p : TextAt). Text ops clip p.at p.text) (get_or_push texts placed no_text j is)

-- a command is like itself
own-text : (c : Paint) → (placed : TextAt) × (with_text_at c placed ≡ c)
own-text (Text ops clip at text) = (record { at = at; text = text }, refl)
own-text c = (no_text, refl)

pub like-same : (d c : Paint) → d ≡ c → DiffersInTextAlone d c
like-same d c is = ((own-text c).0, is ∙ sym (own-text c).1)

-- a command that is stored needs no other
pub stored-found : (stored : List Paint) (d c : Paint) (k : ℕ) → k < length stored → d ≡ get_or stored k d → DiffersInTextAlone d c →
    IsStoredAt stored stored c k
stored-found stored d c k within read like = record {
  grew = grew-none stored;
  within = within;
  like = (like.0, sym (get_or_read stored k d within read (Spoil empty_rect)) ∙ like.1);
}

-- an added command is the last one
pub stored-added : (stored : List Paint) (c : Paint) (k : ℕ) → length stored ≡ k → IsStoredAt stored (stored ++ c ∷ []) c k
stored-added stored c k is = record {
  grew = (c ∷ [], refl);
  within = omega (arith, is, length_push stored c);
  like = like-same (stored_at (stored ++ c ∷ []) k) c (get_or_push stored c (Spoil empty_rect) k is);
}
