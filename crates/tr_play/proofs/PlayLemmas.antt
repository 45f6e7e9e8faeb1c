-- Parts of a script that threads play.
use Rattle.std.proofs.Common.{◌≡◌, ℕ, ◌+◌, ◌<◌, Bool, List, [], ◌∷◌, ◌++◌, length, take, drop, get_or, refl, sym, ap, ◌∙◌, arith, append_assoc, length-append, take-append-drop}
use Rattle.std.specs.Prelude.{All}
use Rattle.std.proofs.lemmas.List.Elements.{All-weaker}
use Rattle.std.proofs.lemmas.List.{take_more}
use Rattle.tr_client.specs.declared.clients.Client.{Ghosts}
use Rattle.tr_forest.specs.Nodes.{Nodes}
use Rattle.tr_machine.specs.Replays.{IsLegal}
use Rattle.tr_widget.specs.declared.WidgetCmd.{WidgetCmd}
use Rattle.tr_widget.specs.Widgets.{widget_words}
use Rattle.tr_journal.specs.Parts.{Part}
use Rattle.tr_grammar.specs.Scripts.{IsPlayable, IsPlayablePart}
use Rattle.tr_run.specs.declared.modes.Mode.TheVariants.{Serial}
use Rattle.tr_run.specs.Views.{RunView}
use Rattle.tr_parts.specs.Runs.{IsNewRun, HasPlayedParts}
use Rattle.tr_parts.specs.Turns.{IsPartStep}
use Rattle.tr_parts.proofs.PlayLemmas.{HasResumed, all_played, has_any, next_played, parts_more}
use Rattle.tr_server.specs.declared.closing.CloseRefused.{CloseRefused}
use Rattle.tr_server.specs.declared.closing.CloseRefused.TheVariants as refused
use Rattle.tr_server.specs.Closing.{IfDiffers}
use Rattle.tr_play.specs.Begun.{DiffersAmong, DiffersNext}
use Rattle.tr_play.specs.Plays.{DiffersInPart, begun_part}
use Rattle.tr_play.proofs.WorkerLemmas.{ran_nothing}

-- the steps of a part that can be played can be made
pub steps_made : (t : Nodes) (part : Part WidgetCmd) → IsPlayablePart t part → All (IsPartStep t) part.steps
steps_made t part is =
    All-weaker (IsPlayable t) (IsPartStep t) (λ made one. record { maker = one.maker; own = one.own }) part.steps is.steps

-- the parts so far, and one more
pub parts_next : (parts : List (Part WidgetCmd)) (k : ℕ) (part : Part WidgetCmd) → (k < length parts) × (part ≡ get_or parts k part) →
    take k parts ++ part ∷ [] ≡ take (k + 1) parts
parts_next parts k part at =
    ap (λ (p : Part WidgetCmd). take k parts ++ p ∷ []) at.1 ∙ sym (take_more parts k part at.0)

-- the parts of a script are those before one of them, that one, and the later ones
parts_around : (parts : List (Part WidgetCmd)) (k : ℕ) (part : Part WidgetCmd) → (k < length parts) × (part ≡ get_or parts k part) →
    parts ≡ take k parts ++ part ∷ drop (k + 1) parts
parts_around parts k part at =
    sym (take-append-drop (k + 1) parts)
    ∙ ap (λ (ps : List (Part WidgetCmd)). ps ++ (drop (k + 1) parts)) (sym (parts_next parts k part at))
    ∙ append_assoc (take k parts) (part ∷ []) (drop (k + 1) parts)

module _ {C : Type 0} (client : Ghosts C WidgetCmd) where
  -- a run in which a part was begun, where no step follows
  no_steps : (a : RunView C WidgetCmd) → a.mode ≡ Serial → IsLegal client a.stage.opening a.stage.journal →
      HasResumed client widget_words a a []
  no_steps a mode legal = record {
    mode = mode;
    names = refl;
    mode_kept = refl;
    text = refl;
    sum = refl;
    ran = ran_nothing a.stage [] refl;
    legal = legal;
  }

  -- the session of the next part differed: it is the one of a part behind those so far
  pub part_differed : (a now : RunView C WidgetCmd) (parts : List (Part WidgetCmd)) (k : ℕ) (part : Part WidgetCmd) (is_later : Bool)
      (e : CloseRefused C WidgetCmd) →
      (k < length parts) × (part ≡ get_or parts k part) → is_later ≡ has_any (take k parts) → now.mode ≡ Serial →
      HasPlayedParts client widget_words a now (take k parts) →
      IfDiffers e (λ d. DiffersNext client widget_words now is_later part d) →
      IfDiffers e (λ d. DiffersAmong client widget_words a parts d)
  part_differed a now parts k part is_later refused.NoMemory at later mode played next = tt
  part_differed a now parts k part is_later (refused.Differs d) at later mode played next =
      let begun = begun_part part in
      let mode_now : next.run.mode ≡ Serial = next.begun.reported.adds.mode ∙ next.begun.sync.mode ∙ mode in
      record {
        before = take k parts;
        part = part;
        later = drop (k + 1) parts;
        are = parts_around parts k part at;
        run = next.run;
        played = parts_more client widget_words a now next.run (take k parts) is_later begun later played
            (next_played client widget_words now next.run next.run is_later begun next.begun (no_steps next.run mode_now next.legal));
        legal = next.legal;
        left = next.left;
      }

  -- in a run before its first step
  pub script_differed : (a : RunView C WidgetCmd) (parts : List (Part WidgetCmd)) (e : CloseRefused C WidgetCmd) → IsNewRun a →
      IfDiffers e (λ d. DiffersAmong client widget_words a parts d) → IfDiffers e (λ d. DiffersInPart client a.stage.opening parts d)
  script_differed a parts refused.NoMemory begun among = tt
  script_differed a parts (refused.Differs d) begun among =
      let one = begun_part among.part ∷ [] in
      record {
        before = among.before;
        part = among.part;
        later = among.later;
        of_script = among.are;
        stage = among.run.stage;
        played = (all_played client widget_words a among.run (among.before ++ one) begun (omega (arith, length-append among.before one))
            among.played among.legal).stage;
        left = among.left;
      }
