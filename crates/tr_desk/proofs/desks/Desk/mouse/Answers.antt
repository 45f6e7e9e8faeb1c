use Rattle.std.proofs.Common.{◌≡◌, ℕ, ◌-◌, Bool, Option, length, set, refl, sym, ap, subst, ◌∙◌}
use Rattle.std.proofs.lemmas.List.{length-set}
use Rattle.tr_base.specs.declared.Spot.{Spot}
use Rattle.tr_base.specs.declared.LeafId.{LeafId}
use Rattle.tr_base.specs.declared.Click.{Click}
use Rattle.tr_base.specs.declared.Click.TheVariants.{FirstDown, OtherDown, OtherUp, LastUp}
use Rattle.tr_desk.specs.Desks as spec
use Rattle.tr_desk.proofs.desks.Desk.mouse.Goals as goal

-- whoever gets the event is a leaf of the desk, or nobody, and so is whoever gets the next one
known_receiver : (click : Click) (spot : Spot) (focus : Option LeafId) (count : ℕ) →
    spec.IsKnown count (spec.leaf_at spot) → spec.IsKnown count focus → spec.IsKnown count (spec.receiver click spot focus)
known_receiver FirstDown spot focus count at before = at
known_receiver OtherDown spot focus count at before = before
known_receiver OtherUp spot focus count at before = before
known_receiver LastUp spot focus count at before = before

known_after : (click : Click) (spot : Spot) (focus : Option LeafId) (count : ℕ) →
    spec.IsKnown count (spec.leaf_at spot) → spec.IsKnown count focus → spec.IsKnown count (spec.focus_after click spot focus)
known_after FirstDown spot focus count at before = at
known_after OtherDown spot focus count at before = before
known_after OtherUp spot focus count at before = before
known_after LastUp spot focus count at before = tt

-- what the button did, by the buttons before and after it
clicked : (d s : spec.Devices) (down before after : Bool) (button at : ℕ) (click : Click) → d ≡ s → at ≡ button - 1 →
    before ≡ spec.is_any_held d.held → after ≡ spec.is_any_held (set d.held at down) → click ≡ spec.click_of down before after →
    click ≡ spec.click s button down
clicked d s down before after button at click same from is next made =
    made ∙ ap (λ b. spec.click_of down b after) is ∙ ap (spec.click_of down (spec.is_any_held d.held)) next
    ∙ ap (λ (i : ℕ). spec.click_of down (spec.is_any_held d.held) (spec.is_any_held (set d.held i down))) from
    ∙ ap (λ (t : spec.Devices). spec.click t button down) same

pub returns-clause-answer : goal.returns-clause-answer
returns-clause-answer c =
    let s = c.args.self.now in
    let click : c.click_of-click.result ≡ spec.click s c.args.button c.args.down =
    clicked _ s c.args.down _ _ c.args.button _ _ c.self.view_is c.from.ensures c.is_any_held-before.ensures c.is_any_held.ensures c.click_of-click.ensures in
    let receiver : c.receiver-receiver.result ≡ spec.receiver (spec.click s c.args.button c.args.down) c.args.spot.now s.focus =
    c.receiver-receiver.ensures ∙ ap (λ (k : Click). spec.receiver k c.args.spot.now c.self.inside.focus) click
    ∙ ap (λ (d : spec.Devices). spec.receiver (spec.click s c.args.button c.args.down) c.args.spot.now d.focus) c.self.view_is in
    rw (receiver, click) refl

pub returns-clause-known : goal.returns-clause-known
returns-clause-known c =
    let focus = subst (λ (d : spec.Devices). spec.IsKnown (length d.leaves) c.self.inside.focus) c.self.view_is c.self.invariant.focus in
    subst (spec.IsKnown (length c.args.self.now.leaves)) (sym c.receiver-receiver.ensures)
    (known_receiver c.click_of-click.result c.args.spot.now c.self.inside.focus _ c.requires.spot focus)

pub returns-clause-ok : goal.returns-clause-ok
returns-clause-ok c =
    let s = c.args.self.now in
    let spot = c.args.spot.now in
    let its = spec.click s c.args.button c.args.down in
    let click : c.click_of-click.result ≡ its =
    clicked _ s c.args.down _ _ c.args.button _ _ c.self.view_is c.from.ensures c.is_any_held-before.ensures c.is_any_held.ensures c.click_of-click.ensures in
    let focus : c.focus_after-self-inside.result ≡ spec.focus_after its spot s.focus =
    c.focus_after-self-inside.ensures spot c.self.inside.focus c.receiver-receiver.ensures
    ∙ ap (λ (k : Click). spec.focus_after k spot c.self.inside.focus) click
    ∙ ap (λ (d : spec.Devices). spec.focus_after its spot d.focus) c.self.view_is in
    rw (focus, c.from.ensures)
    (ap (λ (d : spec.Devices). record d {
      time = c.args.time;
      held = set d.held (c.args.button - 1) c.args.down;
      focus = spec.focus_after its spot s.focus;
    }) c.self.view_is)

pub invariant_of-self : goal.invariant_of-self
invariant_of-self c =
    let made = c.focus_after-self-inside.ensures c.args.spot.now c.self.inside.focus c.receiver-receiver.ensures in
    let at = subst (λ (d : spec.Devices). spec.IsKnown (length d.leaves) (spec.leaf_at c.args.spot.now)) (sym c.self.view_is) c.requires.spot in
    record {
      buttons = length-set c.self.inside.held c.from.result c.args.down ∙ c.self.invariant.buttons;
      focus = subst (spec.IsKnown (length c.self.inside.leaves.items)) (sym made)
          (known_after c.click_of-click.result c.args.spot.now c.self.inside.focus _ at c.self.invariant.focus);
      key = c.self.invariant.key;
      source = c.self.invariant.source;
      target = c.self.invariant.target;
    }
