use Rattle.std.proofs.Common.{List, [], ◌∷◌, ◌++◌, sym, ap, subst, ◌∙◌}
use Rattle.tr_levels.specs.declared.Level.{Level}
use Rattle.tr_journal.specs.Openings.{tree_of}
use Rattle.tr_journal.specs.Steps.{IsOwn}
use Rattle.tr_machine.specs.Replays.{line_of_step}
use Rattle.tr_journal.specs.Names.{names_of}
use Rattle.tr_stage.specs.Stages.{state}
use Rattle.tr_run.specs.Views.{RunView}
use Rattle.tr_run.proofs.LineLemmas.{named_next}
use Rattle.tr_run.proofs.runs.Run.add.Goals as goal

pub invariant_of-self-2 : goal.invariant_of-self-2
invariant_of-self-2 g c =
    let s = c.self.inside.stage in
    named_next g.C.Client (names_of g.N.NameOf c.self.inside.names.now) s c.step.new.self c.args.actor c.args.step c.self.invariant (record {
      stands = c.invariant.ensures.stands;
      like = c.invariant.ensures.like;
      own = subst (λ (v : RunView _ _). IsOwn (tree_of v.stage.opening).nodes c.args.actor c.args.step) (sym c.self.view_is) c.requires.own;
      opening = c.step.ensures.made.opening;
      journal = c.in_ok-step.ensures.made.ok
          ∙ ap (λ (held : List Level). s.journal ++ line_of_step g.C.Client (state g.C.Client s) c.args.actor held c.args.step ∷ [])
          c.stated-level.ensures.value;
    })
