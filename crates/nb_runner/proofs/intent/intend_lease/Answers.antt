use Rattle.std.proofs.Common.{◌≡◌, true, false, inl, inr, sym, ◌∙◌, ap}
use Rattle.nb_machine.specs.Effects.{plan_table}
use Rattle.nb_runner.specs.World.{state_of}
use Rattle.nb_runner.proofs.CommandLaws.{found_same}
use Rattle.nb_runner.proofs.Intents.{sets_up, refuses_lease}
use Rattle.nb_runner.proofs.intent.intend_lease.Goals as goal

pub returns-in-Ok-clause-value : goal.returns-in-Ok-clause-value
returns-in-Ok-clause-value c =
    (sets_up c.args.plan.now c.in-Ok.field-0 c.args.state.now c.apply.new.s c.requires.lease c.in-Ok.ensures.value).comes_to c.args.opens ∙ sym c.unless_full.ensures.value

pub returns-in-Ok-clause-after : goal.returns-in-Ok-clause-after
returns-in-Ok-clause-after c = (sets_up c.args.plan.now c.in-Ok.field-0 c.args.state.now c.apply.new.s c.requires.lease c.in-Ok.ensures.value).state_is

pub returns-clause-value : goal.returns-clause-value
returns-clause-value c =
    elim c.in-Err.ensures.cause [
      | inl e ↦ absurd (let no : true ≡ false = sym (c.eq.ensures ∙ found_same c.in-Err.cause c.cause.result (e ∙ sym c.cause.ensures)) ∙ c.if-eq.false in cc)
      | inr e ↦ (refuses_lease c.args.plan.now c.args.state.now c.in-Err.cause c.requires.lease e).comes_to c.args.opens
    ]

pub returns-clause-after : goal.returns-clause-after
returns-clause-after c =
    elim c.in-Err.ensures.cause [
      | inl e ↦ absurd (let no : true ≡ false = sym (c.eq.ensures ∙ found_same c.in-Err.cause c.cause.result (e ∙ sym c.cause.ensures)) ∙ c.if-eq.false in cc)
      | inr e ↦
          let old = c.args.state.now in
          let stays = refuses_lease c.args.plan.now old c.in-Err.cause c.requires.lease e in
          c.in-Err.ensures.refused ∙ (ap (λ table. state_of table old.images old.drives old.up) (sym stays.table_stays) ∙ ap (λ up. state_of (plan_table c.args.plan.now old.table) old.images old.drives up) (sym stays.up_stays))
    ]
