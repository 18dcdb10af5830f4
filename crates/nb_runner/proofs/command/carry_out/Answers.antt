use Rattle.std.proofs.Common.{◌≡◌, true, false, inl, inr, sym, ◌∙◌, ap}
use Rattle.nb_machine.specs.Effects.{says, plan_table}
use Rattle.nb_runner.specs.World.{state_of}
use Rattle.nb_runner.proofs.CommandLaws.{carried_ok, carried_err, found_same}
use Rattle.nb_runner.proofs.command.carry_out.Goals as goal

pub deed_of-requires : goal.deed_of-requires
deed_of-requires c = (carried_ok c.args.plan.now c.in-Ok.outcome c.args.state.now c.apply.new.s c.requires c.in-Ok.ensures.value).is_local

pub returns-in-Ok-clause-value : goal.returns-in-Ok-clause-value
returns-in-Ok-clause-value c = λ opens. (carried_ok c.args.plan.now c.in-Ok.outcome c.args.state.now c.apply.new.s c.requires c.in-Ok.ensures.value).comes_to opens ∙ sym c.deed_of.ensures.value

pub returns-in-Ok-clause-after : goal.returns-in-Ok-clause-after
returns-in-Ok-clause-after c = (carried_ok c.args.plan.now c.in-Ok.outcome c.args.state.now c.apply.new.s c.requires c.in-Ok.ensures.value).state_is

pub returns-in-Err-2-clause-value : goal.returns-in-Err-2-clause-value
returns-in-Err-2-clause-value c = λ opens.
    elim c.in-Err.ensures.cause [
      | inl e ↦ absurd (let no : true ≡ false = sym (c.eq.ensures ∙ found_same c.in-Err.cause c.cause.result (e ∙ sym c.cause.ensures)) ∙ c.if-eq.false in cc)
      | inr e ↦ (carried_err c.args.plan.now c.args.state.now c.in-Err.cause c.requires e).comes_to opens ∙ ap says (sym c.with.ensures)
    ]

pub returns-in-Err-2-clause-after : goal.returns-in-Err-2-clause-after
returns-in-Err-2-clause-after c =
    elim c.in-Err.ensures.cause [
      | inl e ↦ absurd (let no : true ≡ false = sym (c.eq.ensures ∙ found_same c.in-Err.cause c.cause.result (e ∙ sym c.cause.ensures)) ∙ c.if-eq.false in cc)
      | inr e ↦
          let old = c.args.state.now in
          let stays = carried_err c.args.plan.now old c.in-Err.cause c.requires e in
          c.in-Err.ensures.refused ∙ (ap (λ table. state_of table old.images old.drives old.up) (sym stays.table_stays) ∙ ap (λ up. state_of (plan_table c.args.plan.now old.table) old.images old.drives up) (sym stays.up_stays))
    ]
