use Rattle.std.proofs.Common.{◌≡◌, ◌+◌, [], ◌∷◌, Some, ◌∙◌, subst}
use Rattle.nb_defs.specs.Records.{enter, leave, out_texts, step}
use Rattle.nb_record.specs.Logged.{Puts}
use Rattle.nb_record.specs.View.{start_of}
use Rattle.nb_runner.specs.World.{world_of}
use Rattle.nb_runner.proofs.Puts.{Puts-outs}
use Rattle.nb_machine.specs.Courses.{left, refuses, running, runs}
use Rattle.nb_machine.specs.FirstText.{first_reading, text_refusal}
use Rattle.nb_machine.specs.Running.{first_script}
use Rattle.nb_machine.specs.States.{state_at_start}
use Rattle.nb_client.specs.Snapshots.{at_left, at_running}
use Rattle.nb_client.specs.declared.stage.Stage.TheVariants as stage
use Rattle.nb_client.proofs.Starts.{start_goes}
use Rattle.nb_client.proofs.site.Site.start.Goals as goal

pub returns-in-Ok-clause-goes : goal.returns-in-Ok-clause-goes
returns-in-Ok-clause-goes c =
    let now = c.args.self.now in
    let s = start_of c.args.start.now in
    let n = now.used + 1 in
    let e = c.enter.ensures in
    let first = c.in-Ok.ensures.runs in
    let puts = subst (λ k. Puts c.args.log.now c.put_entered.new.log (out_texts (step k ∷ enter 1 ∷ []))) e.used c.put_entered.ensures in
    rw first.same (start_goes s now c.enter.new.self (stage.Running (first_script first.code)) (enter 1 ∷ []) (running (state_at_start s) (first_script first.code) []) c.requires.valid c.requires.sound
    e.used (e.world ∙ c.in_ok-world.ensures) e.opens tt (tt, tt) puts (runs now.used s first.code c.requires.valid first.reads) (λ are. at_running n (world_of s) now.opens (first_script first.code) [] are))

pub returns-in-Err-Refused-clause-goes : goal.returns-in-Err-Refused-clause-goes
returns-in-Err-Refused-clause-goes c =
    let now = c.args.self.now in
    let s = start_of c.args.start.now in
    let n = now.used + 1 in
    let cause = c.in-Err-Refused.cause in
    let e = c.enter-in-Err-Refused.ensures in
    let other : text_refusal (first_reading s.script) ≡ Some cause = rw c.in-Err-Refused.field-0-is at c.in-Err-Refused.ensures.refused in
    let both = Puts-outs (step c.enter-in-Err-Refused.new.self.used ∷ enter 1 ∷ []) (leave 1 cause ∷ []) c.put_entered-in-Err-Refused.ensures c.put_leave.ensures in
    let puts = subst (λ k. Puts c.args.log.now c.put_leave.new.log (out_texts (step k ∷ enter 1 ∷ leave 1 cause ∷ []))) e.used both in
    start_goes s now c.enter-in-Err-Refused.new.self (stage.Left cause) (enter 1 ∷ leave 1 cause ∷ []) (left (state_at_start s) [] cause) c.requires.valid c.requires.sound
    e.used (e.world ∙ c.in_ok-world.ensures) e.opens tt (tt, (tt, tt)) puts (refuses now.used s cause c.requires.valid other) (λ are. at_left n (world_of s) now.opens cause [] are)
