-- An open that was made, in the machine's state.
use Rattle.std.proofs.Common.{◌≡◌, ℕ, List, [], ◌∷◌, ◌++◌, Some, None, refl, sym, ◌∙◌, subst}
use Rattle.nb_terms.specs.declared.cause.Cause.{Cause}
use Rattle.nb_defs.specs.Records.{Out, result}
use Rattle.nb_machine.specs.CommandRecords.{no_route}
use Rattle.nb_machine.specs.Courses.{running, stands, waiting}
use Rattle.nb_machine.specs.Lives.{Live, end_record, open_record}
use Rattle.nb_machine.specs.Running.{Running, with_result}
use Rattle.nb_machine.specs.Scripts.{}
use Rattle.nb_machine.specs.States.{bare, with_one_made, with_opened}
use Rattle.nb_network.specs.Many.{AreOpensOf, IsStateOf, Many}
use Rattle.nb_network.specs.Openings.{BegunBy, FirstBy}
use Rattle.nb_open.specs.declared.opening.Opening.{Opening}
use Rattle.nb_open.specs.Opening.{live_by}
use Rattle.nb_runner.specs.World.{with_ended_open}
use Rattle.nb_runner.specs.declared.world.World.{World}
use Rattle.nb_stack.specs.Client.{Client}
use Rattle.nb_client.specs.Asked.{awaited_asked, job_asked}
use Rattle.nb_client.specs.Openings.{IsOpenedIn, sets_out, turns_back}
use Rattle.nb_client.specs.Serving.{world_at}
use Rattle.nb_client.specs.Snapshots.{Snapshot, StandsForProgress, at_running, at_waiting, snapshot, state_of_world, waiting_for}
use Rattle.nb_client.specs.declared.asked.Asked.{Asked}
use Rattle.nb_client.specs.declared.pending.Expected.TheVariants.{Open}
use Rattle.nb_client.specs.declared.pending.Pending.{Pending}
use Rattle.nb_client.specs.declared.stage.Stage.TheVariants as stage
use Rattle.nb_client.proofs.OpenRecords.{first_bare}

-- the world with one more open that was made, over this link
abbrev pub world_begun : World → Client → World
world_begun w net = with_ended_open (world_at w net w.time)

pub state_is : (m : Many) (w : World) (live : List Live) → AreOpensOf m.graph m.list live → IsStateOf m w.net w.time (state_of_world w live)
state_is m w live are = record { devices = refl; time = refl; live = are }

-- it lives, and its command waits
pub lives_on : (n : ℕ) (w : World) (net : Client) (m : Many) (live : List Live) (o : Opening) (p : Pending) (inner : Running) (put : List Out) → p.number ≡ w.opens →
    FirstBy None (live_by o w.opens w.time) w.net put → BegunBy None m net w.time (live_by o w.opens w.time) put (state_of_world w live) →
    IsOpenedIn (state_of_world w live) (live_by o w.opens w.time) (awaited_asked p.asked w.opens) (job_asked p.asked) inner w.outer n (open_record (live_by o w.opens w.time) ∷ put)
    (snapshot n (world_begun w net) m (stage.Waiting inner (Open p)))
lives_on n w net m live o p inner put number first begun =
    let l = live_by o w.opens w.time in
    let s = state_of_world w live in
    let after = snapshot n (world_begun w net) m (stage.Waiting inner (Open p)) in
    let at_it : StandsForProgress after (stands n (waiting (state_of_world (world_begun w net) (live ++ l ∷ [])) (waiting_for (world_begun w net) inner (Open p)))) =
    at_waiting n (world_begun w net) m inner (Open p) (live ++ l ∷ []) begun.live in
    let numbered : StandsForProgress after (stands n (waiting (state_of_world (world_begun w net) (live ++ l ∷ [])) (record { script = inner; outer = w.outer; awaited = awaited_asked p.asked w.opens; job = job_asked p.asked }))) =
    subst (λ k. StandsForProgress after (stands n (waiting (state_of_world (world_begun w net) (live ++ l ∷ [])) (record { script = inner; outer = w.outer; awaited = awaited_asked p.asked k; job = job_asked p.asked })))) number at_it in
    sets_out (bare w.net) put after refl (first_bare l.kind l w.net ∙ first)
    (subst (λ ds. StandsForProgress after (stands n (waiting (record (with_opened s l) { devices = ds }) (record { script = inner; outer = w.outer; awaited = awaited_asked p.asked w.opens; job = job_asked p.asked }))))
    (sym begun.devices) numbered)

-- it has ended, and the script goes on
pub goes_back : (n : ℕ) (w : World) (net : Client) (m : Many) (live : List Live) (o : Opening) (a : Asked) (inner : Running) (cause : Cause) (put : List Out) →
    FirstBy (Some cause) (live_by o w.opens w.time) w.net put → IsStateOf m net w.time (state_of_world w live) →
    IsOpenedIn (state_of_world w live) (live_by o w.opens w.time) (awaited_asked a w.opens) (job_asked a) inner w.outer n
    (open_record (live_by o w.opens w.time) ∷ end_record (live_by o w.opens w.time) cause ∷ result cause ∷ [])
    (snapshot n (world_begun w net) m (stage.Running (with_result inner cause)))
goes_back n w net m live o a inner cause put first begun =
    let l = live_by o w.opens w.time in
    let s = state_of_world w live in
    let after : Cause → Snapshot = λ c. snapshot n (world_begun w net) m (stage.Running (with_result inner c)) in
    let at_it : StandsForProgress (after (no_route l.server)) (stands n (running (state_of_world (world_begun w net) live) (with_result inner (no_route l.server)) (world_begun w net).outer)) =
    at_running n (world_begun w net) m (with_result inner (no_route l.server)) live begun.live in
    let stood : StandsForProgress (after (no_route l.server)) (stands n (running (with_one_made s) (with_result inner (no_route l.server)) w.outer)) =
    subst (λ ds. StandsForProgress (after (no_route l.server)) (stands n (running (record (with_one_made s) { devices = ds }) (with_result inner (no_route l.server)) w.outer))) (sym begun.devices) at_it in
    subst (λ c. IsOpenedIn s l (awaited_asked a w.opens) (job_asked a) inner w.outer n (open_record l ∷ end_record l c ∷ result c ∷ []) (after c)) (sym first.2)
    (turns_back (bare w.net) (after (no_route l.server)) refl (first_bare l.kind l w.net ∙ first.0) stood)
