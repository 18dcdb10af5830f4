use Rattle.std.proofs.Common.{◌≡◌, Some, None, refl, sym, ◌∙◌, ap, subst}
use Rattle.nb_terms.specs.declared.cause.Cause.{Cause}
use Rattle.nb_machine.specs.Running.{Running, with_result}
use Rattle.nb_runner.specs.World.{IsLinkOfState, with_net}
use Rattle.nb_network.specs.declared.over.HasEnded.{HasEnded}
use Rattle.nb_client.specs.Booting.{AsksFirst, block_pending}
use Rattle.nb_client.specs.Snapshots.{state_of_world}
use Rattle.nb_client.specs.Soundness.{snapshot_at}
use Rattle.nb_client.specs.declared.pending.Expected.TheVariants as expected
use Rattle.nb_client.specs.declared.pending.Pending.{Pending}
use Rattle.nb_client.specs.declared.stage.Stage.{Stage}
use Rattle.nb_client.specs.declared.stage.Stage.TheVariants as stage
use Rattle.nb_client.proofs.BlockAsks.{ends_first, waits_first}
use Rattle.nb_client.proofs.Served.{state_is}
use Rattle.nb_client.proofs.site.Site.ask_block.Goals as goal

pub returns-in-Some : goal.returns-in-Some
returns-in-Some c =
    let now = c.args.self.now in
    let w = now.world in
    let sound = c.requires.sound in
    let e = c.in_ok-ended.ensures in
    let f = c.forget_ended.ensures in
    let linked : IsLinkOfState (with_net w c.ask.new.net) = record { address = e.address ∙ sound.linked.address; up = e.up ∙ sound.linked.up } in
    rw (c.go_on_with.ensures.stage, c.into_inner.ensures)
    (ends_first c.args.script c.args.number c.args.drive now c.forget_ended.new.self c.ask.new.net c.ask.new.self c.in_ok-ended.ended c.args.out.now c.ask.new.log
    (λ live are. e.asks w.w w.opens sound.opens (state_of_world w live) (state_is w now.opens live are)) sound (e.sound w.w w.opens sound.opens) linked f.used f.opens f.world
    c.in-Some.ended c.go_on_with.new.out c.in-Some.is (rw c.into_inner.ensures at c.go_on_with.ensures.puts))

pub returns-in-None : goal.returns-in-None
returns-in-None c =
    let now = c.args.self.now in
    let w = now.world in
    let sound = c.requires.sound in
    let e = c.in_ok-ended.ensures in
    let f = c.forget_ended.ensures in
    let linked : IsLinkOfState (with_net w c.ask.new.net) = record { address = e.address ∙ sound.linked.address; up = e.up ∙ sound.linked.up } in
    rw c.in_ok-pending.ensures
    (waits_first c.args.script c.args.number c.args.drive now c.forget_ended.new.self c.ask.new.net c.ask.new.self c.in_ok-ended.ended c.args.out.now c.ask.new.log
    (λ live are. e.asks w.w w.opens sound.opens (state_of_world w live) (state_is w now.opens live are)) sound (e.sound w.w w.opens sound.opens) linked f.used f.opens f.world
    c.requires.room c.in-None.is)
