use Rattle.std.proofs.Common.{true, [], ◌∷◌, refl, sym, subst}
use Rattle.nb_defs.specs.Records.{out_texts}
use Rattle.nb_machine.specs.CommandRecords.{command_record}
use Rattle.nb_machine.specs.Effects.{shown_as}
use Rattle.nb_machine.specs.Running.{Running}
use Rattle.nb_runner.specs.ImageDeeds.{IsConcludedWell}
use Rattle.nb_runner.proofs.Puts.{Puts-outs}
use Rattle.nb_client.specs.Snapshots.{snapshot}
use Rattle.nb_client.specs.Soundness.{snapshot_at}
use Rattle.nb_client.specs.Turning.{MovesOn}
use Rattle.nb_client.specs.declared.stage.Stage.TheVariants as stage
use Rattle.nb_client.proofs.Concluded.{concludes_goes}
use Rattle.nb_client.proofs.Moves.{quiet_sound}
use Rattle.nb_client.proofs.OpenSites.{same_snapshot}
use Rattle.nb_client.proofs.Waits.{gathered_puts}
use Rattle.nb_client.proofs.site.Site.conclude_there.Goals as goal

pub lead-requires-clause-sound : goal.lead-requires-clause-sound
lead-requires-clause-sound c = quiet_sound (stage.Running c.enter.new.self) tt c.requires.sound

pub lead-requires-clause-well : goal.lead-requires-clause-well
lead-requires-clause-well c =
    let images = c.args.self.now.world.state.images in
    (c.requires.well.0, subst (λ (x : Running). IsConcludedWell c.args.conclusion x.depth c.requires.well.0 images) (sym c.enter.ensures) c.requires.well.1)

pub returns-clause-moves : goal.returns-clause-moves
returns-clause-moves c = λ w concludes.
    let now = c.args.self.now in
    let s = c.args.script in
    let ws = c.args.words.now in
    let g = c.in_ok-put_gathered.ensures in
    let after = snapshot_at c.lead.new.self c.in_ok-stage.stage in
    let l = rw c.enter.ensures at c.in_ok-stage.ensures in
    let all = Puts-outs (command_record s (shown_as true ws) ∷ []) l.rest c.put_begun.ensures l.puts in
    let puts = gathered_puts (out_texts (command_record s (shown_as true ws) ∷ l.rest)) c.in_ok-out.ensures g.whole all g.puts in
    let same = same_snapshot _ _ c.put_gathered.ensures.used c.put_gathered.ensures.world c.put_gathered.ensures.opens refl in
    subst (λ x. MovesOn (snapshot now.used w now.opens (stage.Running s)) x c.args.log.now c.put_gathered.new.log) (sym same)
    (concludes_goes w c.args.conclusion s ws _ after c.requires.words.early concludes l puts)
