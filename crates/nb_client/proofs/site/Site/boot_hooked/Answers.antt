use Rattle.std.proofs.Common.{sym}
use Rattle.nb_client.specs.Soundness.{snapshot_at}
use Rattle.nb_client.specs.declared.stage.Stage.TheVariants as stage
use Rattle.nb_client.proofs.BlockMoves.{boots_goes}
use Rattle.nb_client.proofs.HookedDrives.{numbered_lives}
use Rattle.nb_client.proofs.Moves.{quiet_sound}
use Rattle.nb_client.proofs.site.Site.boot_hooked.Goals as goal

pub ask_block-requires-clause-sound : goal.ask_block-requires-clause-sound
ask_block-requires-clause-sound c = quiet_sound (stage.Running c.enter.new.self) tt c.requires.sound

pub ask_block-requires-clause-lives : goal.ask_block-requires-clause-lives
ask_block-requires-clause-lives c =
    let now = c.args.self.now in
    numbered_lives now.opens now.world.state.drives c.args.number c.in-Some.drive.now c.requires.sound.hooked (sym (rw c.in-Some.is at c.find.ensures))

pub returns-clause-moves : goal.returns-clause-moves
returns-clause-moves c = λ w intends.
    let now = c.args.self.now in
    let s = c.args.script in
    let d = c.in-Some.drive.now in
    let g = c.in_ok-put_gathered.ensures in
    rw (g.used, g.world, g.opens) (boots_goes w c.args.number d s c.enter.new.self c.args.words.now (snapshot_at c.ask_block.new.self c.in_ok-stage.stage) c.enter.ensures c.requires.words.early intends
    (sym (rw c.in-Some.is at c.find.ensures)) c.in_ok-stage.ensures c.put_begun.ensures c.in_ok-out.ensures g.whole g.puts)
