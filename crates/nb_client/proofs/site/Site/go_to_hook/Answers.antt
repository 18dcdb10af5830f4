use Rattle.nb_client.proofs.DriveGoes.{hooking_goes}
use Rattle.nb_client.proofs.site.Site.go_to_hook.Goals as goal

pub reach_disk-requires-clause-few : goal.reach_disk-requires-clause-few
reach_disk-requires-clause-few c = (c.in_ok-script.ensures.drops.sound c.args.script c.requires.sound).opens.opens_fit

pub returns-clause-moves : goal.returns-clause-moves
returns-clause-moves c = λ w intends.
    let g = c.in_ok-put_gathered.ensures in
    rw (g.used, g.world, g.opens) (hooking_goes w c.args.script c.args.words.now c.args.hooking c.in_ok-script.script c.in_ok-stage.stage c.in_ok-script.ensures c.in_ok-stage.ensures c.in_ok-out.ensures g.whole g.puts intends c.requires.sound c.requires.words.early)
