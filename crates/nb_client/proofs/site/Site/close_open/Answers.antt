use Rattle.nb_client.proofs.DriveDrops.{number_closed}
use Rattle.nb_client.proofs.site.Site.close_open.Goals as goal

pub returns : goal.returns
returns c =
    let now = c.args.self.now in
    let w = now.world in
    let e = c.in_ok-desk-2.ensures in
    let f = c.forget_ended.ensures in
    number_closed c.args.number c.args.cause.now now c.forget_ended.new.self c.close_one.new.net c.close_one.new.self c.requires.sound.0 (e.closes w.w w.opens c.requires.sound.1.opens) c.requires.sound.1 e.net f.used f.opens f.world
    (e.sound w.w w.opens c.requires.sound.1.opens) e.serials
