use Rattle.std.proofs.Common.{sym}
use Rattle.nb_client.proofs.DriveDrops.{drops_it, drops_nothing, found_lives}
use Rattle.nb_client.proofs.site.Site.drop_drive.Goals as goal

pub returns-in_default : goal.returns-in_default
returns-in_default c = drops_nothing c.args.number c.args.self.now c.args.out.now (sym (rw c.in_default.is at c.find.ensures)) c.requires.1.hooked.kept

pub close_open-requires-clause-lives : goal.close_open-requires-clause-lives
close_open-requires-clause-lives c =
    let now = c.args.self.now in
    found_lives now.opens.list now.world.state.drives c.args.number c.in-Some.drive.now c.requires.1.hooked.kept (sym (rw c.in-Some.is at c.find.ensures))

pub returns : goal.returns
returns c =
    drops_it c.args.number c.in-Some.drive.now c.args.self.now c.close_open.new.self c.len-count.ensures.rising (sym (rw c.in-Some.is at c.find.ensures))
    (rw c.cause.ensures at c.in_ok-close_open.ensures)
