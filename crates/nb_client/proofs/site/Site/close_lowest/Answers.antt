use Rattle.std.proofs.Common.{sym}
use Rattle.nb_client.proofs.DriveDrops.{lowest_closes, lowest_lives, lowest_none}
use Rattle.nb_client.proofs.site.Site.close_lowest.Goals as goal

pub returns-in_default : goal.returns-in_default
returns-in_default c =
    let now = c.args.self.now in
    lowest_none now.world.state.drives c.args.cause.now now c.args.out.now (sym (rw c.in_default.is at c.get.ensures))

pub close_open-requires-clause-lives : goal.close_open-requires-clause-lives
close_open-requires-clause-lives c =
    let now = c.args.self.now in
    lowest_lives now.opens.list now.world.state.drives c.in-Some.drive.now c.requires.1.hooked.kept (sym (rw c.in-Some.is at c.get.ensures))

pub returns : goal.returns
returns c =
    let now = c.args.self.now in
    lowest_closes now.world.state.drives c.in-Some.drive.now c.args.cause.now now c.close_open.new.self (sym (rw c.in-Some.is at c.get.ensures)) c.in_ok-close_open.ensures
