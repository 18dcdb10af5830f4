use Rattle.std.proofs.Common.{◌∙◌, sym}
use Rattle.nb_client.proofs.DriveKeeps.{at_gone, at_kept, at_none}
use Rattle.nb_client.proofs.site.Site.forget_at.Goals as goal

pub returns-in_default-clause-world : goal.returns-in_default-clause-world
returns-in_default-clause-world c =
    let now = c.args.self.now in
    at_none now.world now.opens.list c.args.place (sym (rw c.in_default.is at c.get.ensures))

pub returns-then-lives-clause-world : goal.returns-then-lives-clause-world
returns-then-lives-clause-world c =
    let now = c.args.self.now in
    at_kept now.world now.opens.list c.args.place c.in-Some.drive.now (sym (rw c.in-Some.is at c.get.ensures)) (sym c.lives.ensures.value ∙ c.if-lives.true)

pub returns-clause-world : goal.returns-clause-world
returns-clause-world c =
    let now = c.args.self.now in
    rw c.end_open.ensures (at_gone now.world now.opens.list c.args.place c.in-Some.drive.now (sym (rw c.in-Some.is at c.get.ensures)) (sym c.lives.ensures.value ∙ c.if-lives.false))
