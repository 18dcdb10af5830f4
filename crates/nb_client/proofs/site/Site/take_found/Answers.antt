use Rattle.nb_client.proofs.Results.{if_ok}
use Rattle.nb_client.proofs.Settles.{found_goes, settled_goes}
use Rattle.nb_client.proofs.site.Site.take_found.Goals as goal

pub returns-in-Some : goal.returns-in-Some
returns-in-Some c =
    let now = c.args.self.now in
    let finds = rw c.in-Some.is at c.found_host.ensures in
    if_ok c.reach.result (λ st reaches p asks same.
    rw c.reach.ensures.same (found_goes now c.args.script c.args.ended p c.args.waits c.args.query c.args.kind c.in-Some.server st _ asks same c.requires.kind finds reaches c.requires.backed c.requires.waiting c.requires.room c.requires.sound))
    c.reach.ensures.reaches

pub returns-in-None : goal.returns-in-None
returns-in-None c =
    let now = c.args.self.now in
    let finds = rw c.in-None.is at c.found_host.ensures in
    if_ok c.settle.result (λ st settles p asks same.
    settled_goes now c.args.script c.args.ended p c.args.waits c.args.query c.args.kind c.settle.new.self st _ _ asks same c.requires.kind finds settles c.requires.sound)
    c.settle.ensures
