use Rattle.std.proofs.Common.{refl, subst}
use Rattle.nb_record.specs.Logged.{Puts}
use Rattle.nb_teller.specs.Spelling.{Spelling}
use Rattle.nb_client.proofs.OpenWaits.{lets_nothing, lets_one}
use Rattle.nb_client.proofs.site.Site.let_go.Goals as goal

pub returns-in_default-clause-lets : goal.returns-in_default-clause-lets
returns-in_default-clause-lets c = lets_nothing c.args.kind c.args.waits c.args.self.now.world.opens c.args.self.now _ c.in_default.is refl c.requires.sound

pub give_up-requires-clause-waits : goal.give_up-requires-clause-waits
give_up-requires-clause-waits c = c.requires.waits c.in-Some.chain c.in-Some.is

pub returns-clause-lets : goal.returns-clause-lets
returns-clause-lets c =
    let now = c.args.self.now in
    let gave = c.in_ok-desk.ensures in
    lets_one c.args.kind c.args.waits c.in-Some.chain now.world.opens now _ c.in_ok-desk.desk.freed.value.text c.in-Some.is (gave.gives_up now.world.w now.world.opens c.requires.sound)
    (gave.sound now.world.w now.world.opens c.requires.sound) gave.serials (subst (λ (x : Spelling). Puts c.args.out.now c.put_told.new.log x.text) c.deref.ensures c.put_told.ensures.text)
