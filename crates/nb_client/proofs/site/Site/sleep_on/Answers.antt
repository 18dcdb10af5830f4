use Rattle.nb_client.proofs.Waits.{none_answered, sleeps_goes}
use Rattle.nb_client.proofs.site.Site.sleep_on.Goals as goal

pub returns-clause-goes : goal.returns-clause-goes
returns-clause-goes c =
    sleeps_goes c.args.script c.args.until c.wake.result c.requires.valid c.requires.served c.requires.sound (none_answered c.requires.sound c.in_ok-serve.ensures.serves) c.wake.ensures
