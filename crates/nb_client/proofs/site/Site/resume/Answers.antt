use Rattle.nb_client.proofs.Waits.{none_answered, resume_goes}
use Rattle.nb_client.proofs.site.Site.resume.Goals as goal

pub returns-clause-goes : goal.returns-clause-goes
returns-clause-goes c =
    rw c.begin_step.ensures (resume_goes c.args.script c.requires.valid c.requires.served c.requires.sound (none_answered c.requires.sound c.in_ok-serve.ensures.serves))
