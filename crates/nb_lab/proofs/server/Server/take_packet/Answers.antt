use Rattle.std.proofs.Common.{None, Some, refl}
use Rattle.nb_lab.specs.Servers.{file_step}
use Rattle.nb_lab.proofs.server.Server.take_packet.Goals as goal

pub returns-in-Some-clause-answers : goal.returns-in-Some-clause-answers
returns-in-Some-clause-answers c =
    (file_step (Some c.in-Some.part) c.file_step.new.self.transfer, c.in-Some.ensures.step, refl, c.file_step.ensures.rest)

pub returns-in-None-clause-answers : goal.returns-in-None-clause-answers
returns-in-None-clause-answers c =
    (file_step None c.file_step.new.self.transfer, c.in-None.ensures.step, refl, c.file_step.ensures.rest)
