use Rattle.std.proofs.Common.{refl, arith}
use Rattle.nb_lab.proofs.server.Server.take_segment.Goals as goal

pub returns-then-segment-ne-HTTP_PORT-clause-answers : goal.returns-then-segment-ne-HTTP_PORT-clause-answers
returns-then-segment-ne-HTTP_PORT-clause-answers c = (
  c.args.self.now.connection,
  record {
    other_port = λ other. (refl, refl);
    opens = λ is first. absurd (omega (arith, is));
    goes_on = λ is first. absurd (omega (arith, is));
  },
  refl,
)
