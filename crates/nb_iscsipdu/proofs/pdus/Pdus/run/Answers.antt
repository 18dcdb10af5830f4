use Rattle.nb_iscsipdu.proofs.StreamLemmas.{gathers-joined, least-joined}
use Rattle.nb_iscsipdu.proofs.pdus.Pdus.run.Goals as goal

pub returns-clause-gathers : goal.returns-clause-gathers
returns-clause-gathers c =
    gathers-joined c.args.self.now c.take_lengths-decided.new.self c.take_rest.new.self c.args.bytes.now c.split_at.result.1.now c.take_lengths-decided.result c.take_rest.result c.take_lengths-decided.ensures.gathers c.split_at.ensures.back c.take_rest.ensures.gathers

pub returns-clause-least : goal.returns-clause-least
returns-clause-least c =
    least-joined c.args.self.now c.take_lengths-decided.new.self c.args.bytes.now c.split_at.result.1.now c.take_lengths-decided.result c.take_rest.result c.take_lengths-decided.ensures.gathers c.split_at.ensures.back c.take_lengths-decided.ensures.least c.take_rest.ensures.least
