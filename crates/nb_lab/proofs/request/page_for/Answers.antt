use Rattle.std.proofs.Common.{arith, rules}
use Rattle.nb_lab.proofs.RequestLemmas.{fields_fit}
use Rattle.nb_lab.proofs.request.page_for.Goals as goal

pub returns-in-Ok-Complete : goal.returns-in-Ok-Complete
returns-in-Ok-Complete c =
    let read = rw c.in-Ok-Complete.field-0-is at c.in-Ok-Complete.ensures in
    record {
      whole = search rules;
      over = λ head rest reads over.
          let few = fields_fit c.args.bytes.now c.parse_request.new.headers c.in-Ok-Complete.head head rest read.complete reads in
          absurd (omega (arith, over, few, c.parse_request.auto.headers));
      waits = search rules;
      refused = search rules;
    }
