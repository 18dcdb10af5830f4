use Rattle.std.proofs.Common.{arith, refl}
use Rattle.nb_dnsmsg.specs.Records.{host_address}
use Rattle.nb_dnsmsg.proofs.record.read_data.Goals as goal

pub returns : goal.returns
returns c = (host_address c.address_at.result, (omega arith, omega arith, omega arith, c.address_at.ensures), refl)
