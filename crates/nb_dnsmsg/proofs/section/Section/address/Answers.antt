use Rattle.std.proofs.Common.{sym, subst}
use Rattle.nb_dnsmsg.specs.Views.{AddressIs}
use Rattle.nb_dnsmsg.proofs.FoundLemmas.{address_is}
use Rattle.nb_dnsmsg.proofs.section.Section.address.Goals as goal

pub returns : goal.returns
returns c = λ rs at.
    subst (λ x. AddressIs x c.args.name.now rs) (sym c.address_of.ensures) (address_is c.args.message.now c.args.name.now rs c.first.result (c.first.ensures rs at))
