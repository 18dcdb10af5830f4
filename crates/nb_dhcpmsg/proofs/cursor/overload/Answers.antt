use Rattle.std.proofs.Common.{◌∙◌, refl}
use Rattle.nb_dhcpmsg.proofs.LeftLemmas.{field_left}
use Rattle.nb_dhcpmsg.proofs.MessageLemmas.{byte_is}
use Rattle.nb_dhcpmsg.proofs.cursor.overload.Goals as goal

pub returns : goal.returns
returns c = λ os a. c.byte.ensures ∙ byte_is c.only_byte.result 52 _ os c.only_byte.ensures (field_left _ os a refl refl)
