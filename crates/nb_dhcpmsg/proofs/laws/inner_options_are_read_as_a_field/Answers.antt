use Rattle.nb_dhcpmsg.proofs.InnerLaws.{inner_field, inner_cut_off}
use Rattle.nb_dhcpmsg.proofs.laws.inner_options_are_read_as_a_field.Goals as goal

pub returns : goal.returns
returns c = record { field = inner_field; cut_off = inner_cut_off }
