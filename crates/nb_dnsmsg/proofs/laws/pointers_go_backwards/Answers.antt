use Rattle.nb_dnsmsg.proofs.NameLemmas.{name_alone}
use Rattle.nb_dnsmsg.proofs.MessageLaws.{no_pointer_forwards, name_ends, name_of_labels}
use Rattle.nb_dnsmsg.proofs.laws.pointers_go_backwards.Goals as goal

pub returns : goal.returns
returns c = record { forwards = no_pointer_forwards; ends = name_ends; text = name_of_labels; alone = name_alone }
