use Rattle.nb_dhcpmsg.proofs.ReadingLemmas.{message_is, is_message, options_have, have_options}
use Rattle.nb_dhcpmsg.proofs.laws.messages_are_read_by_the_grammar.Goals as goal

pub returns : goal.returns
returns c = record {
  message = λ bytes m. (is_message bytes m, message_is bytes m);
  options = λ bytes os. (options_have bytes os, have_options bytes os);
}
