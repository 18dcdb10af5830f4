use Rattle.nb_dns.proofs.ReplyLemmas.{reply_is, is_reply, first_is, is_first, silent_is, is_silent}
use Rattle.nb_dns.proofs.laws.replies_are_read_by_the_grammar.Goals as goal

pub returns : goal.returns
returns c = record {
  reply = λ l m a. (reply_is l m a, is_reply l m a);
  first = λ l ms a. (first_is l ms a, is_first l ms a);
  silent = λ l ms. (silent_is l ms, is_silent l ms);
}
