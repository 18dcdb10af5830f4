-- RFC 9293: a message that a connection may send, said by what came alone, without its decisions
use Rattle.std.specs.Prelude.{◌≡◌, List, [], ◌∷◌, ◌++◌}
use Rattle.nb_terms.specs.declared.acts.SendTo.{SendTo}
use Rattle.nb_streams.specs.Flows.{TcpCall}
use Rattle.nb_streams.specs.Sending.{Outgoing, MaySend}
use Rattle.nb_tcp.specs.declared.link.Link.{Link}
use Rattle.nb_tcp.specs.Messages.{outgoing_message}

-- it is a segment to the peer that the connection may send after these calls
pub record MayBeSent (l : Link) (calls : List TcpCall) (send : SendTo) : Type 0 where
  pub outgoing : Outgoing
  pub is : send ≡ outgoing_message l outgoing
  pub may : MaySend l.isn calls outgoing
