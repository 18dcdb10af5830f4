-- Which connection is asked for, as the bytes of the message that begins it: our own.
use Rattle.std.specs.Prelude.{ℕ, ◌==◌, List, ◌++◌, length, take, drop, Option, Some, None, if◌then◌else◌}
use Rattle.std.specs.Int.{w16, w32, to_be_bytes, from_be_bytes}
use Rattle.nb_tcp.specs.declared.link.Link.{Link}
use Rattle.nb_conns.specs.declared.conn_ask.ConnAsk.{ConnAsk}

-- the peer's address and port, the client's own, and the number of its SYN
abbrev pub conn_ask_bytes : ConnAsk → List ℕ
conn_ask_bytes a = to_be_bytes w32 a.peer.0 ++ to_be_bytes w16 a.peer_port ++ to_be_bytes w32 a.own.0 ++ to_be_bytes w16 a.own_port ++ to_be_bytes w32 a.isn

abbrev pub conn_ask_at : List ℕ → ConnAsk
conn_ask_at bytes = record {
  peer = record { 0 = from_be_bytes w32 (take 4 bytes) };
  peer_port = from_be_bytes w16 (take 2 (drop 4 bytes));
  own = record { 0 = from_be_bytes w32 (take 4 (drop 6 bytes)) };
  own_port = from_be_bytes w16 (take 2 (drop 10 bytes));
  isn = from_be_bytes w32 (drop 12 bytes);
}

-- what the bytes ask for, if they are sixteen
abbrev pub conn_ask_in : List ℕ → Option ConnAsk
conn_ask_in bytes = if length bytes == 16 then Some (conn_ask_at bytes) else None

-- the ends of that connection
abbrev pub link_of : ConnAsk → Link
link_of a = record { own_port = a.own_port; peer = a.peer; peer_port = a.peer_port; isn = a.isn }
