-- What a fetch asks for, as the message that begins it: our own.
use Rattle.std.specs.Prelude.{ℕ, List, length, take, drop, nat_le, Option, Some, None, if◌then◌else◌}
use Rattle.nb_conns.specs.declared.conn_ask.ConnAsk.{ConnAsk}
use Rattle.nb_conns.specs.ConnAsks.{conn_ask_in}
use Rattle.nb_webnodes.specs.declared.web_ask.WebAsk.{WebAsk}

-- the connection, the host and the path
pub record AskParts : Type 0 where
  pub conn : ConnAsk
  pub host : List ℕ
  pub path : List ℕ

abbrev pub ask_parts : WebAsk → AskParts
ask_parts a = record { conn = a.conn; host = a.host.now; path = a.path.now }

-- what a connection's bytes and those after them ask for, of which so many are the host
abbrev pub web_ask_of : Option ConnAsk → ℕ → List ℕ → Option AskParts
web_ask_of None host rest = None
web_ask_of (Some conn) host rest = if nat_le host (length rest) then Some (record { conn = conn; host = take host rest; path = drop host rest }) else None

-- what the bytes ask for, if they are enough
abbrev pub web_ask_in : ℕ → List ℕ → Option AskParts
web_ask_in host bytes = web_ask_of (conn_ask_in (take 16 bytes)) host (drop 16 bytes)
