-- What a transfer asks for, as the bytes of the message that begins an open: our own.
use Rattle.std.specs.Prelude.{ℕ, ◌&&◌, Bool, List, ◌++◌, length, take, drop, nat_le, nat_lt, Option, Some, None, if◌then◌else◌}
use Rattle.std.specs.Int.{w16, w32, to_be_bytes, from_be_bytes}
use Rattle.std.specs.List.{list_all}
use Rattle.nb_wire.specs.declared.address.Ip4.{Ip4}
use Rattle.nb_tftp.specs.Asks.{Begun, begun}
use Rattle.nb_nodes.specs.declared.ask.Ask.{Ask}

-- what is asked for, without where its path lies in memory
pub record AskValue : Type 0 where
  pub server : Ip4
  pub port : ℕ
  pub own_port : ℕ
  pub path : List ℕ

abbrev pub ask_value : Ask → AskValue
ask_value a = record { server = a.server; port = a.port; own_port = a.own_port; path = a.path.now }

-- the bytes before the path
abbrev pub ask_head : AskValue → List ℕ
ask_head v = to_be_bytes w32 v.server.0 ++ to_be_bytes w16 v.port ++ to_be_bytes w16 v.own_port

abbrev pub is_nonzero : ℕ → Bool
is_nonzero byte = nat_lt 0 byte

-- a path has at most 1,024 bytes, and no zero byte
abbrev pub is_path : List ℕ → Bool
is_path path = nat_le (length path) 1024 && list_all is_nonzero path

-- what at least eight bytes ask for
abbrev pub ask_at : List ℕ → AskValue
ask_at bytes =
    record { server = record { 0 = from_be_bytes w32 (take 4 bytes) }; port = from_be_bytes w16 (take 2 (drop 4 bytes)); own_port = from_be_bytes w16 (take 2 (drop 6 bytes)); path = drop 8 bytes }

-- what the bytes ask for, if they are eight bytes and a path
abbrev pub ask_in : List ℕ → Option AskValue
ask_in bytes = if nat_le 8 (length bytes) && is_path (drop 8 bytes) then Some (ask_at bytes) else None

-- the transfer that asks for it
abbrev pub begun_with : AskValue → Begun
begun_with v = begun v.server v.port v.own_port v.path
