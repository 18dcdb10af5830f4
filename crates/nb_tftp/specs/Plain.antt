-- RFC 1350, sections 4 and 5: what each call of a transfer may ask
use Rattle.std.specs.Prelude.{◌≡◌, ◌≤◌, ℕ, false, List, length}
use Rattle.std.specs.List.{AllByRecursion}
use Rattle.nb_terms.specs.declared.acts.Acts.{Acts}
use Rattle.nb_terms.specs.declared.acts.SendTo.{SendTo}
use Rattle.nb_tftp.specs.Asks.{Begun}

-- a UDP datagram (protocol 17) from the transfer's port to its server, whose body fits
pub record IsToServer (b : Begun) (send : SendTo) : Type 0 where
  pub udp : send.proto ≡ 17
  pub server : send.to ≡ b.server
  pub own_port : send.own_port ≡ b.own_port
  pub body : length send.body.items ≤ 1480

-- at most one message, to the server, and no bytes wait in the transfer
pub record IsPlain (b : Begun) (acts : Acts) : Type 0 where
  pub few : length acts.sends.items ≤ 1
  pub sent : AllByRecursion (IsToServer b) acts.sends.items
  pub ready : acts.ready ≡ false

-- a range of these bytes: from the first number on, up to the second
pub record IsRangeOf (bytes : List ℕ) (from to : ℕ) : Type 0 where
  pub ordered : from ≤ to
  pub within : to ≤ length bytes
