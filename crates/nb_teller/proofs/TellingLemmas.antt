-- The records of what the graph tells in a call, and the messages of a transfer.
use Rattle.std.proofs.Common.{◌≡◌, ℕ, List, [], ◌∷◌, ◌++◌}
use Rattle.std.proofs.lemmas.Grind.{flat_map-append}
use Rattle.nb_terms.specs.declared.acts.SendTo.{SendTo}
use Rattle.nb_ledger.specs.Flat.{Notice}
use Rattle.nb_tftp.specs.Asks.{Begun, datagram}
use Rattle.nb_stack.specs.Client.{Client}
use Rattle.nb_teller.specs.declared.speaker.Carrier.TheVariants.{Udp}
use Rattle.nb_teller.specs.declared.speaker.Speaker.{Speaker}
use Rattle.nb_teller.specs.Tellings.{notice_records, told_records}

pub told-append : (net : Client) (who : Speaker) (xs ys : List Notice) → told_records net who (xs ++ ys) ≡ told_records net who xs ++ told_records net who ys
told-append net who xs ys = flat_map-append (notice_records net who) xs ys

-- the messages of a transfer: at most one, to its server and from its port
pub data AreSendsOf (b : Begun) : List SendTo → Type 0 where
  none : AreSendsOf b []
  one : (port : ℕ) (body : List ℕ) → AreSendsOf b (datagram b port body ∷ [])

-- the speaker is the open's that was begun so
pub record SpeaksFor (who : Speaker) (b : Begun) : Type 0 where
  pub carrier : who.carrier ≡ Udp
  pub server : who.server ≡ b.server
  pub own_port : who.own_port ≡ b.own_port
