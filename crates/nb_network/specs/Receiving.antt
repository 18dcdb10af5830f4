-- To which of the opens that live a message goes that a frame brings.
use Rattle.std.specs.Prelude.{◌≡◌, ◌⊎◌, ℕ, true, false, List, Option, Some}
use Rattle.std.specs.List.{AllByRecursion}
use Rattle.nb_wire.specs.declared.address.Ip4.{Ip4}
use Rattle.nb_ledger.specs.declared.event.Way.TheVariants.{Up}
use Rattle.nb_chains.specs.declared.arrival.Arrival.{Arrival}
use Rattle.nb_record.specs.Logged.{Logged}
use Rattle.nb_stack.specs.Client.{Client}
use Rattle.nb_stack.specs.Takes.{Outcome, handed}
use Rattle.nb_machine.specs.Lives.{OpenInput}
use Rattle.nb_teller.specs.declared.speaker.Carrier.{Carrier}
use Rattle.nb_teller.specs.declared.speaker.Carrier.TheVariants.{Udp, Icmp, Tcp}
use Rattle.nb_open.specs.declared.ended.Ended.{Ended}
use Rattle.nb_network.specs.declared.living.Living.{Living}
use Rattle.nb_open.specs.Exchanges.{IsInput}
use Rattle.nb_network.specs.Many.{Many, bare_open}
use Rattle.nb_network.specs.Steps.{ComesAt, IsOpenAt, counts_by}
use Rattle.nb_network.specs.declared.over.HasEnded.{HasEnded}

-- from which port a message comes: that of an echo reply is its identifier
abbrev pub port_by_carrier : Carrier → ℕ → ℕ → ℕ
port_by_carrier Udp own port = port
port_by_carrier Icmp own port = own
port_by_carrier Tcp own port = port

abbrev pub port_from : Living → ℕ → ℕ
port_from o port = port_by_carrier o.speaker.carrier o.speaker.own_port port

-- what was handed on is for the open of this place, and comes to it so
pub record GoesTo (list : List Living) (out : Outcome) (place : ℕ) (a : Arrival) : Type 0 where
  pub taker : Living
  pub at : IsOpenAt list place taker
  pub dst : Ip4
  pub proto : ℕ
  pub port : ℕ
  pub handed_on : out ≡ handed taker.speaker.number a.source dst proto port a.body.now
  pub counts : counts_by taker.objects taker.speaker.server a.source port ≡ true
  pub port_is : a.port ≡ port_from taker port

-- no open has the number that it was handed on to, or one has, for which it doesn't count
pub record DoesNotCount (list : List Living) (to : ℕ) (source : Ip4) (port : ℕ) : Type 0 where
  pub taker : Living
  pub place : ℕ
  pub at : IsOpenAt list place taker
  pub number : taker.speaker.number ≡ to
  pub counts : counts_by taker.objects taker.speaker.server source port ≡ false

abbrev pub NoneTakes : List Living → Outcome → Type 0
NoneTakes list out = (to : ℕ) (source dst : Ip4) (proto port : ℕ) (body : List ℕ) → out ≡ handed to source dst proto port body →
    AllByRecursion (λ o. o.speaker.number ≡ to → ⊥) list ⊎ DoesNotCount list to source port

-- it comes to that open
abbrev pub ReceivesAt : Many → Client → List Living → Living → List Living → ℕ → Arrival → ℕ → Option ℕ → Option HasEnded → Many → Client → Logged → Logged → Type 0
ReceivesAt m net before o behind rec a now awaited answer m' net' old new =
    (ended : Option Ended) × ((came : OpenInput) → ComesAt (λ l. IsInput (bare_open o) l rec a now came) came (Some Up) (Some rec) m net before o behind awaited ended answer m' net' old new)
