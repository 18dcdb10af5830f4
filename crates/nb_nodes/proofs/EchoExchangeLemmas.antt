-- What one call of a Ping's core makes of its exchange.
use Rattle.std.proofs.Common.{◌≡◌, ℕ, List, [], ◌∷◌, ◌++◌, ◌||◌, false, Option, Some, None, refl, ap, ◌∙◌}
use Rattle.std.specs.Option.{is_some}
use Rattle.nb_terms.specs.declared.acts.Acts.{Acts}
use Rattle.nb_terms.specs.declared.cause.Cause.{Cause}
use Rattle.nb_ping.specs.declared.state.State.{State}
use Rattle.nb_ping.specs.Pings.{Pinged, AsksOneEcho, asks_try, echo_request}
use Rattle.nb_ping.specs.PingCalls.{PingCall, PingEntry, ping_entry, ping_ended}
use Rattle.nb_ping.specs.PingStands.{PingStands}
use Rattle.nb_ping.proofs.PingCallsLemmas.{ping_ended-append}
use Rattle.nb_nodes.specs.Exchanges.{CallsMore, GivesAtEnd, GivesOnly, IsStarted}
use Rattle.nb_nodes.specs.EchoExchanges.{ping_service, ping_asked}

gives_none : (rec : ℕ) (p : Pinged) (calls : List PingEntry) (over : Option Cause) → GivesAtEnd ping_service rec p calls over []
gives_none rec p calls None = refl
gives_none rec p calls (Some cause) = refl

-- the ping stands for one call more
abbrev pub PingOnce : State → State → PingCall → Acts → Type 0
PingOnce old core call acts = (p : Pinged) (start : ℕ) (h : List PingEntry) → PingStands p start old h → ping_ended h ≡ false → PingStands p start core (h ++ ping_entry call acts ∷ [])

pub ping_more : (old core : State) (call : PingCall) (acts : Acts) (rec : ℕ) → PingOnce old core call acts → CallsMore ping_service old core (ping_entry call) acts rec []
ping_more old core call acts rec once = λ p start h stands opened. record {
  stands = once p start h stands opened;
  ends = ping_ended-append h (ping_entry call acts) ∙ ap (λ b. b || is_some acts.over) opened;
  gives = gives_none rec p (h ++ ping_entry call acts ∷ []) acts.over;
}

-- nothing goes up
pub nothing_only : (len : ℕ) (acts : Acts) → AsksOneEcho acts → GivesOnly len acts None
nothing_only len acts simple = record { few = simple.few; no_range = simple.gives; above = tt; within = tt }

-- a ping was started
pub ping_started : (bytes : List ℕ) (p : Pinged) (now : ℕ) (core : State) (acts : Acts) → ping_asked bytes ≡ Some p → acts ≡ asks_try (echo_request p) 1 → PingStands p now core [] → IsStarted ping_service bytes now core acts
ping_started bytes p now core acts asks request stands = record {
  asked = p;
  asks = asks;
  opening = request;
  stands = stands;
  opened = refl;
  goes_on = ap (λ (z : Acts). is_some z.over) request;
}
