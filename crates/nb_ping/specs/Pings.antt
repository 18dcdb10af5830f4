-- RFC 792, page 14: what a ping asks of its caller; that its requests have no data and the sequence number 0 is our own
use Rattle.std.specs.Prelude.{◌≡◌, ◌≤◌, ℕ, false, List, [], ◌∷◌, length, Some, None}
use Rattle.std.specs.List.{AllByRecursion}
use Rattle.nb_retry.specs.declared.retry.Due.{Due}
use Rattle.nb_retry.specs.declared.retry.Due.TheVariants.{Not, Again, Over}
use Rattle.nb_terms.specs.declared.acts.Acts.{Acts}
use Rattle.nb_terms.specs.declared.acts.SendTo.{SendTo}
use Rattle.nb_terms.specs.declared.cause.Cause.{Cause}
use Rattle.nb_terms.specs.declared.reason.Plain.TheVariants as plain
use Rattle.nb_terms.specs.declared.reason.Reason.TheVariants as reason
use Rattle.nb_terms.specs.Reasons.{as_cause}
use Rattle.nb_wire.specs.declared.address.Ip4.{Ip4}

-- what a ping was begun with: the host, and the identifier of its echoes
pub record Pinged : Type 0 where
  pub host : Ip4
  pub ident : ℕ

abbrev pub pinged : Ip4 → ℕ → Pinged
pinged host ident = record { host = host; ident = ident }

-- the echo request, by ICMP (protocol 1): its identifier, sequence number 0, and no data
abbrev pub echo_request : Pinged → SendTo
echo_request p = record { proto = 1; to = p.host; to_port = 0; own_port = p.ident; body = record { items = [] } }

abbrev pub asks_nothing : Acts
asks_nothing = record { sends = record { items = [] }; tried = None; advance = None; give = None; ready = false; over = None }

-- a message is sent as the try of a number
abbrev pub asks_try : SendTo → ℕ → Acts
asks_try send n = record { sends = record { items = send ∷ [] }; tried = Some n; advance = None; give = None; ready = false; over = None }

abbrev pub asks_end : Cause → Acts
asks_end cause = record { sends = record { items = [] }; tried = None; advance = None; give = None; ready = false; over = Some cause }

-- a call asks for at most one message, an echo, and gives no bytes up
pub record AsksOneEcho (acts : Acts) : Type 0 where
  pub few : length acts.sends.items ≤ 1
  pub echo : AllByRecursion (λ send. send.proto ≡ 1) acts.sends.items
  pub gives : acts.give ≡ None

-- the host has replied
abbrev pub ping_ok : Cause
ping_ok = as_cause (reason.Plain plain.Ok)

-- six tries had no reply
abbrev pub ping_timed_out : Cause
ping_timed_out = as_cause (reason.TimedOut 6)

-- what the timer's answer asks: the request again, or the end
abbrev pub ping_asks : Pinged → Due → Acts
ping_asks p Not = asks_nothing
ping_asks p (Again n) = asks_try (echo_request p) n
ping_asks p Over = asks_end ping_timed_out
