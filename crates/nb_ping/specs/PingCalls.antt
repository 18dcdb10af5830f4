-- All the calls of a ping since its start, each with what it asked
use Rattle.std.specs.Prelude.{ℕ, Bool, List, [], ◌∷◌, ◌++◌, ◌==◌, ◌&&◌, if◌then◌else◌}
use Rattle.std.specs.List.{flat_map, list_any}
use Rattle.std.specs.Option.{option_map_or, is_some}
use Rattle.nb_retry.specs.Plans.{Asked, asked_at}
use Rattle.nb_retry.specs.declared.retry.Due.{Due}
use Rattle.nb_retry.specs.declared.retry.Due.TheVariants.{Not, Again, Over}
use Rattle.nb_terms.specs.declared.acts.Acts.{Acts}
use Rattle.nb_wire.specs.declared.address.Ip4.{Ip4}
use Rattle.nb_ping.specs.Pings.{Pinged}

-- an echo reply: where it comes from, and its identifier
pub record EchoReply : Type 0 where
  pub src : Ip4
  pub ident : ℕ

abbrev pub echo_reply : Ip4 → ℕ → EchoReply
echo_reply src ident = record { src = src; ident = ident }

-- an echo reply at a time, or a time
pub data PingCall : Type 0 where
  echoed : (r : EchoReply) (now : ℕ) → PingCall
  waited : (now : ℕ) → PingCall

-- a call, and what it asked of the caller
pub record PingEntry : Type 0 where
  pub call : PingCall
  pub acts : Acts

abbrev pub ping_entry : PingCall → Acts → PingEntry
ping_entry call acts = record { call = call; acts = acts }

abbrev pub replies_of : PingCall → List EchoReply
replies_of (echoed r now) = r ∷ []
replies_of (waited now) = []

-- the echo replies that came, in order
abbrev pub echo_replies : List PingEntry → List EchoReply
echo_replies entries = flat_map (λ e. replies_of e.call) entries

-- what a time's answer says of the timer: a try, or the plan's end
abbrev pub ping_said : Acts → Due
ping_said acts = option_map_or (λ n. Again n) acts.tried (if is_some acts.over then Over else Not)

abbrev pub times_of_ping : PingCall → Acts → List Asked
times_of_ping (echoed r now) acts = []
times_of_ping (waited now) acts = asked_at now (ping_said acts) ∷ []

-- the times, in order, each with what was said at it
abbrev pub ping_times : List PingEntry → List Asked
ping_times entries = flat_map (λ e. times_of_ping e.call e.acts) entries

-- an end was given
abbrev pub ping_ended : List PingEntry → Bool
ping_ended entries = list_any (λ e. is_some e.acts.over) entries

-- a fact of each entry, with those before it
abbrev pub EachPingEntry : (List PingEntry → PingEntry → Type 0) → List PingEntry → List PingEntry → Type 0
EachPingEntry P before [] = Unit {0}
EachPingEntry P before (e ∷ es) = P before e × EachPingEntry P (before ++ e ∷ []) es

-- an echo reply answers a ping where it comes from the host, with the identifier
abbrev pub answers_ping : Pinged → EchoReply → Bool
answers_ping p r = (r.src.0 == p.host.0) && (r.ident == p.ident)

abbrev pub is_answered : Pinged → List EchoReply → Bool
is_answered p rs = list_any (answers_ping p) rs
