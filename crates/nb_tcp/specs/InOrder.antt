-- RFC 9293, section 3.10.7.4: a segment whose bytes come next, with nothing else that is new
use Rattle.std.specs.Prelude.{◌≡◌, ◌≤◌, ℕ, ◌+◌, ◌-◌, ◌^◌, ◌==◌, ◌&&◌, not, Bool, false, length, Option, None, nat_le}
use Rattle.std.specs.Option.{is_none}
use Rattle.nb_streams.specs.Segments.{Incoming}
use Rattle.nb_streams.specs.Flows.{advance_of}
use Rattle.nb_tcp.specs.declared.conn.ConnState.{ConnState}
use Rattle.nb_tcp.specs.declared.conn.ConnState.TheVariants.{SynSent, Established, Ended}
use Rattle.nb_tcp.specs.declared.variables.Variables.{Variables}
use Rattle.nb_tcp.specs.Numbers.{bare_flow, distance_of}

-- it acknowledges, and neither begins, ends nor resets a stream
abbrev pub is_data : Incoming → Bool
is_data s = s.ack && (not s.syn && (not s.rst && not s.fin))

-- its bytes come next, below the limit, and no end is known
abbrev pub continues_by : Variables → Incoming → Bool
continues_by v s = is_none v.stop && (distance_of v s.number == 0 && nat_le (v.next + length s.body) (2 ^ 31 - 1))

-- all of the text was acknowledged before, and is again
abbrev pub has_said_all : Variables → ℕ → Incoming → Bool
has_said_all v given s = advance_of (bare_flow v) s == 0 && (v.acked == v.sent && v.sent == given)

abbrev pub is_next : Variables → ℕ → Incoming → Bool
is_next v given s = is_data s && (continues_by v s && has_said_all v given s)

-- so it is on an established connection
abbrev pub is_next_of : ConnState → ℕ → Incoming → Bool
is_next_of SynSent given s = false
is_next_of (Established v) given s = is_next v given s
is_next_of (Ended at_end) given s = false

-- its bytes come next, and no end is known or comes
pub record ComesInOrder (v : Variables) (s : Incoming) : Type 0 where
  pub no_fin : s.fin ≡ false
  pub no_stop : v.stop ≡ None
  pub here : distance_of v s.number ≡ 0
  pub low : v.next + length s.body ≤ 2 ^ 31 - 1
