-- All the calls of a connection since its start, each with what it asked, and what can be read from them
use Rattle.std.specs.Prelude.{ℕ, ◌||◌, Bool, true, false, List, [], ◌∷◌, ◌++◌, Option, Some, None, fold, unwrap_or, if◌then◌else◌}
use Rattle.std.specs.List.{flat_map, list_any}
use Rattle.std.specs.Option.{is_some}
use Rattle.nb_retry.specs.declared.retry.Due.{Due}
use Rattle.nb_retry.specs.declared.retry.Due.TheVariants.{Not, Again, Over}
use Rattle.nb_terms.specs.declared.acts.Acts.{Acts}
use Rattle.nb_streams.specs.Flows.{TcpCall, segment_came, time_came, text_came}

-- a segment, a time or text; what waits was lent, of which these bytes were delivered, or came back; a close from above
pub data ConnCall : Type 0 where
  calls_in : TcpCall → ConnCall
  lends_out : (bytes : List ℕ) → ConnCall
  comes_back : ConnCall
  closes_from_above : ConnCall

-- a call, and what it asked of the caller
pub record ConnEntry : Type 0 where
  pub call : ConnCall
  pub acts : Acts

abbrev pub conn_entry : ConnCall → Acts → ConnEntry
conn_entry call acts = record { call = call; acts = acts }

abbrev pub tcp_calls_of : ConnCall → List TcpCall
tcp_calls_of (calls_in c) = c ∷ []
tcp_calls_of (lends_out bytes) = []
tcp_calls_of comes_back = []
tcp_calls_of closes_from_above = []

-- the segments, times and texts, in order
abbrev pub tcp_calls : List ConnEntry → List TcpCall
tcp_calls entries = flat_map (λ e. tcp_calls_of e.call) entries

-- the place that an `advance` gave last, 0 where none did
abbrev pub advanced_to : List ConnEntry → ℕ
advanced_to entries = fold (λ last e. unwrap_or e.acts.advance last) 0 entries

abbrev pub delivered_by : ConnCall → List ℕ
delivered_by (calls_in c) = []
delivered_by (lends_out bytes) = bytes
delivered_by comes_back = []
delivered_by closes_from_above = []

-- the bytes that were delivered, in order
abbrev pub delivered : List ConnEntry → List ℕ
delivered entries = flat_map (λ e. delivered_by e.call) entries

abbrev pub waits_after : Bool → ConnCall → Acts → Bool
waits_after w (calls_in (segment_came m now)) acts = acts.ready
waits_after w (calls_in (time_came now)) acts = w
waits_after w (calls_in (text_came bytes now)) acts = w
waits_after w (lends_out bytes) acts = false
waits_after w comes_back acts = false
waits_after w closes_from_above acts = w

-- something waits to be lent: the last segment said so, and it wasn't lent since
abbrev pub is_waiting_after : List ConnEntry → Bool
is_waiting_after entries = fold (λ w e. waits_after w e.call e.acts) false entries

abbrev pub lent_after : Bool → ConnCall → Bool
lent_after l (calls_in c) = l
lent_after l (lends_out bytes) = true
lent_after l comes_back = false
lent_after l closes_from_above = l

-- it was lent and hasn't come back
abbrev pub is_lent_after : List ConnEntry → Bool
is_lent_after entries = fold (λ l e. lent_after l e.call) false entries

abbrev pub is_close : ConnCall → Bool
is_close (calls_in c) = false
is_close (lends_out bytes) = false
is_close comes_back = false
is_close closes_from_above = true

abbrev pub ends_by : ConnEntry → Bool
ends_by e = is_some e.acts.over || is_close e.call

-- an end was told, or it was closed from above
abbrev pub has_ended_after : List ConnEntry → Bool
has_ended_after entries = list_any ends_by entries

abbrev pub due_of_try : Option ℕ → Due
due_of_try None = Not
due_of_try (Some n) = Again n

-- what a call's answer says of a timer: a try, or the plan's end
abbrev pub due_said : Acts → Due
due_said acts = if is_some acts.over then Over else due_of_try acts.tried

-- a fact of each entry, with those before it
abbrev pub EachConnEntry : (List ConnEntry → ConnEntry → Type 0) → List ConnEntry → List ConnEntry → Type 0
EachConnEntry P before [] = Unit {0}
EachConnEntry P before (e ∷ es) = P before e × EachConnEntry P (before ++ e ∷ []) es
