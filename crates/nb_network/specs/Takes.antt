-- What a record does to the opens that live: the machine's network, the records that are put, and what of them ends.
use Rattle.std.specs.Prelude.{◌≡◌, ℕ, true, false, List, [], ◌∷◌, ◌++◌, map, find, Option, Some, None, slice_get, unwrap_or}
use Rattle.std.specs.List.{list_any}
use Rattle.nb_terms.specs.declared.cause.Cause.{Cause}
use Rattle.nb_defs.specs.Causes.{is_ok_cause}
use Rattle.nb_defs.specs.Records.{In, tick, Out, out_texts, step, graph}
use Rattle.nb_record.specs.Logged.{Logged, Puts}
use Rattle.nb_ledger.specs.declared.port.Port.{Port}
use Rattle.nb_ledger.specs.declared.event.GraphEvent.TheVariants.{Closed, Entered}
use Rattle.nb_ledger.specs.Flat.{flat}
use Rattle.nb_ledger.specs.declared.event.Way.{Way}
use Rattle.nb_ledger.specs.declared.event.Way.TheVariants.{Up, Time}
use Rattle.nb_ipv4.specs.PacketText.{PacketParts}
use Rattle.nb_ipv4.specs.UdpText.{UdpParts}
use Rattle.nb_ipv4.specs.EchoText.{EchoParts}
use Rattle.nb_tcpseg.specs.SegmentText.{SegmentParts}
use Rattle.nb_wire.specs.declared.address.Mac.{Mac}
use Rattle.nb_traced.specs.Plain.{without_graph}
use Rattle.nb_stack.specs.Client.{Client}
use Rattle.nb_stack.specs.Brings.{Brought, datagram, echo_reply, segment, Brings}
use Rattle.nb_machine.specs.Lives.{Live}
use Rattle.std.specs.Option.{is_some}
use Rattle.nb_machine.specs.Kinds.{answered, fetched, granted, is_for, is_reply_for, is_segment_for, moved, read_last, resolved}
use Rattle.nb_machine.specs.Network.{IsFrameOn, Network, is_for_one}
use Rattle.nb_machine.specs.Scripts.{is_number}
use Rattle.nb_machine.specs.States.{State}
use Rattle.nb_machine.specs.Takings.{Over}
use Rattle.nb_chains.specs.declared.chain.Chain.{Chain}
use Rattle.nb_chains.specs.declared.kind.ChainKind.{ChainKind}
use Rattle.nb_traced.specs.Holdings.{Holdings, GraphObject}
use Rattle.nb_traced.specs.Outputs.{Arrived, Traced}
use Rattle.nb_open.specs.Exchanges.{IsLeaseMessage}
use Rattle.nb_network.specs.Many.{FitsHoldings, HasTiedOnlyOf, IsNewestBut, IsStateOf, Many, WaitsBeside}
use Rattle.nb_network.specs.declared.over.HasEnded.{HasEnded}

-- of what ended, the open of the number that is awaited
abbrev pub awaited_over : Option ℕ → List Over → Option Over
awaited_over None overs = None
awaited_over (Some k) overs = find (is_number k) overs

-- what has ended is this open of the machine's, with its cause; where it ended well, what it has fetched or found was handed out; and whether it has
-- answered as a drive, and what it has read last
pub record IsEndOf (e : HasEnded) (o : Over) : Type 0 where
  pub number : o.live.number ≡ e.number
  pub cause : o.cause ≡ e.cause
  pub body : is_ok_cause e.cause ≡ true → e.moved ≡ None → fetched o.live ≡ unwrap_or e.body []
  pub moved : is_ok_cause e.cause ≡ true → moved o.live ≡ e.moved
  pub bytes : is_ok_cause e.cause ≡ true → granted o.live ≡ e.bytes
  pub address : is_ok_cause e.cause ≡ true → resolved o.live ≡ e.address
  pub message : IsLeaseMessage e.bytes
  pub answered : is_some (answered o.live) ≡ e.answered
  pub read : read_last o.live ≡ e.read

abbrev pub AnswersBy : Option HasEnded → Option Over → Type 0
AnswersBy None None = Unit {0}
AnswersBy None (Some o) = ⊥
AnswersBy (Some e) None = ⊥
AnswersBy (Some e) (Some o) = IsEndOf e o

abbrev pub arrival : ℕ → Way → ℕ → Arrived
arrival k way n = record { whose = k; way = way; number = n }

-- To which opens of the state the record comes: to none, to the one that alone takes what a frame brings, or, as a time, to each.
pub data ArrivesAt (s : State) (n : ℕ) : In → List Arrived → Type 0 where
  at_none : (r : In) (device : ℕ) (bytes : List ℕ) (link : Client) (m : Brought) → IsFrameOn r device bytes → slice_get s.devices device ≡ Some link →
      Brings link.up link.mac link.address bytes m → is_for_one device m s.live ≡ false → ArrivesAt s n r []
  at_port : (r : In) (device : ℕ) (bytes : List ℕ) (link : Client) (p : PacketParts) (d : UdpParts) (before behind : List Live) (l : Live) → IsFrameOn r device bytes → slice_get s.devices device ≡ Some link →
      Brings link.up link.mac link.address bytes (datagram p d) → s.live ≡ before ++ l ∷ behind → is_for device p d l ≡ true →
      list_any (is_for device p d) before ≡ false → list_any (is_for device p d) behind ≡ false → ArrivesAt s n r (arrival l.number Up n ∷ [])
  at_echo : (r : In) (device : ℕ) (bytes : List ℕ) (link : Client) (p : PacketParts) (e : EchoParts) (before behind : List Live) (l : Live) → IsFrameOn r device bytes → slice_get s.devices device ≡ Some link →
      Brings link.up link.mac link.address bytes (echo_reply p e) → s.live ≡ before ++ l ∷ behind → is_reply_for device p e l ≡ true →
      list_any (is_reply_for device p e) before ≡ false → list_any (is_reply_for device p e) behind ≡ false → ArrivesAt s n r (arrival l.number Up n ∷ [])
  at_connection : (r : In) (device : ℕ) (bytes : List ℕ) (link : Client) (from : Mac) (p : PacketParts) (g : SegmentParts) (before behind : List Live) (l : Live) → IsFrameOn r device bytes → slice_get s.devices device ≡ Some link →
      Brings link.up link.mac link.address bytes (segment from p g) → s.live ≡ before ++ l ∷ behind → is_segment_for device p g l ≡ true →
      list_any (is_segment_for device p g) before ≡ false → list_any (is_segment_for device p g) behind ≡ false → ArrivesAt s n r (arrival l.number Up n ∷ [])
  at_all : (ms : ℕ) → ArrivesAt s n (tick ms) (map (λ l. arrival l.number Time n) s.live)

-- the machine's network does this, whatever state these opens are
pub record NetworkDoes (m : Many) (net : Client) (now : ℕ) (n : ℕ) (r : In) (put : List Out) (m' : Many) (net' : Client) (now' : ℕ) (awaited : Option ℕ) (answer : Option HasEnded) (came : List Arrived) (s : State) : Type 0 where
  pub after : State
  pub overs : List Over
  pub network : Network s n r put after overs
  pub is_state : IsStateOf m' net' now' after
  pub answers : AnswersBy answer (awaited_over awaited overs)
  pub arrives : ArrivesAt s n r came

-- the output goes on so
pub record TracesOn (m : Many) (opens : ℕ) (waits : List GraphObject) (records : List Out) (came : List Arrived) (m' : Many) (opens' : ℕ) (waits' : List GraphObject) (outs : List Out) (h : Holdings) (so_far : List Arrived) : Type 0 where
  pub after : Holdings
  pub traced : Traced (outs ++ records) after (so_far ++ came)
  pub fits : FitsHoldings m' opens' waits' after

-- for whatever output they stand with
abbrev pub Traces : Many → ℕ → List Out → List Arrived → Many → ℕ → Type 0
Traces m opens records came m' opens' =
    (waits : List GraphObject) (outs : List Out) (h : Holdings) (so_far : List Arrived) → Traced outs h so_far → FitsHoldings m opens waits h → TracesOn m opens waits records came m' opens' waits outs h so_far

-- what waits beside them, waits on
abbrev pub KeepsWaiting : Many → Many → Type 0
KeepsWaiting m m' = (kind : ChainKind) (c : Chain) → WaitsBeside kind c m → WaitsBeside kind c m'

-- where the record comes to an open, the records of its step begin with that entry; else none of them is the graph's
abbrev pub BeginsWithEntry : List Arrived → List Out → Type 0
BeginsWithEntry [] records = without_graph records ≡ records
BeginsWithEntry (a ∷ more) records = (p : Port) × (rest : List Out) × (records ≡ graph (flat (Entered p a.way)) ∷ rest)

-- the first record is the graph's, of a port that is closed with this cause
abbrev pub ClosesFirst : Cause → List Out → Type 0
ClosesFirst cause records = (p : Port) × (more : List Out) × (records ≡ graph (flat (Closed p cause)) ∷ more)

-- what is awaited still, where the open has not ended
abbrev pub still_awaited : Option ℕ → Option HasEnded → Option ℕ
still_awaited awaited None = awaited
still_awaited awaited (Some e) = None

-- A record is used, where these opens are this state: its STEP is put, and what comes of it at the opens that live.
pub record TakesRecord (m : Many) (net : Client) (now opens : ℕ) (n : ℕ) (r : In) (m' : Many) (net' : Client) (now' : ℕ) (awaited : Option ℕ) (answer : Option HasEnded) (old new : Logged) (s : State) : Type 0 where
  pub records : List Out
  pub came : List Arrived
  pub puts : Puts old new (out_texts (step n ∷ records))
  pub does : NetworkDoes m net now n r (without_graph records) m' net' now' awaited answer came s
  pub traces : Traces m opens (step n ∷ records) came m' opens
  pub first : BeginsWithEntry came records
  pub waiting : KeepsWaiting m m'
  pub same_made : m'.graph.book.made ≡ m.graph.book.made
  pub tied : HasTiedOnlyOf awaited m → HasTiedOnlyOf (still_awaited awaited answer) m'
  pub newest : (c : Chain) → IsNewestBut awaited c m → IsNewestBut (still_awaited awaited answer) c m'
