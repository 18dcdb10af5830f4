-- What one exchange more does: something comes to an open, which puts its records, and goes on or ends.
use Rattle.std.specs.Prelude.{◌≡◌, ◌≤◌, ℕ, true, false, List, [], ◌∷◌, ◌++◌, length, Option, Some, None, IsSome, unwrap_or}
use Rattle.nb_terms.specs.declared.cause.Cause.{Cause}
use Rattle.nb_defs.specs.Causes.{is_ok_cause}
use Rattle.nb_defs.specs.Records.{Out, ended, out_texts}
use Rattle.nb_ledger.specs.declared.event.Way.{Way}
use Rattle.nb_ledger.specs.Ledger.{run_state}
use Rattle.nb_graph.specs.Whole.{Objects}
use Rattle.nb_nodes.specs.declared.obj.Obj.{Obj}
use Rattle.nb_traced.specs.Plain.{without_graph}
use Rattle.nb_chains.specs.declared.arrival.Arrival.{Arrival}
use Rattle.nb_stack.specs.Client.{Client}
use Rattle.nb_machine.specs.Lives.{OpenInput, message, tcp_segment, OpenKind, tftp, http, iscsi, dns, dhcp, ping, Live, exchange, continued}
use Rattle.nb_machine.specs.Kinds.{Keeps, fetched, moved, granted, is_connection, resolved}
use Rattle.nb_machine.specs.Takings.{end_among}
use Rattle.nb_traced.specs.Outputs.{CallsOpen, own_serials}
use Rattle.nb_traced.specs.Pieces.{first_close_of}
use Rattle.nb_tcpseg.specs.SegmentText.{SegmentParts, IsLaidOut}
use Rattle.nb_open.specs.DriveAnswers.{AnswersOrEnds, found_bytes}
use Rattle.nb_open.specs.Objects.{AreObjectsReleased, AreObjectsStill}
use Rattle.nb_teller.specs.Spelling.{Spelling}
use Rattle.nb_open.specs.declared.open.Open.{Open}
use Rattle.nb_open.specs.declared.ended.Ended.{Ended}
use Rattle.nb_open.specs.Open.{IsOpenOf, kin_of_open}
use Rattle.nb_dhcpmsg.specs.Fields.{message_in}

-- a message counts for the open: of its server, or for a lease of any host; from the port that its kind has
abbrev pub SuitsBy : OpenKind → Live → Arrival → Type 0
SuitsBy tftp l a = a.source.0 ≡ l.server
SuitsBy (http isn) l a = (a.source.0 ≡ l.server) × (a.port ≡ l.port)
SuitsBy (iscsi isn i) l a = (a.source.0 ≡ l.server) × (a.port ≡ l.port)
SuitsBy (dns id) l a = (a.source.0 ≡ l.server) × (a.port ≡ 53)
SuitsBy (dhcp x) l a = a.port ≡ 67
SuitsBy ping l a = (a.source.0 ≡ l.server) × (a.port ≡ l.own)

-- What comes to the open by it: to a connection the segment that the bytes are laid out as; else the body of a datagram or of an echo, which is no
-- longer than a frame carries.
pub data IsInput (o : Open) (l : Live) (rec : ℕ) (a : Arrival) (now : ℕ) : OpenInput → Type 0 where
  by_message : is_connection l.kind ≡ false → SuitsBy l.kind l a → length a.body.now ≤ 1480 → IsInput o l rec a now (message rec a.port a.body.now now)
  by_segment : (g : SegmentParts) → is_connection l.kind ≡ true → SuitsBy l.kind l a → IsLaidOut a.body.now g → IsInput o l rec a now (tcp_segment rec g now)

-- the open with what came, and what it put then
abbrev pub with_exchange : Live → OpenInput → Client → List Out → Live
with_exchange l came link put = continued l (exchange came link put)

-- Something comes to the open, and it goes on. `records` are all that is written of it, those of the graph among them.
pub record ExchangesOn (o : Open) (l : Live) (came : OpenInput) (link : Client) (way : Option Way) (old new : Objects Obj) (records : List Out) : Type 0 where
  pub keeps : Keeps (with_exchange l came link (without_graph records))
  pub no_end : end_among l.number (without_graph records) ≡ None
  pub lives : IsOpenOf new o (with_exchange l came link (without_graph records))
  pub others : AreObjectsStill o.objects old new
  pub call : CallsOpen (kin_of_open o) way records (run_state old.book []) (run_state new.book [])
  pub no_close : first_close_of (own_serials (kin_of_open o)) records ≡ None

-- its records without those of the graph, with its ENDED
abbrev pub last_put : Live → List Out → Cause → List Out
last_put l records cause = without_graph records ++ (ended l.number cause ∷ [])

-- where it has ended well, what it has fetched or found was handed out
pub record HandsOut (o : Open) (l : Live) (e : Ended) (s : Spelling) : Type 0 where
  pub body : e.moved ≡ None → fetched l ≡ unwrap_or e.body []
  pub moved : moved l ≡ e.moved
  pub bytes : granted l ≡ found_bytes o.objects s.bytes
  pub address : resolved l ≡ s.address

-- what was handed out is a message of DHCP, if anything was
abbrev pub IsLeaseMessage : Option (List ℕ) → Type 0
IsLeaseMessage found = (bytes : List ℕ) → found ≡ Some bytes → IsSome (message_in bytes)

-- Something comes to the open, and it ends: its objects are let go.
pub record ExchangesLast (o : Open) (l : Live) (came : OpenInput) (link : Client) (way : Option Way) (old new : Objects Obj) (records : List Out) (e : Ended) (s : Spelling) : Type 0 where
  pub keeps : Keeps (with_exchange l came link (last_put l records e.cause))
  pub its_end : end_among l.number (last_put l records e.cause) ≡ Some e.cause
  pub released : AreObjectsReleased o.objects old new
  pub call : CallsOpen (kin_of_open o) way records (run_state old.book []) (run_state new.book [])
  pub close : first_close_of (own_serials (kin_of_open o)) records ≡ Some e.cause
  pub hands : is_ok_cause e.cause ≡ true → HandsOut o (with_exchange l came link (last_put l records e.cause)) e s
  pub message : IsLeaseMessage (found_bytes o.objects s.bytes)

abbrev pub ExchangesBy : Option Ended → Open → Live → OpenInput → Client → Option Way → Objects Obj → Objects Obj → List Out → Spelling → Type 0
ExchangesBy None o l came link way old new records s = ExchangesOn o l came link way old new records
ExchangesBy (Some e) o l came link way old new records s = ExchangesLast o l came link way old new records e s

-- what was spelled is what the exchange says, whatever the open has received so far, and of a drive what it has answered
pub record Exchanges (o : Open) (l : Live) (came : OpenInput) (link : Client) (way : Option Way) (old new : Objects Obj) (s : Spelling) (e : Option Ended) : Type 0 where
  pub records : List Out
  pub text : s.text ≡ out_texts records
  pub does : ExchangesBy e o l came link way old new records s
  pub answers : (any : Client) (put : List Out) → AnswersOrEnds e o.objects came l (with_exchange l came any put) s.answer s.blocks
