-- RFC 1350: an open that fetches a file. What its transfer asks is how, and stays inside; what it promises is
-- said of what came and what was put.
use Rattle.std.specs.Prelude.{ℕ, not, Bool, List, [], ◌∷◌, ◌++◌, Option, Some, None, if◌then◌else◌}
use Rattle.std.specs.List.{flat_map, list_any}
use Rattle.nb_terms.specs.declared.cause.Cause.{Cause}
use Rattle.nb_terms.specs.declared.acts.Acts.{Acts}
use Rattle.nb_defs.specs.Records.{Out, ended}
use Rattle.nb_stack.specs.Client.{Client}
use Rattle.nb_tftp.specs.Asks.{Begun, begun}
use Rattle.nb_tftp.specs.Received.{Received, received}
use Rattle.nb_tftp.specs.Blocks.{file}
use Rattle.nb_tftp.specs.History.{Call, came, ticked, Entry, entry, got}
use Rattle.nb_tftp.specs.Sentences.{Meets}
use Rattle.nb_command.specs.SettingAddresses.{host}
use Rattle.nb_machine.specs.CommandRecords.{no_route}
use Rattle.nb_machine.specs.Sendings.{has_route, request_of, send_records, acts_records, end_with_body}
use Rattle.nb_machine.specs.Lives.{OpenInput, message, tcp_segment, time, task, close, Exchange, exchange, Live}

-- the request that it begins with
abbrev pub transfer_of : Live → Begun
transfer_of l = begun (host l.server) l.port l.own l.target

-- the records of its request, its first try; none where it finds no route
abbrev pub request_records : Live → Client → Option (List Out)
request_records l link =
    if has_route link (request_of (transfer_of l))
    then Some (send_records link l.number (Some 1) (request_of (transfer_of l)))
    else None

abbrev pub arrival_of : Call → OpenInput
arrival_of (came m now) = message m.rec m.port m.body now
arrival_of (ticked now) = time now

-- one of these messages finds no route
abbrev pub finds_none : Client → Acts → Bool
finds_none link acts = list_any (λ m. not (has_route link m)) acts.sends.items

-- the first of two ends
abbrev pub earlier_end : Option Cause → Option Cause → Option Cause
earlier_end (Some cause) later = Some cause
earlier_end None later = later

-- how an exchange ends the open, if it does: as its transfer says, or else because a message found no route
abbrev pub transfer_end : ℕ → Client → List ℕ → Acts → Option Cause
transfer_end server link body acts =
    earlier_end (end_with_body body acts) (if finds_none link acts then Some (no_route server) else None)

abbrev pub end_records : ℕ → Option Cause → List Out
end_records number None = []
end_records number (Some cause) = ended number cause ∷ []

-- the records of an exchange in which a transfer whose file is this now asked that
abbrev pub transfer_records : ℕ → ℕ → Client → List ℕ → Acts → List Out
transfer_records number server link body acts =
    acts_records link number acts ++ end_records number (transfer_end server link body acts)

-- what came to an open of this number and server, and the records that it put, where its transfer asked so at each
-- datagram and time; at a close it puts its end alone
pub data Exchanged (number server : ℕ) : List Entry → List Exchange → Type 0 where
  at_first : Exchanged number server [] []
  takes : (es : List Entry) (xs : List Exchange) (link : Client) (call : Call) (acts : Acts) → Exchanged number server es xs →
      Exchanged number server (es ++ entry call acts ∷ [])
      (xs ++ exchange (arrival_of call) link (transfer_records number server link (file (got (es ++ entry call acts ∷ []))) acts) ∷ [])
  closes : (es : List Entry) (xs : List Exchange) (link : Client) (cause : Cause) → Exchanged number server es xs →
      Exchanged number server es (xs ++ exchange (close cause) link (ended number cause ∷ []) ∷ [])

-- the exchanges are those of a transfer that keeps its promises
pub record KeepsTransfer (l : Live) : Type 0 where
  pub entries : List Entry
  pub exchanged : Exchanged l.number l.server entries l.exchanges
  pub meets : Meets (transfer_of l) l.since entries

abbrev pub datagram_in : OpenInput → List Received
datagram_in (message rec port body now) = received rec port body ∷ []
datagram_in (tcp_segment rec g now) = []
datagram_in (time now) = []
datagram_in (task t now) = []
datagram_in (close cause) = []

-- the file, as far as it has come
abbrev pub transferred : List Exchange → List ℕ
transferred xs = file (flat_map (λ x. datagram_in x.came) xs)
