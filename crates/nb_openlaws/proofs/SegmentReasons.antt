-- Segments that an open on a connection puts: each has its reasons, where the history says that it may be sent.
use Rattle.std.proofs.Common.{◌≡◌, ℕ, List, [], ◌∷◌, ◌++◌, Option, sym, ◌∙◌, ap, append_assoc, append-nil}
use Rattle.std.specs.List.{AllByRecursion}
use Rattle.std.proofs.lemmas.List.{map-append}
use Rattle.nb_terms.specs.declared.acts.SendTo.{SendTo}
use Rattle.nb_defs.specs.Records.{Out, sent}
use Rattle.nb_stack.specs.Client.{Client}
use Rattle.nb_stack.specs.Sends.{put_on, way_of}
use Rattle.nb_streams.specs.Flows.{TcpCall, conn_phase}
use Rattle.nb_streams.specs.Sending.{Outgoing, MaySend, tried_again}
use Rattle.nb_talks.specs.TalkPromises.{Sends}
use Rattle.nb_tcp.specs.Messages.{outgoing_message}
use Rattle.nb_machine.specs.Sendings.{has_route, send_records, try_records}
use Rattle.nb_machine.specs.Connections.{Connection, segment_records}
use Rattle.nb_laws.specs.Agreement.{AreAside}
use Rattle.nb_laws.specs.Events.{Event, puts}
use Rattle.nb_laws.specs.Frames.{IsSent, IsMessageTried, IsDue}
use Rattle.nb_laws.specs.Histories.{client}
use Rattle.nb_laws.specs.Progress.{IsAdvanced}
use Rattle.nb_laws.proofs.Asides.{aside_try, aside_send}
use Rattle.nb_laws.proofs.DriveTalks.{IsNoCommand}
use Rattle.nb_laws.proofs.Tellings.{told}
use Rattle.nb_openlaws.specs.OpenReasons.{OpenReasons}
use Rattle.nb_openlaws.proofs.Takings.{due_told}
use Rattle.nb_openlaws.proofs.OpenRecords.{of_try, of_send, are_no_command}
use Rattle.nb_openlaws.proofs.NetworkDevices.{client_some, some_of}
use Rattle.nb_openlaws.proofs.Sendings.{no_reasons, reasons_then, client_try, frame_reasons, either_reasons}
use Rattle.nb_openlaws.proofs.WebPuts.{TriedSo}

client_send : (es : List Event) (link : Client) (k : ℕ) (try : Option ℕ) (send : SendTo) → client (es ++ told (send_records link k try send)) ≡ client es
client_send es link k try send = client_some es (send_records link k try send) (some_of k (send_records link k try send) (of_send link k try send))

pub client_segments : (es : List Event) (c : Connection) (link : Client) (sends : Sends) → client (es ++ told (segment_records c link sends)) ≡ client es
client_segments es c link [] = ap (λ z. client z) (append-nil es)
client_segments es c link (s ∷ sends) =
    let outs = send_records link c.number s.1 (outgoing_message c.link s.0) in
    ap (λ z. client z) (ap (λ z. es ++ z) (map-append puts outs (segment_records c link sends)) ∙ sym (append_assoc es (told outs) (told (segment_records c link sends))))
    ∙ client_segments (es ++ told outs) c link sends ∙ client_send es link c.number s.1 (outgoing_message c.link s.0)

-- what the history says of the open after these calls stays so while records are written that tell no open, and says what it may send
module _ (link : Client) (c : Connection) (At : List Event → List TcpCall → Type 0)
    (on : (es : List Event) (quiet : List Out) (all : List TcpCall) → AreAside quiet → AllByRecursion IsNoCommand quiet → client (es ++ told quiet) ≡ client es → At es all → At (es ++ told quiet) all)
    (leaves : (es : List Event) (all : List TcpCall) (s : Outgoing) → At es all → MaySend c.link.isn all s → (sends : IsSent c.number es (put_on link (outgoing_message c.link s) (way_of link (outgoing_message c.link s)))) × (s ≡ tried_again c.link.isn (conn_phase c.link.isn all) → IsMessageTried c.number es sends.opening sends.send)) where
  -- one, with its TRY
  pub one_with_reasons : (es : List Event) (all : List TcpCall) (s : Outgoing) (try : Option ℕ) → IsAdvanced es → IsDue c.number es → At es all → MaySend c.link.isn all s → TriedSo c.link.isn (conn_phase c.link.isn all) (s, try) →
      OpenReasons es (send_records link c.number try (outgoing_message c.link s))
  one_with_reasons es all s try a d w may again =
      let k = c.number in
      let send : SendTo = outgoing_message c.link s in
      let one = leaves (es ++ told (try_records k try)) all s (on es (try_records k try) all (aside_try k try) (are_no_command k (try_records k try) (of_try k try)) (client_try es k try) w) may in
      either_reasons es (has_route link send) (try_records k try ++ (sent (put_on link send (way_of link send)) ∷ []))
      (frame_reasons es k try (put_on link send (way_of link send)) one.0 (λ n tries. one.1 (again n tries)) d a) a

  -- all of them: the reasons, and what the history says after them
  pub all_with_reasons : (es : List Event) (all : List TcpCall) (sends : Sends) → IsAdvanced es → IsDue c.number es → At es all → AllByRecursion (λ s. MaySend c.link.isn all s.0) sends → AllByRecursion (TriedSo c.link.isn (conn_phase c.link.isn all)) sends →
      OpenReasons es (segment_records c link sends)
  all_with_reasons es all [] a d w may again = no_reasons es a
  all_with_reasons es all (s ∷ sends) a d w may again =
      let outs = send_records link c.number s.1 (outgoing_message c.link s.0) in
      let first = one_with_reasons es all s.0 s.1 a d w may.0 again.0 in
      reasons_then es outs (segment_records c link sends) first
      (all_with_reasons (es ++ told outs) all sends first.after (due_told c.number es outs d) (on es outs all (aside_send link c.number s.1 (outgoing_message c.link s.0)) (are_no_command c.number outs (of_send link c.number s.1 (outgoing_message c.link s.0))) (client_send es link c.number s.1 (outgoing_message c.link s.0)) w) may.1 again.1)
