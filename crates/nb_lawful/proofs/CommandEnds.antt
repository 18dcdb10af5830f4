-- The command's open has ended: what the history says of it, and how what it received is read.
use Rattle.std.proofs.Common.{◌≡◌, ℕ, ◌-◌, ◌==◌, Bool, true, false, cond, List, [], ◌∷◌, ◌++◌, map, Some, None, refl, sym, ◌∙◌, ap, append-nil}
use Rattle.std.specs.List.{flat_map, AllByRecursion}
use Rattle.std.proofs.lemmas.List.{map-append}
use Rattle.std.proofs.lemmas.List.Concat.{flat_map-append}
use Rattle.nb_terms.specs.declared.cause.Cause.{Cause}
use Rattle.nb_command.specs.SettingAddresses.{host}
use Rattle.nb_defs.specs.Causes.{is_ok_cause}
use Rattle.nb_defs.specs.Records.{Out}
use Rattle.nb_dhcp.specs.declared.asker.Asker.{Asker}
use Rattle.nb_tftp.specs.History.{received_by}
use Rattle.nb_talks.specs.Talking.{talk_after}
use Rattle.nb_responses.specs.Chunks.{Response}
use Rattle.nb_readings.specs.Ends.{text_of}
use Rattle.nb_webs.specs.Webs.{response_come}
use Rattle.nb_machine.specs.Findings.{first_word}
use Rattle.nb_machine.specs.Kinds.{moved_by}
use Rattle.nb_machine.specs.Kinds as kinds
use Rattle.nb_machine.specs.Scripts.{place_moved_to}
use Rattle.nb_machine.specs.Takings.{Over}
use Rattle.nb_machine.specs.Webs.{web_at, web_response}
use Rattle.nb_machine.specs.Running.{Running}
use Rattle.nb_machine.specs.Lives.{OpenKind, tftp, http, iscsi, dns, dhcp, ping, kind_number, OpenInput, message, tcp_segment, time, task, close, Exchange, Live}
use Rattle.nb_machine.specs.Transfers.{datagram_in}
use Rattle.nb_machine.specs.Cores.{dns_datagrams_in, handed_bodies_in}
use Rattle.nb_machine.specs.States.{State}
use Rattle.nb_laws.specs.Events.{Event}
use Rattle.nb_laws.specs.Lists.{hardware, made, openings, calls, last_end}
use Rattle.nb_laws.specs.Moves.{MovedOpen, moved_open, moved_by_server, moves}
use Rattle.nb_laws.specs.Webs.{brought_to, response_so_far}
use Rattle.nb_laws.specs.Cores.{as_dns, as_handed, handed_over, has_its_answer}
use Rattle.nb_laws.specs.CommandsSoFar.{so_far}
use Rattle.nb_laws.specs.Agreement.{AgreesScript}
use Rattle.nb_openlaws.specs.Standings.{live_opening, heard_call, heard_calls, streamed, IsKindBy, HasLogin, AgreesState}
use Rattle.nb_openlaws.proofs.Takings.{IsToOwnPort}
use Rattle.nb_laws.specs.CommandOpens.{command_open, command_end, over_of}
use Rattle.nb_lawful.specs.ScriptAgreement.{SettingsAre, HasImages, NoneLeft}
use Rattle.nb_lawful.proofs.Awaited.{its}
use Rattle.nb_lawful.proofs.DriveAnswers.{TellsSession}
use Rattle.nb_openlaws.specs.Sessions.{SessionsAgree}

abbrev pub ended_so : Live → Cause → Over
ended_so l cause = record { live = l; cause = cause }

-- the command's open has ended with this cause, and its command has no result yet; until then its file was moved so
pub record HasEnded (es : List Event) (outs : List Out) (s : State) (inner : Running) (outer : List Running) (moved : List MovedOpen) (l : Live) (cause : Cause) : Type 0 where
  pub script : AgreesScript es inner outer
  pub settings : SettingsAre (so_far es) s true
  pub images : HasImages es outs s
  pub none_left : NoneLeft es
  pub base : AgreesState es s
  pub opens : made es ≡ s.opens
  pub number : made es - 1 ≡ l.number
  pub its_end : command_open es ≡ its l.number (Some cause)
  pub last : last_end es ≡ Some cause
  pub opening : openings l.number es ≡ live_opening l ∷ []
  pub kind_is : IsKindBy (hardware es) l.number l.kind (live_opening l)
  pub received : calls l.number es ≡ heard_calls l.kind l.exchanges
  pub streams : brought_to l.number es ≡ streamed l.exchanges
  pub login : HasLogin l.number es l.kind (live_opening l)
  pub own : AllByRecursion (IsToOwnPort l.kind l.own) l.exchanges
  pub answered : is_ok_cause cause ≡ has_its_answer l.number (live_opening l) es
  -- what it has answered and read as a drive, and what all that live have, by the history
  pub tells : TellsSession es l
  pub settled : SessionsAgree es s.live
  pub moved_so : moves es ≡ moved ++ moved_open (live_opening l) (place_moved_to (ended_so l cause))

pub ends_with : (es : List Event) (outs : List Out) (s : State) (inner : Running) (outer : List Running) (moved : List MovedOpen) (l : Live) (cause : Cause) → HasEnded es outs s inner outer moved l cause → command_end es ≡ Some cause
ends_with es outs s inner outer moved l cause h = ap over_of h.its_end

-- WHAT CAME ON ITS CONNECTION

-- the response is the one that the history says came
pub response_is : (es : List Event) (l : Live) (isn : ℕ) → isn ≡ first_word (hardware es).identity l.number → brought_to l.number es ≡ streamed l.exchanges → response_so_far l.number (live_opening l) es ≡ web_response isn l
response_is es l isn is streams =
    ap (λ w. response_come w (talk_after (web_at l.target) w l.since (brought_to l.number es)).calls) (sym is)
    ∙ ap (λ came. response_come isn (talk_after (web_at l.target) isn l.since came).calls) streams

-- so is the place to which its server has moved it, where it ends well
pub own_place : (es : List Event) (l : Live) (cause : Cause) → openings l.number es ≡ live_opening l ∷ [] → brought_to l.number es ≡ streamed l.exchanges → IsKindBy (hardware es) l.number l.kind (live_opening l) → (before : List MovedOpen) →
    cond (is_ok_cause cause) (before ++ flat_map (moved_by_server l.number es) (openings l.number es)) before ≡ before ++ moved_open (live_opening l) (place_moved_to (ended_so l cause))
own_place es l cause opening streams kind before = by (is_ok_cause cause)
  where
    by_kind : (k : OpenKind) → IsKindBy (hardware es) l.number k (live_opening l) → cond (kind_number k == 2) (moved_open (live_opening l) (text_of (response_so_far l.number (live_opening l) es).verdict)) [] ≡ moved_open (live_opening l) (moved_by k l)
    by_kind tftp is = refl
    by_kind (http isn) is = ap (λ (r : Response). moved_open (live_opening l) (text_of r.verdict)) (response_is es l isn is streams)
    by_kind (iscsi isn i) is = refl
    by_kind (dns id) is = refl
    by_kind (dhcp a) is = refl
    by_kind ping is = refl

    by : (b : Bool) → cond b (before ++ flat_map (moved_by_server l.number es) (openings l.number es)) before ≡ before ++ moved_open (live_opening l) (cond b (kinds.moved l) None)
    by true = ap (λ os. before ++ flat_map (moved_by_server l.number es) os) opening ∙ ap (λ z. before ++ z) (append-nil (moved_by_server l.number es (live_opening l)) ∙ by_kind l.kind kind)
    by false = sym (append-nil before)

-- WHAT IT HEARD

-- as a transfer receives it
pub file_heard : (xs : List Exchange) → flat_map received_by (heard_calls tftp xs) ≡ flat_map (λ x. datagram_in x.came) xs
file_heard [] = refl
file_heard (x ∷ xs) = flat_map-append received_by (heard_call tftp x.came) (heard_calls tftp xs) ∙ ap (λ z. flat_map received_by (heard_call tftp x.came) ++ z) (file_heard xs) ∙ ap (λ z. z ++ flat_map (λ (y : Exchange). datagram_in y.came) xs) (one x.came)
  where
    one : (input : OpenInput) → flat_map received_by (heard_call tftp input) ≡ datagram_in input
    one (message rec port body now) = refl
    one (tcp_segment rec g now) = refl
    one (time now) = refl
    one (task t now) = refl
    one (close cause) = refl

-- as a look-up is handed it
pub look_up_heard : (id server : ℕ) (xs : List Exchange) → map (as_dns (host server)) (flat_map received_by (heard_calls (dns id) xs)) ≡ flat_map (λ x. dns_datagrams_in server x.came) xs
look_up_heard id server [] = refl
look_up_heard id server (x ∷ xs) =
    ap (map (as_dns (host server))) (flat_map-append received_by (heard_call (dns id) x.came) (heard_calls (dns id) xs))
    ∙ map-append (as_dns (host server)) (flat_map received_by (heard_call (dns id) x.came)) (flat_map received_by (heard_calls (dns id) xs))
    ∙ ap (λ z. map (as_dns (host server)) (flat_map received_by (heard_call (dns id) x.came)) ++ z) (look_up_heard id server xs)
    ∙ ap (λ z. z ++ flat_map (λ (y : Exchange). dns_datagrams_in server y.came) xs) (one x.came)
  where
    one : (input : OpenInput) → map (as_dns (host server)) (flat_map received_by (heard_call (dns id) input)) ≡ dns_datagrams_in server input
    one (message rec port body now) = refl
    one (tcp_segment rec g now) = refl
    one (time now) = refl
    one (task t now) = refl
    one (close cause) = refl

-- as one that asks for a lease is handed it
pub lease_heard : (a : Asker) (xs : List Exchange) → handed_over (flat_map received_by (heard_calls (dhcp a) xs)) ≡ flat_map (λ x. handed_bodies_in x.came) xs
lease_heard a [] = refl
lease_heard a (x ∷ xs) =
    ap handed_over (flat_map-append received_by (heard_call (dhcp a) x.came) (heard_calls (dhcp a) xs))
    ∙ map-append as_handed (flat_map received_by (heard_call (dhcp a) x.came)) (flat_map received_by (heard_calls (dhcp a) xs))
    ∙ ap (λ z. handed_over (flat_map received_by (heard_call (dhcp a) x.came)) ++ z) (lease_heard a xs)
    ∙ ap (λ z. z ++ flat_map (λ (y : Exchange). handed_bodies_in y.came) xs) (one x.came)
  where
    one : (input : OpenInput) → handed_over (flat_map received_by (heard_call (dhcp a) input)) ≡ handed_bodies_in input
    one (message rec port body now) = refl
    one (tcp_segment rec g now) = refl
    one (time now) = refl
    one (task t now) = refl
    one (close cause) = refl
