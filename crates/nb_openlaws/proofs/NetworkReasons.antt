-- A record is used: all that the network puts has its reasons, however many opens live.
use Rattle.std.proofs.Common.{◌≡◌, ℕ, ◌+◌, ◌==◌, Bool, true, false, cond, List, [], ◌∷◌, ◌++◌, refl, sym, ◌∙◌, ap, subst, append-nil, arith}
use Rattle.std.specs.List.{flat_map, list_any, sum_by, AllByRecursion}
use Rattle.std.proofs.lemmas.List.Folds.{flat_map-map}
use Rattle.nb_defs.specs.Records.{Start, In, Out, sent}
use Rattle.nb_wire.specs.declared.address.Mac.{Mac}
use Rattle.nb_ipv4.specs.PacketText.{PacketParts}
use Rattle.nb_tcpseg.specs.SegmentText.{SegmentParts}
use Rattle.nb_stack.specs.Client.{Client}
use Rattle.nb_stack.specs.Brings.{Brought, nothing, arp_message, datagram, echo_request, echo_reply, segment}
use Rattle.nb_stack.specs.Takes.{reply_of}
use Rattle.nb_tftp.proofs.BlockLemmas.{either_way}
use Rattle.nb_tftp.specs.History.{ticked, Entry, received_by}
use Rattle.nb_machine.specs.CommandRecords.{reply_records}
use Rattle.nb_laws.specs.Events.{Event, starts, hears, waits, stops, puts}
use Rattle.nb_laws.specs.Frames.{by_reply}
use Rattle.nb_laws.specs.Histories.{client}
use Rattle.nb_laws.specs.Lists as lists
use Rattle.nb_laws.specs.Lists.{gathered, hardware, blocks_where, opens_file, file_blocks, Opening, openings, live, call_at, calls, last_place}
use Rattle.nb_laws.specs.Progress.{file_place, IsAdvanced}
use Rattle.nb_laws.specs.Webs.{came_at, brought_to, stream_place_by, stream_place, comes_to_port, ComesToNone}
use Rattle.nb_laws.proofs.Histories.{client_hears, client_waits}
use Rattle.nb_laws.proofs.Tellings.{KeepsHardware, hardware_stays, openings_more, calls_more, came_more, no_more, place_more, place_same, blocks_same, no_datagram, advanced_more, still_advanced, sessions_stay, session_stays, came_session_more}
use Rattle.nb_login.specs.declared.info.LoginInfo.{LoginInfo}
use Rattle.nb_machine.specs.Lives.{iscsi, OpenInput, message, tcp_segment, Live}
use Rattle.nb_machine.specs.Kinds.{Keeps, has_port, reply_beside}
use Rattle.nb_machine.specs.States.{State, net0}
use Rattle.nb_machine.specs.Takings.{Over, AllTake}
use Rattle.nb_machine.specs.Network.{Network, on_net0, passes_by, brings, brings_reply, brings_segment, passes_time}
use Rattle.nb_openlaws.specs.Standings.{live_opening, AgreesLive, AreLive, lives_among, AgreesState, AgreesDevice, streamed}
use Rattle.nb_laws.specs.Endings.{HadWay}
use Rattle.nb_openlaws.specs.OpenEndings.{by_reason}
use Rattle.nb_openlaws.specs.OpenReasons.{HaveWays, OpenReasons}
use Rattle.nb_openlaws.proofs.Takings.{HasCome, both_false, or_first, or_second, way_stays, grown}
use Rattle.nb_openlaws.proofs.UsedEvents.{IsUsed, BringsNone, live_one, no_call}
use Rattle.nb_openlaws.proofs.HeardFrames.{port_as_told, found, none_datagram, none_reply, none_segment, none_for, none_at}
use Rattle.nb_openlaws.proofs.Networks.{among_more, front_of, back_of, one_comes, one_replies, one_segment, network_event}
use Rattle.nb_openlaws.proofs.NetworkDevices.{link_is}
use Rattle.nb_openlaws.proofs.LiveStates.{times_come}
use Rattle.nb_openlaws.proofs.Sendings.{no_reasons}
use Rattle.nb_openlaws.proofs.KindFacts.{no_connection, opening_as}
use Rattle.nb_laws.specs.Drives.{sessions, came_to_session_at, came_to_session, session_place_by, session_place}
use Rattle.nb_laws.proofs.SessionOpenings.{no_session_unopened}
use Rattle.nb_openlaws.proofs.StreamPlaces.{times_stream, times_session, same_sum, stream_so}
use Rattle.nb_openlaws.proofs.ExchangeReasons.{place_so, IsTaken}
use Rattle.nb_openlaws.proofs.AllReasons.{IsPlaced, TakenSo, all_reasons, one_reasons}
use Rattle.nb_openlaws.specs.Sessions.{AgreesBy, AgreesSession, SessionsAgree}
use Rattle.nb_openlaws.proofs.SessionsDue.{SessionCame, brought_so}
use Rattle.nb_openlaws.proofs.SessionStands.{session_place_is}
use Rattle.nb_openlaws.proofs.SessionComings.{segment_session, times_sessions}

-- EVENTS THAT ARE USED

used_place : (k p : ℕ) (e : Event) → IsUsed e → lists.place_by k p e ≡ p
used_place k p (puts o) h = absurd h
used_place k p (starts n s) h = refl
used_place k p _ h = refl

used_opening : (k : ℕ) (es : List Event) (e : Event) → IsUsed e → lists.opening_at k es e ≡ []
used_opening k es (puts o) h = absurd h
used_opening k es (starts n s) h = refl
used_opening k es _ h = refl

-- one that brings nothing
pub used_advanced : (es : List Event) (e : Event) → IsUsed e → KeepsHardware e → ((k : ℕ) → BringsNone k es e) → IsAdvanced es → IsAdvanced (es ++ e ∷ [])
used_advanced es e u keeps none a =
    advanced_more es e keeps (λ k. used_place k (last_place k es) e u) (λ k. used_opening k es e u) (λ k. ap (λ z. flat_map received_by z) (none k).0) (λ k. (none k).1) a

none_of_ticks : (t : ℕ) (os : List Opening) → flat_map received_by (flat_map (λ o. ticked t ∷ []) os) ≡ []
none_of_ticks t [] = refl
none_of_ticks t (o ∷ os) = none_of_ticks t os

-- a time brings no block, and leaves each stream where it is
pub time_advanced : (es : List Event) (n ms : ℕ) → IsAdvanced es → IsAdvanced (es ++ waits n ms ∷ [])
time_advanced es n ms a = λ k.
    let e = waits n ms in
    place_more k es e ∙ a k
    ∙ sym (ap (λ z. z + stream_place k (es ++ e ∷ []) + session_place k (es ++ e ∷ [])) (blocks_same k (es ++ e ∷ []) es (openings_more k es e ∙ append-nil (openings k es)) (no_datagram k es e (none_of_ticks (lists.time es + ms) (live k es))))
    ∙ ap (λ z. file_blocks k es + z + session_place k (es ++ e ∷ [])) (stream k) ∙ ap (λ z. file_blocks k es + stream_place k es + z) (session k))
  where
    stream : (k : ℕ) → stream_place k (es ++ waits n ms ∷ []) ≡ stream_place k es
    stream k =
        ap (λ os. sum_by (stream_place_by (hardware (es ++ waits n ms ∷ [])) k (brought_to k (es ++ waits n ms ∷ []))) os) (openings_more k es (waits n ms) ∙ append-nil (openings k es))
        ∙ ap (λ h. sum_by (stream_place_by h k (brought_to k (es ++ waits n ms ∷ []))) (openings k es)) (hardware_stays es (waits n ms) tt)
        ∙ ap (λ c. sum_by (stream_place_by (hardware es) k c) (openings k es)) (came_more k es (waits n ms))
        ∙ same_sum (stream_place_by (hardware es) k (brought_to k es ++ came_at k es (waits n ms))) (stream_place_by (hardware es) k (brought_to k es)) (openings k es)
        (λ o. times_stream (hardware es) k o (brought_to k es) (lists.time es + ms) (live k es))

    session : (k : ℕ) → session_place k (es ++ waits n ms ∷ []) ≡ session_place k es
    session k =
        ap (λ ss. sum_by (session_place_by (hardware (es ++ waits n ms ∷ [])) k (came_to_session k (es ++ waits n ms ∷ []))) ss) (sessions_stay k es (waits n ms) refl)
        ∙ ap (λ h. sum_by (session_place_by h k (came_to_session k (es ++ waits n ms ∷ []))) (sessions k es)) (hardware_stays es (waits n ms) tt)
        ∙ ap (λ c. sum_by (session_place_by (hardware es) k c) (sessions k es)) (came_session_more k es (waits n ms))
        ∙ same_sum (session_place_by (hardware es) k (came_to_session k es ++ came_to_session_at k es (waits n ms))) (session_place_by (hardware es) k (came_to_session k es)) (sessions k es)
        (λ s. times_session (hardware es) k s (came_to_session k es) (lists.time es + ms) (live k es))

unopened_place : (k : ℕ) (es : List Event) → openings k es ≡ [] → file_place k es ≡ 0
unopened_place k es none =
    ap (λ os. blocks_where (list_any opens_file os) (lists.datagrams_of k es) + sum_by (stream_place_by (hardware es) k (brought_to k es)) os + session_place k es) none
    ∙ ap (λ ss. 0 + sum_by (session_place_by (hardware es) k (came_to_session k es)) ss) (no_session_unopened k es none)

openings_none : (k : ℕ) → openings k [] ≡ []
unfolding openings gathered
openings_none k = refl

-- START stands first
pub start_advanced : (es : List Event) (n : ℕ) (s : Start) → es ≡ [] → IsAdvanced es → IsAdvanced (es ++ starts n s ∷ [])
start_advanced es n s first a = λ k.
    let none : openings k es ≡ [] = ap (openings k) first ∙ openings_none k in
    place_more k es (starts n s) ∙ a k ∙ unopened_place k es none ∙ sym (unopened_place k (es ++ starts n s ∷ []) (openings_more k es (starts n s) ∙ append-nil (openings k es) ∙ none))

pub off_advanced : (es : List Event) (n : ℕ) → IsAdvanced es → IsAdvanced (es ++ stops n ∷ [])
off_advanced es n a = used_advanced es (stops n) tt tt (λ k. (refl, refl)) a

-- A REPLY

reply_reasons : (es : List Event) (n : ℕ) (bytes : List ℕ) (m : Brought) (reply : List ℕ) → ComesToNone es m → reply ≡ reply_of (client es) m → IsAdvanced (es ++ hears n bytes m ∷ []) → OpenReasons (es ++ hears n bytes m ∷ []) (reply_records reply)
reply_reasons es n bytes m [] alone e a = no_reasons (es ++ hears n bytes m ∷ []) a
reply_reasons es n bytes m (b ∷ bs) alone e a = record {
  ends = (tt, tt);
  frames = (by_reason (by_reply es n bytes m refl alone e (omega arith)), tt);
  advances = (a, tt);
  tries = (tt, tt);
  after = still_advanced (es ++ hears n bytes m ∷ []) (sent (b ∷ bs) ∷ []) (tt, tt) a;
}

none_of_all : (f : Opening → Bool) (os : List Opening) → ((o : Opening) → f o ≡ false) → list_any f os ≡ false
none_of_all f [] none = refl
none_of_all f (o ∷ os) none = both_false (f o) (list_any f os) (none o) (none_of_all f os none)

-- no connection that lives has the port of a segment
none_at_port : (es : List Event) (s : State) (from : Mac) (p : PacketParts) (g : SegmentParts) → AgreesState es s → list_any (has_port net0 g.dst_port) s.live ≡ false → ComesToNone es (segment from p g)
none_at_port es s from p g a none = λ k.
    either_way (lives_among k s.live) (λ some. found (λ z. list_any (comes_to_port (segment from p g)) (lists.live z es) ≡ false) k s.live (each s.live a.each none) some)
    (λ away. ap (list_any (comes_to_port (segment from p g))) (a.others k away))
  where
    each : (ls : List Live) → AreLive es ls → list_any (has_port net0 g.dst_port) ls ≡ false → AllByRecursion (λ l. list_any (comes_to_port (segment from p g)) (lists.live l.number es) ≡ false) ls
    each [] h e = tt
    each (l ∷ ls) h e = (
      ap (list_any (comes_to_port (segment from p g))) (live_one l.number es (live_opening l) h.0.opening h.0.lives)
          ∙ both_false (comes_to_port (segment from p g) (live_opening l)) false (port_as_told l from p g h.0.on_net0 ∙ or_first (has_port net0 g.dst_port l) (list_any (has_port net0 g.dst_port) ls) e) refl,
      each ls h.1 (or_second (has_port net0 g.dst_port l) (list_any (has_port net0 g.dst_port) ls) e),
    )

-- what a frame for no open is replied to with
beside_reasons : (es : List Event) (s : State) (n : ℕ) (bytes : List ℕ) (m : Brought) (link : Client) → AgreesState es s → client es ≡ link → IsAdvanced (es ++ hears n bytes m ∷ []) → OpenReasons (es ++ hears n bytes m ∷ []) (reply_records (reply_beside net0 s.live link m))
beside_reasons es s n bytes nothing link a c adv = reply_reasons es n bytes nothing (reply_of link nothing) (λ k. none_of_all (comes_to_port nothing) (lists.live k es) (λ o. refl)) (ap (λ z. reply_of z nothing) (sym c)) adv
beside_reasons es s n bytes (arp_message from arp) link a c adv = reply_reasons es n bytes (arp_message from arp) (reply_of link (arp_message from arp)) (λ k. none_of_all (comes_to_port (arp_message from arp)) (lists.live k es) (λ o. refl)) (ap (λ z. reply_of z (arp_message from arp)) (sym c)) adv
beside_reasons es s n bytes (datagram p d) link a c adv = reply_reasons es n bytes (datagram p d) (reply_of link (datagram p d)) (λ k. none_of_all (comes_to_port (datagram p d)) (lists.live k es) (λ o. refl)) (ap (λ z. reply_of z (datagram p d)) (sym c)) adv
beside_reasons es s n bytes (echo_request from p e) link a c adv = reply_reasons es n bytes (echo_request from p e) (reply_of link (echo_request from p e)) (λ k. none_of_all (comes_to_port (echo_request from p e)) (lists.live k es) (λ o. refl)) (ap (λ z. reply_of z (echo_request from p e)) (sym c)) adv
beside_reasons es s n bytes (echo_reply p e) link a c adv = reply_reasons es n bytes (echo_reply p e) (reply_of link (echo_reply p e)) (λ k. none_of_all (comes_to_port (echo_reply p e)) (lists.live k es) (λ o. refl)) (ap (λ z. reply_of z (echo_reply p e)) (sym c)) adv
beside_reasons es s n bytes (segment from p g) link a c adv = by (list_any (has_port net0 g.dst_port) s.live) refl
  where
    by : (b : Bool) → list_any (has_port net0 g.dst_port) s.live ≡ b → OpenReasons (es ++ hears n bytes (segment from p g) ∷ []) (reply_records (reply_beside net0 s.live link (segment from p g)))
    by true e = subst (λ z. OpenReasons (es ++ hears n bytes (segment from p g) ∷ []) (reply_records (cond z [] (reply_of link (segment from p g))))) (sym e) (no_reasons (es ++ hears n bytes (segment from p g) ∷ []) adv)
    by false e = subst (λ z. OpenReasons (es ++ hears n bytes (segment from p g) ∷ []) (reply_records (cond z [] (reply_of link (segment from p g))))) (sym e)
        (reply_reasons es n bytes (segment from p g) (reply_of link (segment from p g)) (none_at_port es s from p g a e) (ap (λ z. reply_of z (segment from p g)) (sym c)) adv)

-- A MESSAGE FOR ONE OPEN

-- no other is brought anything
none_elsewhere : (es : List Event) (e : Event) (s : State) (before : List Live) (l : Live) (behind : List Live) → IsUsed e → AgreesState es s → s.live ≡ before ++ l ∷ behind →
    AllByRecursion (λ x. BringsNone x.number es e) before → AllByRecursion (λ x. BringsNone x.number es e) behind → (j : ℕ) → (l.number == j) ≡ false → BringsNone j es e
none_elsewhere es e s before l behind u a lives front back j other =
    either_way (lives_among j before) (λ some. found (λ z. BringsNone z es e) j before front some)
    (λ no. either_way (lives_among j behind) (λ some. found (λ z. BringsNone z es e) j behind back some)
    (λ none. no_call j es e u (a.others j (ap (lives_among j) lives ∙ among_more j before (l ∷ behind) ∙ both_false (lives_among j before) (lives_among j (l ∷ behind)) no (both_false (l.number == j) (lives_among j behind) other none)))))

message_placed : (es : List Event) (e : Event) (input : OpenInput) (l : Live) → IsUsed e → KeepsHardware e → AgreesLive es l → AgreesSession es l → ((isn : ℕ) (i : LoginInfo) → l.kind ≡ iscsi isn i → SessionCame (es ++ e ∷ []) input l isn i) →
    IsAdvanced es →
    ((j : ℕ) → (l.number == j) ≡ false → BringsNone j es e) → IsPlaced (es ++ e ∷ []) input l
message_placed es e input l u keeps own w came a none = record {
  placed = λ d h is.
      let k = l.number in
      place_more k es e ∙ used_place k (last_place k es) e u ∙ a k ∙ place_so k es (live_opening l) own.opening (no_connection l.kind l d)
      ∙ ap (blocks_where ((live_opening l).kind == 1)) (ap (λ z. flat_map received_by z) (own.received ∙ is) ∙ flat_map-map received_by (λ (x : Entry). x.call) h);
  streamed_to = λ is.
      let k = l.number in
      place_more k es e ∙ used_place k (last_place k es) e u ∙ a k ∙ stream_so k es (live_opening l) own.opening is
      ∙ ap (λ z. stream_place_by (hardware es) k z (live_opening l)) own.streams ∙ sym (ap (λ h. stream_place_by h k (streamed l.exchanges) (live_opening l)) (hardware_stays es e keeps));
  session_to = λ isn i is.
      let k = l.number in
      let opening = own.opening ∙ ap (λ z. opening_as z l ∷ []) is in
      brought_so (es ++ e ∷ []) input l isn i (place_more k es e ∙ used_place k (last_place k es) e u ∙ a k ∙ session_place_is es l isn i (subst (λ z. AgreesBy es z l) is w) opening) (came isn i is);
  others = λ j other.
      place_more j es e ∙ used_place j (last_place j es) e u ∙ a j
      ∙ sym (place_same j (es ++ e ∷ []) es (hardware_stays es e keeps) (openings_more j es e ∙ no_more (openings j es) _ (used_opening j es e u)) (ap (λ z. flat_map received_by z) (calls_more j es e ∙ no_more (calls j es) _ (none j other).0))
      (came_more j es e ∙ no_more (brought_to j es) _ (none j other).1) (session_stays j es e keeps (used_opening j es e u) (none j other).1));
}

pub all_of : {A : Type 0} (P : A → Type 0) (before : List A) (x : A) (behind : List A) → AllByRecursion P (before ++ x ∷ behind) → P x
all_of P [] x behind h = h.0
all_of P (y ∷ before) x behind h = all_of P before x behind h.1

-- one open is brought something, the others nothing
one_brought : (es : List Event) (e : Event) (s : State) (input : OpenInput) (before : List Live) (l : Live) (behind : List Live) (put : List Out) (after : List Live) (over : List Over) → IsUsed e → KeepsHardware e → IsTaken input → AgreesState es s → s.live ≡ before ++ l ∷ behind →
    HasCome (es ++ e ∷ []) input l → AllByRecursion (λ x. BringsNone x.number es e) before → AllByRecursion (λ x. BringsNone x.number es e) behind → s.devices ≡ client (es ++ e ∷ []) ∷ [] → AllByRecursion Keeps s.live → HaveWays es s.live → IsAdvanced es →
    SessionsAgree es s.live → ((isn : ℕ) (i : LoginInfo) → l.kind ≡ iscsi isn i → SessionCame (es ++ e ∷ []) input l isn i) → AllTake s.devices input (l ∷ []) put after over → TakenSo (es ++ e ∷ []) put over
one_brought es e s input before l behind put after over u keeps taken a lives come front back d kept ways adv sessions came all =
    let had = λ (z : Live). HadWay z.number es (live_opening z) in
    one_reasons s.devices input l put after over all (es ++ e ∷ []) taken d come (all_of Keeps before l behind (subst (AllByRecursion Keeps) lives kept))
    (way_stays l.number es (es ++ e ∷ []) (live_opening l) (grown es (e ∷ [])) (all_of had before l behind (subst (AllByRecursion had) lives ways)))
    (message_placed es e input l u keeps (back_of es before (l ∷ behind) (subst (AreLive es) lives a.each)).0 (all_of (AgreesSession es) before l behind (subst (SessionsAgree es) lives sessions)) came adv (none_elsewhere es e s before l behind u a lives front back))

-- WHAT THE NETWORK DOES

pub network_reasons : (es : List Event) (s : State) (n : ℕ) (r : In) (put : List Out) (s2 : State) (over : List Over) (net : Network s n r put s2 over) (a : AgreesState es s) → AgreesDevice es s → AllByRecursion Keeps s.live →
    HaveWays es s.live → IsAdvanced es → SessionsAgree es s.live → TakenSo (es ++ network_event s n r put s2 over net ∷ []) put over
network_reasons es s n r put s2 over (passes_by r0 device bytes link m (on_net0 b) got_it is none) a d kept ways adv w =
    let e = hears n b m in
    let nothing_comes = none_at es e s tt a (none_for es n b m s.live a.each none) in
    record {
      reasons = beside_reasons es s n b m link a (link_is es s link d got_it) (used_advanced es e tt tt nothing_comes adv);
      answers = tt;
    }
network_reasons es s n r put s2 over (brings r0 device bytes link p x before behind after l put0 over0 (on_net0 b) got_it is lives here front back all) a d kept ways adv w =
    let each0 : AreLive es (before ++ l ∷ behind) = subst (AreLive es) lives a.each in
    let own = back_of es before (l ∷ behind) each0 in
    one_brought es (hears n b (datagram p x)) s (message n x.src_port x.body s.now) before l behind put after over tt tt tt a lives (one_comes es s n b p x l a own.0 here)
    (none_datagram es n b p x before (front_of es before (l ∷ behind) each0) front) (none_datagram es n b p x behind own.1 back)
    (d ∙ ap (λ c. c ∷ []) (sym (client_hears es n b (datagram p x)))) kept ways adv w (λ isn i is. tt) all
network_reasons es s n r put s2 over (brings_reply r0 device bytes link p x before behind after l put0 over0 (on_net0 b) got_it is lives here front back all) a d kept ways adv w =
    let each0 : AreLive es (before ++ l ∷ behind) = subst (AreLive es) lives a.each in
    let own = back_of es before (l ∷ behind) each0 in
    one_brought es (hears n b (echo_reply p x)) s (message n x.ident x.body s.now) before l behind put after over tt tt tt a lives (one_replies es s n b p x l a own.0 here)
    (none_reply es n b p x before (front_of es before (l ∷ behind) each0) front) (none_reply es n b p x behind own.1 back)
    (d ∙ ap (λ c. c ∷ []) (sym (client_hears es n b (echo_reply p x)))) kept ways adv w (λ isn i is. tt) all
network_reasons es s n r put s2 over (brings_segment r0 device bytes link from p g before behind after l put0 over0 (on_net0 b) got_it is lives here front back all) a d kept ways adv w =
    let each0 : AreLive es (before ++ l ∷ behind) = subst (AreLive es) lives a.each in
    let own = back_of es before (l ∷ behind) each0 in
    one_brought es (hears n b (segment from p g)) s (tcp_segment n g s.now) before l behind put after over tt tt tt a lives (one_segment es s n b from p g l a own.0 here)
    (none_segment es n b from p g before (front_of es before (l ∷ behind) each0) front) (none_segment es n b from p g behind own.1 back)
    (d ∙ ap (λ c. c ∷ []) (sym (client_hears es n b (segment from p g)))) kept ways adv w
    (λ isn i is. segment_session es s n b from p g l isn i a own.0 here (subst (λ z. AgreesBy es z l) is (all_of (AgreesSession es) before l behind (subst (SessionsAgree es) lives w)))) all
network_reasons es s n r put s2 over (passes_time ms after put0 over0 all) a d kept ways adv w =
    let e = waits n ms in
    all_reasons s.devices (s.now + ms) s.live put after over all (es ++ e ∷ []) (d ∙ ap (λ c. c ∷ []) (sym (client_waits es n ms))) (times_come es n ms s s.live a.time a.each) a.apart kept
    (ways_used es e s.live ways) (time_advanced es n ms adv) (times_sessions es n ms s s.live a.time a.each w)
  where
    ways_used : (es : List Event) (e : Event) (ls : List Live) → HaveWays es ls → HaveWays (es ++ e ∷ []) ls
    ways_used es e [] w = tt
    ways_used es e (l ∷ ls) w = (way_stays l.number es (es ++ e ∷ []) (live_opening l) (grown es (e ∷ [])) w.0, ways_used es e ls w.1)
