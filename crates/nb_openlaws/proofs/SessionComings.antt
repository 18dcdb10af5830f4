-- A record is used: what comes to the drives' sessions then.
use Rattle.std.proofs.Common.{◌≡◌, ℕ, ◌+◌, true, List, [], ◌∷◌, ◌++◌, map, refl, ◌∙◌, ap}
use Rattle.std.specs.List.{flat_map}
use Rattle.nb_ipv4.specs.PacketText.{PacketParts}
use Rattle.nb_tcpseg.specs.SegmentText.{SegmentParts}
use Rattle.nb_wire.specs.declared.address.Mac.{Mac}
use Rattle.nb_stack.specs.Brings.{segment}
use Rattle.nb_login.specs.declared.info.LoginInfo.{LoginInfo}
use Rattle.nb_talks.specs.Talking.{by_segment, by_time}
use Rattle.nb_machine.specs.Connections.{arrived_segment}
use Rattle.nb_machine.specs.Kinds.{is_segment_for}
use Rattle.nb_machine.specs.Lives.{OpenKind, tftp, http, iscsi, dns, dhcp, ping, Live}
use Rattle.nb_machine.specs.States.{State, net0}
use Rattle.nb_laws.specs.Drives.{comes_so}
use Rattle.nb_laws.specs.Events.{Event, hears, waits}
use Rattle.nb_laws.specs.Lists.{Opening, time}
use Rattle.nb_laws.proofs.DriveEvents.{hears_session, waits_session}
use Rattle.nb_openlaws.specs.Standings.{live_opening, AgreesLive, AreLive, AgreesState}
use Rattle.nb_openlaws.specs.Sessions.{SessionAgrees, AgreesBy, SessionsAgree}
use Rattle.nb_openlaws.proofs.Networks.{segment_comes}
use Rattle.nb_openlaws.proofs.SessionsDue.{SessionComes, ComesBy, AllSessionsCome, comes_now}
use Rattle.nb_openlaws.proofs.UsedEvents.{live_one}

-- a segment
pub segment_session : (es : List Event) (s : State) (n : ℕ) (b : List ℕ) (from : Mac) (p : PacketParts) (g : SegmentParts) (l : Live) (isn : ℕ) (i : LoginInfo) → AgreesState es s → AgreesLive es l → is_segment_for net0 p g l ≡ true →
    SessionAgrees es l isn i →
    SessionComes (es ++ hears n b (segment from p g) ∷ []) l isn i (by_segment (arrived_segment n g) s.now)
segment_session es s n b from p g l isn i a own here w =
    let m = segment from p g in
    let come = hears_session l.number es n b m (by_segment (arrived_segment n g) s.now ∷ []) (segment_comes es s n b from p g l a own here) in
    comes_now es (hears n b m) l isn i (by_segment (arrived_segment n g) s.now) tt refl come (ap (map comes_so) come) w

-- a time, to each
time_session : (es : List Event) (n ms now : ℕ) (l : Live) (kind : OpenKind) → time es + ms ≡ now → AgreesLive es l → AgreesBy es kind l → ComesBy (es ++ waits n ms ∷ []) kind l (by_time now)
time_session es n ms now l tftp at own w = tt
time_session es n ms now l (http isn) at own w = tt
time_session es n ms now l (iscsi isn i) at own w =
    let one = ap (λ (os : List Opening). flat_map (λ x. by_time (time es + ms) ∷ []) os) (live_one l.number es (live_opening l) own.opening own.lives) ∙ ap (λ z. by_time z ∷ []) at in
    let come = waits_session l.number es n ms (by_time now ∷ []) one in
    comes_now es (waits n ms) l isn i (by_time now) tt refl come (ap (map comes_so) come) w
time_session es n ms now l (dns id) at own w = tt
time_session es n ms now l (dhcp x) at own w = tt
time_session es n ms now l ping at own w = tt

pub times_sessions : (es : List Event) (n ms : ℕ) (s : State) (ls : List Live) → time es ≡ s.now → AreLive es ls → SessionsAgree es ls → AllSessionsCome (es ++ waits n ms ∷ []) (by_time (s.now + ms)) ls
times_sessions es n ms s [] at h w = tt
times_sessions es n ms s (l ∷ ls) at h w = (time_session es n ms (s.now + ms) l l.kind (ap (λ z. z + ms) at) h.0 w.0, times_sessions es n ms s ls at h.1 w.1)
