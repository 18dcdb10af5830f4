-- A record is used: what the history says of the drives' sessions then. Each that lives agrees, but one at most that has become known by this, and
-- is asked for its first block.
use Rattle.std.proofs.Common.{◌≡◌, ℕ, ◌+◌, ◌==◌, ◌||◌, Bool, true, false, List, [], ◌∷◌, ◌++◌, None, refl, sym, ◌∙◌, ap, subst, append_assoc, append-nil, add-zero}
use Rattle.std.specs.List.{AllByRecursion}
use Rattle.std.specs.Option.{is_some}
use Rattle.std.proofs.lemmas.Bool.{eqb-true}
use Rattle.nb_defs.specs.Records.{In, Out}
use Rattle.nb_login.specs.declared.info.LoginInfo.{LoginInfo}
use Rattle.nb_stack.specs.Client.{Client}
use Rattle.nb_stack.specs.Brings.{datagram, echo_reply, segment}
use Rattle.nb_streams.proofs.FlowLaws.{all_append}
use Rattle.nb_talks.specs.Talking.{by_segment}
use Rattle.nb_tcpseg.specs.SegmentText.{SegmentParts}
use Rattle.nb_ipv4.specs.PacketText.{PacketParts}
use Rattle.nb_wire.specs.declared.address.Mac.{Mac}
use Rattle.nb_tftp.proofs.BlockLemmas.{either_way}
use Rattle.nb_machine.specs.CommandRecords.{reply_records}
use Rattle.nb_machine.specs.Connections.{arrived_segment}
use Rattle.nb_machine.specs.Kinds.{KeepsBy, answered, answered_by, is_segment_for, reply_beside}
use Rattle.nb_machine.specs.Lives.{OpenKind, tftp, http, iscsi, dns, dhcp, ping, OpenInput, message, tcp_segment, Exchange, exchange, Live, continued}
use Rattle.nb_machine.specs.Network.{on_net0, Network, passes_by, brings, brings_reply, brings_segment, passes_time}
use Rattle.nb_machine.specs.States.{State, net0}
use Rattle.nb_machine.specs.Takings.{end_among, Over, AllTake, all_have, lives_on, is_over}
use Rattle.nb_laws.specs.Events.{Event, hears, waits}
use Rattle.nb_laws.specs.Lists.{time}
use Rattle.nb_laws.proofs.DriveEvents.{session_tries_by, told_nothing}
use Rattle.nb_laws.proofs.DriveTalks.{IsNoCommand}
use Rattle.nb_laws.proofs.Histories.{time_more}
use Rattle.nb_laws.proofs.Tellings.{told, KeepsHardware}
use Rattle.nb_openlaws.specs.Standings.{AgreesLive, AreLive, lives_among, HaveOwnNumbers, AgreesState}
use Rattle.nb_openlaws.specs.Sessions.{AgreesBy, AgreesSession, SessionsAgree}
use Rattle.nb_openlaws.proofs.HeardFrames.{found, none_datagram, none_reply, none_for, none_segment, none_at}
use Rattle.nb_openlaws.proofs.Takings.{due_told}
use Rattle.nb_laws.specs.Frames.{IsDue}
use Rattle.nb_openlaws.proofs.Networks.{network_event, one_segment, front_of, back_of, apart_front, apart_back}
use Rattle.nb_openlaws.proofs.OpenRecords.{AreLater, AreOf, kept_puts}
use Rattle.nb_openlaws.proofs.SessionAnswers.{SaysBy, SessionsOver}
use Rattle.nb_openlaws.proofs.SessionComings.{segment_session, times_sessions}
use Rattle.nb_openlaws.proofs.SessionStands.{SessionNext, stays, asks, segment_goes}
use Rattle.nb_openlaws.proofs.SessionSteps.{then_session, told_session, used_session, taken_session, over_says, kept_last, times_taken}
use Rattle.nb_openlaws.proofs.SessionsDue.{SessionDue, ComesBy, sessions_on, quiet_of}
use Rattle.nb_openlaws.proofs.UsedEvents.{IsUsed, BringsNone}

-- WHAT HOLDS THEN

-- each agrees; or one has become known, and the others agree
pub data SessionsThen (es : List Event) (s s2 : State) : Type 0 where
  none_sized : SessionsAgree es s2.live → SessionsThen es s s2
  one_sized : (before behind : List Live) (l : Live) (x : Exchange) (isn : ℕ) (i : LoginInfo) → s.live ≡ before ++ l ∷ behind → s2.live ≡ before ++ continued l x ∷ behind → l.kind ≡ iscsi isn i →
      is_some (answered l) ≡ false → is_some (answered (continued l x)) ≡ true → SessionsAgree es before → (d : SessionDue es (continued l x) isn i s2.now) → d.boots ≡ true → SessionsAgree es behind →
      IsDue l.number es → SessionsThen es s s2

pub record NetworkSessions (es : List Event) (s s2 : State) (over : List Over) : Type 0 where
  pub live : SessionsThen es s s2
  pub ended : SessionsOver es over

-- ONE TAKES A SEGMENT

abbrev NextBy : List Event → OpenKind → Live → Exchange → ℕ → Type 0
NextBy es tftp l x now = Unit {0}
NextBy es (http isn) l x now = Unit {0}
NextBy es (iscsi isn i) l x now = SessionNext es l x isn i now
NextBy es (dns id) l x now = Unit {0}
NextBy es (dhcp a) l x now = Unit {0}
NextBy es ping l x now = Unit {0}

segment_next : (kind : OpenKind) (es : List Event) (l : Live) (link : Client) (put : List Out) (rec : ℕ) (g : SegmentParts) (now : ℕ) → KeepsBy kind (continued l (exchange (tcp_segment rec g now) link put)) → end_among l.number put ≡ None →
    time es ≡ now → AreOf l.number put →
    ComesBy es kind l (by_segment (arrived_segment rec g) now) → NextBy (es ++ told put) kind l (exchange (tcp_segment rec g now) link put) now
segment_next tftp es l link put rec g now keeps none at of come = tt
segment_next (http isn) es l link put rec g now keeps none at of come = tt
segment_next (iscsi isn i) es l link put rec g now keeps none at of come =
    let x = exchange (tcp_segment rec g now) link put in segment_goes es l isn i x rec g now (kept_last isn i l x keeps) none refl at (quiet_of l.number l.number es put of) come
segment_next (dns id) es l link put rec g now keeps none at of come = tt
segment_next (dhcp y) es l link put rec g now keeps none at of come = tt
segment_next ping es l link put rec g now keeps none at of come = tt

segment_over : (kind : OpenKind) (es : List Event) (l : Live) (link : Client) (put : List Out) (rec : ℕ) (g : SegmentParts) (now : ℕ) → AreOf l.number put → ComesBy es kind l (by_segment (arrived_segment rec g) now) →
    SaysBy (es ++ told put) kind (continued l (exchange (tcp_segment rec g now) link put))
segment_over tftp es l link put rec g now of come = tt
segment_over (http isn) es l link put rec g now of come = tt
segment_over (iscsi isn i) es l link put rec g now of come = over_says es l isn i (exchange (tcp_segment rec g now) link put) (by_segment (arrived_segment rec g) now) refl (quiet_of l.number l.number es put of) come
segment_over (dns id) es l link put rec g now of come = tt
segment_over (dhcp y) es l link put rec g now of come = tt
segment_over ping es l link put rec g now of come = tt

-- no datagram comes to a session
message_next : (kind : OpenKind) (es : List Event) (l : Live) (link : Client) (put : List Out) (rec port : ℕ) (body : List ℕ) (now : ℕ) → KeepsBy kind (continued l (exchange (message rec port body now) link put)) →
    AgreesBy es kind (continued l (exchange (message rec port body now) link put))
message_next tftp es l link put rec port body now keeps = tt
message_next (http isn) es l link put rec port body now keeps = tt
message_next (iscsi isn i) es l link put rec port body now keeps = absurd (kept_last isn i l (exchange (message rec port body now) link put) keeps).puts
message_next (dns id) es l link put rec port body now keeps = tt
message_next (dhcp y) es l link put rec port body now keeps = tt
message_next ping es l link put rec port body now keeps = tt

message_over : (kind : OpenKind) (es : List Event) (l : Live) (link : Client) (put : List Out) (rec port : ℕ) (body : List ℕ) (now : ℕ) → KeepsBy kind (continued l (exchange (message rec port body now) link put)) →
    SaysBy es kind (continued l (exchange (message rec port body now) link put))
message_over tftp es l link put rec port body now keeps = tt
message_over (http isn) es l link put rec port body now keeps = tt
message_over (iscsi isn i) es l link put rec port body now keeps = absurd (kept_last isn i l (exchange (message rec port body now) link put) keeps).puts
message_over (dns id) es l link put rec port body now keeps = tt
message_over (dhcp y) es l link put rec port body now keeps = tt
message_over ping es l link put rec port body now keeps = tt

-- THE OTHERS

-- a number that lives among those before or after another isn't its own
pub not_its : (k j : ℕ) (ls : List Live) → lives_among k ls ≡ false → lives_among j ls ≡ true → (k == j) ≡ false
not_its k j ls none some = either_way (k == j) (λ here. absurd (let never : true ≡ false = sym some ∙ subst (λ z. lives_among z ls ≡ false) (eqb-true k j here) none in cc)) (λ other. other)

pub or_none : (b : Bool) → b ≡ false → (b || false) ≡ false
or_none b e = ap (λ z. z || false) e

-- one took what this event brought, and the others nothing
others_so : (es : List Event) (e : Event) (devices : List Client) (input : OpenInput) (l : Live) (put : List Out) (after : List Live) (over : List Over) (ls : List Live) → IsUsed e → KeepsHardware e →
    AllTake devices input (l ∷ []) put after over → lives_among l.number ls ≡ false →
    AllByRecursion (λ x. BringsNone x.number es e) ls → SessionsAgree es ls → SessionsAgree ((es ++ e ∷ []) ++ told put) ls
others_so es e devices input l put after over ls u keeps all away none w =
    sessions_on es ((es ++ e ∷ []) ++ told put) ls
    (λ j some. then_session j es (es ++ e ∷ []) ((es ++ e ∷ []) ++ told put) (used_session j es e u keeps (found (λ z. BringsNone z es e) j ls none some))
    (taken_session devices input (l ∷ []) put after over all j (or_none (l.number == j) (not_its l.number j ls away some)) (es ++ e ∷ []))) w

pub parts_agree : (es : List Event) (xs ys : List Live) → SessionsAgree es (xs ++ ys) → SessionsAgree es xs × SessionsAgree es ys
parts_agree es [] ys w = (tt, w)
parts_agree es (x ∷ xs) ys w = let rest = parts_agree es xs ys w.1 in ((w.0, rest.0), rest.1)

-- A DATAGRAM

datagram_so : (es : List Event) (e : Event) (s : State) (rec port : ℕ) (body : List ℕ) (before : List Live) (l : Live) (behind : List Live) (put : List Out) (after : List Live) (over : List Over) → IsUsed e → KeepsHardware e →
    AgreesState es s → s.live ≡ before ++ l ∷ behind →
    AllByRecursion (λ x. BringsNone x.number es e) before → AllByRecursion (λ x. BringsNone x.number es e) behind → AllTake s.devices (message rec port body s.now) (l ∷ []) put after over → SessionsAgree es s.live →
    SessionsAgree ((es ++ e ∷ []) ++ told put) (before ++ after ++ behind) × SessionsOver ((es ++ e ∷ []) ++ told put) over
datagram_so es e s rec port body before l behind put after over u keeps_so a lives front back all w =
    let es2 = (es ++ e ∷ []) ++ told put in
    let own = subst HaveOwnNumbers lives a.apart in
    let parts = parts_agree es before (l ∷ behind) (subst (SessionsAgree es) lives w) in
    let first = others_so es e s.devices (message rec port body s.now) l put after over before u keeps_so all (apart_front before l behind own) front parts.0 in
    let last = others_so es e s.devices (message rec port body s.now) l put after over behind u keeps_so all (apart_back before l behind own) back parts.1.1 in
    let taken = by es2 put after over all in
    (all_append (AgreesSession es2) (before ++ after) behind (all_append (AgreesSession es2) before after first taken.0) last, taken.1)
  where
    by : (es2 : List Event) (put : List Out) (after : List Live) (over : List Over) → AllTake s.devices (message rec port body s.now) (l ∷ []) put after over → SessionsAgree es2 after × SessionsOver es2 over
    by es2 put0 after0 over0 (lives_on l0 ls after1 link put1 more over1 got_it keeps none all_have) = ((message_next l.kind es2 l link put1 rec port body s.now keeps, tt), tt)
    by es2 put0 after0 over0 (is_over l0 ls after1 link put1 more over1 cause got_it keeps some all_have) = (tt, (message_over l.kind es2 l link put1 rec port body s.now keeps, tt))

-- A SEGMENT

segment_so : (es : List Event) (e : Event) (s : State) (rec : ℕ) (g : SegmentParts) (before : List Live) (l : Live) (behind : List Live) (put : List Out) (after : List Live) (over : List Over) (s2 : State) → IsUsed e → KeepsHardware e →
    time (es ++ e ∷ []) ≡ s.now → s2.now ≡ s.now → AgreesState es s →
    s.live ≡ before ++ l ∷ behind → s2.live ≡ before ++ after ++ behind → AllByRecursion (λ x. BringsNone x.number es e) before → AllByRecursion (λ x. BringsNone x.number es e) behind →
    AllTake s.devices (tcp_segment rec g s.now) (l ∷ []) put after over →
    ComesBy (es ++ e ∷ []) l.kind l (by_segment (arrived_segment rec g) s.now) → IsDue l.number (es ++ e ∷ []) → SessionsAgree es s.live → NetworkSessions ((es ++ e ∷ []) ++ told put) s s2 over
segment_so es e s rec g before l behind put after over s2 u keeps_so at same a lives lives2 front back all come brought w = by put after over all lives2 first last
  where
    own : HaveOwnNumbers (before ++ l ∷ behind)
    own = subst HaveOwnNumbers lives a.apart

    first : SessionsAgree ((es ++ e ∷ []) ++ told put) before
    first = others_so es e s.devices (tcp_segment rec g s.now) l put after over before u keeps_so all (apart_front before l behind own) front (parts_agree es before (l ∷ behind) (subst (SessionsAgree es) lives w)).0

    last : SessionsAgree ((es ++ e ∷ []) ++ told put) behind
    last = others_so es e s.devices (tcp_segment rec g s.now) l put after over behind u keeps_so all (apart_back before l behind own) back (parts_agree es before (l ∷ behind) (subst (SessionsAgree es) lives w)).1.1

    -- one that isn't asked
    each : (es2 : List Event) (x : Exchange) → s2.live ≡ before ++ (continued l x ∷ []) ++ behind → AgreesSession es2 (continued l x) → SessionsAgree es2 before → SessionsAgree es2 behind → SessionsThen es2 s s2
    each es2 x now_lives agrees f b =
        none_sized (subst (SessionsAgree es2) (sym now_lives) (all_append (AgreesSession es2) (before ++ continued l x ∷ []) behind (all_append (AgreesSession es2) before (continued l x ∷ []) f (agrees, tt)) b))

    drive_so : (es2 : List Event) (x : Exchange) (isn : ℕ) (i : LoginInfo) → IsDue l.number es2 → l.kind ≡ iscsi isn i → s2.live ≡ before ++ (continued l x ∷ []) ++ behind → SessionNext es2 l x isn i s.now → SessionsAgree es2 before →
        SessionsAgree es2 behind → SessionsThen es2 s s2
    drive_so es2 x isn i brought is now_lives (stays agrees) f b = each es2 x now_lives (subst (λ z. AgreesBy es2 z (continued l x)) (sym is) agrees) f b
    drive_so es2 x isn i brought is now_lives (asks d booting unknown known) f b =
        let due = subst (λ z. (q : SessionDue es2 (continued l x) isn i z) × (q.boots ≡ true)) (sym same) (d, booting) in
        one_sized before behind l x isn i lives (now_lives ∙ append_assoc before (continued l x ∷ []) behind) is (ap (λ k. is_some (answered_by k l)) is ∙ unknown)
        (ap (λ k. is_some (answered_by k (continued l x))) is ∙ known) f due.0 due.1 b brought

    -- by what it is
    next_so : (es2 : List Event) (x : Exchange) (kind : OpenKind) → IsDue l.number es2 → l.kind ≡ kind → s2.live ≡ before ++ (continued l x ∷ []) ++ behind → NextBy es2 kind l x s.now → SessionsAgree es2 before → SessionsAgree es2 behind →
        SessionsThen es2 s s2
    next_so es2 x tftp brought is now_lives next f b = each es2 x now_lives (subst (λ z. AgreesBy es2 z (continued l x)) (sym is) tt) f b
    next_so es2 x (http isn) brought is now_lives next f b = each es2 x now_lives (subst (λ z. AgreesBy es2 z (continued l x)) (sym is) tt) f b
    next_so es2 x (iscsi isn i) brought is now_lives next f b = drive_so es2 x isn i brought is now_lives next f b
    next_so es2 x (dns id) brought is now_lives next f b = each es2 x now_lives (subst (λ z. AgreesBy es2 z (continued l x)) (sym is) tt) f b
    next_so es2 x (dhcp y) brought is now_lives next f b = each es2 x now_lives (subst (λ z. AgreesBy es2 z (continued l x)) (sym is) tt) f b
    next_so es2 x ping brought is now_lives next f b = each es2 x now_lives (subst (λ z. AgreesBy es2 z (continued l x)) (sym is) tt) f b

    by : (put : List Out) (after : List Live) (over : List Over) → AllTake s.devices (tcp_segment rec g s.now) (l ∷ []) put after over → s2.live ≡ before ++ after ++ behind → SessionsAgree ((es ++ e ∷ []) ++ told put) before →
        SessionsAgree ((es ++ e ∷ []) ++ told put) behind →
        NetworkSessions ((es ++ e ∷ []) ++ told put) s s2 over
    by put0 after0 over0 (lives_on l0 ls after1 link put1 more over1 got_it keeps none all_have) now_lives f b =
        let x = exchange (tcp_segment rec g s.now) link put1 in
        let es1 = es ++ e ∷ [] in
        let of = (kept_puts l x keeps).of in
        let next = subst (λ z. NextBy (es1 ++ told z) l.kind l x s.now) (sym (append-nil put1)) (segment_next l.kind es1 l link put1 rec g s.now keeps none at of come) in
        record { live = next_so (es1 ++ told (put1 ++ [])) x l.kind (due_told l.number es1 (put1 ++ []) brought) refl now_lives next f b; ended = tt }
    by put0 after0 over0 (is_over l0 ls after1 link put1 more over1 cause got_it keeps some all_have) now_lives f b =
        let es1 = es ++ e ∷ [] in
        let x = exchange (tcp_segment rec g s.now) link put1 in
        let of = (kept_puts l x keeps).of in
        record {
          live = none_sized (subst (SessionsAgree (es1 ++ told (put1 ++ []))) (sym (now_lives ∙ ap (λ z. z ++ behind) (append-nil before))) (all_append (AgreesSession (es1 ++ told (put1 ++ []))) before behind f b));
          ended = (subst (λ z. SaysBy (es1 ++ told z) l.kind (continued l x)) (sym (append-nil put1)) (segment_over l.kind es1 l link put1 rec g s.now of come), tt);
        }

-- WHAT THE NETWORK DOES

reply_none : (j now : ℕ) (bytes : List ℕ) → session_tries_by j now (reply_records bytes) ≡ []
reply_none j now [] = refl
reply_none j now (b ∷ bytes) = refl

reply_plain : (bytes : List ℕ) → AllByRecursion IsNoCommand (reply_records bytes)
reply_plain [] = tt
reply_plain (b ∷ bytes) = (tt, tt)

reply_later : (bytes : List ℕ) → AreLater (reply_records bytes)
reply_later [] = tt
reply_later (b ∷ bytes) = (tt, tt)

session_comes : (es : List Event) (s : State) (n : ℕ) (b : List ℕ) (from : Mac) (p : PacketParts) (g : SegmentParts) (l : Live) (kind : OpenKind) → AgreesState es s → AgreesLive es l → is_segment_for net0 p g l ≡ true → AgreesBy es kind l →
    ComesBy (es ++ hears n b (segment from p g) ∷ []) kind l (by_segment (arrived_segment n g) s.now)
session_comes es s n b from p g l tftp a own here w = tt
session_comes es s n b from p g l (http isn) a own here w = tt
session_comes es s n b from p g l (iscsi isn i) a own here w = segment_session es s n b from p g l isn i a own here w
session_comes es s n b from p g l (dns id) a own here w = tt
session_comes es s n b from p g l (dhcp y) a own here w = tt
session_comes es s n b from p g l ping a own here w = tt

-- A record is used, where nothing was outstanding.
pub network_sessions : (es : List Event) (s : State) (n : ℕ) (r : In) (put : List Out) (s2 : State) (over : List Over) (net : Network s n r put s2 over) → AgreesState es s → SessionsAgree es s.live →
    NetworkSessions ((es ++ network_event s n r put s2 over net ∷ []) ++ told put) s s2 over
network_sessions es s n r put s2 over (passes_by r0 device bytes link m (on_net0 b) got is none) a w =
    let e = hears n b m in
    let es1 = es ++ e ∷ [] in
    let reply = reply_beside net0 s.live link m in
    let outs = reply_records reply in
    let nothing = none_at es e s tt a (none_for es n b m s.live a.each none) in
    record {
      live = none_sized (sessions_on es (es1 ++ told outs) s.live
          (λ j some. then_session j es es1 (es1 ++ told outs) (used_session j es e tt tt (nothing j)) (told_session j es1 outs (reply_later reply) (told_nothing es1 outs (reply_plain reply)) (reply_none j (time es1) reply))) w);
      ended = tt;
    }
network_sessions es s n r put s2 over (brings r0 device bytes link p d before behind after l put0 over0 (on_net0 b) got is lives here front back all) a w =
    let each0 : AreLive es (before ++ l ∷ behind) = subst (AreLive es) lives a.each in
    let own = back_of es before (l ∷ behind) each0 in
    let t = datagram_so es (hears n b (datagram p d)) s n d.src_port d.body before l behind put after over tt tt a lives
    (none_datagram es n b p d before (front_of es before (l ∷ behind) each0) front) (none_datagram es n b p d behind own.1 back) all w in
    record { live = none_sized t.0; ended = t.1 }
network_sessions es s n r put s2 over (brings_reply r0 device bytes link p x before behind after l put0 over0 (on_net0 b) got is lives here front back all) a w =
    let each0 : AreLive es (before ++ l ∷ behind) = subst (AreLive es) lives a.each in
    let own = back_of es before (l ∷ behind) each0 in
    let t = datagram_so es (hears n b (echo_reply p x)) s n x.ident x.body before l behind put after over tt tt a lives
    (none_reply es n b p x before (front_of es before (l ∷ behind) each0) front) (none_reply es n b p x behind own.1 back) all w in
    record { live = none_sized t.0; ended = t.1 }
network_sessions es s n r put s2 over (brings_segment r0 device bytes link from p g before behind after l put0 over0 (on_net0 b) got is lives here front back all) a w =
    let each0 : AreLive es (before ++ l ∷ behind) = subst (AreLive es) lives a.each in
    let own = back_of es before (l ∷ behind) each0 in
    let its = (parts_agree es before (l ∷ behind) (subst (SessionsAgree es) lives w)).1.0 in
    segment_so es (hears n b (segment from p g)) s n g before l behind put after over s2 tt tt (time_more es (hears n b (segment from p g)) ∙ add-zero (time es) ∙ a.time) refl a lives refl
    (none_segment es n b from p g before (front_of es before (l ∷ behind) each0) front) (none_segment es n b from p g behind own.1 back) all (session_comes es s n b from p g l l.kind a own.0 here its)
    (one_segment es s n b from p g l a own.0 here).due w
network_sessions es s n r put s2 over (passes_time ms after put0 over0 all) a w =
    let e = waits n ms in
    let t = times_taken s.devices (s.now + ms) s.live put after over all (es ++ e ∷ []) (time_more es e ∙ ap (λ z. z + ms) a.time) a.apart (times_sessions es n ms s s.live a.time a.each w) in
    record { live = none_sized t.0; ended = t.1 }
