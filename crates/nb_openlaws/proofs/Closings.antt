-- Opens that live are closed: each has its ENDED, and why it has it.
use Rattle.std.proofs.Common.{◌≡◌, ℕ, ◌==◌, true, false, List, [], ◌∷◌, ◌++◌, Some, refl, sym, ◌∙◌, ap, subst, append_assoc, append-nil, ne_eqb}
use Rattle.std.specs.Prelude.{slice_get}
use Rattle.std.specs.List.{AllByRecursion}
use Rattle.std.proofs.lemmas.List.{map-append}
use Rattle.nb_terms.specs.declared.cause.Cause.{Cause}
use Rattle.nb_defs.specs.Causes.{is_ok_cause}
use Rattle.nb_defs.specs.Records.{Out, ended, step, sent}
use Rattle.nb_stack.specs.Client.{Client}
use Rattle.nb_machine.specs.Lives.{OpenKind, tftp, http, iscsi, dns, dhcp, ping, close, Exchange, exchange, Live, continued}
use Rattle.nb_machine.specs.Kinds.{KeepsBy, Keeps, is_connection}
use Rattle.nb_machine.specs.Takings.{Over, AllTake, all_have, lives_on, is_over}
use Rattle.nb_machine.specs.CommandRecords.{stopped_cause}
use Rattle.nb_laws.specs.Events.{Event, puts}
use Rattle.nb_laws.specs.Histories.{client}
use Rattle.nb_laws.specs.Lists.{hardware, openings}
use Rattle.nb_laws.specs.Progress.{IsAdvanced}
use Rattle.nb_laws.proofs.Tellings.{told, advanced_more}
use Rattle.nb_openlaws.specs.Standings.{live_opening, heard_call, IsKindBy, ComesToOwnPort, IsOngoing, AgreesLive, AreLive, lives_among, HaveOwnNumbers}
use Rattle.nb_laws.specs.Endings.{WhyClosed, by_unhooking}
use Rattle.nb_laws.specs.Hookings.{LetsGo}
use Rattle.nb_openlaws.specs.OpenEndings.{EndsBecause, by_itself}
use Rattle.nb_openlaws.specs.OpenReasons.{OpenReasons}
use Rattle.nb_openlaws.specs.Sessions.{AgreesBy, AgreesSession, SessionsAgree}
use Rattle.nb_openlaws.proofs.SessionsDue.{other_session, sessions_on}
use Rattle.nb_streams.proofs.FlowLaws.{all_append}
use Rattle.nb_openlaws.proofs.OpenRecords.{AreOf, left, of_later, kept_puts, IsFrame, AreLater, IsLater}
use Rattle.nb_openlaws.proofs.NetworkDevices.{client_some, some_of}
use Rattle.nb_openlaws.proofs.LastEntries.{LastAs, took_as, closed_as, last_as}
use Rattle.nb_openlaws.proofs.KindFacts.{opening_as}
use Rattle.nb_openlaws.proofs.AllReasons.{link_of}
use Rattle.nb_openlaws.proofs.WebClosings.{web_closes}
use Rattle.nb_openlaws.proofs.SessionClosings.{drive_closes}
use Rattle.nb_openlaws.proofs.Takings.{grown, others_same}
use Rattle.nb_openlaws.proofs.UsedEvents.{live_one}
use Rattle.nb_openlaws.proofs.LiveStates.{all_same}
use Rattle.nb_openlaws.proofs.Sendings.{no_reasons, reasons_then}
use Rattle.nb_openlaws.proofs.Puts.{puts_so, IsClosing, AreClosing, frames_close, closed_put}
use Rattle.nb_openlaws.proofs.KeptOpens.{AreKept, live_unanswered}
use Rattle.nb_openlaws.proofs.SessionSendings.{closes_with_all, closes_alone}
use Rattle.nb_login.specs.declared.info.LoginInfo.{LoginInfo}

-- why each ends, and its connection is closed: after any frames and ends with this cause
abbrev pub EndsFor : Cause → List Event → Type 0
EndsFor cause es = (closings : List Out) → AreClosing cause closings → ((k : ℕ) → EndsBecause k (es ++ told closings) cause) × WhyClosed (es ++ told closings)

pub ended_advanced : (es : List Event) (k : ℕ) (cause : Cause) → IsAdvanced es → IsAdvanced (es ++ puts (ended k cause) ∷ [])
ended_advanced es k cause a = advanced_more es (puts (ended k cause)) tt (λ j. refl) (λ j. refl) (λ j. refl) (λ j. refl) a

-- one that has no connection is closed
end_closes : (es : List Event) (l : Live) (cause : Cause) → is_ok_cause cause ≡ false → AgreesLive es l → Keeps l → IsAdvanced es → EndsFor cause es → OpenReasons es (ended l.number cause ∷ [])
end_closes es l cause bad a k advanced why = record {
  ends = ((subst (λ z. EndsBecause l.number z cause) (append-nil es) ((why [] tt).0 l.number), live_opening l, live_one l.number es (live_opening l) a.opening a.lives, bad ∙ sym (live_unanswered es l a k)), tt);
  frames = (tt, tt);
  advances = (advanced, tt);
  tries = (tt, tt);
  after = ended_advanced es l.number cause advanced;
}

datagrams_close : (kind : OpenKind) (l : Live) (x : Exchange) (cause : Cause) → is_connection kind ≡ false → x.came ≡ close cause → KeepsBy kind (continued l x) → AllByRecursion (IsOngoing kind l.number l.own) l.exchanges → ComesToOwnPort kind l.own (close cause) → x.put ≡ ended l.number cause ∷ []
datagrams_close kind l x cause plain came keeps going own = by (last_as kind l x plain keeps going (subst (ComesToOwnPort kind l.own) (sym came) own))
  where
    by : LastAs kind l x → x.put ≡ ended l.number cause ∷ []
    by (took_as h call acts t) = absurd (let none : [] ≡ call ∷ [] = sym (ap (heard_call kind) came) ∙ t.heard in cc)
    by (closed_as other is put) = let both : close other ≡ close cause = sym is ∙ came in let same : other ≡ cause = cc in put ∙ ap (λ z. ended l.number z ∷ []) same

kind_closes : (kind : OpenKind) (es : List Event) (l : Live) (x : Exchange) (cause : Cause) → l.kind ≡ kind → x.came ≡ close cause → is_ok_cause cause ≡ false → client es ≡ x.link → AgreesLive es l → AgreesSession es l → Keeps l →
    KeepsBy kind (continued l x) → IsAdvanced es → EndsFor cause es → OpenReasons es x.put
kind_closes tftp es l x cause is came bad same a w k keeps advanced why =
    subst (λ z. OpenReasons es z) (sym (datagrams_close tftp l x cause refl came keeps (subst (λ z. AllByRecursion (IsOngoing z l.number l.own) l.exchanges) is a.goes_on) tt)) (end_closes es l cause bad a k advanced why)
kind_closes (http isn) es l x cause is came bad same a w k keeps advanced why =
    web_closes es l x isn cause came bad same (subst (λ z. IsKindBy (hardware es) l.number z (opening_as z l)) is a.kind_is) (a.opening ∙ ap (λ z. opening_as z l ∷ []) is) a.lives a.streams (subst (λ z. KeepsBy z l) is k) keeps
    (subst (λ z. AllByRecursion (IsOngoing z l.number l.own) l.exchanges) is a.goes_on) advanced (subst WhyClosed (append-nil es) (why [] tt).1) (λ frames alone. (why frames (frames_close cause frames alone)).0 l.number)
kind_closes (iscsi isn i) es l x cause is came bad same a w k keeps advanced why =
    drive_closes es l x isn i cause came bad same (subst (λ z. IsKindBy (hardware es) l.number z (opening_as z l)) is a.kind_is) (a.opening ∙ ap (λ z. opening_as z l ∷ []) is) a.lives (subst (λ z. AgreesBy es z l) is w) keeps
    advanced (closes_with_all (subst WhyClosed (append-nil es) (why [] tt).1)) (λ frames alone. (why frames (frames_close cause frames alone)).0 l.number)
kind_closes (dns id) es l x cause is came bad same a w k keeps advanced why =
    subst (λ z. OpenReasons es z) (sym (datagrams_close (dns id) l x cause refl came keeps (subst (λ z. AllByRecursion (IsOngoing z l.number l.own) l.exchanges) is a.goes_on) tt)) (end_closes es l cause bad a k advanced why)
kind_closes (dhcp b) es l x cause is came bad same a w k keeps advanced why =
    subst (λ z. OpenReasons es z) (sym (datagrams_close (dhcp b) l x cause refl came keeps (subst (λ z. AllByRecursion (IsOngoing z l.number l.own) l.exchanges) is a.goes_on) tt)) (end_closes es l cause bad a k advanced why)
kind_closes ping es l x cause is came bad same a w k keeps advanced why =
    subst (λ z. OpenReasons es z) (sym (datagrams_close ping l x cause refl came keeps (subst (λ z. AllByRecursion (IsOngoing z l.number l.own) l.exchanges) is a.goes_on) tt)) (end_closes es l cause bad a k advanced why)

why_on : (es : List Event) (put : List Out) (cause : Cause) → AreClosing cause put → EndsFor cause es → EndsFor cause (es ++ told put)
why_on es put cause of why closings all =
    let more = why (put ++ closings) (all_append (IsClosing cause) put closings of all) in
    let same : es ++ told (put ++ closings) ≡ (es ++ told put) ++ told closings = ap (λ z. es ++ z) (map-append puts put closings) ∙ sym (append_assoc es (told put) (told closings)) in
    (λ j. subst (λ z. EndsBecause j z cause) same (more.0 j), subst WhyClosed same more.1)

apart_from : (k j : ℕ) (ls : List Live) → lives_among k ls ≡ false → lives_among j ls ≡ true → (k == j) ≡ false
apart_from k j ls none some = ne_eqb k j (λ same. absurd (let no : false ≡ true = sym none ∙ ap (λ z. lives_among z ls) same ∙ some in cc no))

-- the others live on
others_live : (es : List Event) (k : ℕ) (put : List Out) (ls : List Live) → AreOf k put → lives_among k ls ≡ false → AreLive es ls → AreLive (es ++ told put) ls
others_live es k put ls of none a =
    let f = left es put (of_later k put of) in
    all_same es (es ++ told put) ls (grown es (told put)) f.made_is f.hardware_is (λ j some. others_same es k j put of (apart_from k j ls none some)) a

-- and so do their sessions
others_agree : (es : List Event) (k : ℕ) (put : List Out) (ls : List Live) → AreOf k put → lives_among k ls ≡ false → SessionsAgree es ls → SessionsAgree (es ++ told put) ls
others_agree es k put ls of none w = sessions_on es (es ++ told put) ls (λ j some. other_session k j es put of (apart_from k j ls none some)) w

-- one, of several
one_closes : (devices : List Client) (es : List Event) (l : Live) (link : Client) (cause : Cause) (put : List Out) → devices ≡ client es ∷ [] → slice_get devices l.device ≡ Some link → is_ok_cause cause ≡ false → AgreesLive es l →
    AgreesSession es l → Keeps l →
    Keeps (continued l (exchange (close cause) link put)) → IsAdvanced es → EndsFor cause es → OpenReasons es put
one_closes devices es l link cause put d got_it bad a w k keeps advanced why = kind_closes l.kind es l (exchange (close cause) link put) cause refl refl bad (link_of es devices l link d a.on_net0 got_it) a w k keeps advanced why

-- all are closed
pub closes_reasons : (devices : List Client) (cause : Cause) (ls : List Live) (put : List Out) (after : List Live) (over : List Over) → AllTake devices (close cause) ls put after over → is_ok_cause cause ≡ false →
    (es : List Event) → devices ≡ client es ∷ [] → AreLive es ls → HaveOwnNumbers ls → AreKept ls → IsAdvanced es → EndsFor cause es → SessionsAgree es ls → OpenReasons es put
closes_reasons devices cause ls put after over all_have bad es d a apart kept advanced why w = no_reasons es advanced
closes_reasons devices cause ls0 put0 after0 over0 (lives_on l ls after link put more over got_it keeps_so none rest) bad es d a apart kept advanced why w =
    let of = (kept_puts l (exchange (close cause) link put) keeps_so).of in
    let one = one_closes devices es l link cause put d got_it bad a.0 w.0 kept.0 keeps_so advanced why in
    let closing = closed_put l.number cause link put (puts_so l (exchange (close cause) link put) keeps_so) in
    reasons_then es put more one
    (closes_reasons devices cause ls more after over rest bad (es ++ told put) (d ∙ ap (λ c. c ∷ []) (sym (client_some es put (some_of l.number put of)))) (others_live es l.number put ls of apart.0 a.1) apart.1 kept.1 one.after (why_on es put cause closing why) (others_agree es l.number put ls of apart.0 w.1))
closes_reasons devices cause ls0 put0 after0 over0 (is_over l ls after link put more over c got_it keeps_so some rest) bad es d a apart kept advanced why w =
    let of = (kept_puts l (exchange (close cause) link put) keeps_so).of in
    let one = one_closes devices es l link cause put d got_it bad a.0 w.0 kept.0 keeps_so advanced why in
    let closing = closed_put l.number cause link put (puts_so l (exchange (close cause) link put) keeps_so) in
    reasons_then es put more one
    (closes_reasons devices cause ls more after over rest bad (es ++ told put) (d ∙ ap (λ c. c ∷ []) (sym (client_some es put (some_of l.number put of)))) (others_live es l.number put ls of apart.0 a.1) apart.1 kept.1 one.after (why_on es put cause closing why) (others_agree es l.number put ls of apart.0 w.1))

-- A DRIVE IS LET GO

-- why: after any frames and ends of those that are closed with it
abbrev pub LetsGoFor : ℕ → List Event → Type 0
LetsGoFor k es = (closings : List Out) → AreClosing stopped_cause closings → LetsGo k (es ++ told closings)

-- an open that is a drive's
abbrev pub IsDrives : Live → Type 0
IsDrives l = (isn : ℕ) × (i : LoginInfo) × (l.kind ≡ iscsi isn i)

-- so it is of each of these
abbrev pub AreLetGo : List Event → List Live → Type 0
AreLetGo es ls = AllByRecursion (λ l. IsDrives l × LetsGoFor l.number es) ls

go_on : (es : List Event) (put : List Out) (ls : List Live) → AreClosing stopped_cause put → AreLetGo es ls → AreLetGo (es ++ told put) ls
go_on es put [] of h = tt
go_on es put (l ∷ ls) of h = (
  (
    h.0.0,
    λ closings all.
        let same : es ++ told (put ++ closings) ≡ (es ++ told put) ++ told closings = ap (λ z. es ++ z) (map-append puts put closings) ∙ sym (append_assoc es (told put) (told closings)) in
        subst (LetsGo l.number) same (h.0.1 (put ++ closings) (all_append (IsClosing stopped_cause) put closings of all)),
  ),
  go_on es put ls of h.1,
)

frames_later : (outs : List Out) → AllByRecursion IsFrame outs → AreLater outs
frames_later [] h = tt
frames_later (o ∷ outs) h = (one o h.0, frames_later outs h.1)
  where
    one : (x : Out) → IsFrame x → IsLater x
    one (sent bytes) h = tt
    one (step number) h = absurd h
    one _ h = absurd h

one_let_go : (devices : List Client) (es : List Event) (l : Live) (link : Client) (put : List Out) → devices ≡ client es ∷ [] → slice_get devices l.device ≡ Some link → AgreesLive es l → AgreesSession es l →
    Keeps (continued l (exchange (close stopped_cause) link put)) →
    IsAdvanced es → IsDrives l × LetsGoFor l.number es → OpenReasons es put
one_let_go devices es l link put d got_it a w keeps advanced ((isn, i, is), why) =
    drive_closes es l (exchange (close stopped_cause) link put) isn i stopped_cause refl refl (link_of es devices l link d a.on_net0 got_it) (subst (λ z. IsKindBy (hardware es) l.number z (opening_as z l)) is a.kind_is)
    (a.opening ∙ ap (λ z. opening_as z l ∷ []) is) a.lives (subst (λ z. AgreesBy es z l) is w) (subst (λ z. KeepsBy z (continued l (exchange (close stopped_cause) link put))) is keeps)
    advanced (closes_alone (subst (LetsGo l.number) (append-nil es) (why [] tt)))
    (λ frames alone.
    let es1 = es ++ told frames in
    let same : openings l.number es1 ≡ opening_as (iscsi isn i) l ∷ [] = (left es frames (frames_later frames alone)).openings_is l.number ∙ a.opening ∙ ap (λ z. opening_as z l ∷ []) is in
    by_itself (by_unhooking (opening_as (iscsi isn i) l) (record { opening = same; kind_is = refl }) refl (why frames (frames_close stopped_cause frames alone))))

-- they are closed, and put what each puts
pub let_go_reasons : (devices : List Client) (ls : List Live) (put : List Out) (after : List Live) (over : List Over) → AllTake devices (close stopped_cause) ls put after over →
    (es : List Event) → devices ≡ client es ∷ [] → AreLive es ls → HaveOwnNumbers ls → IsAdvanced es → AreLetGo es ls → SessionsAgree es ls → OpenReasons es put
let_go_reasons devices ls put after over all_have es d a apart advanced why w = no_reasons es advanced
let_go_reasons devices ls0 put0 after0 over0 (lives_on l ls after link put more over got_it keeps_so none rest) es d a apart advanced why w =
    let of = (kept_puts l (exchange (close stopped_cause) link put) keeps_so).of in
    let one = one_let_go devices es l link put d got_it a.0 w.0 keeps_so advanced why.0 in
    let closing = closed_put l.number stopped_cause link put (puts_so l (exchange (close stopped_cause) link put) keeps_so) in
    reasons_then es put more one
    (let_go_reasons devices ls more after over rest (es ++ told put) (d ∙ ap (λ c. c ∷ []) (sym (client_some es put (some_of l.number put of)))) (others_live es l.number put ls of apart.0 a.1) apart.1 one.after (go_on es put ls closing why.1) (others_agree es l.number put ls of apart.0 w.1))
let_go_reasons devices ls0 put0 after0 over0 (is_over l ls after link put more over c got_it keeps_so some rest) es d a apart advanced why w =
    let of = (kept_puts l (exchange (close stopped_cause) link put) keeps_so).of in
    let one = one_let_go devices es l link put d got_it a.0 w.0 keeps_so advanced why.0 in
    let closing = closed_put l.number stopped_cause link put (puts_so l (exchange (close stopped_cause) link put) keeps_so) in
    reasons_then es put more one
    (let_go_reasons devices ls more after over rest (es ++ told put) (d ∙ ap (λ c. c ∷ []) (sym (client_some es put (some_of l.number put of)))) (others_live es l.number put ls of apart.0 a.1) apart.1 one.after (go_on es put ls closing why.1) (others_agree es l.number put ls of apart.0 w.1))
