-- What the history says of the drives' sessions that have ended, and of one that is asked for its first block.
use Rattle.std.proofs.Common.{◌≡◌, ◌⊎◌, inl, inr, ℕ, Bool, true, false, List, [], ◌∷◌, ◌++◌, Option, option_and_then, IsSome, refl, sym, ◌∙◌, ap, subst, append_assoc, append-nil}
use Rattle.std.specs.List.{AllByRecursion}
use Rattle.std.specs.Option.{is_some}
use Rattle.nb_defs.specs.Causes.{is_ok_cause}
use Rattle.nb_defs.specs.Records.{In, Out}
use Rattle.nb_login.specs.declared.info.LoginInfo.{LoginInfo}
use Rattle.nb_stack.specs.Client.{Client}
use Rattle.nb_streams.proofs.FlowLaws.{all_append}
use Rattle.nb_drivecmd.specs.declared.drive.Drive.{Drive}
use Rattle.nb_machine.specs.Courses.{Standing, AsksBlock, ReadsBlock}
use Rattle.nb_machine.specs.Drives.{first_block_read, last_read, session_of, session_answered}
use Rattle.nb_machine.specs.Kinds.{answered, answered_by, read_last}
use Rattle.nb_machine.specs.Lives.{OpenInput, task, iscsi, kind_number, Exchange, exchange, Live, continued}
use Rattle.nb_machine.specs.Network.{Network, passes_by, brings, brings_reply, brings_segment, passes_time}
use Rattle.nb_machine.specs.Running.{Running}
use Rattle.nb_machine.specs.States.{State}
use Rattle.nb_machine.specs.Takings.{Over, AllTake, all_have, lives_on, is_over}
use Rattle.nb_laws.specs.Cores.{has_its_answer}
use Rattle.nb_laws.specs.Drives.{SessionOpening, sessions, session_at, session_so_far, answered_so_far}
use Rattle.nb_laws.specs.Endings.{HadWay}
use Rattle.nb_laws.specs.Events.{Event}
use Rattle.nb_laws.specs.Frames.{IsDue}
use Rattle.nb_laws.specs.Progress.{IsAdvanced}
use Rattle.nb_laws.proofs.Tellings.{told, sessions_more}
use Rattle.nb_openlaws.specs.OpenReasons.{HaveWays}
use Rattle.nb_openlaws.specs.Sessions.{session_of_live, SessionsAgree, SessionsStand}
use Rattle.nb_openlaws.specs.Standings.{live_opening, HaveOwnNumbers, AgreesState, AgreesDevice}
use Rattle.nb_openlaws.proofs.AllReasons.{TakenSo}
use Rattle.nb_openlaws.proofs.KeptOpens.{around}
use Rattle.nb_openlaws.proofs.Networks.{asks_agrees}
use Rattle.nb_openlaws.proofs.SessionAnswers.{TalksSo, talks_alike, talks_ahead, SessionSays, SaysBy, SessionsOver, says_answered, says_unread, unread_unasked}
use Rattle.nb_openlaws.proofs.SessionAsks.{DueBy, asks_sessions, asks_reasons}
use Rattle.nb_openlaws.proofs.SessionMoves.{reads_sessions}
use Rattle.nb_openlaws.proofs.SessionTalks.{answer_by}
use Rattle.nb_openlaws.proofs.SessionsDue.{SessionDue}
use Rattle.nb_lawful.specs.ScriptAgreement.{IsNoTask, AreUnasked, WasSession}
use Rattle.nb_lawful.proofs.Asked.{AsksWell}
use Rattle.nb_lawful.proofs.Awaited.{snoc_both, TookAlone, alone_on, alone_last, took_alone}
use Rattle.nb_lawful.proofs.DriveAnswers.{SaysSession, TellsSession}
use Rattle.nb_lawful.proofs.Opened.{was_on}
use Rattle.nb_lawful.proofs.Plain.{take_each, amid_all, apart_amid}
use Rattle.nb_lawful.proofs.Stepping.{same_place}
use Rattle.nb_lawful.proofs.Unasked.{unasked_so}

-- HOW A SESSION WAS MADE

-- later events only add to what opened so
sessions_grow : (k : ℕ) (a since : List Event) → (more : List SessionOpening) × (sessions k (a ++ since) ≡ sessions k a ++ more)
sessions_grow k a [] = ([], ap (sessions k) (append-nil a) ∙ sym (append-nil (sessions k a)))
sessions_grow k a (e ∷ since) =
    let r = sessions_grow k (a ++ e ∷ []) since in (
      session_at k a e ++ r.0,
      ap (sessions k) (sym (append_assoc a (e ∷ []) since)) ∙ r.1 ∙ ap (λ z. z ++ r.0) (sessions_more k a e) ∙ append_assoc (sessions k a) (session_at k a e) r.0,
    )

-- so whether its command boots its disk stays
pub was_boots : (boots_it : Bool) (k : ℕ) (es : List Event) (s : SessionOpening) → WasSession boots_it k es → sessions k es ≡ s ∷ [] → s.boots ≡ boots_it
was_boots boots_it k es s w is =
    let g = sessions_grow k w.before w.since in
    let all : s ∷ [] ≡ w.session ∷ g.0 = sym is ∙ ap (sessions k) w.all ∙ g.1 ∙ ap (λ z. z ++ g.0) w.is in
    let same : s ≡ w.session = cc in
    ap (λ (x : SessionOpening). x.boots) same ∙ w.so

pub not_both : (k : ℕ) (es : List Event) (s : SessionOpening) → WasSession false k es → sessions k es ≡ s ∷ [] → s.boots ≡ true → ⊥
not_both k es s w is boots_it = let no : true ≡ false = sym boots_it ∙ was_boots false k es s w is in cc no

-- WHAT IS KNOWN OF THOSE THAT LIVE

-- its capacity is known, or its command doesn't boot its disk
abbrev pub IsReadable : List Event → Live → Type 0
IsReadable es l = IsSome (answered l) ⊎ WasSession false l.number es

-- or nothing was asked of it
abbrev pub Fits : List Event → Live → Type 0
Fits es l = AreUnasked l.exchanges ⊎ IsReadable es l

-- the same of one that has taken something then
pub data FitsThen (es : List Event) (l : Live) : Type 0 where
  then_unasked : AreUnasked l.exchanges → FitsThen es l
  then_known : (earlier : List Exchange) (x : Exchange) → l.exchanges ≡ earlier ++ x ∷ [] → IsSome (answered (record l { exchanges = earlier })) → FitsThen es l
  then_kept : WasSession false l.number es → FitsThen es l

readable_then : (es : List Event) (l : Live) (x : Exchange) → IsReadable es l → FitsThen es (continued l x)
readable_then es l x (inl known) = then_known l.exchanges x refl known
readable_then es l x (inr was) = then_kept was

fits_then : (es : List Event) (input : OpenInput) → IsNoTask input → (l : Live) (x : Exchange) → x.came ≡ input → Fits es l → FitsThen es (continued l x)
fits_then es input none l x came (inl u) = then_unasked (all_append (λ (y : Exchange). IsNoTask y.came) l.exchanges (x ∷ []) u (subst IsNoTask (sym came) none, tt))
fits_then es input none l x came (inr r) = readable_then es l x r

-- what the history says of it, if it is a session
pub says_then : (es : List Event) (l : Live) (isn : ℕ) (i : LoginInfo) → l.kind ≡ iscsi isn i → SessionSays es l isn i → FitsThen es l → SaysSession es l
says_then es l isn i kind w fit = record { session = session_of_live l i w.boots; is = w.is; answers = says_answered es l isn i w kind; reads = by fit }
  where
    alike : session_so_far l.number (session_of_live l i w.boots) es ≡ session_of isn i l → option_and_then last_read (answered_so_far l.number (session_of_live l i w.boots) es) ≡ read_last l
    alike same =
        ap (λ v. option_and_then last_read (answer_by l.server i v (session_so_far l.number (session_of_live l i w.boots) es))) (sym w.word)
        ∙ ap (λ z. option_and_then last_read (answer_by l.server i isn z)) same ∙ sym (ap (λ k. option_and_then last_read (answered_by k l)) kind)

    known : (earlier : List Exchange) (x : Exchange) → l.exchanges ≡ earlier ++ x ∷ [] → IsSome (answered (record l { exchanges = earlier })) → TalksSo es l isn i w.boots → option_and_then last_read (answered_so_far l.number (session_of_live l i w.boots) es) ≡ read_last l
    known earlier x at some (talks_alike same) = alike same
    known earlier x at some (talks_ahead now boots_it front last parts before same) =
        let here : earlier ≡ front = (snoc_both earlier front x last (sym at ∙ parts)).0 in
        absurd (let no : false ≡ true = sym before ∙ ap (λ z. is_some (session_answered isn i (record l { exchanges = z }))) (sym here) ∙ ap (λ k. is_some (answered_by k (record l { exchanges = earlier }))) (sym kind) ∙ some in cc no)

    kept : WasSession false l.number es → TalksSo es l isn i w.boots → option_and_then last_read (answered_so_far l.number (session_of_live l i w.boots) es) ≡ read_last l
    kept was (talks_alike same) = alike same
    kept was (talks_ahead now boots_it front last parts before same) = absurd (not_both l.number es (session_of_live l i w.boots) was w.is boots_it)

    by : FitsThen es l → option_and_then last_read (answered_so_far l.number (session_of_live l i w.boots) es) ≡ read_last l
    by (then_unasked u) = says_unread es l isn i w (unasked_so l.exchanges u) ∙ sym (unread_unasked l isn i kind (unasked_so l.exchanges u))
    by (then_known earlier x at some) = known earlier x at some w.talk
    by (then_kept was) = kept was w.talk

-- of those that have ended
pub told_each : (es : List Event) (over : List Over) → SessionsOver es over → AllByRecursion (λ o. FitsThen es o.live) over → AllByRecursion (λ o. TellsSession es o.live) over
told_each es [] says fit = tt
told_each es (o ∷ over) says fit = ((λ isn i kind. says_then es o.live isn i kind (subst (λ k. SaysBy es k o.live) kind says.0) fit.0), told_each es over says.1 fit.1)

-- WHAT A RECORD LEAVES OF IT

over_fits : (es : List Event) (devices : List Client) (input : OpenInput) → IsNoTask input → (ls : List Live) (put : List Out) (after : List Live) (over : List Over) → AllTake devices input ls put after over → AllByRecursion (Fits es) ls →
    AllByRecursion (λ o. FitsThen es o.live) over
over_fits es devices input none ls put after over all_have h = tt
over_fits es devices input none ls0 put0 after0 over0 (lives_on l ls after link put more over got keeps lasts rest) h = over_fits es devices input none ls more after over rest h.1
over_fits es devices input none ls0 put0 after0 over0 (is_over l ls after link put more over cause got keeps some rest) h = (fits_then es input none l (exchange input link put) refl h.0, over_fits es devices input none ls more after over rest h.1)

one_fits : (es : List Event) (devices : List Client) (input : OpenInput) (live before behind after : List Live) (l : Live) (put : List Out) (over : List Over) → IsNoTask input → live ≡ before ++ l ∷ behind →
    AllTake devices input (l ∷ []) put after over → AllByRecursion (Fits es) live →
    AllByRecursion (λ o. FitsThen es o.live) over
one_fits es devices input live before behind after l put over none is takes h = over_fits es devices input none (l ∷ []) put after over takes (amid_all (Fits es) before behind l (subst (AllByRecursion (Fits es)) is h), tt)

pub network_fits : (es : List Event) (s s' : State) (n : ℕ) (r : In) (put : List Out) (over : List Over) → Network s n r put s' over → AllByRecursion (Fits es) s.live → AllByRecursion (λ o. FitsThen es o.live) over
network_fits es s s' n r put over (passes_by _ device bytes link m on got brought none) h = tt
network_fits es s s' n r put over (brings _ device bytes link p d before behind after l _ _ on got brought is mine before_none behind_none takes) h = one_fits es _ _ s.live before behind after l put over tt is takes h
network_fits es s s' n r put over (brings_reply _ device bytes link p e before behind after l _ _ on got brought is mine before_none behind_none takes) h = one_fits es _ _ s.live before behind after l put over tt is takes h
network_fits es s s' n r put over (brings_segment _ device bytes link from p g before behind after l _ _ on got brought is mine before_none behind_none takes) h = one_fits es _ _ s.live before behind after l put over tt is takes h
network_fits es s s' n r put over (passes_time ms after _ _ takes) h = over_fits es _ _ tt s.live put after over takes h

-- what each that lives has, whatever it takes but a task
abbrev Stays : (Live → Type 0) → Type 0
Stays P = (input : OpenInput) → IsNoTask input → (l : Live) (x : Exchange) → x.came ≡ input → P l → P (continued l x)

one_stays : (P : Live → Type 0) → Stays P → (devices : List Client) (input : OpenInput) (live before behind after : List Live) (l : Live) (put : List Out) (over : List Over) → IsNoTask input → live ≡ before ++ l ∷ behind →
    AllTake devices input (l ∷ []) put after over →
    AllByRecursion P live → AllByRecursion P (before ++ after ++ behind)
one_stays P stays devices input live before behind after l put over none is takes h =
    around P live before behind after l is (take_each P devices input (stays input none) (l ∷ []) put after over takes (amid_all P before behind l (subst (AllByRecursion P) is h), tt)) h

pub network_stays : (P : Live → Type 0) → Stays P → (s s' : State) (n : ℕ) (r : In) (put : List Out) (over : List Over) → Network s n r put s' over → AllByRecursion P s.live → AllByRecursion P s'.live
network_stays P stays s s' n r put over (passes_by _ device bytes link m on got brought none) h = h
network_stays P stays s s' n r put over (brings _ device bytes link p d before behind after l _ _ on got brought is mine before_none behind_none takes) h = one_stays P stays _ _ s.live before behind after l put over tt is takes h
network_stays P stays s s' n r put over (brings_reply _ device bytes link p e before behind after l _ _ on got brought is mine before_none behind_none takes) h = one_stays P stays _ _ s.live before behind after l put over tt is takes h
network_stays P stays s s' n r put over (brings_segment _ device bytes link from p g before behind after l _ _ on got brought is mine before_none behind_none takes) h = one_stays P stays _ _ s.live before behind after l put over tt is takes h
network_stays P stays s s' n r put over (passes_time ms after _ _ takes) h = take_each P _ _ (stays _ tt) s.live put after over takes h

-- WHERE THERE WAS A WAY

-- they had it, and so they do after more events
had_way : (es more : List Event) (l : Live) → HadWay l.number es (live_opening l) → HadWay l.number (es ++ more) (live_opening l)
had_way es more l h = record { before = h.before; since = h.since ++ more; all = ap (λ z. z ++ more) h.all ∙ append_assoc h.before h.since more; opened = h.opened; goes = h.goes }

pub have_ways : (es more : List Event) (ls : List Live) → HaveWays es ls → HaveWays (es ++ more) ls
have_ways es more [] h = tt
have_ways es more (l ∷ ls) h = (had_way es more l h.0, have_ways es more ls h.1)

-- ONE IS ASKED

-- the session that is due, and the others, which aren't
pub record DueHere (es : List Event) (s : State) (l : Live) : Type 0 where
  pub before : List Live
  pub behind : List Live
  pub isn : ℕ
  pub i : LoginInfo
  pub parted : s.live ≡ before ++ l ∷ behind
  pub kind : l.kind ≡ iscsi isn i
  pub readable : IsReadable es l
  pub front : SessionsAgree es before
  pub due : SessionDue es l isn i s.now
  pub back : SessionsAgree es behind
  pub is_due : IsDue l.number es

asked_place : (es : List Event) (s s' : State) (l : Live) (number : ℕ) (put : List Out) (over : List Over) (h : DueHere es s l) → AgreesState es s → (q : AsksBlock s number put s' over) → number ≡ l.number →
    (q.before ≡ h.before) × (q.l ≡ l) × (q.behind ≡ h.behind)
asked_place es s s' l number put over h a q same =
    let away = apart_amid h.before h.behind l (subst HaveOwnNumbers h.parted a.apart) in
    same_place q.before q.behind h.before h.behind q.l l (sym q.parted ∙ h.parted) (q.its ∙ same) away.0 away.1

-- all that is put by it has its reasons
pub asked_so : (es : List Event) (s s' : State) (l : Live) (number : ℕ) (put : List Out) (over : List Over) → DueHere es s l → AgreesState es s → AgreesDevice es s → HaveWays es s.live → IsAdvanced es → AsksBlock s number put s' over →
    number ≡ l.number → TakenSo es put over
asked_so es s s' l number put over h a device ways advanced q same =
    let p = asked_place es s s' l number put over h a q same in
    asks_reasons es s s' number put over q h.isn h.i (ap (λ (z : Live). z.kind) p.1 ∙ h.kind) a device ways advanced (subst (λ (z : Live). IsDue z.number es) (sym p.1) h.is_due) (subst (λ z. SessionDue es z h.isn h.i s.now) (sym p.1) h.due)

-- what the history says of the sessions then
pub asked_sessions : (es : List Event) (s s' : State) (l : Live) (number : ℕ) (put : List Out) (over : List Over) → DueHere es s l → AgreesState es s → AsksBlock s number put s' over → number ≡ l.number →
    SessionsAgree (es ++ told put) s'.live × SessionsOver (es ++ told put) over
asked_sessions es s s' l number put over h a q same =
    let p = asked_place es s s' l number put over h a q same in
    asks_sessions es s s' number put over q a (subst (SessionsAgree es) (sym p.0) h.front) (subst (SessionsAgree es) (sym p.2) h.back)
    (subst (λ (z : Live). DueBy es z.kind z s.now) (sym p.1) (subst (λ k. DueBy es k l s.now) (sym h.kind) h.due))

pub asked_stand : (es : List Event) (s : State) (l : Live) (inner : Running) (outer : List Running) (number : ℕ) (d : Option Drive) (put : List Out) (p : Standing) → DueHere es s l → AgreesState es s →
    (r : ReadsBlock s inner outer number d put p) → number ≡ l.number → SessionsStand (es ++ told put) p
asked_stand es s l inner outer number d put p h a r same =
    let at = asked_place es s r.next l number r.asked r.over h a r.asks same in
    reads_sessions es s inner outer number d put p r a (subst (SessionsAgree es) (sym at.0) h.front) (subst (SessionsAgree es) (sym at.2) h.back)
    (subst (λ (z : Live). DueBy es z.kind z s.now) (sym at.1) (subst (λ k. DueBy es k l s.now) (sym h.kind) h.due))

-- whether it ends by that, or lives on
pub asked_well : (es : List Event) (s : State) (l : Live) (number : ℕ) → DueHere es s l → AgreesState es s → AgreesDevice es s → HaveWays es s.live → IsAdvanced es → number ≡ l.number → AsksWell es s number
asked_well es s l number h a device ways advanced same put s' over q =
    let w = asked_sessions es s s' l number put over h a q same in
    let t = asked_so es s s' l number put over h a device ways advanced q same in
    let r = by (took_alone _ _ _ _ _ _ q.takes) t w.1 in
    record { base = asks_agrees es s s' number put over q a; settled = w.0; tells = r.0; bad = r.1 }
  where
    es2 : List Event
    es2 = es ++ told put

    its : q.l ≡ l
    its = (asked_place es s s' l number put over h a q same).1

    kind : q.l.kind ≡ iscsi h.isn h.i
    kind = ap (λ (z : Live). z.kind) its ∙ h.kind

    readable : IsReadable es q.l → IsReadable es2 q.l
    readable (inl known) = inl known
    readable (inr was) = inr (was_on false q.l.number es (told put) was)

    by : TookAlone (task first_block_read s.now) q.l put q.after over → TakenSo es put over → SessionsOver es2 over → AllByRecursion (λ o. TellsSession es2 o.live) over × AllByRecursion (λ o. is_ok_cause o.cause ≡ false) over
    by (alone_on x came after_is over_is beside) t w = subst (λ z. AllByRecursion (λ (o : Over). TellsSession es2 o.live) z × AllByRecursion (λ (o : Over). is_ok_cause o.cause ≡ false) z) (sym over_is) (tt, tt)
    by (alone_last x cause front came after_is over_is is beside) t w =
        let l1 = continued q.l x in
        let ends = (subst (λ z. AllByRecursion (λ (o : Over). is_ok_cause o.cause ≡ has_its_answer o.live.number (live_opening o.live) es2) z) over_is t.answers).0 in
        let says = (subst (SessionsOver es2) over_is w).0 in
        subst (λ z. AllByRecursion (λ (o : Over). TellsSession es2 o.live) z × AllByRecursion (λ (o : Over). is_ok_cause o.cause ≡ false) z) (sym over_is) (
          ((λ isn i k. says_then es2 l1 isn i k (subst (λ z. SaysBy es2 z l1) k says) (readable_then es2 q.l x (readable (subst (IsReadable es) (sym its) h.readable)))), tt),
          (ends ∙ ap (λ k. has_its_answer l1.number (record { kind = kind_number k; server = l1.server; port = l1.port; own = l1.own; target = l1.target; since = l1.since }) es2) kind, tt),
        )
