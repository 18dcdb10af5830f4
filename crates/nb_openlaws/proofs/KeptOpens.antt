-- Each open that lives keeps its promises, wherever a course stands; and so what it asks for hasn't come.
use Rattle.std.proofs.Common.{◌≡◌, ℕ, ◌+◌, ◌==◌, Bool, true, false, ◌||◌, List, [], ◌∷◌, ◌++◌, Option, Some, None, refl, sym, ◌∙◌, ap, subst, not}
use Rattle.std.specs.List.{AllByRecursion}
use Rattle.std.proofs.lemmas.Bool.{eqb-true}
use Rattle.std.specs.Prelude.{filter}
use Rattle.nb_tftp.proofs.BlockLemmas.{either_way}
use Rattle.nb_defs.specs.Records.{In, Out}
use Rattle.nb_tftp.specs.Asks.{Begun}
use Rattle.nb_tftp.specs.Sentences.{Meets}
use Rattle.nb_stack.specs.Client.{Client}
use Rattle.nb_machine.specs.Conclusions.{Conclusion, keeps, tells, fails, boots, runs_script}
use Rattle.nb_settings.specs.Tables.{TableLists}
use Rattle.nb_machine.specs.Effects.{Effect}
use Rattle.nb_machine.specs.Errands.{Wanted, Onward, fetches_now, echoes_now, looks_up_now, hooks_now}
use Rattle.nb_machine.specs.Queries.{Query, for_lease, for_echo, for_host, for_address}
use Rattle.nb_machine.specs.Running.{Running, entered, anew}
use Rattle.nb_streams.proofs.FlowLaws.{all_append}
use Rattle.nb_machine.specs.Lives.{OpenKind, tftp, http, iscsi, dns, dhcp, ping, OpenInput, Live}
use Rattle.nb_machine.specs.Transfers as transfers
use Rattle.nb_machine.specs.Cores as cores
use Rattle.nb_machine.specs.Kinds.{Keeps, KeepsBy, is_connection}
use Rattle.nb_machine.specs.Findings.{first_word}
use Rattle.nb_uri.specs.declared.target.UriTarget.{UriTarget}
use Rattle.nb_uri.specs.declared.target.UriTarget.TheVariants.{Tftp, Http, Iscsi}
use Rattle.nb_machine.specs.Webs.{request_at}
use Rattle.nb_readings.specs.Ends.{is_whole}
use Rattle.nb_webs.specs.Webs.{response_come}
use Rattle.nb_machine.specs.States.{State, with_images, with_settings}
use Rattle.nb_terms.specs.declared.cause.Cause.{Cause}
use Rattle.nb_defs.specs.ScriptLines.{script_reading}
use Rattle.nb_imagecmd.specs.declared.outcome.ScriptImage.{ScriptImage}
use Rattle.nb_machine.specs.FirstText.{text_refusal}
use Rattle.nb_drivecmd.specs.declared.drive.Drive.{Drive}
use Rattle.nb_machine.specs.Takings.{Over, AllTake, all_have, lives_on, is_over}
use Rattle.nb_machine.specs.Network.{Network, passes_by, brings, brings_reply, brings_segment, passes_time}
use Rattle.nb_machine.specs.Scripts.{Job, transfer_kind, transfer_for, live_for, live_onward, Upshot, concludes, settles, goes_onward, concluded_by, hooks_drive, reads_drive, boots_drive_by}
use Rattle.nb_machine.specs.Courses as course
use Rattle.nb_machine.specs.Courses.{Standing, Progress, text_standing, ScriptLeads, ConclusionLeads, LeadsTo, StepBegins, Proceeds, Course, DropsDrive, AsksBlock, ReadsBlock, block_standing, is_drives_own}
use Rattle.nb_laws.specs.Events.{Event}
use Rattle.nb_laws.specs.Lists.{hardware, Opening, live, calls}
use Rattle.nb_laws.specs.Webs.{brought_to, talk_by}
use Rattle.nb_laws.specs.Cores.{answers_open, has_its_answer}
use Rattle.nb_laws.specs.Progress.{NoneIsAnswered}
use Rattle.nb_laws.proofs.Calls.{got_same}
use Rattle.nb_openlaws.specs.Standings.{heard_calls, streamed, IsKindBy, IsOngoing, AgreesLive, AreLive, live_opening, lives_among, AgreesState}
use Rattle.nb_openlaws.proofs.UsedEvents.{live_one}
use Rattle.nb_openlaws.proofs.LastEntries.{did_so}
use Rattle.nb_openlaws.proofs.KindFacts.{by_datagrams, answer_as, opening_as, unanswered_as}
use Rattle.nb_openlaws.proofs.Requests.{calls_after, said_once}
use Rattle.nb_openlaws.proofs.WebStands.{goes_unwhole, web_goes, ongoing}
use Rattle.nb_openlaws.proofs.Doings.{ends_by, OpensBy, opens_transfer, opens_query, opens_by}
use Rattle.nb_openlaws.proofs.LiveParts.{all_filter}
use Rattle.nb_drivecmd.specs.HookedDrives.{is_drive}

abbrev pub AreKept : List Live → Type 0
AreKept ls = AllByRecursion Keeps ls

abbrev pub KeptAt : Standing → Type 0
KeptAt course.ready = Unit {0}
KeptAt (course.running s inner outer) = AreKept s.live
KeptAt (course.waiting s w) = AreKept s.live
KeptAt (course.reaching s inner outer next) = AreKept s.live
KeptAt (course.yielded s inner outer) = AreKept s.live
KeptAt (course.handing s rest) = AreKept s.live
KeptAt (course.left s outer cause) = AreKept s.live
KeptAt (course.handed_off s) = AreKept s.live
KeptAt (course.stopped s) = AreKept s.live

-- WHAT COMES TO THEM

taken_kept : (devices : List Client) (input : OpenInput) (ls : List Live) (put : List Out) (after : List Live) (over : List Over) → AllTake devices input ls put after over → AreKept after
taken_kept devices input ls put after over all_have = tt
taken_kept devices input ls0 put0 after0 over0 (lives_on l ls after link put more over got kept none rest) = (kept, taken_kept devices input ls more after over rest)
taken_kept devices input ls0 put0 after0 over0 (is_over l ls after link put more over cause got kept some rest) = taken_kept devices input ls more after over rest

pub all_front : {A : Type 0} (P : A → Type 0) (xs ys : List A) → AllByRecursion P (xs ++ ys) → AllByRecursion P xs
all_front P [] ys h = tt
all_front P (x ∷ xs) ys h = (h.0, all_front P xs ys h.1)

pub all_back : {A : Type 0} (P : A → Type 0) (xs ys : List A) → AllByRecursion P (xs ++ ys) → AllByRecursion P ys
all_back P [] ys h = h
all_back P (x ∷ xs) ys h = all_back P xs ys h.1

-- one takes, the others stay
pub around : (P : Live → Type 0) (live before behind after : List Live) (l : Live) → live ≡ before ++ l ∷ behind → AllByRecursion P after → AllByRecursion P live → AllByRecursion P (before ++ after ++ behind)
around P live before behind after l is h all =
    let parts = subst (AllByRecursion P) is all in
    all_append P (before ++ after) behind (all_append P before after (all_front P before (l ∷ behind) parts) h) (all_back P before (l ∷ behind) parts).1

pub network_kept : (s s' : State) (n : ℕ) (r : In) (put : List Out) (over : List Over) → Network s n r put s' over → AreKept s.live → AreKept s'.live
network_kept s s' n r put over (passes_by _ device bytes link m on got brought none) h = h
network_kept s s' n r put over (brings _ device bytes link p d before behind after l _ _ on got brought is mine before_none behind_none takes) h = around Keeps s.live before behind after l is (taken_kept _ _ _ _ _ _ takes) h
network_kept s s' n r put over (brings_reply _ device bytes link p e before behind after l _ _ on got brought is mine before_none behind_none takes) h = around Keeps s.live before behind after l is (taken_kept _ _ _ _ _ _ takes) h
network_kept s s' n r put over (brings_segment _ device bytes link from p g before behind after l _ _ on got brought is mine before_none behind_none takes) h = around Keeps s.live before behind after l is (taken_kept _ _ _ _ _ _ takes) h
network_kept s s' n r put over (passes_time ms after _ _ takes) h = taken_kept _ _ _ _ _ _ takes

-- A NEW OPEN

-- a transfer that has done nothing keeps its promises
meets_nothing : (b : Begun) (start : ℕ) → Meets b start []
meets_nothing b start = record { advance = refl; bytes = refl; whole = tt; sending = tt; tries = refl; unanswered = tt }

transfer_kept : (s : State) (wanted : Wanted) → Keeps (transfer_for s wanted)
transfer_kept s wanted = by wanted.asking.target
  where
    by : (target : UriTarget) → KeepsBy (transfer_kind s target) (transfer_for s wanted)
    by (Tftp name port path whole) = record { entries = []; exchanged = transfers.at_first; meets = meets_nothing (transfers.transfer_of (transfer_for s wanted)) s.now }
    by (Http name port path whole) = tt
    by (Iscsi name port lun disk whole) = record { entries = []; exchanged = transfers.at_first; meets = meets_nothing (transfers.transfer_of (transfer_for s wanted)) s.now }

query_kept : (s : State) (query : Query) → Keeps (live_for s query)
query_kept s for_lease = record { calls = []; exchanged = cores.at_first; meets = record { sending = tt; whole = tt; tries = tt; unanswered = tt } }
query_kept s (for_echo server) = record { calls = []; exchanged = cores.at_first; meets = record { asking = tt; tries = refl } }
query_kept s (for_host errand name by) = record { calls = []; exchanged = cores.at_first; meets = record { asking = tt; tries = refl } }
query_kept s (for_address setting name by) = record { calls = []; exchanged = cores.at_first; meets = record { asking = tt; tries = refl } }

onward_kept : (s : State) (next : Onward) → Keeps (live_onward s next)
onward_kept s (fetches_now wanted) = transfer_kept s wanted
onward_kept s (echoes_now server) = query_kept s (for_echo server)
onward_kept s (hooks_now hooking server) = tt
onward_kept s (looks_up_now errand name by) = query_kept s (for_host errand name by)

-- what is opened keeps its promises, beside those that live
opened_kept : (s s' : State) (ws : List (List ℕ)) (table : TableLists) (up : Bool) (e : Effect) (l : Live) (job : Job) → OpensBy s s' table up e l job → AreKept s.live → AreKept s'.live × Keeps l
opened_kept s s' ws table up e l job (opens_transfer wanted is state live work) h = (subst (λ (z : State). AreKept z.live) (sym state) h, subst Keeps (sym live) (transfer_kept s wanted))
opened_kept s s' ws table up e l job (opens_query query is state live work) h = (subst (λ (z : State). AreKept z.live) (sym state) h, subst Keeps (sym live) (query_kept (with_settings s table up) query))

-- THE COURSE

text_kept : (s : State) (new : Running) (outer : List Running) (refused : Option Cause) → AreKept s.live → KeptAt (text_standing s new outer refused)
text_kept s new outer None h = h
text_kept s new outer (Some cause) h = h

script_kept : (s : State) (inner : Running) (outer : List Running) (image : ScriptImage) (replaces : Bool) (put : List Out) (p : Standing) → ScriptLeads s inner outer image replaces put p → AreKept s.live → KeptAt p
script_kept s inner outer image false put p (puts_so, is) h = subst KeptAt (sym is) (text_kept s _ (inner ∷ outer) (text_refusal (script_reading image.text)) h)
script_kept s inner outer image true put p (puts_so, is) h = subst KeptAt (sym is) (text_kept s _ outer (text_refusal (script_reading image.text)) h)

conclusion_kept : (s : State) (inner : Running) (outer : List Running) (c : Conclusion) (put : List Out) (p : Standing) → ConclusionLeads s inner outer c put p → AreKept s.live → KeptAt p
conclusion_kept s inner outer (keeps list) put p (none, is) h = subst KeptAt (sym is) h
conclusion_kept s inner outer (tells list lines) put p (none, is) h = subst KeptAt (sym is) h
conclusion_kept s inner outer (runs_script list image replaces) put p leads h = script_kept (with_images s list) inner outer image replaces put p leads h
conclusion_kept s inner outer (fails cause) put p (none, is) h = subst KeptAt (sym is) h
conclusion_kept s inner outer (boots list kernel) put p (over, all, is) h = subst KeptAt (sym is) tt

-- the others live on where a drive is asked for its first block
pub asks_kept : (s s' : State) (number : ℕ) (put : List Out) (over : List Over) → AsksBlock s number put s' over → AreKept s.live → AreKept s'.live
asks_kept s s' number put over a h = subst (λ (z : State). AreKept z.live) (sym a.leaves) (around Keeps s.live a.before a.behind a.after a.l a.parted (taken_kept _ _ _ _ _ _ a.takes) h)

pub reads_kept : (s : State) (inner : Running) (outer : List Running) (number : ℕ) (d : Option Drive) (put : List Out) (p : Standing) → ReadsBlock s inner outer number d put p → AreKept s.live → KeptAt p
reads_kept s inner outer number d put p r h = subst KeptAt (sym r.stands_so) (by r.over (asks_kept s r.next number r.asked r.over r.asks h))
  where
    by : (over : List Over) → AreKept r.next.live → KeptAt (block_standing r.next inner outer number d over)
    by [] k = k
    by (o ∷ over) k = k

upshot_kept : (s : State) (inner : Running) (outer : List Running) (u : Upshot) (put : List Out) (p : Standing) → LeadsTo s inner outer u put p → AreKept s.live → KeptAt p
upshot_kept s inner outer (concludes c) put p leads h = conclusion_kept s inner outer c put p leads h
upshot_kept s inner outer (settles x) put p (none, is) h = subst KeptAt (sym is) h
upshot_kept s inner outer (hooks_drive d) put p (none, is) h = subst KeptAt (sym is) h
upshot_kept s inner outer (goes_onward next) put p (none, is) h = subst KeptAt (sym is) h
upshot_kept s inner outer (reads_drive d) put p reads h = reads_kept s inner outer d.open_number (Some d) put p reads h
upshot_kept s inner outer (boots_drive_by d bytes) put p (over, all, is) h = subst KeptAt (sym is) tt

-- the others live on where a drive was closed
drop_kept : (s s' : State) (number : ℕ) (put : List Out) → DropsDrive s number put s' → AreKept s.live → AreKept s'.live
drop_kept s s' number put d h = subst (λ (z : State). AreKept z.live) (sym d.leaves) (all_filter Keeps (λ l. not (is_drives_own (filter (is_drive number) s.drives) l)) s.live h)

pub step_kept : (m : Progress) (r : In) (added : List Out) (m2 : Progress) → StepBegins m r added m2 → KeptAt m.standing → KeptAt m2.standing
step_kept m r added m2 (course.runs n s code valid reads) h = tt
step_kept m r added m2 (course.refuses n s cause valid refuses) h = tt
step_kept m r added m2 (course.waits_on n s s2 w r0 put over valid net none) h = network_kept s s2 (n + 1) r put over net h
step_kept m r added m2 (course.is_answered n s s2 w r0 put more over x p valid net some leads) h = upshot_kept s2 (anew w.script) w.outer (concluded_by s2 w.script.depth w.job x) more p leads (network_kept s s2 (n + 1) r put over net h)
step_kept m r added m2 (course.switches_off n s w put over all) h = tt
step_kept m r added m2 (course.resumes n s s2 inner outer r0 put over valid net) h = network_kept s s2 (n + 1) r put over net h
step_kept m r added m2 (course.goes_off n s inner outer put over all) h = tt

pub move_kept : (m : Progress) (added : List Out) (m2 : Progress) → Proceeds m added m2 → KeptAt m.standing → KeptAt m2.standing
move_kept m added m2 (course.passes n s inner next outer comes) h = h
move_kept m added m2 (course.is_left n s inner outer cause comes) h = h
move_kept m added m2 (course.hands_back n s inner outer cause) h = h
move_kept m added m2 (course.concludes_there n s inner outer c cs x put p comes few is leads) h = conclusion_kept s (entered inner) outer x put p leads h
move_kept m added m2 (course.yields n s inner outer c cs comes full) h = h
move_kept m added m2 (course.does n s s2 inner outer c cs x comes few is stays) h = subst (λ (z : State). AreKept z.live) (sym (ends_by s inner (c ∷ cs) x s2 is).1) h
move_kept m added m2 (course.closes_device n s s2 inner outer c cs put over comes few is all) h = tt
move_kept m added m2 (course.goes_to_hook n s s2 inner outer c cs hooking put next comes few is drops asks) h = drop_kept s s2 hooking.number put drops h
move_kept m added m2 (course.hooks_none n s s2 inner outer c cs hooking put cause comes few is drops asks) h = drop_kept s s2 hooking.number put drops h
move_kept m added m2 (course.unhooks n s s2 inner outer c cs number put cause comes few is drops) h = drop_kept s s2 number put drops h
move_kept m added m2 (course.boots_hooked n s inner outer c cs number d put p comes few is some reads) h = reads_kept s (entered inner) outer d.open_number None put p reads h
move_kept m added m2 (course.leaves n s s2 inner outer c cs x comes few is away) h = subst (λ (z : State). AreKept z.live) (sym (ends_by s inner (c ∷ cs) x s2 is).1) h
move_kept m added m2 (course.jumps n s inner outer c cs name line comes few is there) h = h
move_kept m added m2 (course.finds_no_label n s inner outer c cs name comes few is none) h = h
move_kept m added m2 (course.falls_asleep n s inner outer c cs t comes few is) h = h
move_kept m added m2 (course.opens_one n s s2 inner outer c cs l job link put comes few is got first) h =
    let k = opened_kept s s2 (c ∷ cs) _ _ _ l job (opens_by s inner (c ∷ cs) s2 l job is) h in all_append Keeps s2.live (l ∷ []) k.0 (k.1, tt)
move_kept m added m2 (course.finds_no_route n s s2 inner outer c cs l job link comes few is got none) h = (opened_kept s s2 (c ∷ cs) _ _ _ l job (opens_by s inner (c ∷ cs) s2 l job is) h).0
move_kept m added m2 (course.opens_onward n s inner outer next link put few got first) h = all_append Keeps s.live (live_onward s next ∷ []) h (onward_kept s next, tt)
move_kept m added m2 (course.finds_no_way n s inner outer next link few got none) h = h
move_kept m added m2 (course.opens_no_more n s inner outer next full) h = h
move_kept m added m2 (course.hands n s r rest) h = h
move_kept m added m2 (course.has_handed n s) h = h

pub course_kept : (ins : List In) (outs : List Out) (p : Progress) → Course ins outs p → KeptAt p.standing
course_kept ins outs p course.begins = tt
course_kept ins outs p (course.uses ins0 outs0 m0 r added m1 c begins) = step_kept m0 r added m1 begins (course_kept ins0 outs0 m0 c)
course_kept ins outs p (course.goes_on ins0 outs0 m0 added m1 c moves) = move_kept m0 added m1 moves (course_kept ins0 outs0 m0 c)

-- WHAT THEY ASK FOR HASN'T COME

datagrams_unanswered : (kind : OpenKind) (es : List Event) (l : Live) → is_connection kind ≡ false → IsKindBy (hardware es) l.number kind (opening_as kind l) → calls l.number es ≡ heard_calls kind l.exchanges → KeepsBy kind l →
    AllByRecursion (IsOngoing kind l.number l.own) l.exchanges → has_its_answer l.number (opening_as kind l) es ≡ false
datagrams_unanswered kind es l plain is received k going =
    let d = did_so kind l plain k going in
    answer_as kind l l.number es (by_datagrams kind l d.entries d.promised)
    ∙ ap (answers_open (hardware es) l.number (opening_as kind l)) (got_same l.number es d.entries (received ∙ d.did.calls_are)) ∙ unanswered_as kind (hardware es) l d.entries is d.promised d.did.running

web_unanswered : (es : List Event) (l : Live) (isn : ℕ) → IsKindBy (hardware es) l.number (http isn) (opening_as (http isn) l) → brought_to l.number es ≡ streamed l.exchanges → KeepsBy (http isn) l →
    AllByRecursion (IsOngoing (http isn) l.number l.own) l.exchanges → has_its_answer l.number (opening_as (http isn) l) es ≡ false
web_unanswered es l isn is streams k going =
    let word = first_word (hardware es).identity l.number in
    ap (λ cs. is_whole (response_come word cs).verdict) (ap (λ z. (talk_by (hardware es) l.number (opening_as (http isn) l) z).calls) streams ∙ said_once (request_at l.target) word l.since (streamed l.exchanges))
    ∙ ap (λ w. is_whole (response_come w (calls_after (request_at l.target) l.since (streamed l.exchanges))).verdict) (sym is) ∙ goes_unwhole isn l.since l.number (request_at l.target) l.exchanges (web_goes l isn k (ongoing l.number l.own isn l.exchanges going))

kind_unanswered : (kind : OpenKind) (es : List Event) (l : Live) → IsKindBy (hardware es) l.number kind (opening_as kind l) → calls l.number es ≡ heard_calls kind l.exchanges → brought_to l.number es ≡ streamed l.exchanges → KeepsBy kind l →
    AllByRecursion (IsOngoing kind l.number l.own) l.exchanges → has_its_answer l.number (opening_as kind l) es ≡ false
kind_unanswered tftp es l is received streams k going = datagrams_unanswered tftp es l refl is received k going
kind_unanswered (http isn) es l is received streams k going = web_unanswered es l isn is streams k going
kind_unanswered (iscsi isn i) es l is received streams k going = refl
kind_unanswered (dns id) es l is received streams k going = datagrams_unanswered (dns id) es l refl is received k going
kind_unanswered (dhcp a) es l is received streams k going = datagrams_unanswered (dhcp a) es l refl is received k going
kind_unanswered ping es l is received streams k going = datagrams_unanswered ping es l refl is received k going

pub live_unanswered : (es : List Event) (l : Live) → AgreesLive es l → Keeps l → has_its_answer l.number (live_opening l) es ≡ false
live_unanswered es l a k = kind_unanswered l.kind es l a.kind_is a.received a.streams k a.goes_on

-- of open k, if it lives
one_unanswered : (es : List Event) (k : ℕ) (o : Opening) (ls : List Live) → AreLive es ls → AreKept ls → lives_among k ls ≡ true → live k es ≡ o ∷ [] → has_its_answer k o es ≡ false
one_unanswered es k o [] a h some is = absurd (cc)
one_unanswered es k o (l ∷ ls) a h some is =
    either_way (l.number == k)
    (λ here. found (eqb-true l.number k here))
    (λ other. one_unanswered es k o ls a.1 h.1 (later (l.number == k) (lives_among k ls) other some) is)
  where
    later : (b c : Bool) → b ≡ false → (b || c) ≡ true → c ≡ true
    later true c e f = absurd (cc)
    later false c e f = f

    found : l.number ≡ k → has_its_answer k o es ≡ false
    found it =
        let both : live_opening l ∷ [] ≡ o ∷ [] = sym (live_one l.number es (live_opening l) a.0.opening a.0.lives) ∙ ap (λ z. live z es) it ∙ is in
        let opening : live_opening l ≡ o = cc both in
        ap (λ z. has_its_answer z o es) (sym it) ∙ ap (λ z. has_its_answer l.number z es) (sym opening) ∙ live_unanswered es l a.0 h.0

pub none_answered : (es : List Event) (s : State) → AgreesState es s → AreKept s.live → NoneIsAnswered es
none_answered es s a h = λ k o is. either_way (lives_among k s.live) (λ some. one_unanswered es k o s.live a.each h some is) (λ away. absurd (let no : o ∷ [] ≡ [] = sym is ∙ a.others k away in cc))
