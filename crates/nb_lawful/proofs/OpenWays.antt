-- Of each open that lives the history says that there was a way to its server when it was made.
use Rattle.std.proofs.Common.{◌≡◌, ℕ, ◌+◌, Bool, true, false, cond, List, [], ◌∷◌, ◌++◌, Option, Some, None, refl, sym, ◌∙◌, ap, subst, append-nil, not}
use Rattle.std.specs.Prelude.{slice_get, filter}
use Rattle.std.specs.List.{AllByRecursion}
use Rattle.std.proofs.lemmas.Option.{none-some}
use Rattle.nb_defs.specs.Records.{In, Out}
use Rattle.nb_stack.specs.Client.{Client}
use Rattle.nb_settings.specs.Tables.{TableLists}
use Rattle.nb_terms.specs.declared.cause.Cause.{Cause}
use Rattle.nb_defs.specs.ScriptLines.{script_reading}
use Rattle.nb_machine.specs.Conclusions.{Conclusion, keeps, tells, fails, boots, runs_script}
use Rattle.nb_machine.specs.FirstText.{text_refusal}
use Rattle.nb_machine.specs.Effects.{Effect}
use Rattle.nb_machine.specs.Sendings.{has_route}
use Rattle.nb_machine.specs.Running.{Running, entered, anew}
use Rattle.nb_streams.proofs.FlowLaws.{all_append}
use Rattle.nb_machine.specs.Lives.{OpenKind, tftp, http, iscsi, dns, dhcp, ping, OpenInput, Live}
use Rattle.nb_machine.specs.Kinds.{first_records}
use Rattle.nb_machine.specs.States.{State, net0, with_images, with_opened}
use Rattle.nb_machine.specs.Takings.{Over, AllTake, all_have, lives_on, is_over}
use Rattle.nb_machine.specs.Network.{Network, passes_by, brings, brings_reply, brings_segment, passes_time}
use Rattle.nb_machine.specs.Scripts.{Job, live_onward, Upshot, concludes, settles, goes_onward, upshot_records, concluded_by, hooks_drive, reads_drive, boots_drive_by}
use Rattle.nb_machine.specs.Courses as course
use Rattle.nb_machine.specs.Courses.{Standing, Progress, text_standing, ConclusionLeads, LeadsTo, StepBegins, Proceeds, DropsDrive, is_drives_own, ReadsBlock, AsksBlock, block_standing}
use Rattle.nb_laws.specs.Events.{Event}
use Rattle.nb_laws.specs.Histories.{client}
use Rattle.nb_laws.specs.Lists.{hardware}
use Rattle.nb_laws.proofs.Tellings.{told}
use Rattle.nb_openlaws.specs.Standings.{live_opening, AgreesState, AgreesDevice, AgreesStanding}
use Rattle.nb_laws.specs.Endings.{HadWay}
use Rattle.nb_openlaws.specs.OpenReasons.{HaveWays}
use Rattle.nb_openlaws.proofs.KindFacts.{first_of, way_as}
use Rattle.nb_openlaws.proofs.Courses.{step_event, step_more}
use Rattle.nb_openlaws.proofs.Doings.{ends_by, OpensBy, opens_transfer, opens_query, opens_by}
use Rattle.nb_openlaws.proofs.KeptOpens.{around}
use Rattle.nb_openlaws.proofs.LiveParts.{all_filter}
use Rattle.nb_lawful.proofs.StepReasons.{last_lives}
use Rattle.nb_lawful.proofs.Devices.{DeviceAgrees}
use Rattle.nb_drivecmd.specs.HookedDrives.{is_drive}
use Rattle.nb_lawful.proofs.Plain.{take_each, amid_all}
use Rattle.nb_lawful.proofs.DriveSessions.{have_ways}
use Rattle.nb_drivecmd.specs.declared.drive.Drive.{Drive}

abbrev pub WaysAt : List Event → Standing → Type 0
WaysAt es course.ready = Unit {0}
WaysAt es (course.running s inner outer) = HaveWays es s.live
WaysAt es (course.waiting s w) = HaveWays es s.live
WaysAt es (course.reaching s inner outer next) = HaveWays es s.live
WaysAt es (course.yielded s inner outer) = HaveWays es s.live
WaysAt es (course.handing s rest) = HaveWays es s.live
WaysAt es (course.left s outer cause) = HaveWays es s.live
WaysAt es (course.handed_off s) = HaveWays es s.live
WaysAt es (course.stopped s) = HaveWays es s.live

taken_ways : (es : List Event) (devices : List Client) (input : OpenInput) (ls : List Live) (put : List Out) (after : List Live) (over : List Over) → AllTake devices input ls put after over → HaveWays es ls → HaveWays es after
taken_ways es devices input ls put after over all_have h = tt
taken_ways es devices input ls0 put0 after0 over0 (lives_on l ls after link put more over got kept none rest) h = (h.0, taken_ways es devices input ls more after over rest h.1)
taken_ways es devices input ls0 put0 after0 over0 (is_over l ls after link put more over cause got kept some rest) h = taken_ways es devices input ls more after over rest h.1

-- what one of them is, among the others
at_middle : (P : Live → Type 0) (before behind : List Live) (l : Live) → AllByRecursion P (before ++ l ∷ behind) → P l
at_middle P [] behind l h = h.0
at_middle P (x ∷ before) behind l h = at_middle P before behind l h.1

network_ways : (es : List Event) (s s' : State) (n : ℕ) (r : In) (put : List Out) (over : List Over) → Network s n r put s' over → HaveWays es s.live → HaveWays es s'.live
network_ways es s s' n r put over (passes_by _ device bytes link m on got brought none) h = h
network_ways es s s' n r put over (brings _ device bytes link p d before behind after l _ _ on got brought is mine before_none behind_none takes) h =
    around (λ (x : Live). HadWay x.number es (live_opening x)) s.live before behind after l is (taken_ways es _ _ (l ∷ []) put after over takes (at_middle (λ (x : Live). HadWay x.number es (live_opening x)) before behind l (subst (HaveWays es) is h), tt)) h
network_ways es s s' n r put over (brings_reply _ device bytes link p e before behind after l _ _ on got brought is mine before_none behind_none takes) h =
    around (λ (x : Live). HadWay x.number es (live_opening x)) s.live before behind after l is (taken_ways es _ _ (l ∷ []) put after over takes (at_middle (λ (x : Live). HadWay x.number es (live_opening x)) before behind l (subst (HaveWays es) is h), tt)) h
network_ways es s s' n r put over (brings_segment _ device bytes link from p g before behind after l _ _ on got brought is mine before_none behind_none takes) h =
    around (λ (x : Live). HadWay x.number es (live_opening x)) s.live before behind after l is (taken_ways es _ _ (l ∷ []) put after over takes (at_middle (λ (x : Live). HadWay x.number es (live_opening x)) before behind l (subst (HaveWays es) is h), tt)) h
network_ways es s s' n r put over (passes_time ms after _ _ takes) h = taken_ways es _ _ s.live put after over takes h

-- A NEW OPEN

either_goes : {A : Type 0} (b : Bool) (x y : A) → cond b (Some x) None ≡ Some y → b ≡ true
either_goes true x y is = refl
either_goes false x y is = absurd (none-some y is)

-- an open that begins finds a way
first_goes : (l : Live) (link : Client) (put : List Out) → first_records l.kind l link ≡ Some put → has_route link (first_of l.kind l) ≡ true
first_goes l link put is = by l.kind is
  where
    by : (kind : OpenKind) → first_records kind l link ≡ Some put → has_route link (first_of kind l) ≡ true
    by tftp is = either_goes (has_route link (first_of tftp l)) _ put is
    by (http isn) is = either_goes (has_route link (first_of (http isn) l)) _ put is
    by (iscsi isn i) is = either_goes (has_route link (first_of (iscsi isn i) l)) _ put is
    by (dns id) is = either_goes (has_route link (first_of (dns id) l)) _ put is
    by (dhcp a) is = either_goes (has_route link (first_of (dhcp a) l)) _ put is
    by ping is = either_goes (has_route link (first_of ping l)) _ put is

pub head_is : (c link : Client) (devices : List Client) (k : ℕ) → devices ≡ c ∷ [] → k ≡ net0 → slice_get devices k ≡ Some link → c ≡ link
head_is c link devices k is at got = let both : Some c ≡ Some link = sym (ap (λ d. slice_get d net0) is) ∙ sym (ap (slice_get devices) at) ∙ got in cc both

opened_way : (es : List Event) (s : State) (l : Live) (link : Client) (put : List Out) → AgreesState es (with_opened s l) → AgreesDevice es (with_opened s l) → slice_get s.devices l.device ≡ Some link → first_records l.kind l link ≡ Some put →
    HadWay l.number es (live_opening l)
opened_way es s l link put a d got first =
    let k = last_lives es s.live l a.each in
    let same : client es ≡ link = head_is (client es) link s.devices l.device d k.on_net0 got in
    record {
      before = es;
      since = [];
      all = sym (append-nil es);
      opened = k.opening;
      goes = way_as l.kind (hardware es) l (client es) k.kind_is (ap (λ c. has_route c (first_of l.kind l)) same ∙ first_goes l link put first);
    }

-- THE COURSE

text_ways : (es : List Event) (s : State) (new : Running) (outer : List Running) (refused : Option Cause) → HaveWays es s.live → WaysAt es (text_standing s new outer refused)
text_ways es s new outer None h = h
text_ways es s new outer (Some cause) h = h

conclusion_ways : (es : List Event) (s : State) (inner : Running) (outer : List Running) (c : Conclusion) (put : List Out) (p : Standing) → ConclusionLeads s inner outer c put p → HaveWays es s.live → WaysAt es p
conclusion_ways es s inner outer (keeps list) put p (none, is) h = subst (WaysAt es) (sym is) h
conclusion_ways es s inner outer (tells list lines) put p (none, is) h = subst (WaysAt es) (sym is) h
conclusion_ways es s inner outer (fails cause) put p (none, is) h = subst (WaysAt es) (sym is) h
conclusion_ways es s inner outer (boots list kernel) put p (over, all, is) h = subst (WaysAt es) (sym is) tt
conclusion_ways es s inner outer (runs_script list image false) put p (puts_so, is) h = subst (WaysAt es) (sym is) (text_ways es (with_images s list) _ (inner ∷ outer) (text_refusal (script_reading image.text)) h)
conclusion_ways es s inner outer (runs_script list image true) put p (puts_so, is) h = subst (WaysAt es) (sym is) (text_ways es (with_images s list) _ outer (text_refusal (script_reading image.text)) h)

-- a drive is asked for its first block: its open had its way before, too
reads_ways : (es : List Event) (s : State) (inner : Running) (outer : List Running) (number : ℕ) (d : Option Drive) (put : List Out) (p : Standing) → ReadsBlock s inner outer number d put p → HaveWays es s.live → WaysAt es p
reads_ways es s inner outer number d put p r h = by r.over refl
  where
    a : AsksBlock s number r.asked r.next r.over
    a = r.asks

    lives : HaveWays es r.next.live
    lives = subst (λ (z : State). HaveWays es z.live) (sym a.leaves)
        (around (λ (l : Live). HadWay l.number es (live_opening l)) s.live a.before a.behind a.after a.l a.parted
        (take_each (λ (l : Live). HadWay l.number es (live_opening l)) _ _ (λ l x came w. w) (a.l ∷ []) _ _ _ a.takes (amid_all (λ (l : Live). HadWay l.number es (live_opening l)) a.before a.behind a.l (subst (HaveWays es) a.parted h), tt)) h)

    by : (over : List Over) → r.over ≡ over → WaysAt es p
    by [] is = subst (WaysAt es) (sym (r.stands_so ∙ ap (block_standing r.next inner outer number d) is)) lives
    by (o ∷ over) is = subst (WaysAt es) (sym (r.stands_so ∙ ap (block_standing r.next inner outer number d) is)) lives

upshot_ways : (es : List Event) (s : State) (inner : Running) (outer : List Running) (u : Upshot) (put : List Out) (p : Standing) → LeadsTo s inner outer u put p → HaveWays es s.live → WaysAt es p
upshot_ways es s inner outer (concludes c) put p leads h = conclusion_ways es s inner outer c put p leads h
upshot_ways es s inner outer (settles x) put p (none, is) h = subst (WaysAt es) (sym is) h
upshot_ways es s inner outer (hooks_drive d) put p (none, is) h = subst (WaysAt es) (sym is) h
upshot_ways es s inner outer (goes_onward next) put p (none, is) h = subst (WaysAt es) (sym is) h
upshot_ways es s inner outer (reads_drive d) put p leads h = reads_ways es s inner outer d.open_number (Some d) put p leads h
upshot_ways es s inner outer (boots_drive_by d bytes) put p (over, all, is) h = subst (WaysAt es) (sym is) tt

-- an event and the records after it
further_ways : (es : List Event) (e : Event) (more : List Out) (ls : List Live) → HaveWays es ls → HaveWays ((es ++ e ∷ []) ++ told more) ls
further_ways es e more ls h = have_ways (es ++ e ∷ []) (told more) ls (have_ways es (e ∷ []) ls h)

pub step_ways : (es : List Event) (m : Progress) (r : In) (added : List Out) (m2 : Progress) (begins : StepBegins m r added m2) (a : AgreesStanding es m.standing) → WaysAt es m.standing →
    WaysAt ((es ++ step_event es m r added m2 begins a ∷ []) ++ told (step_more m r added m2 begins)) m2.standing
step_ways es m r added m2 (course.runs n s code valid reads) a h = tt
step_ways es m r added m2 (course.refuses n s cause valid refuses) a h = tt
step_ways es m r added m2 (course.waits_on n s s2 w r0 put over valid net none) a h = further_ways es _ put s2.live (network_ways es s s2 (n + 1) r put over net h)
step_ways es m r added m2 (course.is_answered n s s2 w r0 put more over x p valid net some leads) a h =
    upshot_ways _ s2 (anew w.script) w.outer (concluded_by s2 w.script.depth w.job x) more p leads (further_ways es _ (put ++ upshot_records (concluded_by s2 w.script.depth w.job x) ++ more) s2.live (network_ways es s s2 (n + 1) r put over net h))
step_ways es m r added m2 (course.switches_off n s w put over all) a h = tt
step_ways es m r added m2 (course.resumes n s s2 inner outer r0 put over valid net) a h = further_ways es _ put s2.live (network_ways es s s2 (n + 1) r put over net h)
step_ways es m r added m2 (course.goes_off n s inner outer put over all) a h = tt

same_lives : (s s' : State) (table : TableLists) (up : Bool) (e : Effect) (l : Live) (job : Job) → OpensBy s s' table up e l job → s'.live ≡ s.live
same_lives s s' table up e l job (opens_transfer wanted is state live work) = ap (λ (z : State). z.live) state
same_lives s s' table up e l job (opens_query query is state live work) = ap (λ (z : State). z.live) state

-- where a drive was closed, the others live on
drop_ways : (es : List Event) (added : List Out) (s s' : State) (number : ℕ) (put : List Out) → DropsDrive s number put s' → HaveWays es s.live → HaveWays (es ++ told added) s'.live
drop_ways es added s s' number put d h =
    subst (λ (z : State). HaveWays (es ++ told added) z.live) (sym d.leaves)
    (all_filter (λ (l : Live). HadWay l.number (es ++ told added) (live_opening l)) (λ l. not (is_drives_own (filter (is_drive number) s.drives) l)) s.live (have_ways es (told added) s.live h))

pub move_ways : (es : List Event) (m : Progress) (added : List Out) (m2 : Progress) → Proceeds m added m2 → WaysAt es m.standing → AgreesStanding (es ++ told added) m2.standing → DeviceAgrees (es ++ told added) m2.standing → WaysAt (es ++ told added) m2.standing
move_ways es m added m2 (course.passes n s inner next outer comes) h a d = have_ways es (told added) s.live h
move_ways es m added m2 (course.is_left n s inner outer cause comes) h a d = have_ways es (told added) s.live h
move_ways es m added m2 (course.hands_back n s inner outer cause) h a d = have_ways es (told added) s.live h
move_ways es m added m2 (course.concludes_there n s inner outer c cs x put p comes few is leads) h a d = conclusion_ways (es ++ told added) s (entered inner) outer x put p leads (have_ways es (told added) s.live h)
move_ways es m added m2 (course.yields n s inner outer c cs comes full) h a d = have_ways es (told added) s.live h
move_ways es m added m2 (course.does n s s2 inner outer c cs x comes few is stays) h a d = subst (λ (z : State). HaveWays (es ++ told added) z.live) (sym (ends_by s inner (c ∷ cs) x s2 is).1) (have_ways es (told added) s.live h)
move_ways es m added m2 (course.closes_device n s s2 inner outer c cs put over comes few is all) h a d = tt
move_ways es m added m2 (course.goes_to_hook n s s2 inner outer c cs hooking put next comes few is drops asks) h a d = drop_ways es added s s2 hooking.number put drops h
move_ways es m added m2 (course.hooks_none n s s2 inner outer c cs hooking put cause comes few is drops asks) h a d = drop_ways es added s s2 hooking.number put drops h
move_ways es m added m2 (course.unhooks n s s2 inner outer c cs number put cause comes few is drops) h a d = drop_ways es added s s2 number put drops h
move_ways es m added m2 (course.boots_hooked n s inner outer c cs number d put p comes few is got reads) h a e = reads_ways (es ++ told added) s (entered inner) outer d.open_number None put p reads (have_ways es (told added) s.live h)
move_ways es m added m2 (course.leaves n s s2 inner outer c cs x comes few is away) h a d = subst (λ (z : State). HaveWays (es ++ told added) z.live) (sym (ends_by s inner (c ∷ cs) x s2 is).1) (have_ways es (told added) s.live h)
move_ways es m added m2 (course.jumps n s inner outer c cs name line comes few is there) h a d = have_ways es (told added) s.live h
move_ways es m added m2 (course.finds_no_label n s inner outer c cs name comes few is none) h a d = have_ways es (told added) s.live h
move_ways es m added m2 (course.falls_asleep n s inner outer c cs t comes few is) h a d = have_ways es (told added) s.live h
move_ways es m added m2 (course.opens_one n s s2 inner outer c cs l job link put comes few is got first) h a d =
    all_append (λ (x : Live). HadWay x.number (es ++ told added) (live_opening x)) s2.live (l ∷ [])
    (subst (HaveWays (es ++ told added)) (sym (same_lives s s2 _ _ _ l job (opens_by s inner (c ∷ cs) s2 l job is))) (have_ways es (told added) s.live h)) (opened_way (es ++ told added) s2 l link put a d got first, tt)
move_ways es m added m2 (course.finds_no_route n s s2 inner outer c cs l job link comes few is got none) h a d =
    subst (HaveWays (es ++ told added)) (sym (same_lives s s2 _ _ _ l job (opens_by s inner (c ∷ cs) s2 l job is))) (have_ways es (told added) s.live h)
move_ways es m added m2 (course.opens_onward n s inner outer next link put few got first) h a d =
    all_append (λ (x : Live). HadWay x.number (es ++ told added) (live_opening x)) s.live (live_onward s next ∷ []) (have_ways es (told added) s.live h) (opened_way (es ++ told added) s (live_onward s next) link put a d got first, tt)
move_ways es m added m2 (course.finds_no_way n s inner outer next link few got none) h a d = have_ways es (told added) s.live h
move_ways es m added m2 (course.opens_no_more n s inner outer next full) h a d = have_ways es (told added) s.live h
move_ways es m added m2 (course.hands n s r rest) h a d = have_ways es (told added) s.live h
move_ways es m added m2 (course.has_handed n s) h a d = have_ways es (told added) s.live h
