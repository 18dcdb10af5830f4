-- Wherever a course stands, no open that lives was asked for anything, and none is a drive's whose command boots its disk, but the one of which a
-- command awaits that.
use Rattle.std.proofs.Common.{◌≡◌, ◌⊎◌, inl, inr, ℕ, ◌==◌, ◌||◌, Bool, true, false, not, List, [], ◌∷◌, ◌++◌, Option, Some, None, filter, refl, sym, ◌∙◌, ap, subst, append_assoc, eq-eqb, ne_eqb, arith}
use Rattle.std.specs.List.{AllByRecursion}
use Rattle.nb_terms.specs.declared.cause.Cause.{Cause}
use Rattle.nb_defs.specs.Records.{In, Out}
use Rattle.nb_defs.specs.ScriptLines.{script_reading}
use Rattle.nb_drivecmd.specs.declared.drive.Drive.{Drive}
use Rattle.nb_drivecmd.specs.declared.outcome.AfterHook.{AfterHook}
use Rattle.nb_drivecmd.specs.declared.outcome.AfterHook.TheVariants.{Keep, Boot}
use Rattle.nb_drivecmd.specs.declared.outcome.Hooking.{Hooking}
use Rattle.nb_drivecmd.specs.HookedDrives.{is_drive}
use Rattle.nb_login.specs.declared.info.LoginInfo.{LoginInfo}
use Rattle.nb_settings.specs.Tables.{TableLists}
use Rattle.nb_stack.specs.Client.{Client}
use Rattle.nb_streams.proofs.FlowLaws.{all_append}
use Rattle.nb_uri.specs.declared.target.UriTarget.{UriTarget}
use Rattle.nb_uri.specs.declared.target.UriTarget.TheVariants.{Tftp, Http, Iscsi}
use Rattle.nb_machine.specs.Conclusions.{Conclusion, keeps, tells, fails, boots, runs_script}
use Rattle.nb_machine.specs.Courses as course
use Rattle.nb_machine.specs.Courses.{Standing, Progress, StepBegins, Proceeds, text_standing, ConclusionLeads, LeadsTo, ReadsBlock, AsksBlock, block_standing, DropsDrive, is_drives_own}
use Rattle.nb_machine.specs.Drives.{first_block_read}
use Rattle.nb_machine.specs.Effects.{Effect, hooks_disk}
use Rattle.nb_machine.specs.Errands.{Onward, fetches_now, echoes_now, hooks_now, looks_up_now}
use Rattle.nb_machine.specs.FirstText.{text_refusal}
use Rattle.nb_machine.specs.Lives.{OpenInput, iscsi, task, Exchange, exchange, Live, continued, open_record}
use Rattle.nb_machine.specs.Network.{Network, passes_by, brings, brings_reply, brings_segment, passes_time}
use Rattle.nb_machine.specs.Queries.{Query, for_lease, for_echo, for_host, for_address}
use Rattle.nb_machine.specs.Running.{Running, entered}
use Rattle.nb_machine.specs.Scripts.{Job, Awaited, answer, moment, drive, disk, block, Upshot, concludes, settles, hooks_drive, reads_drive, boots_drive_by, goes_onward, awaited_hook, awaited_onward, transfer_kind, transfer_for, live_for, live_onward}
use Rattle.nb_machine.specs.States.{State, with_images, with_settings}
use Rattle.nb_machine.specs.Takings.{Over, AllTake, all_have, lives_on, is_over}
use Rattle.nb_laws.specs.CommandsSoFar.{ComesTo}
use Rattle.nb_laws.specs.Drives.{hooks_to_boot, is_booted_then}
use Rattle.nb_laws.specs.Events.{Event, puts}
use Rattle.nb_laws.specs.Lists.{made}
use Rattle.nb_laws.proofs.SessionOpenings.{no_session_unopened}
use Rattle.nb_laws.proofs.Tellings.{told}
use Rattle.nb_openlaws.proofs.Doings.{OpensBy, opens_transfer, opens_query, opens_by, ends_by}
use Rattle.nb_openlaws.proofs.KeptOpens.{around}
use Rattle.nb_openlaws.proofs.LiveParts.{all_filter}
use Rattle.nb_openlaws.specs.Standings.{HaveOwnNumbers, lives_among, AgreesState, AgreesStanding}
use Rattle.nb_lawful.specs.ScriptAgreement.{IsNoTask, AreUnasked, IsAnother, WasSession, IsToReach, ScriptsAgree}
use Rattle.nb_lawful.proofs.Awaited.{TookAlone, alone_on, alone_last, took_alone}
use Rattle.nb_lawful.proofs.HookedLives.{all_map}
use Rattle.nb_lawful.proofs.Opened.{was_on, was_opened}
use Rattle.nb_lawful.proofs.Disks.{hooking_is}
use Rattle.nb_lawful.proofs.Onward.{next_hooks}

-- nothing was asked of it, and its command doesn't boot its disk, if it is a drive's
pub record IsPlain (es : List Event) (l : Live) : Type 0 where
  pub unasked : AreUnasked l.exchanges
  pub kept : (isn : ℕ) (i : LoginInfo) → l.kind ≡ iscsi isn i → WasSession false l.number es

abbrev pub ArePlain : List Event → List Live → Type 0
ArePlain es ls = AllByRecursion (IsPlain es) ls

-- the open of which a command awaits that it may be booted
abbrev pub booted_open : Awaited → Option ℕ
booted_open (answer number) = None
booted_open (moment time) = None
booted_open (drive number) = None
booted_open (disk number) = Some number
booted_open (block number) = Some number

abbrev pub IsLetOut : Option ℕ → Live → Type 0
IsLetOut None l = ⊥
IsLetOut (Some k) l = l.number ≡ k

abbrev pub IsPlainBut : Option ℕ → List Event → Live → Type 0
IsPlainBut but es l = IsLetOut but l ⊎ IsPlain es l

abbrev pub ArePlainBut : Option ℕ → List Event → List Live → Type 0
ArePlainBut but es ls = AllByRecursion (IsPlainBut but es) ls

abbrev pub PlainAt : List Event → Standing → Type 0
PlainAt es course.ready = Unit {0}
PlainAt es (course.running s inner outer) = ArePlain es s.live
PlainAt es (course.waiting s w) = ArePlainBut (booted_open w.awaited) es s.live
PlainAt es (course.reaching s inner outer next) = ArePlain es s.live
PlainAt es (course.yielded s inner outer) = ArePlain es s.live
PlainAt es (course.handing s rest) = Unit {0}
PlainAt es (course.left s outer cause) = ArePlain es s.live
PlainAt es (course.handed_off s) = Unit {0}
PlainAt es (course.stopped s) = Unit {0}

-- AFTER MORE

plain_on : (es more : List Event) (l : Live) → IsPlain es l → IsPlain (es ++ more) l
plain_on es more l p = record { unasked = p.unasked; kept = λ isn i kind. was_on false l.number es more (p.kept isn i kind) }

pub are_plain : (es more : List Event) (ls : List Live) → ArePlain es ls → ArePlain (es ++ more) ls
are_plain es more ls h = all_map (IsPlain es) (IsPlain (es ++ more)) ls (λ l p. plain_on es more l p) h

but_on : (but : Option ℕ) (es more : List Event) (l : Live) → IsPlainBut but es l → IsPlainBut but (es ++ more) l
but_on but es more l (inl out) = inl out
but_on but es more l (inr p) = inr (plain_on es more l p)

pub are_but : (but : Option ℕ) (es more : List Event) (ls : List Live) → ArePlainBut but es ls → ArePlainBut but (es ++ more) ls
are_but but es more ls h = all_map (IsPlainBut but es) (IsPlainBut but (es ++ more)) ls (λ l p. but_on but es more l p) h

pub none_out : (but : Option ℕ) (es : List Event) (ls : List Live) → but ≡ None → ArePlainBut but es ls → ArePlain es ls
none_out but es ls none h = all_map (IsPlainBut None es) (IsPlain es) ls one (subst (λ b. ArePlainBut b es ls) none h)
  where
    one : (l : Live) → IsPlainBut None es l → IsPlain es l
    one l (inl out) = absurd out
    one l (inr p) = p

pub all_in : (but : Option ℕ) (es : List Event) (ls : List Live) → ArePlain es ls → ArePlainBut but es ls
all_in but es ls h = all_map (IsPlain es) (IsPlainBut but es) ls (λ l p. inr p) h

-- none that lives has this number
pub none_left_out : (k : ℕ) (es : List Event) (ls : List Live) → AllByRecursion (IsAnother k) ls → ArePlainBut (Some k) es ls → ArePlain es ls
none_left_out k es [] others h = tt
none_left_out k es (l ∷ ls) others h = (one h.0, none_left_out k es ls others.1 h.1)
  where
    one : IsPlainBut (Some k) es l → IsPlain es l
    one (inl same) = absurd (let no : true ≡ false = sym (eq-eqb l.number k same) ∙ others.0 in cc no)
    one (inr p) = p

none_among : (k : ℕ) (ls : List Live) → lives_among k ls ≡ false → AllByRecursion (IsAnother k) ls
none_among k [] none = tt
none_among k (l ∷ ls) none = (first (l.number == k) (lives_among k ls) none, none_among k ls (second (l.number == k) (lives_among k ls) none))
  where
    first : (a b : Bool) → (a || b) ≡ false → a ≡ false
    first true b e = e
    first false b e = refl

    second : (a b : Bool) → (a || b) ≡ false → b ≡ false
    second true b e = absurd (let no : true ≡ false = e in cc no)
    second false b e = e

-- one that lives has its number alone
pub apart_amid : (before behind : List Live) (l : Live) → HaveOwnNumbers (before ++ l ∷ behind) → AllByRecursion (IsAnother l.number) before × AllByRecursion (IsAnother l.number) behind
apart_amid [] behind l h = (tt, none_among l.number behind h.0)
apart_amid (x ∷ before) behind l h =
    let rest = apart_amid before behind l h.1 in
    ((turned, rest.0), rest.1)
  where
    mine : (front : List Live) → AllByRecursion (IsAnother x.number) (front ++ l ∷ behind) → (l.number == x.number) ≡ false
    mine [] all = all.0
    mine (y ∷ front) all = mine front all.1

    turned : (x.number == l.number) ≡ false
    turned = ne_eqb x.number l.number (λ same. let no : true ≡ false = sym (eq-eqb l.number x.number (sym same)) ∙ mine before (none_among x.number (before ++ l ∷ behind) h.0) in cc no)

pub amid_all : (P : Live → Type 0) (before behind : List Live) (l : Live) → AllByRecursion P (before ++ l ∷ behind) → P l
amid_all P [] behind l h = h.0
amid_all P (x ∷ before) behind l h = amid_all P before behind l h.1

-- WHAT COMES TO THEM

-- where an open goes on by something, it is as it was
pub take_each : (P : Live → Type 0) (devices : List Client) (input : OpenInput) → ((l : Live) (x : Exchange) → x.came ≡ input → P l → P (continued l x)) → (ls : List Live) (put : List Out) (after : List Live) (over : List Over) →
    AllTake devices input ls put after over →
    AllByRecursion P ls → AllByRecursion P after
take_each P devices input grows ls put after over all_have h = h
take_each P devices input grows ls0 put0 after0 over0 (lives_on l ls after link put more over got kept none rest) h = (grows l (exchange input link put) refl h.0, take_each P devices input grows ls more after over rest h.1)
take_each P devices input grows ls0 put0 after0 over0 (is_over l ls after link put more over cause got kept some rest) h = take_each P devices input grows ls more after over rest h.1

plain_grows : (but : Option ℕ) (es : List Event) (input : OpenInput) → IsNoTask input → (l : Live) (x : Exchange) → x.came ≡ input → IsPlainBut but es l → IsPlainBut but es (continued l x)
plain_grows None es input none l x came (inl out) = absurd out
plain_grows (Some k) es input none l x came (inl out) = inl out
plain_grows but es input none l x came (inr p) = inr (record { unasked = all_append (λ (y : Exchange). IsNoTask y.came) l.exchanges (x ∷ []) p.unasked (subst IsNoTask (sym came) none, tt); kept = p.kept })

one_takes : (but : Option ℕ) (es : List Event) (devices : List Client) (input : OpenInput) (live before behind after : List Live) (l : Live) (put : List Out) (over : List Over) → IsNoTask input → live ≡ before ++ l ∷ behind →
    AllTake devices input (l ∷ []) put after over →
    ArePlainBut but es live → ArePlainBut but es (before ++ after ++ behind)
one_takes but es devices input live before behind after l put over none is takes h =
    around (IsPlainBut but es) live before behind after l is (take_each (IsPlainBut but es) devices input (plain_grows but es input none) (l ∷ []) put after over takes (amid_all (IsPlainBut but es) before behind l (subst (ArePlainBut but es) is h), tt)) h

pub network_plain : (but : Option ℕ) (es : List Event) (s s' : State) (n : ℕ) (r : In) (put : List Out) (over : List Over) → Network s n r put s' over → ArePlainBut but es s.live → ArePlainBut but es s'.live
network_plain but es s s' n r put over (passes_by _ device bytes link m on got brought none) h = h
network_plain but es s s' n r put over (brings _ device bytes link p d before behind after l _ _ on got brought is mine before_none behind_none takes) h = one_takes but es _ _ s.live before behind after l put over tt is takes h
network_plain but es s s' n r put over (brings_reply _ device bytes link p e before behind after l _ _ on got brought is mine before_none behind_none takes) h = one_takes but es _ _ s.live before behind after l put over tt is takes h
network_plain but es s s' n r put over (brings_segment _ device bytes link from p g before behind after l _ _ on got brought is mine before_none behind_none takes) h = one_takes but es _ _ s.live before behind after l put over tt is takes h
network_plain but es s s' n r put over (passes_time ms after _ _ takes) h = take_each (IsPlainBut but es) _ _ (plain_grows but es _ tt) s.live put after over takes h

-- WHERE IT LEADS

-- what must hold where this leads on
abbrev pub PlainFor : Upshot → List Event → State → Type 0
PlainFor (concludes c) es s = ArePlain es s.live
PlainFor (settles x) es s = ArePlain es s.live
PlainFor (hooks_drive d) es s = ArePlain es s.live
PlainFor (reads_drive d) es s = ArePlainBut (Some d.open_number) es s.live × HaveOwnNumbers s.live
PlainFor (boots_drive_by d bytes) es s = Unit {0}
PlainFor (goes_onward next) es s = ArePlain es s.live

pub plain_for : (u : Upshot) (es : List Event) (s : State) → HaveOwnNumbers s.live → ArePlain es s.live → PlainFor u es s
plain_for (concludes c) es s own h = h
plain_for (settles x) es s own h = h
plain_for (hooks_drive d) es s own h = h
plain_for (reads_drive d) es s own h = (all_in (Some d.open_number) es s.live h, own)
plain_for (boots_drive_by d bytes) es s own h = tt
plain_for (goes_onward next) es s own h = h

text_plain : (es : List Event) (s : State) (new : Running) (outer : List Running) (refused : Option Cause) → ArePlain es s.live → PlainAt es (text_standing s new outer refused)
text_plain es s new outer None h = h
text_plain es s new outer (Some cause) h = h

conclusion_plain : (es : List Event) (s : State) (inner : Running) (outer : List Running) (c : Conclusion) (put : List Out) (p : Standing) → ConclusionLeads s inner outer c put p → ArePlain es s.live → PlainAt es p
conclusion_plain es s inner outer (keeps list) put p (none, is) h = subst (PlainAt es) (sym is) h
conclusion_plain es s inner outer (tells list lines) put p (none, is) h = subst (PlainAt es) (sym is) h
conclusion_plain es s inner outer (fails cause) put p (none, is) h = subst (PlainAt es) (sym is) h
conclusion_plain es s inner outer (boots list kernel) put p (over, all, is) h = subst (PlainAt es) (sym is) tt
conclusion_plain es s inner outer (runs_script list image false) put p (puts_so, is) h = subst (PlainAt es) (sym is) (text_plain es (with_images s list) _ (inner ∷ outer) (text_refusal (script_reading image.text)) h)
conclusion_plain es s inner outer (runs_script list image true) put p (puts_so, is) h = subst (PlainAt es) (sym is) (text_plain es (with_images s list) _ outer (text_refusal (script_reading image.text)) h)

-- a drive is asked for its first block
reads_plain : (es : List Event) (s : State) (inner : Running) (outer : List Running) (number : ℕ) (d : Option Drive) (put : List Out) (p : Standing) → ReadsBlock s inner outer number d put p → ArePlainBut (Some number) es s.live →
    HaveOwnNumbers s.live → PlainAt es p
reads_plain es s inner outer number d put p r h own = by (took_alone _ _ _ _ _ _ a.takes)
  where
    a : AsksBlock s number r.asked r.next r.over
    a = r.asks

    apart : AllByRecursion (IsAnother a.l.number) a.before × AllByRecursion (IsAnother a.l.number) a.behind
    apart = apart_amid a.before a.behind a.l (subst HaveOwnNumbers a.parted own)

    lives : r.next.live ≡ a.before ++ a.after ++ a.behind
    lives = ap (λ (z : State). z.live) a.leaves

    by : TookAlone (task first_block_read s.now) a.l r.asked a.after r.over → PlainAt es p
    by (alone_on x came after_is over_is beside) =
        subst (PlainAt es) (sym (r.stands_so ∙ ap (block_standing r.next inner outer number d) over_is))
        (subst (ArePlainBut (Some number) es) (sym lives) (around (IsPlainBut (Some number) es) s.live a.before a.behind a.after a.l a.parted (subst (ArePlainBut (Some number) es) (sym after_is) (inl a.its, tt)) h))
    by (alone_last x cause front came after_is over_is is beside) =
        subst (PlainAt es) (sym (r.stands_so ∙ ap (block_standing r.next inner outer number d) over_is))
        (subst (ArePlain es) (sym lives) (none_left_out number es (a.before ++ a.after ++ a.behind)
        (subst (λ k. AllByRecursion (IsAnother k) (a.before ++ a.after ++ a.behind)) a.its
        (all_append (IsAnother a.l.number) (a.before ++ a.after) a.behind (all_append (IsAnother a.l.number) a.before a.after apart.0 (subst (AllByRecursion (IsAnother a.l.number)) (sym after_is) tt)) apart.1))
        (around (IsPlainBut (Some number) es) s.live a.before a.behind a.after a.l a.parted (subst (ArePlainBut (Some number) es) (sym after_is) tt) h)))

pub upshot_plain : (es : List Event) (s : State) (inner : Running) (outer : List Running) (u : Upshot) (put : List Out) (p : Standing) → LeadsTo s inner outer u put p → PlainFor u es s → PlainAt es p
upshot_plain es s inner outer (concludes c) put p leads h = conclusion_plain es s inner outer c put p leads h
upshot_plain es s inner outer (settles x) put p (none, is) h = subst (PlainAt es) (sym is) h
upshot_plain es s inner outer (hooks_drive d) put p (none, is) h = subst (PlainAt es) (sym is) h
upshot_plain es s inner outer (reads_drive d) put p leads h = reads_plain es s inner outer d.open_number (Some d) put p leads h.0 h.1
upshot_plain es s inner outer (boots_drive_by d bytes) put p (over, all, is) h = subst (PlainAt es) (sym is) tt
upshot_plain es s inner outer (goes_onward next) put p (none, is) h = subst (PlainAt es) (sym is) h

-- A MOVE

same_lives : (s s' : State) (table : TableLists) (up : Bool) (e : Effect) (l : Live) (job : Job) → OpensBy s s' table up e l job → s'.live ≡ s.live
same_lives s s' table up e l job (opens_transfer wanted is state live work) = ap (λ (z : State). z.live) state
same_lives s s' table up e l job (opens_query query is state live work) = ap (λ (z : State). z.live) state

-- by words alone no drive's open begins
transfer_bare : (s : State) (target : UriTarget) (isn : ℕ) (i : LoginInfo) → transfer_kind s target ≡ iscsi isn i → ⊥
transfer_bare s (Tftp name port path whole) isn i is = absurd (cc is)
transfer_bare s (Http name port path whole) isn i is = absurd (cc is)
transfer_bare s (Iscsi name port lun target whole) isn i is = absurd (cc is)

query_bare : (s : State) (query : Query) (isn : ℕ) (i : LoginInfo) → (live_for s query).kind ≡ iscsi isn i → ⊥
query_bare s for_lease isn i is = absurd (cc is)
query_bare s (for_echo server) isn i is = absurd (cc is)
query_bare s (for_host errand name by) isn i is = absurd (cc is)
query_bare s (for_address setting name by) isn i is = absurd (cc is)

query_fresh : (s : State) (query : Query) → (live_for s query).exchanges ≡ []
query_fresh s for_lease = refl
query_fresh s (for_echo server) = refl
query_fresh s (for_host errand name by) = refl
query_fresh s (for_address setting name by) = refl

bare_plain : (es : List Event) (l : Live) → l.exchanges ≡ [] → ((isn : ℕ) (i : LoginInfo) → l.kind ≡ iscsi isn i → ⊥) → IsPlain es l
bare_plain es l none bare = record { unasked = subst AreUnasked (sym none) tt; kept = λ isn i kind. absurd (bare isn i kind) }

opened_plain : (es : List Event) (s s' : State) (table : TableLists) (up : Bool) (e : Effect) (l : Live) (job : Job) → OpensBy s s' table up e l job → IsPlain es l
opened_plain es s s' table up e l job (opens_transfer wanted is state live work) = subst (IsPlain es) (sym live) (bare_plain es (transfer_for s wanted) refl (transfer_bare s wanted.asking.target))
opened_plain es s s' table up e l job (opens_query query is state live work) = subst (IsPlain es) (sym live) (bare_plain es (live_for (with_settings s table up) query) (query_fresh (with_settings s table up) query) (query_bare (with_settings s table up) query))

-- the next open of a command that is under way
fresh_but : (but : Option ℕ) (es more : List Event) (ls : List Live) (l : Live) → ArePlain es ls → IsPlainBut but (es ++ more) l → ArePlainBut but (es ++ more) (ls ++ l ∷ [])
fresh_but but es more ls l h own = all_append (IsPlainBut but (es ++ more)) ls (l ∷ []) (all_in but (es ++ more) ls (are_plain es more ls h)) (own, tt)

hook_plain : (es : List Event) (s : State) (hooking : Hooking) (server : ℕ) (put : List Out) → AgreesState es s → ComesTo es (made es) (hooks_disk hooking) → ArePlain es s.live → (after : AfterHook) → hooking.after ≡ after →
    ArePlainBut (booted_open (awaited_hook after (live_onward s (hooks_now hooking server)).number)) (es ++ told (open_record (live_onward s (hooks_now hooking server)) ∷ put)) (s.live ++ live_onward s (hooks_now hooking server) ∷ [])
hook_plain es s hooking server put a names h (Boot keep) is =
    fresh_but (Some (live_onward s (hooks_now hooking server)).number) es (told (open_record (live_onward s (hooks_now hooking server)) ∷ put)) s.live
    (live_onward s (hooks_now hooking server)) h (inl refl)
hook_plain es s hooking server put a names h Keep is =
    let l = live_onward s (hooks_now hooking server) in
    let o = open_record l in
    let none = no_session_unopened l.number es (a.unopened l.number (omega (arith, a.opens))) in
    let was = was_on false l.number (es ++ puts o ∷ []) (told put) (was_opened false es l (_, _, refl) none (ap hooks_to_boot (hooking_is es hooking names) ∙ ap is_booted_then is)) in
    fresh_but None es (told (o ∷ put)) s.live l h (inr (record { unasked = tt; kept = λ isn i kind. subst (WasSession false l.number) (append_assoc es (puts o ∷ []) (told put)) was }))

onward_plain : (es : List Event) (s : State) (inner : Running) (outer : List Running) (next : Onward) (put : List Out) → AgreesState es s → IsToReach es next → ArePlain es s.live →
    ArePlainBut (booted_open (awaited_onward next (live_onward s next).number)) (es ++ told (open_record (live_onward s next) ∷ put)) (s.live ++ live_onward s next ∷ [])
onward_plain es s inner outer (fetches_now wanted) put a r h = fresh_but None es (told (open_record (transfer_for s wanted) ∷ put)) s.live (transfer_for s wanted) h (inr (bare_plain _ (transfer_for s wanted) refl (transfer_bare s wanted.asking.target)))
onward_plain es s inner outer (echoes_now server) put a r h =
    fresh_but None es (told (open_record (live_for s (for_echo server)) ∷ put)) s.live (live_for s (for_echo server)) h (inr (bare_plain _ (live_for s (for_echo server)) refl (query_bare s (for_echo server))))
onward_plain es s inner outer (looks_up_now errand name by) put a r h =
    fresh_but None es (told (open_record (live_for s (for_host errand name by)) ∷ put)) s.live (live_for s (for_host errand name by)) h (inr (bare_plain _ (live_for s (for_host errand name by)) refl (query_bare s (for_host errand name by))))
onward_plain es s inner outer (hooks_now hooking server) put a r h = hook_plain es s hooking server put a (next_hooks es hooking server r) h hooking.after refl

-- where a drive was closed, the others live on
drop_plain : (es : List Event) (added : List Out) (s s' : State) (number : ℕ) (put : List Out) → DropsDrive s number put s' → ArePlain es s.live → ArePlain (es ++ told added) s'.live
drop_plain es added s s' number put d h =
    subst (λ (z : State). ArePlain (es ++ told added) z.live) (sym d.leaves) (all_filter (IsPlain (es ++ told added)) (λ l. not (is_drives_own (filter (is_drive number) s.drives) l)) s.live (are_plain es (told added) s.live h))

-- of each move
pub move_plain : (es : List Event) (outs : List Out) (m : Progress) (added : List Out) (m2 : Progress) → Proceeds m added m2 → AgreesStanding es m.standing → ScriptsAgree es outs m.standing → PlainAt es m.standing → PlainAt (es ++ told added) m2.standing
move_plain es outs m added m2 (course.passes n s inner next outer comes) a g h = are_plain es (told added) s.live h
move_plain es outs m added m2 (course.is_left n s inner outer cause comes) a g h = are_plain es (told added) s.live h
move_plain es outs m added m2 (course.hands_back n s inner outer cause) a g h = are_plain es (told added) s.live h
move_plain es outs m added m2 (course.concludes_there n s inner outer c cs x put p comes few is leads) a g h = conclusion_plain (es ++ told added) s (entered inner) outer x put p leads (are_plain es (told added) s.live h)
move_plain es outs m added m2 (course.yields n s inner outer c cs comes full) a g h = are_plain es (told added) s.live h
move_plain es outs m added m2 (course.does n s s2 inner outer c cs x comes few is stays) a g h = subst (λ (z : State). ArePlain (es ++ told added) z.live) (sym (ends_by s inner (c ∷ cs) x s2 is).1) (are_plain es (told added) s.live h)
move_plain es outs m added m2 (course.closes_device n s s2 inner outer c cs put over comes few is all) a g h = tt
move_plain es outs m added m2 (course.goes_to_hook n s s2 inner outer c cs hooking put next comes few is drops asks) a g h = drop_plain es added s s2 hooking.number put drops h
move_plain es outs m added m2 (course.hooks_none n s s2 inner outer c cs hooking put cause comes few is drops asks) a g h = drop_plain es added s s2 hooking.number put drops h
move_plain es outs m added m2 (course.unhooks n s s2 inner outer c cs number put cause comes few is drops) a g h = drop_plain es added s s2 number put drops h
move_plain es outs m added m2 (course.boots_hooked n s inner outer c cs number d put p comes few is got reads) a g h =
    reads_plain (es ++ told added) s (entered inner) outer d.open_number None put p reads (all_in (Some d.open_number) (es ++ told added) s.live (are_plain es (told added) s.live h)) a.apart
move_plain es outs m added m2 (course.leaves n s s2 inner outer c cs x comes few is away) a g h = subst (λ (z : State). ArePlain (es ++ told added) z.live) (sym (ends_by s inner (c ∷ cs) x s2 is).1) (are_plain es (told added) s.live h)
move_plain es outs m added m2 (course.jumps n s inner outer c cs name line comes few is there) a g h = are_plain es (told added) s.live h
move_plain es outs m added m2 (course.finds_no_label n s inner outer c cs name comes few is none) a g h = are_plain es (told added) s.live h
move_plain es outs m added m2 (course.falls_asleep n s inner outer c cs t comes few is) a g h = all_in None (es ++ told added) s.live (are_plain es (told added) s.live h)
move_plain es outs m added m2 (course.opens_one n s s2 inner outer c cs l job link put comes few is got first) a g h =
    let by = opens_by s inner (c ∷ cs) s2 l job is in
    all_append (IsPlainBut None (es ++ told added)) s2.live (l ∷ []) (all_in None (es ++ told added) s2.live (subst (ArePlain (es ++ told added)) (sym (same_lives s s2 _ _ _ l job by)) (are_plain es (told added) s.live h)))
    (inr (opened_plain (es ++ told added) s s2 _ _ _ l job by), tt)
move_plain es outs m added m2 (course.finds_no_route n s s2 inner outer c cs l job link comes few is got none) a g h =
    subst (ArePlain (es ++ told added)) (sym (same_lives s s2 _ _ _ l job (opens_by s inner (c ∷ cs) s2 l job is))) (are_plain es (told added) s.live h)
move_plain es outs m added m2 (course.opens_onward n s inner outer next link put few got first) a g h = onward_plain es s inner outer next put a g.4 h
move_plain es outs m added m2 (course.finds_no_way n s inner outer next link few got none) a g h = are_plain es (told added) s.live h
move_plain es outs m added m2 (course.opens_no_more n s inner outer next full) a g h = are_plain es (told added) s.live h
move_plain es outs m added m2 (course.hands n s r rest) a g h = tt
move_plain es outs m added m2 (course.has_handed n s) a g h = tt
