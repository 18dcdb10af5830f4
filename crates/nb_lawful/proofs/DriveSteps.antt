-- A record is used while a command waits: what the history says of the drives' sessions then. One at most is due, the disk that the command boots.
use Rattle.std.proofs.Common.{option_and_then, ◌≡◌, inl, inr, ℕ, Bool, true, false, cond, List, [], ◌∷◌, ◌++◌, Option, Some, None, IsSome, refl, sym, ◌∙◌, ap, subst, eq-eqb}
use Rattle.std.specs.Prelude.{find}
use Rattle.std.specs.List.{AllByRecursion}
use Rattle.std.specs.Option.{is_some, option_map, option_or}
use Rattle.std.proofs.lemmas.Option.{none-some, same_Some}
use Rattle.nb_defs.specs.Records.{In, Out}
use Rattle.nb_login.specs.declared.info.LoginInfo.{LoginInfo}
use Rattle.nb_streams.proofs.FlowLaws.{all_append}
use Rattle.nb_machine.specs.Drives.{session_answered}
use Rattle.nb_machine.specs.Kinds.{answered, answered_by}
use Rattle.nb_machine.specs.Lives.{OpenInput, iscsi, Exchange, Live, continued}
use Rattle.nb_machine.specs.Network.{Network}
use Rattle.nb_machine.specs.Scripts.{Answer, by_end, by_drive, answer_in, answer_of_live, Waiting, Awaited, answer, moment, drive, disk, block, is_number, has_number}
use Rattle.nb_machine.specs.States.{State}
use Rattle.nb_machine.specs.Takings.{Over}
use Rattle.nb_laws.specs.Endings.{HadWay}
use Rattle.nb_laws.specs.Events.{Event}
use Rattle.nb_laws.specs.Lists.{open_has_ended}
use Rattle.nb_laws.specs.Progress.{IsAdvanced}
use Rattle.nb_laws.proofs.Tellings.{told}
use Rattle.nb_openlaws.specs.OpenReasons.{HaveWays, OpensAgree}
use Rattle.nb_openlaws.specs.Sessions.{session_of_live, SessionAgrees, AgreesBy, AgreesSession, SessionsAgree}
use Rattle.nb_openlaws.specs.Standings.{live_opening, AgreesLive, AreLive, HaveOwnNumbers, AgreesState, AgreesDevice}
use Rattle.nb_openlaws.proofs.KeptOpens.{all_front, all_back}
use Rattle.nb_openlaws.proofs.NetworkDevices.{device_follows}
use Rattle.nb_openlaws.proofs.Networks.{network_agrees, event_is}
use Rattle.nb_openlaws.proofs.OpenReasons.{network_so}
use Rattle.nb_openlaws.proofs.SessionAnswers.{SessionSays, says_due, unasked_tasks}
use Rattle.nb_openlaws.proofs.SessionNetworks.{SessionsThen, none_sized, one_sized, NetworkSessions, network_sessions}
use Rattle.nb_lawful.specs.ScriptAgreement.{IsNoTask, AreUnasked, IsAnother, WasSession, AwaitsSo, awaits_time, awaits_file, awaits_query, awaits_host, awaits_drive, awaits_disk, awaits_block, awaits_hooked}
use Rattle.nb_lawful.proofs.Coming.{IsGone, SettledNow, all_settled, one_due}
use Rattle.nb_lawful.proofs.DriveAnswers.{TellsSession, says_all}
use Rattle.nb_lawful.proofs.DriveSessions.{IsReadable, Fits, then_unasked, says_then, told_each, network_fits, network_stays, was_boots, not_both, DueHere, asked_well, have_ways}
use Rattle.nb_lawful.proofs.HookedLives.{all_map}
use Rattle.nb_lawful.proofs.Opened.{was_on}
use Rattle.nb_lawful.proofs.Plain.{IsPlain, ArePlain, IsPlainBut, ArePlainBut, booted_open, all_in, none_out, none_left_out, apart_amid, amid_all, are_but, network_plain}
use Rattle.nb_lawful.proofs.Scripted.{TellsIn}
use Rattle.nb_lawful.proofs.Unasked.{unasked_so}
use Rattle.nb_lawful.proofs.Waiting.{found_amid}

-- WHAT IS KNOWN OF THOSE THAT LIVE

-- the disk that is booted, of which nothing was asked
pub record IsFresh (es : List Event) (l : Live) : Type 0 where
  pub unasked : AreUnasked l.exchanges
  pub is_drive : (isn : ℕ) × (i : LoginInfo) × (l.kind ≡ iscsi isn i)
  pub was : WasSession true l.number es

-- so is that of which a command awaits that it may be asked
abbrev pub FreshIn : List Event → State → Waiting → Type 0
FreshIn es s w = (k : ℕ) → w.awaited ≡ disk k → AllByRecursion (λ l. l.number ≡ k → IsFresh es l) s.live

pub record KnownOf (es : List Event) (s : State) (w : Waiting) : Type 0 where
  pub fits : AllByRecursion (Fits es) s.live
  pub fresh : FreshIn es s w
  pub known : (k : ℕ) → w.awaited ≡ block k → AllByRecursion (λ l. l.number ≡ k → IsReadable es l) s.live

none_of : (P : Live → Type 0) (k : ℕ) (ls : List Live) → AllByRecursion (IsAnother k) ls → AllByRecursion (λ x. x.number ≡ k → P x) ls
none_of P k [] h = tt
none_of P k (x ∷ ls) h = ((λ same. absurd (let no : true ≡ false = sym (eq-eqb x.number k same) ∙ h.0 in cc no)), none_of P k ls h.1)

amid_each : (P : Live → Type 0) (k : ℕ) (earlier later : List Live) (l : Live) → AllByRecursion (IsAnother k) earlier → AllByRecursion (IsAnother k) later → P l → AllByRecursion (λ x. x.number ≡ k → P x) (earlier ++ l ∷ later)
amid_each P k earlier later l h t p = all_append (λ (x : Live). x.number ≡ k → P x) earlier (l ∷ later) (none_of P k earlier h) ((λ same. p), none_of P k later t)

plain_fits : (es : List Event) (ls : List Live) → ArePlain es ls → AllByRecursion (Fits es) ls
plain_fits es ls h = all_map (IsPlain es) (Fits es) ls (λ l p. inl p.unasked) h

fits_amid : (es : List Event) (k : ℕ) (earlier later : List Live) (l : Live) → AllByRecursion (IsAnother k) earlier → AllByRecursion (IsAnother k) later → ArePlainBut (Some k) es (earlier ++ l ∷ later) → Fits es l →
    AllByRecursion (Fits es) (earlier ++ l ∷ later)
fits_amid es k earlier later l h t plain fit =
    all_append (Fits es) earlier (l ∷ later) (plain_fits es earlier (none_left_out k es earlier h (all_front (IsPlainBut (Some k) es) earlier (l ∷ later) plain)))
    (fit, plain_fits es later (none_left_out k es later t (all_back (IsPlainBut (Some k) es) earlier (l ∷ later) plain).1))

-- where no disk is booted
of_plain : (es : List Event) (s : State) (w : Waiting) → booted_open w.awaited ≡ None → ArePlainBut (booted_open w.awaited) es s.live → KnownOf es s w
of_plain es s w out plain = record {
  fits = plain_fits es s.live (none_out (booted_open w.awaited) es s.live out plain);
  fresh = λ k at. absurd (none-some k (sym out ∙ ap booted_open at));
  known = λ k at. absurd (none-some k (sym out ∙ ap booted_open at));
}

of_disk : (es : List Event) (s : State) (w : Waiting) (l : Live) (earlier later : List Live) → s.live ≡ earlier ++ l ∷ later → AllByRecursion (IsAnother l.number) earlier → AllByRecursion (IsAnother l.number) later → w.awaited ≡ disk l.number →
    ArePlainBut (booted_open w.awaited) es s.live → IsFresh es l → KnownOf es s w
of_disk es s w l earlier later parted h t number plain fresh = record {
  fits = subst (AllByRecursion (Fits es)) (sym parted) (fits_amid es l.number earlier later l h t (subst (ArePlainBut (Some l.number) es) parted (subst (λ b. ArePlainBut b es s.live) (ap booted_open number) plain)) (inl fresh.unasked));
  fresh = λ k at.
      (let both : disk l.number ≡ disk k = sym number ∙ at in
      let same : l.number ≡ k = cc in
      subst (λ j. AllByRecursion (λ (x : Live). x.number ≡ j → IsFresh es x) s.live) same (subst (AllByRecursion (λ (x : Live). x.number ≡ l.number → IsFresh es x)) (sym parted) (amid_each (IsFresh es) l.number earlier later l h t fresh)));
  known = λ k at. absurd (let no : disk l.number ≡ block k = sym number ∙ at in cc no);
}

of_block : (es : List Event) (s : State) (w : Waiting) (l : Live) (earlier later : List Live) → s.live ≡ earlier ++ l ∷ later → AllByRecursion (IsAnother l.number) earlier → AllByRecursion (IsAnother l.number) later → w.awaited ≡ block l.number →
    ArePlainBut (booted_open w.awaited) es s.live → IsReadable es l → KnownOf es s w
of_block es s w l earlier later parted h t number plain readable = record {
  fits = subst (AllByRecursion (Fits es)) (sym parted) (fits_amid es l.number earlier later l h t (subst (ArePlainBut (Some l.number) es) parted (subst (λ b. ArePlainBut b es s.live) (ap booted_open number) plain)) (inr readable));
  fresh = λ k at. absurd (let no : block l.number ≡ disk k = sym number ∙ at in cc no);
  known = λ k at.
      (let both : block l.number ≡ block k = sym number ∙ at in
      let same : l.number ≡ k = cc in
      subst (λ j. AllByRecursion (λ (x : Live). x.number ≡ j → IsReadable es x) s.live) same (subst (AllByRecursion (λ (x : Live). x.number ≡ l.number → IsReadable es x)) (sym parted) (amid_each (IsReadable es) l.number earlier later l h t readable)));
}

known_of : (es : List Event) (s : State) (w : Waiting) → ArePlainBut (booted_open w.awaited) es s.live → AwaitsSo es s w → KnownOf es s w
known_of es s w plain (awaits_time until at job none t) = of_plain es s w (ap booted_open at) plain
known_of es s w plain (awaits_file l wanted at number job q) = of_plain es s w (ap booted_open number) plain
known_of es s w plain (awaits_query l query at number job q) = of_plain es s w (ap booted_open number) plain
known_of es s w plain (awaits_host l hooking at number job q gone) = of_plain es s w (ap booted_open number) plain
known_of es s w plain (awaits_drive l hooking at number job keeps q early gone) = of_plain es s w (ap booted_open number) plain
known_of es s w plain (awaits_disk l hooking keep at number job boots_it q was unasked early gone) =
    of_disk es s w l at.earlier [] at.last at.others tt number plain (record { unasked = unasked; is_drive = q.is_drive; was = was })
known_of es s w plain (awaits_block l hooking keep at number job boots_it q known unread gone) = of_block es s w l at.earlier [] at.last at.others tt number plain (inl known)
known_of es s w plain (awaits_hooked l d b number job unread) = of_block es s w l b.lives.earlier b.lives.later b.lives.parted b.lives.before b.lives.behind number plain (inr b.kept)

fresh_on : (es more : List Event) (s : State) (w : Waiting) → FreshIn es s w → FreshIn (es ++ more) s w
fresh_on es more s w fresh =
    λ k at. all_map (λ (l : Live). l.number ≡ k → IsFresh es l) (λ (l : Live). l.number ≡ k → IsFresh (es ++ more) l) s.live
    (λ l one same. (let f = one same in record { unasked = f.unasked; is_drive = f.is_drive; was = was_on true l.number es more f.was })) (fresh k at)

-- WHICH IS DUE

-- none, or the disk that is awaited
pub data SizedSo (es2 : List Event) (s2 : State) (w : Waiting) : Type 0 where
  none_due : SessionsAgree es2 s2.live → SizedSo es2 s2 w
  due_one : (l : Live) → w.awaited ≡ disk l.number → AreUnasked l.exchanges → (h : DueHere es2 s2 l) → h.due.boots ≡ true → SessionSays es2 l h.isn h.i → SizedSo es2 s2 w

sized_so : (es es2 : List Event) (s s2 : State) (w : Waiting) → ((k : ℕ) → WasSession false k es → WasSession false k es2) → KnownOf es s w → FreshIn es2 s2 w → ArePlainBut (booted_open w.awaited) es2 s2.live → SessionsThen es2 s s2 → SizedSo es2 s2 w
sized_so es es2 s s2 w later known fresh plain (none_sized all) = none_due all
sized_so es es2 s s2 w later known fresh plain (one_sized before behind l x isn i parted parted2 kind early late front d boots_it back due) =
    by w.awaited refl (amid_all (IsPlainBut (booted_open w.awaited) es2) before behind (continued l x) (subst (ArePlainBut (booted_open w.awaited) es2) parted2 plain))
  where
    kept_not : WasSession false l.number es2 → ⊥
    kept_not was = not_both l.number es2 (session_of_live (continued l x) i d.boots) was d.is boots_it

    unreadable : IsReadable es l → ⊥
    unreadable (inl some) = let no : false ≡ true = sym early ∙ some in cc no
    unreadable (inr was) = kept_not (later l.number was)

    by : (a : Awaited) → w.awaited ≡ a → IsPlainBut (booted_open a) es2 (continued l x) → SizedSo es2 s2 w
    by a at (inr p) = absurd (kept_not (p.kept isn i kind))
    by (answer number) at (inl out) = absurd out
    by (moment time) at (inl out) = absurd out
    by (drive number) at (inl out) = absurd out
    by (disk k) at (inl same) =
        due_one (continued l x) (at ∙ ap disk (sym same)) (amid_all (λ (z : Live). z.number ≡ k → IsFresh es2 z) before behind (continued l x) (subst (AllByRecursion (λ (z : Live). z.number ≡ k → IsFresh es2 z)) parted2 (fresh k at)) same).unasked
        (record { before = before; behind = behind; isn = isn; i = i; parted = parted2; kind = kind; readable = inl late; front = front; due = d; back = back; is_due = due }) boots_it
        (says_due es2 (continued l x) isn i s2.now d boots_it l.exchanges x refl (ap (λ q. is_some (answered_by q l)) (sym kind) ∙ early))
    by (block k) at (inl same) = absurd (unreadable (amid_all (λ (z : Live). z.number ≡ k → IsReadable es z) before behind l (subst (AllByRecursion (λ (z : Live). z.number ≡ k → IsReadable es z)) parted (known.known k at)) same))

live_says : (es2 : List Event) (s2 : State) (w : Waiting) → SizedSo es2 s2 w → AllByRecursion (TellsSession es2) s2.live
live_says es2 s2 w (none_due all) = says_all es2 s2.live all
live_says es2 s2 w (due_one l at unasked h boots_it says) =
    subst (AllByRecursion (TellsSession es2)) (sym h.parted) (all_append (TellsSession es2) h.before (l ∷ h.behind) (says_all es2 h.before h.front)
    ((λ isn i kind. says_then es2 l h.isn h.i h.kind says (then_unasked unasked)), says_all es2 h.behind h.back))

-- it is found by its number
found_due : (es2 : List Event) (s2 : State) (l : Live) → AgreesState es2 s2 → DueHere es2 s2 l → find (has_number l.number) s2.live ≡ Some l
found_due es2 s2 l a h = ap (find (has_number l.number)) h.parted ∙ found_amid l.number h.before h.behind l (apart_amid h.before h.behind l (subst HaveOwnNumbers h.parted a.apart)).0 refl

settled_now : (es2 : List Event) (s2 : State) (w : Waiting) → AgreesState es2 s2 → SizedSo es2 s2 w → SettledNow es2 s2 w
settled_now es2 s2 w a (none_due all) = all_settled all
settled_now es2 s2 w a (due_one l at unasked h boots_it says) = one_due l.number l at (found_due es2 s2 l a h)

found_parts : (f : Live → Bool) (ls : List Live) (l : Live) → find f ls ≡ Some l → (before : List Live) × (behind : List Live) × (ls ≡ before ++ l ∷ behind)
found_parts f [] l found = absurd (none-some l found)
found_parts f (x ∷ xs) l found = by (f x) (λ at. found_parts f xs l at) found
  where
    by : (b : Bool) → (find f xs ≡ Some l → (before : List Live) × (behind : List Live) × (xs ≡ before ++ l ∷ behind)) → cond b (Some x) (find f xs) ≡ Some l → (before : List Live) × (behind : List Live) × (x ∷ xs ≡ before ++ l ∷ behind)
    by true rest at = ([], xs, ap (λ z. z ∷ xs) (same_Some x l at))
    by false rest at = let r = rest at in (x ∷ r.0, r.1, ap (λ z. x ∷ z) r.2)

-- what is awaited is, where it is known
pub due_for : (es2 : List Event) (s2 : State) (w : Waiting) → AgreesState es2 s2 → SizedSo es2 s2 w → FreshIn es2 s2 w → (l : Live) → w.awaited ≡ disk l.number → find (has_number l.number) s2.live ≡ Some l → IsSome (answered l) → DueHere es2 s2 l
due_for es2 s2 w a (none_due all) fresh l at found known =
    let (before, behind, parted) = found_parts (has_number l.number) s2.live l found in
    let f : IsFresh es2 l = amid_all (λ (z : Live). z.number ≡ l.number → IsFresh es2 z) before behind l (subst (AllByRecursion (λ (z : Live). z.number ≡ l.number → IsFresh es2 z)) parted (fresh l.number at)) refl in
    let (isn, i, kind) = f.is_drive in
    let q : SessionAgrees es2 l isn i = subst (λ k. AgreesBy es2 k l) kind (amid_all (AgreesSession es2) before behind l (subst (SessionsAgree es2) parted all)) in
    let none : session_answered isn i l ≡ None = q.sized (was_boots true l.number es2 (session_of_live l i q.boots) f.was q.is) (unasked_tasks l isn i (unasked_so l.exchanges f.unasked)) in
    absurd (let no : false ≡ true = sym (ap is_some none) ∙ ap (λ k. is_some (answered_by k l)) (sym kind) ∙ known in cc no)
due_for es2 s2 w a (due_one l1 at1 unasked h boots_it says) fresh l at found known =
    let both : disk l1.number ≡ disk l.number = sym at1 ∙ at in
    let same : l1.number ≡ l.number = cc in
    subst (DueHere es2 s2) (same_Some l1 l (sym (found_due es2 s2 l1 a h) ∙ ap (λ k. find (has_number k) s2.live) same ∙ found)) h

-- AFTER A RECORD

pub record AfterRecord (es2 : List Event) (s2 : State) (w : Waiting) (over : List Over) : Type 0 where
  pub base : AgreesState es2 s2
  pub sized : SizedSo es2 s2 w
  pub fresh : FreshIn es2 s2 w
  pub told_over : AllByRecursion (λ o. TellsSession es2 o.live) over
  pub device : AgreesDevice es2 s2
  pub ways : HaveWays es2 s2.live
  pub advanced : IsAdvanced es2

fresh_grows : (es : List Event) (k : ℕ) (input : OpenInput) → IsNoTask input → (l : Live) (x : Exchange) → x.came ≡ input → (l.number ≡ k → IsFresh es l) → (continued l x).number ≡ k → IsFresh es (continued l x)
fresh_grows es k input none l x came one same =
    let f = one same in record { unasked = all_append (λ (y : Exchange). IsNoTask y.came) l.exchanges (x ∷ []) f.unasked (subst IsNoTask (sym came) none, tt); is_drive = f.is_drive; was = f.was }

fits_on : (es more : List Event) (ls : List Live) → AllByRecursion (Fits es) ls → AllByRecursion (Fits (es ++ more)) ls
fits_on es more ls h = all_map (Fits es) (Fits (es ++ more)) ls one h
  where
    readable : (l : Live) → IsReadable es l → IsReadable (es ++ more) l
    readable l (inl known) = inl known
    readable l (inr was) = inr (was_on false l.number es more was)

    one : (l : Live) → Fits es l → Fits (es ++ more) l
    one l (inl unasked) = inl unasked
    one l (inr r) = inr (readable l r)

pub after_record : (es : List Event) (s : State) (w : Waiting) (n : ℕ) (r : In) (put : List Out) (s2 : State) (over : List Over) (net : Network s n r put s2 over) (o : OpensAgree es s) → ArePlainBut (booted_open w.awaited) es s.live → AwaitsSo es s w →
    AfterRecord ((es ++ (network_agrees es s n r put s2 over net o.base).event ∷ []) ++ told put) s2 w over
after_record es s w n r put s2 over net o plain awaits =
    let u = network_agrees es s n r put s2 over net o.base in
    let es1 = es ++ u.event ∷ [] in
    let es2 = es1 ++ told put in
    let k = known_of es s w plain awaits in
    let fresh : FreshIn es2 s2 w =
    λ j at. network_stays (λ (l : Live). l.number ≡ j → IsFresh es2 l) (λ input none l x came one. fresh_grows es2 j input none l x came one) s s2 n r put over net (fresh_on es1 (told put) s w (fresh_on es (u.event ∷ []) s w k.fresh) j at) in
    let so = subst (λ e. NetworkSessions ((es ++ e ∷ []) ++ told put) s s2 over) (sym (event_is es s n r put s2 over net o.base)) (network_sessions es s n r put s2 over net o.base o.sessions) in
    record {
      base = u.agrees;
      sized = sized_so es es2 s s2 w (λ j was. was_on false j es1 (told put) (was_on false j es (u.event ∷ []) was)) k fresh
          (network_plain (booted_open w.awaited) es2 s s2 n r put over net (are_but (booted_open w.awaited) es1 (told put) s.live (are_but (booted_open w.awaited) es (u.event ∷ []) s.live plain))) so.live;
      fresh = fresh;
      told_over = told_each es2 over so.ended (network_fits es2 s s2 n r put over net (fits_on es1 (told put) s.live (fits_on es (u.event ∷ []) s.live k.fits)));
      device = (device_follows es s n r put s2 over net o.base o.device).device;
      ways = network_stays (λ (l : Live). HadWay l.number es2 (live_opening l)) (λ input none l x came h. h) s s2 n r put over net (have_ways es1 (told put) s.live (have_ways es (u.event ∷ []) s.live o.ways));
      advanced = (network_so es s s2 n r put over net o o.base).reasons.after;
    }

-- where no disk is awaited, or it has gone, none is due
pub all_out : (es2 : List Event) (s2 : State) (w : Waiting) → booted_open w.awaited ≡ None → SizedSo es2 s2 w → SessionsAgree es2 s2.live
all_out es2 s2 w out (none_due all) = all
all_out es2 s2 w out (due_one l at unasked h boots_it says) = absurd (none-some l.number (sym out ∙ ap booted_open at))

pub all_gone : (es2 : List Event) (s2 : State) (w : Waiting) → AgreesState es2 s2 → IsGone es2 w → SizedSo es2 s2 w → SessionsAgree es2 s2.live
all_gone es2 s2 w a gone (none_due all) = all
all_gone es2 s2 w a (k, out, over) (due_one l at unasked h boots_it says) =
    let same : k ≡ l.number = same_Some k l.number (sym out ∙ ap booted_open at) in
    let here = amid_all (AgreesLive es2) h.before h.behind l (subst (AreLive es2) h.parted a.each) in
    absurd (let no : false ≡ true = sym here.lives ∙ ap (λ j. open_has_ended j es2) (sym same) ∙ over in cc no)

-- nor is one where the command waits on
or_none : (x y : Option Answer) → option_or x y ≡ None → y ≡ None
or_none None y e = e
or_none (Some a) y e = absurd (none-some a (sym e))

pub all_unanswered : (es2 : List Event) (s2 : State) (w : Waiting) (r : In) (over : List Over) → AgreesState es2 s2 → answer_in s2 r over w.awaited ≡ None → SizedSo es2 s2 w → SessionsAgree es2 s2.live
all_unanswered es2 s2 w r over a none (none_due all) = all
all_unanswered es2 s2 w r over a none (due_one l at unasked h boots_it says) =
    let nothing = or_none (option_map by_end (find (is_number l.number) over)) (option_and_then answer_of_live (find (has_number l.number) s2.live)) (sym (ap (answer_in s2 r over) at) ∙ none) in
    let given : option_and_then answer_of_live (find (has_number l.number) s2.live) ≡ Some (by_drive l) = ap (option_and_then answer_of_live) (found_due es2 s2 l a h) ∙ ap (λ b. cond b (Some (by_drive l)) None) (known h.readable) in
    absurd (none-some (by_drive l) (sym nothing ∙ given))
  where
    known : IsReadable es2 l → is_some (answered l) ≡ true
    known (inl some) = some
    known (inr was) = absurd (not_both l.number es2 (session_of_live l h.i h.due.boots) was h.due.is boots_it)

-- nor where no command waits
pub all_plain : (es : List Event) (s s2 : State) (n : ℕ) (r : In) (put : List Out) (over : List Over) (net : Network s n r put s2 over) (a : AgreesState es s) → SessionsAgree es s.live → ArePlain es s.live →
    SessionsAgree ((es ++ (network_agrees es s n r put s2 over net a).event ∷ []) ++ told put) s2.live
all_plain es s s2 n r put over net a w plain =
    let e = (network_agrees es s n r put s2 over net a).event in
    by ((es ++ e ∷ []) ++ told put) (network_plain None _ s s2 n r put over net (are_but None (es ++ e ∷ []) (told put) s.live (are_but None es (e ∷ []) s.live (all_in None es s.live plain))))
    (subst (λ z. NetworkSessions ((es ++ z ∷ []) ++ told put) s s2 over) (sym (event_is es s n r put s2 over net a)) (network_sessions es s n r put s2 over net a w)).live
  where
    by : (es2 : List Event) → ArePlainBut None es2 s2.live → SessionsThen es2 s s2 → SessionsAgree es2 s2.live
    by es2 h (none_sized all) = all
    by es2 h (one_sized before behind l x isn i parted parted2 kind early late front d boots_it back due) =
        let here = amid_all (IsPlain es2) before behind (continued l x) (subst (ArePlain es2) parted2 (none_out None es2 s2.live refl h)) in
        absurd (not_both l.number es2 (session_of_live (continued l x) i d.boots) (here.kept isn i kind) d.is boots_it)

-- so of each step
pub tells_in : (es : List Event) (s : State) (w : Waiting) → OpensAgree es s → ArePlainBut (booted_open w.awaited) es s.live → AwaitsSo es s w → TellsIn es s w
tells_in es s w o plain awaits = λ n r put s2 over net a.
    let t = after_record es s w n r put s2 over net (record { base = a; sessions = o.sessions; device = o.device; kept = o.kept; ways = o.ways; advanced = o.advanced }) plain awaits in
    let es2 = (es ++ (network_agrees es s n r put s2 over net a).event ∷ []) ++ told put in
    record {
      tells = live_says es2 s2 w t.sized;
      told_over = t.told_over;
      now = settled_now es2 s2 w t.base t.sized;
      asks = λ l at found known. asked_well es2 s2 l l.number (due_for es2 s2 w t.base t.sized t.fresh l at found known) t.base t.device t.ways t.advanced refl;
    }
