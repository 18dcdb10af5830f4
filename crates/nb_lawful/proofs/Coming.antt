-- What a command waits for has come: its time, the end of its open, or the answer of a drive.
use Rattle.std.proofs.Common.{◌≡◌, ℕ, ◌+◌, ◌-◌, ◌<◌, Bool, true, false, cond, List, [], ◌∷◌, ◌++◌, Option, Some, None, option_map, IsSome, refl, sym, ◌∙◌, ap, subst, append-nil, arith, ◌⊎◌, inl, inr, ◌==◌}
use Rattle.std.specs.Prelude.{find}
use Rattle.std.specs.List.{AllByRecursion, list_any}
use Rattle.std.proofs.lemmas.Bool.{eq-eqb, eqb-true}
use Rattle.std.proofs.lemmas.Option.{none-some, same_Some}
use Rattle.std.specs.Option.{is_some, option_or, option_and_then}
use Rattle.nb_terms.specs.declared.cause.Cause.{Cause}
use Rattle.nb_defs.specs.Causes.{is_ok_cause}
use Rattle.nb_defs.specs.Records.{In, Out, step, ended}
use Rattle.nb_machine.specs.Running.{anew, Running}
use Rattle.nb_machine.specs.Lives.{Exchange, Live, continued, iscsi}
use Rattle.nb_machine.specs.States.{State}
use Rattle.nb_machine.specs.Takings.{Over}
use Rattle.nb_machine.specs.Scripts.{sleep, Answer, by_end, by_time, is_number, answer_in, Waiting, waiting_anew, place_moved_to, answer_of_live, has_number, by_drive, hooks, boots, hooked_drive, Awaited, answer, drive, disk, block, answer_of_over, block_of_live, block_of_over}
use Rattle.nb_machine.specs.Kinds.{answered, read_last}
use Rattle.nb_machine.specs.Drives.{DriveAnswer}
use Rattle.nb_machine.specs.Effects.{hooks_disk}
use Rattle.nb_laws.specs.Events.{Event, puts}
use Rattle.nb_laws.specs.Lists.{hardware, openings, made, ms_of, open_has_ended}
use Rattle.nb_laws.specs.Moves.{MovedOpen, moved_open, moves}
use Rattle.nb_laws.specs.Webs.{brought_to}
use Rattle.nb_laws.specs.Cores.{has_its_answer}
use Rattle.nb_laws.specs.CommandsSoFar.{CommandsSoFar, so_far, ComesTo, comes_after}
use Rattle.nb_laws.proofs.Histories.{hardware_more}
use Rattle.nb_laws.proofs.Tellings.{told, openings_more, came_more}
use Rattle.nb_openlaws.specs.Standings.{live_opening, streamed, IsKindBy, AreLive, AgreesLive, AgreesState}
use Rattle.nb_openlaws.proofs.Takings.{AgreesOver, AreOver}
use Rattle.nb_laws.specs.CommandOpens.{command_open_by, command_open, over_of}
use Rattle.nb_laws.specs.Agreement.{AgreesScript}
use Rattle.nb_laws.specs.CommandsSoFar.{booted_drive}
use Rattle.nb_laws.specs.Hookings.{hooked_drives, HasDriveAnswer, HasRead}
use Rattle.nb_laws.specs.CommandOpens.{end_of}
use Rattle.nb_lawful.specs.ScriptAgreement.{SleepsUntil, IsAnother, IsAwaited, AwaitsSo, awaits_time, awaits_file, awaits_query, awaits_host, HooksBy, SettingsAre, awaits_drive, awaits_disk, awaits_block, awaits_hooked, WasSession, IsNoTask, AreUnasked, HasFreeNumber, HasImages, NoneLeft}
use Rattle.nb_lawful.proofs.Quiet.{command_open_more}
use Rattle.nb_lawful.proofs.Awaited.{AreBeside, beside_open, own_end, beside_moves, own_moves, with_exchanges, Took, took_on, took_last, TookAmid, amid_on, amid_last, own_end_of, told_later, its}
use Rattle.nb_lawful.proofs.Stepping.{network_took, network_amid, used_moves}
use Rattle.nb_lawful.proofs.Opened.{Purpose, for_file, for_query, for_disk_host, for_disk}
use Rattle.nb_lawful.proofs.CommandEnds.{ended_so, HasEnded, own_place}
use Rattle.nb_lawful.proofs.Answered.{HasSlept}
use Rattle.nb_lawful.proofs.Disks.{still_hooks}
use Rattle.nb_lawful.proofs.DriveAnswers.{SaysSession, TellsSession, has_answered, has_read, none_reads}
use Rattle.nb_lawful.proofs.HookedLives.{lives_so}
use Rattle.nb_lawful.proofs.HookWords.{read_answers}
use Rattle.nb_lawful.proofs.Unasked.{unread_plain}
use Rattle.nb_lawful.proofs.Plain.{booted_open}
use Rattle.nb_drivecmd.specs.HookedDrives.{is_drive}
use Rattle.nb_drivecmd.specs.declared.drive.Drive.{Drive}
use Rattle.nb_drivecmd.specs.declared.outcome.AfterHook.TheVariants.{Keep, Boot}
use Rattle.nb_drivecmd.specs.declared.outcome.Hooking.{Hooking}
use Rattle.nb_login.specs.declared.info.LoginInfo.{LoginInfo}
use Rattle.nb_streams.proofs.FlowLaws.{all_append}
use Rattle.nb_lawful.proofs.Waiting.{fetches_then, asks_then, looks_up_then, hooks_then, found_amid, found_last, is_due, Steps, still_none, awaited_on, made_then, moves_on, was_then, still_unasked, free_on}
use Rattle.nb_openlaws.specs.Sessions.{SessionsAgree}

-- WHAT IT WAITS FOR HAS COME

-- the answers of opens that have ended are as their ends say
abbrev pub AnswersSo : List Event → Over → Type 0
AnswersSo es o = is_ok_cause o.cause ≡ has_its_answer o.live.number (live_opening o.live) es

found_either : {A : Type 0} (P : A → Type 0) (b : Bool) (y : A) (rest : Option A) (x : A) → P y → (rest ≡ Some x → P x) → cond b (Some y) rest ≡ Some x → P x
found_either P true y rest x here later e = subst P (same_Some y x e) here
found_either P false y rest x here later e = later e

pub found_one : {A : Type 0} (P : A → Type 0) (p : A → Bool) (xs : List A) (x : A) → AllByRecursion P xs → find p xs ≡ Some x → P x
found_one P p [] x h e = absurd (none-some x e)
found_one P p (y ∷ ys) x h e = found_either P (p y) y (find p ys) x h.0 (λ later. found_one P p ys x h.1 later) e

-- a disk that a command hooks has answered, on an open that lives on or has ended since
pub record HasHooked (es : List Event) (outs : List Out) (s : State) (inner : Running) (outer : List Running) (moved : List MovedOpen) (l : Live) (hooking : Hooking) : Type 0 where
  pub script : AgreesScript es inner outer
  pub settings : SettingsAre (so_far es) s true
  pub images : HasImages es outs s
  pub none_left : NoneLeft es
  pub opens : made es ≡ s.opens
  pub number : made es - 1 ≡ l.number
  pub its_open : (over : Option Cause) × (command_open es ≡ its l.number over)
  pub names : ComesTo es (made es) (hooks_disk hooking)
  pub answers : HasDriveAnswer es
  pub is_drive : (isn : ℕ) × (i : LoginInfo) × (l.kind ≡ iscsi isn i)
  -- only its own open has its number
  pub lives : AllByRecursion (λ x. x.number ≡ l.number → (isn : ℕ) × (i : LoginInfo) × (x.kind ≡ iscsi isn i)) s.live
  pub few : l.number < s.opens
  -- it takes the place of none
  pub gone : HasFreeNumber hooking (hooked_drives es)

-- a command that boots a hooked drive
pub record HasBooted (es : List Event) (outs : List Out) (s : State) (inner : Running) (outer : List Running) (d : Drive) : Type 0 where
  pub script : AgreesScript es inner outer
  pub settings : SettingsAre (so_far es) s true
  pub images : HasImages es outs s
  pub none_left : NoneLeft es
  pub none : command_open es ≡ None
  pub names : booted_drive (so_far es) ≡ Some d

-- a disk that is to be booted has answered, and its open lives on
pub record HasSized (es : List Event) (outs : List Out) (s : State) (w : Waiting) (l : Live) (hooking : Hooking) : Type 0 where
  pub script : AgreesScript es w.script w.outer
  pub settings : SettingsAre (so_far es) s true
  pub images : HasImages es outs s
  pub none_left : NoneLeft es
  pub awaited : IsAwaited es s w l
  pub names : HooksBy (so_far es) (moves es) l hooking
  pub was : WasSession true l.number es
  pub unasked : AreUnasked l.exchanges
  pub known : IsSome (answered l)
  pub gone : HasFreeNumber hooking s.drives

-- where it reads the block of a disk, that of a hooked drive or one that it hooks
abbrev pub IsBooting : Waiting → Hooking → Live → Type 0
IsBooting w hooking l = (w.job ≡ hooks hooking) ⊎ (w.job ≡ boots (Some (hooked_drive hooking l)))

-- the open of which it awaits that it may be booted has ended
abbrev pub IsGone : List Event → Waiting → Type 0
IsGone es w = (k : ℕ) × (booted_open w.awaited ≡ Some k) × (open_has_ended k es ≡ true)

-- its time has come, or its open has ended, or its disk has answered
pub data Comes (es2 : List Event) (outs : List Out) (s s' : State) (w : Waiting) (n : ℕ) (put : List Out) (a : Answer) : Type 0 where
  its_time : (until : ℕ) → a ≡ by_time → w.job ≡ sleep → HasSlept es2 (outs ++ step n ∷ put) s' s (anew w.script) w.outer until → booted_open w.awaited ≡ None → Comes es2 outs s s' w n put a
  its_end : (moved : List MovedOpen) (l : Live) (cause : Cause) → a ≡ by_end (ended_so l cause) → HasEnded es2 (outs ++ step n ∷ put) s' (anew w.script) w.outer moved l cause → Purpose es2 s'.drives moved l w.job →
      booted_open w.awaited ≡ None → Comes es2 outs s s' w n put a
  its_drive : (moved : List MovedOpen) (l : Live) (hooking : Hooking) → a ≡ by_drive l → w.job ≡ hooks hooking → hooking.after ≡ Keep → HasHooked es2 (outs ++ step n ∷ put) s' (anew w.script) w.outer moved l hooking →
      booted_open w.awaited ≡ None → Comes es2 outs s s' w n put a
  -- of a disk that is booted its capacity, its end, or its block
  its_disk : (l : Live) (hooking : Hooking) (keep : Bool) → a ≡ by_drive l → w.job ≡ hooks hooking → hooking.after ≡ Boot keep → HasSized es2 (outs ++ step n ∷ put) s' (waiting_anew w) l hooking → booted_open w.awaited ≡ Some l.number →
      (w.awaited ≡ disk l.number) × (find (has_number l.number) s'.live ≡ Some l) → Comes es2 outs s s' w n put a
  its_boot_end : (moved : List MovedOpen) (l : Live) (cause : Cause) (hooking : Hooking) (keep : Bool) → a ≡ by_end (ended_so l cause) → IsBooting w hooking l → hooking.after ≡ Boot keep →
      HasEnded es2 (outs ++ step n ∷ put) s' (anew w.script) w.outer moved l cause →
      HooksBy (so_far es2) moved l hooking → read_last l ≡ None → IsGone es2 w → Comes es2 outs s s' w n put a
  its_block : (moved : List MovedOpen) (l : Live) (hooking : Hooking) (keep : Bool) (bytes : List ℕ) → a ≡ by_drive l → w.job ≡ boots (Some (hooked_drive hooking l)) → hooking.after ≡ Boot keep →
      HasHooked es2 (outs ++ step n ∷ put) s' (anew w.script) w.outer moved l hooking → read_last l ≡ Some bytes → HasRead l.number es2 bytes → SessionsAgree es2 s'.live → AgreesState es2 s' → Comes es2 outs s s' w n put a
  -- and of a hooked drive its block, or its end
  its_hooked : (l : Live) (d : Drive) (bytes : List ℕ) → a ≡ by_drive l → w.job ≡ boots None → HasBooted es2 (outs ++ step n ∷ put) s' (anew w.script) w.outer d → read_last l ≡ Some bytes → HasRead d.open_number es2 bytes →
      SessionsAgree es2 s'.live → AgreesState es2 s' → Comes es2 outs s s' w n put a
  its_lost : (l : Live) (d : Drive) (cause : Cause) → a ≡ by_end (ended_so l cause) → w.job ≡ boots None → HasBooted es2 (outs ++ step n ∷ put) s' (anew w.script) w.outer d → end_of d.open_number es2 ≡ Some cause →
      ((bytes : List ℕ) → HasRead d.open_number es2 bytes → ⊥) → IsGone es2 w → Comes es2 outs s s' w n put a

-- what the history says of sessions after the network's part: all that it should, or the disk that is awaited is to be asked for its first block
pub data SettledNow (es2 : List Event) (s' : State) (w : Waiting) : Type 0 where
  all_settled : SessionsAgree es2 s'.live → SettledNow es2 s' w
  one_due : (k : ℕ) (l : Live) → w.awaited ≡ disk k → find (has_number k) s'.live ≡ Some l → SettledNow es2 s' w

settled_else : (es2 : List Event) (s' : State) (w : Waiting) (a : Awaited) → w.awaited ≡ a → ((k : ℕ) → a ≡ disk k → ⊥) → SettledNow es2 s' w → SessionsAgree es2 s'.live
settled_else es2 s' w a at never (all_settled all) = all
settled_else es2 s' w a at never (one_due k l is found) = absurd (never k (sym at ∙ is))

-- its file was moved so, with the open's end last
moved_last : (es2 es3 : List Event) (l : Live) (cause : Cause) → es2 ≡ es3 ++ puts (ended l.number cause) ∷ [] → made es3 ≡ l.number + 1 → AgreesOver es2 (ended_so l cause) → moves es2 ≡ moves es3 ++ moved_open (live_opening l) (place_moved_to (ended_so l cause))
moved_last es2 es3 l cause at is o =
    let e = puts (ended l.number cause) in
    let opening : openings l.number es3 ≡ live_opening l ∷ [] = sym (ap (openings l.number) at ∙ openings_more l.number es3 e ∙ append-nil (openings l.number es3)) ∙ o.opening in
    let streams : brought_to l.number es3 ≡ streamed l.exchanges = sym (ap (brought_to l.number) at ∙ came_more l.number es3 e ∙ append-nil (brought_to l.number es3)) ∙ o.streams in
    let kind : IsKindBy (hardware es3) l.number l.kind (live_opening l) = subst (λ h. IsKindBy h l.number l.kind (live_opening l)) (ap hardware at ∙ hardware_more es3 e) o.kind_is in
    ap moves at ∙ own_moves es3 l.number cause is ∙ own_place es3 l cause opening streams kind (moves es3)

has_ended : (es es2 : List Event) (outs : List Out) (s s' : State) (w : Waiting) (r : In) (n : ℕ) (e : Event) (put : List Out) (over : List Over) → Steps es es2 outs s s' w r n e put over → AgreesState es2 s' → AreOver es2 over →
    AllByRecursion (λ o. TellsSession es2 o.live) over → SessionsAgree es2 s'.live → AllByRecursion (AnswersSo es2) over → (l : Live) (at : IsAwaited es s w l) (x : Exchange) (cause : Cause) (front : List Out) →
    find (is_number l.number) over ≡ Some (ended_so (continued l x) cause) → put ≡ front ++ ended l.number cause ∷ [] →
    AreBeside l.number front → HasEnded es2 (outs ++ step n ∷ put) s' (anew w.script) w.outer (moves es) (continued l x) cause
has_ended es es2 outs s s' w r n e put over k base overs told_over settled answers l at x cause front some is beside =
    let es1 = es ++ e ∷ [] in
    let es3 = es1 ++ told front in
    let last = puts (ended l.number cause) in
    let b = beside_moves es1 l.number front (made_then es es2 outs s s' w r n e put over k l at) beside in
    let at_last : es2 ≡ es3 ++ last ∷ [] = k.at ∙ ap (λ z. es1 ++ told z) is ∙ told_later es1 front (ended l.number cause ∷ []) in
    let o = found_one (AgreesOver es2) (is_number l.number) over (ended_so (continued l x) cause) overs some in
    record {
      script = k.came.script;
      settings = k.came.settings;
      images = k.came.images;
      none_left = k.came.none_left;
      base = base;
      opens = base.opens;
      number = ap (λ z. z - 1) (base.opens ∙ k.leaves.opens ∙ at.number) ∙ omega arith;
      its_end = ap command_open at_last ∙ command_open_more es3 last ∙ ap (λ z. command_open_by z last) (beside_open es1 l.number None front beside (k.came.opens ∙ at.its)) ∙ own_end l.number cause;
      last = ap over_of (ap command_open at_last ∙ command_open_more es3 last ∙ ap (λ z. command_open_by z last) (beside_open es1 l.number None front beside (k.came.opens ∙ at.its)) ∙ own_end l.number cause);
      opening = o.opening;
      kind_is = o.kind_is;
      received = o.received;
      streams = o.streams;
      login = o.login;
      own = o.own;
      answered = found_one (AnswersSo es2) (is_number l.number) over (ended_so (continued l x) cause) answers some;
      tells = found_one (λ y. TellsSession es2 y.live) (is_number l.number) over (ended_so (continued l x) cause) told_over some;
      settled = settled;
      moved_so = moved_last es2 es3 (continued l x) cause at_last b.0 o ∙ ap (λ z. z ++ moved_open (live_opening (continued l x)) (place_moved_to (ended_so (continued l x) cause))) (b.1 ∙ used_moves es e k.used);
    }

-- the words of its command hook a disk still
hooks_still : (es es2 : List Event) (outs : List Out) (s s' : State) (w : Waiting) (r : In) (n : ℕ) (e : Event) (put : List Out) (over : List Over) → Steps es es2 outs s s' w r n e put over → (l : Live) (hooking : Hooking) → HooksBy (so_far es) (moves es) l hooking →
    ComesTo es2 (made es2) (hooks_disk hooking)
hooks_still es es2 outs s s' w r n e put over k l hooking q = (
  q.shown,
  ap (λ (m : CommandsSoFar). m.shown) k.came.same ∙ q.said,
  still_hooks l.number (made es2) (so_far es2) q.shown (moves es) (moves es2) hooking (subst (λ m. comes_after l.number m q.shown (moves es) ≡ hooks_disk hooking) (sym k.came.same) q.names),
)

-- a disk has answered
drive_answers : (l : Live) (a : Answer) → answer_of_live l ≡ Some a → (x : DriveAnswer) × (answered l ≡ Some x) × (a ≡ by_drive l)
drive_answers l a e = by (answered l) refl e
  where
    by : (x : Option DriveAnswer) → answered l ≡ x → cond (is_some x) (Some (by_drive l)) None ≡ Some a → (y : DriveAnswer) × (answered l ≡ Some y) × (a ≡ by_drive l)
    by None is e = absurd (none-some a e)
    by (Some y) is e = (y, is, sym (same_Some (by_drive l) a e))

-- none that lives has the number of one that has ended
ended_apart : (es : List Event) (l : Live) (ls : List Live) → AreLive es ls → open_has_ended l.number es ≡ true → AllByRecursion (λ x. x.number ≡ l.number → (isn : ℕ) × (i : LoginInfo) × (x.kind ≡ iscsi isn i)) ls
ended_apart es l [] h over = tt
ended_apart es l (x ∷ xs) h over = (λ same. absurd (let clash : false ≡ true = sym h.0.lives ∙ ap (λ k. open_has_ended k es) same ∙ over in cc clash), ended_apart es l xs h.1 over)

-- the others have other numbers
others_apart : (l : Live) (xs : List Live) → AllByRecursion (IsAnother l.number) xs → AllByRecursion (λ x. x.number ≡ l.number → (isn : ℕ) × (i : LoginInfo) × (x.kind ≡ iscsi isn i)) xs
others_apart l [] h = tt
others_apart l (x ∷ xs) h = (λ same. absurd (let clash : false ≡ true = sym h.0 ∙ eq-eqb x.number l.number same in cc clash), others_apart l xs h.1)

-- a disk has answered, or its open has ended before
over_answers : (o : Over) (a : Answer) → answer_of_over o ≡ a → ((x : DriveAnswer) × (answered o.live ≡ Some x) × (a ≡ by_drive o.live)) ⊎ ((answered o.live ≡ None) × (a ≡ by_end o))
over_answers o a e = by (answered o.live) refl e
  where
    by : (x : Option DriveAnswer) → answered o.live ≡ x → cond (is_some x) (by_drive o.live) (by_end o) ≡ a → ((y : DriveAnswer) × (answered o.live ≡ Some y) × (a ≡ by_drive o.live)) ⊎ ((answered o.live ≡ None) × (a ≡ by_end o))
    by None is e = inr (is, sym e)
    by (Some y) is e = inl (y, is, sym e)

pub last_of_all : (es : List Event) (earlier : List Live) (l : Live) → AreLive es (earlier ++ l ∷ []) → AgreesLive es l
last_of_all es [] l h = h.0
last_of_all es (x ∷ earlier) l h = last_of_all es earlier l h.1

-- the command's open was made last
latest_of : (es es2 : List Event) (outs : List Out) (s s' : State) (w : Waiting) (r : In) (n : ℕ) (e : Event) (put : List Out) (over : List Over) → Steps es es2 outs s s' w r n e put over → AgreesState es2 s' → (l : Live) →
    IsAwaited es s w l → made es2 - 1 ≡ l.number
latest_of es es2 outs s s' w r n e put over k base l at = ap (λ z. z - 1) (base.opens ∙ k.leaves.opens ∙ at.number) ∙ omega arith

there_before : (es es2 : List Event) (outs : List Out) (s s' : State) (w : Waiting) (r : In) (n : ℕ) (e : Event) (put : List Out) (over : List Over) → Steps es es2 outs s s' w r n e put over → (l : Live) → IsAwaited es s w l → l.number < s'.opens
there_before es es2 outs s s' w r n e put over k l at = let many = k.leaves.opens ∙ at.number in omega (arith, many)

free_then : (es es2 : List Event) (outs : List Out) (s s' : State) (w : Waiting) (r : In) (n : ℕ) (e : Event) (put : List Out) (over : List Over) → Steps es es2 outs s s' w r n e put over → AgreesState es2 s' → (hooking : Hooking) →
    HasFreeNumber hooking s.drives → HasFreeNumber hooking (hooked_drives es2)
free_then es es2 outs s s' w r n e put over k base hooking gone = ap (list_any (is_drive hooking.number)) (lives_so es2 s' base k.came.images.drives) ∙ free_on s s' r n put over k.net hooking gone

-- a disk that a command hooks has answered, and its open lives on
hooked_on : (es es2 : List Event) (outs : List Out) (s s' : State) (w : Waiting) (r : In) (n : ℕ) (e : Event) (put : List Out) (over : List Over) → Steps es es2 outs s s' w r n e put over → AgreesState es2 s' →
    (l : Live) (hooking : Hooking) (at : IsAwaited es s w l) →
    HooksBy (so_far es) (moves es) l hooking → HasFreeNumber hooking s.drives → (earlier : List Live) (xs : List Exchange) → s'.live ≡ earlier ++ with_exchanges l xs ∷ [] → AllByRecursion (IsAnother l.number) earlier →
    AreBeside l.number put → HasDriveAnswer es2 →
    HasHooked es2 (outs ++ step n ∷ put) s' (anew w.script) w.outer (moves es) (with_exchanges l xs) hooking
hooked_on es es2 outs s s' w r n e put over k base l hooking at q gone earlier xs is all beside answers = record {
  script = k.came.script;
  settings = k.came.settings;
  images = k.came.images;
  none_left = k.came.none_left;
  opens = base.opens;
  number = latest_of es es2 outs s s' w r n e put over k base l at;
  its_open = (None, ap command_open k.at ∙ beside_open (es ++ e ∷ []) l.number None put beside (k.came.opens ∙ at.its));
  names = hooks_still es es2 outs s s' w r n e put over k l hooking q;
  answers = answers;
  is_drive = q.is_drive;
  lives = subst (AllByRecursion (λ y. y.number ≡ l.number → (isn2 : ℕ) × (i2 : LoginInfo) × (y.kind ≡ iscsi isn2 i2))) (sym is) (all_append _ earlier (with_exchanges l xs ∷ []) (others_apart l earlier all) (λ same. q.is_drive, tt));
  few = there_before es es2 outs s s' w r n e put over k l at;
  gone = free_then es es2 outs s s' w r n e put over k base hooking gone;
}

-- or has ended since
hooked_over : (es es2 : List Event) (outs : List Out) (s s' : State) (w : Waiting) (r : In) (n : ℕ) (e : Event) (put : List Out) (over : List Over) → Steps es es2 outs s s' w r n e put over → AgreesState es2 s' → AreLive es2 s'.live →
    (l : Live) (hooking : Hooking) (at : IsAwaited es s w l) →
    HooksBy (so_far es) (moves es) l hooking → HasFreeNumber hooking s.drives → (x : Exchange) (cause : Cause) → open_has_ended l.number es2 ≡ true → command_open es2 ≡ its l.number (Some cause) → HasDriveAnswer es2 →
    HasHooked es2 (outs ++ step n ∷ put) s' (anew w.script) w.outer (moves es) (continued l x) hooking
hooked_over es es2 outs s s' w r n e put over k base living l hooking at q gone x cause over_so last_so answers = record {
  script = k.came.script;
  settings = k.came.settings;
  images = k.came.images;
  none_left = k.came.none_left;
  opens = base.opens;
  number = latest_of es es2 outs s s' w r n e put over k base l at;
  its_open = (Some cause, last_so);
  names = hooks_still es es2 outs s s' w r n e put over k l hooking q;
  answers = answers;
  is_drive = q.is_drive;
  lives = ended_apart es2 (continued l x) s'.live living over_so;
  few = there_before es es2 outs s s' w r n e put over k l at;
  gone = free_then es es2 outs s s' w r n e put over k base hooking gone;
}

-- what the history says of one amid those that live
pub found_tells : (es : List Event) (ls earlier later : List Live) (l : Live) → ls ≡ earlier ++ l ∷ later → AllByRecursion (TellsSession es) ls → TellsSession es l
found_tells es ls earlier later l is all = by earlier (subst (AllByRecursion (TellsSession es)) is all)
  where
    by : (front : List Live) → AllByRecursion (TellsSession es) (front ++ l ∷ later) → TellsSession es l
    by [] h = h.0
    by (x ∷ front) h = by front h.1

-- a block has come
block_answers : (l : Live) (a : Answer) → block_of_live l ≡ Some a → (bytes : List ℕ) × (read_last l ≡ Some bytes) × (a ≡ by_drive l)
block_answers l a e = by (read_last l) refl e
  where
    by : (x : Option (List ℕ)) → read_last l ≡ x → cond (is_some x) (Some (by_drive l)) None ≡ Some a → (bytes : List ℕ) × (read_last l ≡ Some bytes) × (a ≡ by_drive l)
    by None is e = absurd (none-some a e)
    by (Some bytes) is e = (bytes, is, sym (same_Some (by_drive l) a e))

over_blocks : (o : Over) (a : Answer) → block_of_over o ≡ a → ((bytes : List ℕ) × (read_last o.live ≡ Some bytes) × (a ≡ by_drive o.live)) ⊎ ((read_last o.live ≡ None) × (a ≡ by_end o))
over_blocks o a e = by (read_last o.live) refl e
  where
    by : (x : Option (List ℕ)) → read_last o.live ≡ x → cond (is_some x) (by_drive o.live) (by_end o) ≡ a → ((bytes : List ℕ) × (read_last o.live ≡ Some bytes) × (a ≡ by_drive o.live)) ⊎ ((read_last o.live ≡ None) × (a ≡ by_end o))
    by None is e = inr (is, sym e)
    by (Some bytes) is e = inl (bytes, is, sym e)

-- none that lives has the number of one that has ended
found_none : (es : List Event) (k : ℕ) (ls : List Live) (l : Live) → AreLive es ls → open_has_ended k es ≡ true → find (has_number k) ls ≡ Some l → ⊥
found_none es k [] l h over found = absurd (none-some l found)
found_none es k (x ∷ xs) l h over found = by (x.number == k) refl (λ at. found_none es k xs l h.1 over at) found
  where
    by : (b : Bool) → (x.number == k) ≡ b → (find (has_number k) xs ≡ Some l → ⊥) → cond b (Some x) (find (has_number k) xs) ≡ Some l → ⊥
    by true is later at = let clash : false ≡ true = sym h.0.lives ∙ ap (λ j. open_has_ended j es) (eqb-true x.number k is) ∙ over in cc clash
    by false is later at = later at

pub comes_so : (es es2 : List Event) (outs : List Out) (s s' : State) (w : Waiting) (r : In) (n : ℕ) (e : Event) (put : List Out) (over : List Over) (a : Answer) → Steps es es2 outs s s' w r n e put over → AgreesState es2 s' →
    AreOver es2 over → AreLive es2 s'.live → AllByRecursion (TellsSession es2) s'.live → AllByRecursion (λ o. TellsSession es2 o.live) over → SettledNow es2 s' w → AllByRecursion (AnswersSo es2) over →
    answer_in s' r over w.awaited ≡ Some a → AwaitsSo es s w → Comes es2 outs s s' w n put a
comes_so es es2 outs s s' w r n e put over a k base overs living tells told_over now answers is_answered (awaits_time until at job none t) =
    let due = is_due until s'.now a (sym (ap (answer_in s' r over) at) ∙ is_answered) in
    its_time until due.1 job (record {
      script = k.came.script;
      settings = k.came.settings;
      images = k.came.images;
      none_left = k.came.none_left;
      opens = base.opens ∙ k.leaves.opens;
      none = still_none es es2 outs s s' w r n e put over k none;
      sleeping = subst (λ m. SleepsUntil m s until) (sym k.came.same) (record { shown = t.shown; is_shown = t.is_shown; seconds = t.seconds; sleeps_so = t.sleeps_so; until_is = t.until_is; early = t.early });
      due = due.0;
    }) (ap booted_open at)
comes_so es es2 outs s s' w r n e put over a k base overs living tells told_over now answers is_answered (awaits_file l wanted at number job f) = by (network_took s s' n r put over k.net at.earlier l at.last at.others)
  where
    by : Took l.number l put s'.live over → Comes es2 outs s s' w n put a
    by (took_on earlier xs is all missing beside plain) = absurd (none-some a (sym (ap (λ z. option_map by_end z) missing) ∙ sym (ap (answer_in s' r over) number) ∙ is_answered))
    by (took_last x cause front some is beside plain) =
        its_end (moves es) (continued l x) cause (sym (same_Some _ a (sym (ap (λ z. option_map by_end z) some) ∙ sym (ap (answer_in s' r over) number) ∙ is_answered)))
        (has_ended es es2 outs s s' w r n e put over k base overs told_over (settled_else es2 s' w (answer l.number) number (λ j no. absurd (cc)) now) answers l at x cause front some is beside)
        (for_file wanted job (fetches_then es es2 (ms_of e) (moves es) l (l.exchanges ++ x ∷ []) wanted k.came.same k.came.hard f)) (ap booted_open number)
comes_so es es2 outs s s' w r n e put over a k base overs living tells told_over now answers is_answered (awaits_query l query at number job q) = by (network_took s s' n r put over k.net at.earlier l at.last at.others)
  where
    by : Took l.number l put s'.live over → Comes es2 outs s s' w n put a
    by (took_on earlier xs is all missing beside plain) = absurd (none-some a (sym (ap (λ z. option_map by_end z) missing) ∙ sym (ap (answer_in s' r over) number) ∙ is_answered))
    by (took_last x cause front some is beside plain) =
        its_end (moves es) (continued l x) cause (sym (same_Some _ a (sym (ap (λ z. option_map by_end z) some) ∙ sym (ap (answer_in s' r over) number) ∙ is_answered)))
        (has_ended es es2 outs s s' w r n e put over k base overs told_over (settled_else es2 s' w (answer l.number) number (λ j no. absurd (cc)) now) answers l at x cause front some is beside)
        (for_query query job (asks_then es es2 (ms_of e) (moves es) l (l.exchanges ++ x ∷ []) query k.came.same k.came.hard q)) (ap booted_open number)
comes_so es es2 outs s s' w r n e put over a k base overs living tells told_over now answers is_answered (awaits_host l hooking at number job q gone) = by (network_took s s' n r put over k.net at.earlier l at.last at.others)
  where
    by : Took l.number l put s'.live over → Comes es2 outs s s' w n put a
    by (took_on earlier xs is all missing beside plain) = absurd (none-some a (sym (ap (λ z. option_map by_end z) missing) ∙ sym (ap (answer_in s' r over) number) ∙ is_answered))
    by (took_last x cause front some is beside plain) =
        its_end (moves es) (continued l x) cause (sym (same_Some _ a (sym (ap (λ z. option_map by_end z) some) ∙ sym (ap (answer_in s' r over) number) ∙ is_answered)))
        (has_ended es es2 outs s s' w r n e put over k base overs told_over (settled_else es2 s' w (answer l.number) number (λ j no. absurd (cc)) now) answers l at x cause front some is beside)
        (for_disk_host hooking job (looks_up_then es es2 (ms_of e) (moves es) l (l.exchanges ++ x ∷ []) hooking k.came.same k.came.hard q)
        (free_on s s' r n put over k.net hooking gone)) (ap booted_open number)
comes_so es es2 outs s s' w r n e put over a k base overs living tells told_over now answers is_answered (awaits_drive l hooking at number job keeps q early gone) = by (network_took s s' n r put over k.net at.earlier l at.last at.others)
  where
    gives : option_or (option_map answer_of_over (find (is_number l.number) over)) (option_and_then answer_of_live (find (has_number l.number) s'.live)) ≡ Some a
    gives = sym (ap (answer_in s' r over) number) ∙ is_answered

    settled : SessionsAgree es2 s'.live
    settled = settled_else es2 s' w (drive l.number) number (λ j no. absurd (cc)) now

    by : Took l.number l put s'.live over → Comes es2 outs s s' w n put a
    by (took_on earlier xs is all missing beside plain) =
        let x = with_exchanges l xs in
        let found : find (has_number l.number) s'.live ≡ Some x = ap (find (has_number l.number)) is ∙ found_last l.number earlier x all refl in
        let g = drive_answers x a (sym (ap (λ z. option_or (option_map answer_of_over z) (option_and_then answer_of_live (find (has_number l.number) s'.live))) missing ∙ ap (option_and_then answer_of_live) found) ∙ gives) in
        let (isn, i, kind) = q.is_drive in
        let says = found_tells es2 s'.live earlier [] x is tells isn i kind in
        its_drive (moves es) x hooking g.2 job keeps
        (hooked_on es es2 outs s s' w r n e put over k base l hooking at q gone earlier xs is all beside (has_answered es2 x says (latest_of es es2 outs s s' w r n e put over k base l at) (ap is_some g.1))) (ap booted_open number)
    by (took_last x cause front some is beside plain) =
        by_over (over_answers (ended_so (continued l x) cause) a (same_Some _ a (sym (ap (λ z. option_or (option_map answer_of_over z) (option_and_then answer_of_live (find (has_number l.number) s'.live))) some) ∙ gives)))
      where
        o : AgreesOver es2 (ended_so (continued l x) cause)
        o = found_one (AgreesOver es2) (is_number l.number) over (ended_so (continued l x) cause) overs some

        h : HasEnded es2 (outs ++ step n ∷ put) s' (anew w.script) w.outer (moves es) (continued l x) cause
        h = has_ended es es2 outs s s' w r n e put over k base overs told_over settled answers l at x cause front some is beside

        by_over : ((y : DriveAnswer) × (answered (continued l x) ≡ Some y) × (a ≡ by_drive (continued l x))) ⊎ ((answered (continued l x) ≡ None) × (a ≡ by_end (ended_so (continued l x) cause))) → Comes es2 outs s s' w n put a
        by_over (inl (y, has, given)) = let (isn, i, kind) = q.is_drive in
            its_drive (moves es) (continued l x) hooking given job keeps
            (hooked_over es es2 outs s s' w r n e put over k base living l hooking at q gone x cause o.over h.its_end (has_answered es2 (continued l x) (h.tells isn i kind) (latest_of es es2 outs s s' w r n e put over k base l at) (ap is_some has))) (ap booted_open number)
        by_over (inr (none, given)) =
            its_end (moves es) (continued l x) cause given h (for_disk hooking job keeps (hooks_then es es2 (ms_of e) (moves es) l (l.exchanges ++ x ∷ []) hooking k.came.same q) none (free_on s s' r n put over k.net hooking gone)) (ap booted_open number)
comes_so es es2 outs s s' w r n e put over a k base overs living tells told_over now answers is_answered (awaits_disk l hooking keep at number job boots_it q was unasked early gone) = by (network_took s s' n r put over k.net at.earlier l at.last at.others)
  where
    settled_gone : SettledNow es2 s' w → open_has_ended l.number es2 ≡ true → SessionsAgree es2 s'.live
    settled_gone (all_settled all) over_so = all
    settled_gone (one_due j x is found) over_so =
        absurd (let same : disk l.number ≡ disk j = sym number ∙ is in let here : l.number ≡ j = cc in found_none es2 j s'.live x living (ap (λ z. open_has_ended z es2) (sym here) ∙ over_so) found)

    gives : option_or (option_map by_end (find (is_number l.number) over)) (option_and_then answer_of_live (find (has_number l.number) s'.live)) ≡ Some a
    gives = sym (ap (answer_in s' r over) number) ∙ is_answered

    by : Took l.number l put s'.live over → Comes es2 outs s s' w n put a
    by (took_on earlier xs is all missing beside plain) =
        let x = with_exchanges l xs in
        let found : find (has_number l.number) s'.live ≡ Some x = ap (find (has_number l.number)) is ∙ found_last l.number earlier x all refl in
        let g = drive_answers x a (sym (ap (λ z. option_or (option_map by_end z) (option_and_then answer_of_live (find (has_number l.number) s'.live))) missing ∙ ap (option_and_then answer_of_live) found) ∙ gives) in
        its_disk x hooking keep g.2 job boots_it (record {
          script = k.came.script;
          settings = k.came.settings;
          images = k.came.images;
          none_left = k.came.none_left;
          awaited = awaited_on es es2 outs s s' w r n e put over k l at earlier xs is all beside;
          names = subst (λ z. HooksBy (so_far es2) z x hooking) (sym (moves_on es es2 outs s s' w r n e put over k l at beside)) (hooks_then es es2 (ms_of e) (moves es) l xs hooking k.came.same q);
          was = was_then es es2 outs s s' w r n e put over k true l.number was;
          unasked = still_unasked l xs plain unasked;
          known = ap is_some g.1;
          gone = free_on s s' r n put over k.net hooking gone;
        }) (ap booted_open number) (number, found)
    by (took_last x cause front some is beside plain) =
        let o = found_one (AgreesOver es2) (is_number l.number) over (ended_so (continued l x) cause) overs some in
        let h = has_ended es es2 outs s s' w r n e put over k base overs told_over (settled_gone now o.over) answers l at x cause front some is beside in
        let (isn, i, kind) = q.is_drive in
        its_boot_end (moves es) (continued l x) cause hooking keep (sym (same_Some _ a (sym (ap (λ z. option_or (option_map by_end z) (option_and_then answer_of_live (find (has_number l.number) s'.live))) some) ∙ gives))) (inl job) boots_it h
        (hooks_then es es2 (ms_of e) (moves es) l (l.exchanges ++ x ∷ []) hooking k.came.same q)
        (unread_plain (continued l x) isn i kind (all_append (λ (y : Exchange). IsNoTask y.came) l.exchanges (x ∷ []) unasked (plain, tt))) (l.number, ap booted_open number, o.over)
comes_so es es2 outs s s' w r n e put over a k base overs living tells told_over now answers is_answered (awaits_block l hooking keep at number job boots_it q known unread gone) = by (network_took s s' n r put over k.net at.earlier l at.last at.others)
  where
    gives : option_or (option_map block_of_over (find (is_number l.number) over)) (option_and_then block_of_live (find (has_number l.number) s'.live)) ≡ Some a
    gives = sym (ap (answer_in s' r over) number) ∙ is_answered

    settled : SessionsAgree es2 s'.live
    settled = settled_else es2 s' w (block l.number) number (λ j no. absurd (cc)) now

    by : Took l.number l put s'.live over → Comes es2 outs s s' w n put a
    by (took_on earlier xs is all missing beside plain) =
        let x = with_exchanges l xs in
        let found : find (has_number l.number) s'.live ≡ Some x = ap (find (has_number l.number)) is ∙ found_last l.number earlier x all refl in
        let (bytes, read, given) = block_answers x a (sym (ap (λ z. option_or (option_map block_of_over z) (option_and_then block_of_live (find (has_number l.number) s'.live))) missing ∙ ap (option_and_then block_of_live) found) ∙ gives) in
        let (isn, i, kind) = q.is_drive in
        let says = found_tells es2 s'.live earlier [] x is tells isn i kind in
        let latest = latest_of es es2 outs s s' w r n e put over k base l at in
        its_block (moves es) x hooking keep bytes given job boots_it
        (hooked_on es es2 outs s s' w r n e put over k base l hooking at q gone earlier xs is all beside (read_answers es2 bytes (has_read es2 x (made es2 - 1) bytes says latest read)))
        read (has_read es2 x l.number bytes says refl read) settled base
    by (took_last x cause front some is beside plain) =
        by_over (over_blocks (ended_so (continued l x) cause) a (same_Some _ a (sym (ap (λ z. option_or (option_map block_of_over z) (option_and_then block_of_live (find (has_number l.number) s'.live))) some) ∙ gives)))
      where
        o : AgreesOver es2 (ended_so (continued l x) cause)
        o = found_one (AgreesOver es2) (is_number l.number) over (ended_so (continued l x) cause) overs some

        h : HasEnded es2 (outs ++ step n ∷ put) s' (anew w.script) w.outer (moves es) (continued l x) cause
        h = has_ended es es2 outs s s' w r n e put over k base overs told_over settled answers l at x cause front some is beside

        by_over : ((bytes : List ℕ) × (read_last (continued l x) ≡ Some bytes) × (a ≡ by_drive (continued l x))) ⊎ ((read_last (continued l x) ≡ None) × (a ≡ by_end (ended_so (continued l x) cause))) → Comes es2 outs s s' w n put a
        by_over (inl (bytes, read, given)) = let (isn, i, kind) = q.is_drive in
            let says = h.tells isn i kind in
            its_block (moves es) (continued l x) hooking keep bytes given job boots_it
            (hooked_over es es2 outs s s' w r n e put over k base living l hooking at q gone x cause o.over h.its_end (read_answers es2 bytes (has_read es2 (continued l x) (made es2 - 1) bytes says h.number read)))
            read (has_read es2 (continued l x) l.number bytes says refl read) settled base
        by_over (inr (none, given)) =
            its_boot_end (moves es) (continued l x) cause hooking keep given (inr job) boots_it h (hooks_then es es2 (ms_of e) (moves es) l (l.exchanges ++ x ∷ []) hooking k.came.same q) none (l.number, ap booted_open number, o.over)
comes_so es es2 outs s s' w r n e put over a k base overs living tells told_over now answers is_answered (awaits_hooked l d b number job unread) =
    by (network_amid s s' n r put over k.net b.lives.earlier b.lives.later l b.lives.parted b.lives.before b.lives.behind)
  where
    gives : option_or (option_map block_of_over (find (is_number l.number) over)) (option_and_then block_of_live (find (has_number l.number) s'.live)) ≡ Some a
    gives = sym (ap (answer_in s' r over) number) ∙ is_answered

    settled : SessionsAgree es2 s'.live
    settled = settled_else es2 s' w (block l.number) number (λ j no. absurd (cc)) now

    booted : HasBooted es2 (outs ++ step n ∷ put) s' (anew w.script) w.outer d
    booted = record {
      script = k.came.script;
      settings = k.came.settings;
      images = k.came.images;
      none_left = k.came.none_left;
      none = still_none es es2 outs s s' w r n e put over k b.none;
      names = ap booted_drive k.came.same ∙ b.names;
    }

    by : TookAmid l.number l put s'.live over → Comes es2 outs s s' w n put a
    by (amid_on earlier later xs is all rear missing beside) =
        let x = with_exchanges l xs in
        let found : find (has_number l.number) s'.live ≡ Some x = ap (find (has_number l.number)) is ∙ found_amid l.number earlier later x all refl in
        let (bytes, read, given) = block_answers x a (sym (ap (λ z. option_or (option_map block_of_over z) (option_and_then block_of_live (find (has_number l.number) s'.live))) missing ∙ ap (option_and_then block_of_live) found) ∙ gives) in
        let (isn, i, kind) = b.is_drive in
        its_hooked x d bytes given job booted read (has_read es2 x d.open_number bytes (found_tells es2 s'.live earlier later x is tells isn i kind) b.own read) settled base
    by (amid_last x cause front behind some is beside rear) =
        by_over (over_blocks (ended_so (continued l x) cause) a (same_Some _ a (sym (ap (λ z. option_or (option_map block_of_over z) (option_and_then block_of_live (find (has_number l.number) s'.live))) some) ∙ gives)))
      where
        o : AgreesOver es2 (ended_so (continued l x) cause)
        o = found_one (AgreesOver es2) (is_number l.number) over (ended_so (continued l x) cause) overs some

        says : SaysSession es2 (continued l x)
        says = let (isn, i, kind) = b.is_drive in found_one (λ y. TellsSession es2 y.live) (is_number l.number) over (ended_so (continued l x) cause) told_over some isn i kind

        last : end_of d.open_number es2 ≡ Some cause
        last = ap (λ j. end_of j es2) b.own ∙ ap (end_of l.number) (k.at ∙ ap (λ z. (es ++ e ∷ []) ++ told z) is ∙ told_later (es ++ e ∷ []) front (ended l.number cause ∷ behind)) ∙ own_end_of ((es ++ e ∷ []) ++ told front) l.number cause behind rear

        by_over : ((bytes : List ℕ) × (read_last (continued l x) ≡ Some bytes) × (a ≡ by_drive (continued l x))) ⊎ ((read_last (continued l x) ≡ None) × (a ≡ by_end (ended_so (continued l x) cause))) → Comes es2 outs s s' w n put a
        by_over (inl (bytes, read, given)) = its_hooked (continued l x) d bytes given job booted read (has_read es2 (continued l x) d.open_number bytes says b.own read) settled base
        by_over (inr (none, given)) = its_lost (continued l x) d cause given job booted last (none_reads es2 (continued l x) d.open_number says b.own none) (l.number, ap booted_open number, o.over)
