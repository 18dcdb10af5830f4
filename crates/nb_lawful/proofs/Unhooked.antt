-- A command that has no result yet hasn't got the answer of the disk that it hooks and keeps, nor the block of one that it boots.
use Rattle.std.proofs.Common.{◌≡◌, ℕ, ◌+◌, ◌-◌, ◌==◌, Bool, true, false, cond, List, [], ◌∷◌, ◌++◌, Option, Some, None, IsSome, refl, sym, ◌∙◌, ap, subst, arith, add-zero, append-nil, append_assoc}
use Rattle.std.specs.List.{AllByRecursion}
use Rattle.std.proofs.lemmas.Option.{none-some, same_Some}
use Rattle.nb_terms.specs.declared.cause.Cause.{Cause}
use Rattle.nb_defs.specs.Records.{Out, step, sent, ended}
use Rattle.nb_drivecmd.specs.declared.drive.Drive.{Drive}
use Rattle.nb_drivecmd.specs.declared.outcome.AfterHook.TheVariants.{Boot}
use Rattle.nb_drivecmd.specs.declared.outcome.Hooking.{Hooking}
use Rattle.nb_uri.specs.declared.target.UriTarget.{UriTarget}
use Rattle.nb_uri.specs.declared.target.UriTarget.TheVariants.{Tftp, Http, Iscsi}
use Rattle.nb_machine.specs.Effects.{sleeps, hooks_disk, onward_effect}
use Rattle.nb_machine.specs.Errands.{Onward, hooks_then, fetches_now, echoes_now, hooks_now, looks_up_now}
use Rattle.nb_machine.specs.Kinds.{read_last}
use Rattle.nb_machine.specs.Lives.{Live, kind_number}
use Rattle.nb_machine.specs.Queries.{Query, for_lease, for_echo, for_host, for_address}
use Rattle.nb_machine.specs.Scripts.{Waiting}
use Rattle.nb_machine.specs.States.{State}
use Rattle.nb_laws.specs.CommandOpens.{CommandOpen, command_open_by, command_open, over_of}
use Rattle.nb_laws.specs.CommandsSoFar.{CommandsSoFar, so_far, ComesTo, comes_after, booted_drive}
use Rattle.nb_laws.specs.Drives.{sessions, came_to_session_at, came_to_session, answered_so_far}
use Rattle.nb_laws.specs.Events.{Event, puts, stops}
use Rattle.nb_laws.specs.Hookings.{HasDriveAnswer, BootsDisk, BootsBy, boots_hooking, boots_hooked, HasRead, NoneIsHooked}
use Rattle.nb_laws.specs.Lists.{Hardware, hardware, made, opens_by, openings, opening_at, last_end, came_ok}
use Rattle.nb_laws.specs.Moves.{moves}
use Rattle.nb_laws.proofs.DriveEvents.{came_stays, answered_same, read_same}
use Rattle.nb_laws.proofs.Settling.{same_shown}
use Rattle.nb_laws.proofs.SoFar.{so_far_more}
use Rattle.nb_laws.proofs.Tellings.{told, made_more, sessions_stay}
use Rattle.nb_laws.proofs.Histories.{hardware_more}
use Rattle.nb_openlaws.specs.Standings.{AgreesState, AreLive, live_opening}
use Rattle.nb_openlaws.proofs.Puts.{IsClosing, AreClosing}
use Rattle.nb_lawful.specs.ScriptAgreement.{open_kind_for, IsLiveFor, HooksBy, OpensNoDrive, IsToReach, reaches_host, reaches_place, reaches_disk, reaches_looked_up_disk, IsAwaited, AwaitsSo, awaits_time, awaits_file, awaits_query, awaits_host, awaits_drive, awaits_disk, awaits_block, awaits_hooked}
use Rattle.nb_lawful.proofs.Answered.{hooks_now_so}
use Rattle.nb_lawful.proofs.Begun.{opened_none}
use Rattle.nb_lawful.proofs.Coming.{last_of_all, found_tells}
use Rattle.nb_lawful.proofs.Disks.{no_drive_last}
use Rattle.nb_lawful.proofs.DriveAnswers.{TellsSession, none_answers, none_reads}
use Rattle.nb_lawful.proofs.NoBlocks.{words_boot_none, no_block_first, no_block_later, no_block_last, made_some, keep_or_boot}
use Rattle.nb_lawful.proofs.Onward.{ended_well}
use Rattle.nb_lawful.proofs.Quiet.{command_open_more, quiet_so_far, ends_quiet}
use Rattle.nb_lawful.proofs.Resting.{sleeping_comes}
use Rattle.nb_lawful.proofs.Unasked.{unread_plain}

-- a command that has its result hooks nothing more
pub over_unhooked : (es : List Event) → (so_far es).is_open ≡ false → NoneIsHooked es
over_unhooked es over = record {
  unanswered = λ on left its disk answers. absurd (let no : false ≡ true = sym over ∙ on in cc no);
  unread = λ on left k bytes boots_it read. absurd (let no : false ≡ true = sym over ∙ on in cc no);
}

-- nor does one whose script was left
pub left_unhooked : (es : List Event) (cause : Cause) → (so_far es).left ≡ Some cause → NoneIsHooked es
left_unhooked es cause some = record {
  unanswered = λ on left its disk answers. absurd (none-some cause (sym left ∙ some));
  unread = λ on left k bytes boots_it read. absurd (none-some cause (sym left ∙ some));
}

-- its open was made last
latest : (es : List Event) (s : State) (w : Waiting) (l : Live) → AgreesState es s → IsAwaited es s w l → made es - 1 ≡ l.number
latest es s w l a at = ap (λ n. n - 1) (a.opens ∙ at.number) ∙ minus_one l.number
  where
    minus_one : (n : ℕ) → (n + 1) - 1 ≡ n
    minus_one n = omega arith

other_unhooked : (es : List Event) (s : State) (w : Waiting) (l : Live) → AgreesState es s → IsAwaited es s w l → (kind_number l.kind == 3) ≡ false → NoneIsHooked es
other_unhooked es s w l a at other =
    let v = last_of_all es at.earlier l (subst (AreLive es) at.last a.each) in
    let opened = ap (λ n. openings n es) (latest es s w l a at) ∙ v.opening in
    record {
      unanswered = λ on left its disk answers. no_drive_last es (live_opening l) (kind_number l.kind) opened refl other answers;
      unread = λ on left. no_block_later es _ at.its (λ disk. no_block_last es (live_opening l) (kind_number l.kind) opened refl other);
    }

-- a command waits, and no disk that it hooks has answered
fetches_none : (h : Hardware) (k : ℕ) (target : UriTarget) → (kind_number (open_kind_for h k target) == 3) ≡ false
fetches_none h k (Tftp host port path whole) = refl
fetches_none h k (Http host port path whole) = refl
fetches_none h k (Iscsi host port lun name whole) = refl

asks_none : (h : Hardware) (query : Query) (l : Live) → IsLiveFor h query l → (kind_number l.kind == 3) ≡ false
asks_none h for_lease l is = ap (λ k. kind_number k == 3) is
asks_none h (for_echo server) l is = ap (λ k. kind_number k == 3) is
asks_none h (for_host errand name by) l is = ap (λ k. kind_number k == 3) is.0
asks_none h (for_address setting name by) l is = ap (λ k. kind_number k == 3) is

-- the disk that its words hook
booted_by : (es : List Event) (l : Live) (hooking : Hooking) (keep : Bool) → HooksBy (so_far es) (moves es) l hooking → hooking.after ≡ Boot keep → BootsDisk es
booted_by es l hooking keep q boots_it = record { hooking = hooking; names = hooks_now_so es l.number q.shown (moves es) hooking q.said q.names; keep = keep; boots = boots_it }

-- one that is booted, of which no block was read
unread_disk : (es : List Event) (s : State) (w : Waiting) (l : Live) (hooking : Hooking) (keep : Bool) → AgreesState es s → AllByRecursion (TellsSession es) s.live → IsAwaited es s w l → HooksBy (so_far es) (moves es) l hooking →
    hooking.after ≡ Boot keep → read_last l ≡ None → NoneIsHooked es
unread_disk es s w l hooking keep a tells at q boots_it unread =
    let (isn, i, kind) = q.is_drive in
    record {
      unanswered = λ on left its disk answers. keep_or_boot es disk (booted_by es l hooking keep q boots_it);
      unread = λ on left. no_block_later es _ at.its (λ disk. none_reads es l (made es - 1) (found_tells es s.live at.earlier [] l at.last tells isn i kind) (latest es s w l a at) unread);
    }

pub waiting_unhooked : (es : List Event) (s : State) (w : Waiting) → AgreesState es s → AllByRecursion (TellsSession es) s.live → AwaitsSo es s w → NoneIsHooked es
waiting_unhooked es s w a tells (awaits_time until at job none t) = record {
  unanswered = λ on left its disk answers. absurd (none-some _ (sym none ∙ its));
  unread = λ on left. no_block_first es none (words_boot_none es (made es) (sleeps t.seconds) refl (sleeping_comes es s until t));
}
waiting_unhooked es s w a tells (awaits_file l wanted at number job f) = other_unhooked es s w l a at (ap (λ k. kind_number k == 3) f.kind_is ∙ fetches_none (hardware es) l.number wanted.asking.target)
waiting_unhooked es s w a tells (awaits_query l query at number job q) = other_unhooked es s w l a at (asks_none (hardware es) query l q.is_for)
waiting_unhooked es s w a tells (awaits_host l hooking at number job q gone) = other_unhooked es s w l a at (asks_none (hardware es) (for_host (hooks_then hooking) q.name q.by) l q.is_for)
waiting_unhooked es s w a tells (awaits_drive l hooking at number job keeps q early gone) =
    let (isn, i, kind) = q.is_drive in
    record {
      unanswered = λ on left its disk answers. none_answers es l (found_tells es s.live at.earlier [] l at.last tells isn i kind) (latest es s w l a at) early answers;
      unread = λ on left. no_block_later es _ at.its (λ disk bytes read. keep_or_boot es (record { hooking = hooking; names = hooks_now_so es l.number q.shown (moves es) hooking q.said q.names; keeps = keeps }) disk);
    }
waiting_unhooked es s w a tells (awaits_disk l hooking keep at number job boots_it q was unasked early gone) =
    let (isn, i, kind) = q.is_drive in unread_disk es s w l hooking keep a tells at q boots_it (unread_plain l isn i kind unasked)
waiting_unhooked es s w a tells (awaits_block l hooking keep at number job boots_it q known unread gone) = unread_disk es s w l hooking keep a tells at q boots_it unread
waiting_unhooked es s w a tells (awaits_hooked l d b number job unread) = record { unanswered = λ on left its disk answers. absurd (none-some _ (sym b.none ∙ its)); unread = λ on left. never }
  where
    never : (k : ℕ) (bytes : List ℕ) → BootsBy k es → HasRead k es bytes → ⊥
    never k bytes (boots_hooking disk some own) read = opened_none (command_open es) b.none some
    never k bytes (boots_hooked drive none names own) read =
        let (isn, i, kind) = b.is_drive in
        let same : d ≡ drive = same_Some d drive (sym b.names ∙ names) in
        none_reads es l k (found_tells es s.live b.lives.earlier b.lives.later l b.lives.parted tells isn i kind) (sym own ∙ ap (λ (x : Drive). x.open_number) (sym same) ∙ b.own) unread bytes read

-- an open is next
not_at_place : (next : Onward) (hooking : Hooking) → OpensNoDrive next → onward_effect next ≡ hooks_disk hooking → ⊥
not_at_place (fetches_now wanted) hooking plain is = absurd cc
not_at_place (echoes_now server) hooking plain is = absurd cc
not_at_place (hooks_now other server) hooking plain is = absurd plain
not_at_place (looks_up_now errand name by) hooking plain is = absurd cc

-- the command's last open was none of a drive's, or its words hook no disk
reached_later : (es : List Event) → came_ok (last_end es) ≡ true → (BootsDisk es → (bytes : List ℕ) → HasRead (made es - 1) es bytes → ⊥) → (k : ℕ) (bytes : List ℕ) → BootsBy k es → HasRead k es bytes → ⊥
reached_later es well none =
    let w = ended_well (last_end es) well in
    let there = made_some (command_open es) w.0 w.1 in
    no_block_later es there.0 there.1 none

reached_unread : (es : List Event) (next : Onward) → IsToReach es next → (k : ℕ) (bytes : List ℕ) → BootsBy k es → HasRead k es bytes → ⊥
reached_unread es next (reaches_disk r) = no_block_first es r.first (words_boot_none es (made es) (hooks_disk r.hooking) refl r.names)
reached_unread es next (reaches_looked_up_disk r) = reached_later es r.finds.ended (λ disk. no_block_last es r.finds.opening 4 r.finds.opened r.finds.kind refl)
reached_unread es next (reaches_host errand name by address names finds is) = reached_later es finds.ended (λ disk. no_block_last es finds.opening 4 finds.opened finds.kind refl)
reached_unread es next (reaches_place moved (shown, said, is) more plain) = reached_later es moved.ended (λ disk bytes read. other disk disk.names)
  where
    other : (disk : BootsDisk es) → ComesTo es (made es) (hooks_disk disk.hooking) → ⊥
    other disk (words, told_so, at) =
        not_at_place next disk.hooking plain (sym is ∙ ap (λ x. comes_after (made es) (so_far es) x (moves es)) (same_shown (so_far es).shown shown words said told_so) ∙ at)

-- the command's last one has ended, or there was none
reached_none : (es : List Event) (next : Onward) → IsToReach es next → command_open es ≡ Some (record { number = made es - 1; over = None }) → ⊥
reached_none es next (reaches_host errand name by address names finds is) at = let no : false ≡ true = sym (ap (λ x. came_ok (over_of x)) at) ∙ finds.ended in cc no
reached_none es next (reaches_place moved names more plain) at = let no : false ≡ true = sym (ap (λ x. came_ok (over_of x)) at) ∙ moved.ended in cc no
reached_none es next (reaches_disk r) at = none-some _ (sym r.first ∙ at)
reached_none es next (reaches_looked_up_disk r) at = let no : false ≡ true = sym (ap (λ x. came_ok (over_of x)) at) ∙ r.finds.ended in cc no

pub reached_unhooked : (es : List Event) (next : Onward) → IsToReach es next → NoneIsHooked es
reached_unhooked es next r = record { unanswered = λ on left its disk answers. absurd (reached_none es next r its); unread = λ on left. reached_unread es next r }

-- WHERE ALL IS CLOSED

abbrev own_live : ℕ → Option CommandOpen
own_live k = Some (record { number = k; over = None })

still_one : (b : Bool) (k j : ℕ) (cause : Cause) (o : CommandOpen) → Some (cond b (record { number = j; over = Some cause }) o) ≡ own_live k → Some o ≡ own_live k
still_one true k j cause o is = absurd (none-some cause (sym (ap over_of is)))
still_one false k j cause o is = is

closing_one_open : (k : ℕ) (cause : Cause) (x : Option CommandOpen) (o : Out) → IsClosing cause o → command_open_by x (puts o) ≡ own_live k → x ≡ own_live k
closing_one_open k cause x (sent bytes) h is = is
closing_one_open k cause None (ended j other) h is = is
closing_one_open k cause (Some o) (ended j other) h is = still_one (j == o.number) k o.number other o is
closing_one_open k cause x (step number) h is = absurd h
closing_one_open k cause x _ h is = absurd h

-- no open is made by it
closing_some : (cause : Cause) (x : Option CommandOpen) (o : Out) → IsClosing cause o → IsSome (command_open_by x (puts o)) → IsSome x
closing_some cause x (sent bytes) h some = some
closing_some cause None (ended j other) h some = some
closing_some cause (Some o) (ended j other) h some = refl
closing_some cause x (step number) h some = absurd h
closing_some cause x _ h some = absurd h

closing_none : (cause : Cause) (x : Option CommandOpen) (o : Out) → IsClosing cause o → command_open_by x (puts o) ≡ None → x ≡ None
closing_none cause x (sent bytes) h none = none
closing_none cause None (ended j other) h none = refl
closing_none cause (Some o) (ended j other) h none = absurd (none-some _ (sym none))
closing_none cause x (step number) h none = absurd h
closing_none cause x _ h none = absurd h

-- what an event must leave as it is
record LeavesDrives (es es2 : List Event) : Type 0 where
  same : so_far es2 ≡ so_far es
  made_is : made es2 ≡ made es
  hardware_is : hardware es2 ≡ hardware es
  sessions_is : (k : ℕ) → sessions k es2 ≡ sessions k es
  came_is : (k : ℕ) → came_to_session k es2 ≡ came_to_session k es
  one : (k : ℕ) → command_open es2 ≡ own_live k → command_open es ≡ own_live k
  some : IsSome (command_open es2) → IsSome (command_open es)
  none : command_open es2 ≡ None → command_open es ≡ None

answer_before : (es es2 : List Event) → LeavesDrives es es2 → HasDriveAnswer es2 → HasDriveAnswer es
answer_before es es2 x h =
    let k = made es - 1 in
    let at : made es2 - 1 ≡ k = ap (λ n. n - 1) x.made_is in
    record {
      session = h.session;
      is = sym (ap (λ j. sessions j es2) at ∙ x.sessions_is k) ∙ h.is;
      answer = h.answer;
      answered = sym (ap (λ j. answered_so_far j h.session es2) at ∙ answered_same k h.session es2 es x.hardware_is (x.came_is k)) ∙ h.answered;
    }

-- its words were the same
names_before : (es es2 : List Event) (hooking : Hooking) → LeavesDrives es es2 → ComesTo es2 (made es2) (hooks_disk hooking) → ComesTo es (made es) (hooks_disk hooking)
names_before es es2 hooking x (shown, said, is) =
    hooks_now_so es (made es2) shown (moves es2) hooking (sym (ap (λ (m : CommandsSoFar). m.shown) x.same) ∙ said) (sym (ap (λ m. comes_after (made es2) m shown (moves es2)) x.same) ∙ is)

boots_before : (es es2 : List Event) (k : ℕ) → LeavesDrives es es2 → BootsBy k es2 → BootsBy k es
boots_before es es2 k x (boots_hooking disk some own) =
    boots_hooking (record { hooking = disk.hooking; names = names_before es es2 disk.hooking x disk.names; keep = disk.keep; boots = disk.boots }) (x.some some) (own ∙ ap (λ n. n - 1) x.made_is)
boots_before es es2 k x (boots_hooked drive none names own) = boots_hooked drive (x.none none) (sym (ap booted_drive x.same) ∙ names) own

-- so none is hooked after it, where none was
unhooked_then : (es es2 : List Event) → LeavesDrives es es2 → NoneIsHooked es → NoneIsHooked es2
unhooked_then es es2 x h = record {
  unanswered = λ on left its disk answers.
      h.unanswered (sym (ap (λ (m : CommandsSoFar). m.is_open) x.same) ∙ on) (sym (ap (λ (m : CommandsSoFar). m.left) x.same) ∙ left) (x.one (made es - 1) (its ∙ ap (λ n. own_live (n - 1)) x.made_is))
      (record { hooking = disk.hooking; names = names_before es es2 disk.hooking x disk.names; keeps = disk.keeps }) (answer_before es es2 x answers);
  unread = λ on left k bytes boots_it read.
      h.unread (sym (ap (λ (m : CommandsSoFar). m.is_open) x.same) ∙ on) (sym (ap (λ (m : CommandsSoFar). m.left) x.same) ∙ left) k bytes (boots_before es es2 k x boots_it)
      (read_same k bytes es2 es x.hardware_is (x.sessions_is k) (x.came_is k) read);
}

closing_leaves : (cause : Cause) (es : List Event) (o : Out) → IsClosing cause o → so_far (es ++ puts o ∷ []) ≡ so_far es → LeavesDrives es (es ++ puts o ∷ [])
closing_leaves cause es o h same = record {
  same = same;
  made_is = made_more es (puts o) ∙ ap (λ n. made es + n) (makes_none o h) ∙ add-zero (made es);
  hardware_is = hardware_more es (puts o);
  sessions_is = λ k. sessions_stay k es (puts o) (opens_none k o h);
  came_is = λ k. came_stays k es (puts o) (brings_none k o h);
  one = λ k is. closing_one_open k cause (command_open es) o h (sym (command_open_more es (puts o)) ∙ is);
  some = λ is. closing_some cause (command_open es) o h (subst IsSome (command_open_more es (puts o)) is);
  none = λ is. closing_none cause (command_open es) o h (sym (command_open_more es (puts o)) ∙ is);
}
  where
    makes_none : (o : Out) → IsClosing cause o → opens_by (puts o) ≡ 0
    makes_none (sent bytes) h = refl
    makes_none (ended j other) h = refl
    makes_none (step number) h = absurd h
    makes_none _ h = absurd h

    opens_none : (k : ℕ) (o : Out) → IsClosing cause o → opening_at k es (puts o) ≡ []
    opens_none k (sent bytes) h = refl
    opens_none k (ended j other) h = refl
    opens_none k (step number) h = absurd h
    opens_none k _ h = absurd h

    brings_none : (k : ℕ) (o : Out) → IsClosing cause o → came_to_session_at k es (puts o) ≡ []
    brings_none k (sent bytes) h = refl
    brings_none k (ended j other) h = refl
    brings_none k (step number) h = absurd h
    brings_none k _ h = absurd h

all_unhooked : (cause : Cause) (es : List Event) (put : List Out) → AreClosing cause put → NoneIsHooked es → NoneIsHooked (es ++ told put)
all_unhooked cause es [] h none = subst NoneIsHooked (sym (append-nil es)) none
all_unhooked cause es (o ∷ put) h none =
    subst NoneIsHooked (append_assoc es (puts o ∷ []) (told put))
    (all_unhooked cause (es ++ puts o ∷ []) put h.1 (unhooked_then es (es ++ puts o ∷ []) (closing_leaves cause es o h.0 (quiet_so_far es (o ∷ []) (ends_quiet cause (o ∷ []) (h.0, tt)))) none))

-- the power is switched off
pub off_unhooked : (cause : Cause) (es : List Event) (n : ℕ) (put : List Out) → AreClosing cause put → NoneIsHooked es → NoneIsHooked ((es ++ stops n ∷ []) ++ told put)
off_unhooked cause es n put h none =
    let e = stops n in
    all_unhooked cause (es ++ e ∷ []) put h (unhooked_then es (es ++ e ∷ []) (record {
      same = so_far_more es e;
      made_is = made_more es e ∙ add-zero (made es);
      hardware_is = hardware_more es e;
      sessions_is = λ k. sessions_stay k es e refl;
      came_is = λ k. came_stays k es e refl;
      one = λ k is. sym (command_open_more es e) ∙ is;
      some = λ is. subst IsSome (command_open_more es e) is;
      none = λ is. sym (command_open_more es e) ∙ is;
    }) none)
