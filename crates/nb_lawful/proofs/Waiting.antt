-- A command waits while a record is used: it waits on.
use Rattle.std.proofs.Common.{◌≡◌, ℕ, ◌+◌, ◌≤◌, ◌<◌, nat_le, Bool, true, false, cond, List, [], ◌∷◌, ◌++◌, Option, Some, None, option_map, IsSome, refl, sym, ◌∙◌, ap, subst}
use Rattle.std.specs.Prelude.{find}
use Rattle.std.specs.List.{AllByRecursion}
use Rattle.std.proofs.lemmas.Bool.{leb-true, leb-false, eq-eqb}
use Rattle.std.proofs.lemmas.Option.{none-some, same_Some}
use Rattle.std.specs.Option.{is_some, option_or, option_and_then}
use Rattle.nb_defs.specs.Records.{In, Out}
use Rattle.nb_machine.specs.Errands as errand
use Rattle.nb_machine.specs.Errands.{Wanted}
use Rattle.nb_machine.specs.Queries.{Query, for_lease, for_echo, for_host, for_address}
use Rattle.nb_machine.specs.Lives.{Exchange, Live, iscsi}
use Rattle.nb_machine.specs.States.{State}
use Rattle.nb_machine.specs.Takings.{Over}
use Rattle.nb_machine.specs.Network.{Network}
use Rattle.nb_machine.specs.Scripts.{Answer, by_end, by_time, is_number, answer_in, Waiting, waiting_anew, answer_of_live, has_number, by_drive, answer_of_over, block_of_live, block_of_over}
use Rattle.nb_machine.specs.Kinds.{answered, read_last}
use Rattle.nb_machine.specs.Drives.{DriveAnswer}
use Rattle.nb_laws.specs.Events.{Event}
use Rattle.nb_laws.specs.Lists.{Hardware, hardware, made, ms_of}
use Rattle.nb_laws.specs.Moves.{MovedOpen, moves}
use Rattle.nb_laws.specs.CommandsSoFar.{CommandsSoFar, so_far, comes_by}
use Rattle.nb_laws.proofs.Tellings.{told}
use Rattle.nb_openlaws.proofs.UsedEvents.{IsUsed, made_used}
use Rattle.nb_laws.specs.CommandOpens.{command_open}
use Rattle.nb_laws.specs.CommandsSoFar.{booted_drive}
use Rattle.nb_lawful.specs.ScriptAgreement.{SleepsUntil, FetchesWith, IsLiveFor, AsksIn, IsAnother, IsAwaited, AwaitsSo, awaits_time, awaits_file, awaits_query, awaits_host, HooksBy, LooksUpDisk, awaits_drive, awaits_disk, awaits_block, awaits_hooked, WasSession, IsNoTask, AreUnasked, HasFreeNumber}
use Rattle.nb_lawful.proofs.Quiet.{quiet_makes_none}
use Rattle.nb_lawful.proofs.Awaited.{AreBeside, beside_open, beside_moves, with_exchanges, Took, took_on, took_last, TookAmid, amid_on, amid_last, Grows}
use Rattle.nb_lawful.proofs.Stepping.{Leaves, network_took, network_amid, used_moves, Came}
use Rattle.nb_lawful.proofs.AnswersStay.{answered_stays}
use Rattle.nb_lawful.proofs.HookedLives.{network_none}
use Rattle.nb_drivecmd.specs.HookedDrives.{is_drive}
use Rattle.nb_drivecmd.specs.declared.outcome.Hooking.{Hooking}
use Rattle.nb_login.specs.declared.info.LoginInfo.{LoginInfo}
use Rattle.nb_streams.proofs.FlowLaws.{all_append}
use Rattle.nb_lawful.proofs.Opened.{was_on}

-- WHAT STAYS WHILE IT WAITS

abbrev later_by : CommandsSoFar → ℕ → CommandsSoFar
later_by m ms = record m { now = m.now + ms }

fetches_on : (h : Hardware) (m : CommandsSoFar) (ms : ℕ) (moved : List MovedOpen) (l : Live) (xs : List Exchange) (wanted : Wanted) → FetchesWith h m moved l wanted → FetchesWith h (later_by m ms) moved (with_exchanges l xs) wanted
fetches_on h m ms moved l xs wanted f = record { shown = f.shown; said = f.said; asked = f.asked; kind_is = f.kind_is; server_is = f.server_is; port_is = f.port_is; target_is = f.target_is }

live_for_on : (h : Hardware) (query : Query) (l : Live) (xs : List Exchange) → IsLiveFor h query l → IsLiveFor h query (with_exchanges l xs)
live_for_on h for_lease l xs is = is
live_for_on h (for_echo server) l xs is = is
live_for_on h (for_host errand name by) l xs is = is
live_for_on h (for_address setting name by) l xs is = is

asks_on : (h : Hardware) (m : CommandsSoFar) (ms : ℕ) (moved : List MovedOpen) (l : Live) (xs : List Exchange) (query : Query) → AsksIn h m moved l query → AsksIn h (later_by m ms) moved (with_exchanges l xs) query
asks_on h m ms moved l xs query a = record { shown = a.shown; said = a.said; asked = a.asked; is_for = live_for_on h query l xs a.is_for }

-- the same, by a history that says so
later_as : (P : Hardware → CommandsSoFar → Type 0) (es es2 : List Event) (ms : ℕ) → so_far es2 ≡ later_by (so_far es) ms → hardware es2 ≡ hardware es → P (hardware es) (later_by (so_far es) ms) → P (hardware es2) (so_far es2)
later_as P es es2 ms same hard h = subst (λ m. P (hardware es2) m) (sym same) (subst (λ z. P z (later_by (so_far es) ms)) (sym hard) h)

pub fetches_then : (es es2 : List Event) (ms : ℕ) (moved : List MovedOpen) (l : Live) (xs : List Exchange) (wanted : Wanted) → so_far es2 ≡ later_by (so_far es) ms → hardware es2 ≡ hardware es → FetchesWith (hardware es) (so_far es) moved l wanted →
    FetchesWith (hardware es2) (so_far es2) moved (with_exchanges l xs) wanted
fetches_then es es2 ms moved l xs wanted same hard f = later_as (λ h m. FetchesWith h m moved (with_exchanges l xs) wanted) es es2 ms same hard (fetches_on (hardware es) (so_far es) ms moved l xs wanted f)

pub asks_then : (es es2 : List Event) (ms : ℕ) (moved : List MovedOpen) (l : Live) (xs : List Exchange) (query : Query) → so_far es2 ≡ later_by (so_far es) ms → hardware es2 ≡ hardware es → AsksIn (hardware es) (so_far es) moved l query →
    AsksIn (hardware es2) (so_far es2) moved (with_exchanges l xs) query
asks_then es es2 ms moved l xs query same hard a = later_as (λ h m. AsksIn h m moved (with_exchanges l xs) query) es es2 ms same hard (asks_on (hardware es) (so_far es) ms moved l xs query a)

looks_up_on : (h : Hardware) (m : CommandsSoFar) (ms : ℕ) (moved : List MovedOpen) (l : Live) (xs : List Exchange) (hooking : Hooking) → LooksUpDisk h m moved l hooking → LooksUpDisk h (later_by m ms) moved (with_exchanges l xs) hooking
looks_up_on h m ms moved l xs hooking f = record {
  shown = f.shown;
  said = f.said;
  names = f.names;
  name = f.name;
  by = f.by;
  asked = f.asked;
  is_for = live_for_on h (for_host (errand.hooks_then hooking) f.name f.by) l xs f.is_for;
  unit = f.unit;
}

pub looks_up_then : (es es2 : List Event) (ms : ℕ) (moved : List MovedOpen) (l : Live) (xs : List Exchange) (hooking : Hooking) → so_far es2 ≡ later_by (so_far es) ms → hardware es2 ≡ hardware es → LooksUpDisk (hardware es) (so_far es) moved l hooking →
    LooksUpDisk (hardware es2) (so_far es2) moved (with_exchanges l xs) hooking
looks_up_then es es2 ms moved l xs hooking same hard f = later_as (λ h m. LooksUpDisk h m moved (with_exchanges l xs) hooking) es es2 ms same hard (looks_up_on (hardware es) (so_far es) ms moved l xs hooking f)

pub hooks_then : (es es2 : List Event) (ms : ℕ) (moved : List MovedOpen) (l : Live) (xs : List Exchange) (hooking : Hooking) → so_far es2 ≡ later_by (so_far es) ms → HooksBy (so_far es) moved l hooking → HooksBy (so_far es2) moved (with_exchanges l xs) hooking
hooks_then es es2 ms moved l xs hooking same f = subst (λ m. HooksBy m moved (with_exchanges l xs) hooking) (sym same) (record { shown = f.shown; said = f.said; names = f.names; is_drive = f.is_drive })

pub found_amid : (k : ℕ) (earlier later : List Live) (l : Live) → AllByRecursion (IsAnother k) earlier → l.number ≡ k → find (has_number k) (earlier ++ l ∷ later) ≡ Some l
found_amid k [] later l h same = ap (λ b. cond b (Some l) (find (has_number k) later)) (eq-eqb l.number k same)
found_amid k (x ∷ earlier) later l h same = ap (λ b. cond b (Some x) (find (has_number k) (earlier ++ l ∷ later))) h.0 ∙ found_amid k earlier later l h.1 same

pub found_last : (k : ℕ) (earlier : List Live) (l : Live) → AllByRecursion (IsAnother k) earlier → l.number ≡ k → find (has_number k) (earlier ++ l ∷ []) ≡ Some l
found_last k earlier l h same = found_amid k earlier [] l h same

none_answered : (l : Live) → answer_of_live l ≡ None → answered l ≡ None
none_answered l e = by (answered l) e
  where
    by : (a : Option DriveAnswer) → cond (is_some a) (Some (by_drive l)) None ≡ None → a ≡ None
    by None e = refl
    by (Some x) e = absurd (none-some (by_drive l) (sym e))

none_read : (l : Live) → block_of_live l ≡ None → read_last l ≡ None
none_read l e = by (read_last l) e
  where
    by : (a : Option (List ℕ)) → cond (is_some a) (Some (by_drive l)) None ≡ None → a ≡ None
    by None e = refl
    by (Some x) e = absurd (none-some (by_drive l) (sym e))

-- a time has come, or hasn't
not_due : (until now : ℕ) → cond (nat_le until now) (Some by_time) None ≡ None → now < until
not_due until now e = by (nat_le until now) refl e
  where
    by : (b : Bool) → nat_le until now ≡ b → cond b (Some by_time) None ≡ None → now < until
    by true is e = absurd (none-some by_time (sym e))
    by false is e = leb-false until now is

pub is_due : (until now : ℕ) (a : Answer) → cond (nat_le until now) (Some by_time) None ≡ Some a → (until ≤ now) × (a ≡ by_time)
is_due until now a e = by (nat_le until now) refl e
  where
    by : (b : Bool) → nat_le until now ≡ b → cond b (Some by_time) None ≡ Some a → (until ≤ now) × (a ≡ by_time)
    by true is e = (leb-true until now is, sym (same_Some by_time a e))
    by false is e = absurd (none-some a e)

-- what the step is
pub record Steps (es es2 : List Event) (outs : List Out) (s s' : State) (w : Waiting) (r : In) (n : ℕ) (e : Event) (put : List Out) (over : List Over) : Type 0 where
  pub at : es2 ≡ (es ++ e ∷ []) ++ told put
  pub used : IsUsed e
  pub made_is : made es ≡ s.opens
  pub came : Came es es2 outs s s' w.script w.outer true n e put
  pub leaves : Leaves s s' put
  pub net : Network s n r put s' over

pub still_none : (es es2 : List Event) (outs : List Out) (s s' : State) (w : Waiting) (r : In) (n : ℕ) (e : Event) (put : List Out) (over : List Over) → Steps es es2 outs s s' w r n e put over → command_open es ≡ None → command_open es2 ≡ None
still_none es es2 outs s s' w r n e put over k none = ap command_open k.at ∙ quiet_makes_none (es ++ e ∷ []) put k.leaves.quiet (k.came.opens ∙ none)

pub awaited_on : (es es2 : List Event) (outs : List Out) (s s' : State) (w : Waiting) (r : In) (n : ℕ) (e : Event) (put : List Out) (over : List Over) → Steps es es2 outs s s' w r n e put over → (l : Live) (at : IsAwaited es s w l) →
    (earlier : List Live) (xs : List Exchange) → s'.live ≡ earlier ++ with_exchanges l xs ∷ [] → AllByRecursion (IsAnother l.number) earlier → AreBeside l.number put → IsAwaited es2 s' (waiting_anew w) (with_exchanges l xs)
awaited_on es es2 outs s s' w r n e put over k l at earlier xs is all beside = record {
  earlier = earlier;
  last = is;
  others = all;
  number = k.leaves.opens ∙ at.number;
  its = ap command_open k.at ∙ beside_open (es ++ e ∷ []) l.number None put beside (k.came.opens ∙ at.its);
}

-- the opens made before its records, and the moves of the command's file
pub made_then : (es es2 : List Event) (outs : List Out) (s s' : State) (w : Waiting) (r : In) (n : ℕ) (e : Event) (put : List Out) (over : List Over) → Steps es es2 outs s s' w r n e put over → (l : Live) → IsAwaited es s w l → made (es ++ e ∷ []) ≡ l.number + 1
made_then es es2 outs s s' w r n e put over k l at = made_used es e k.used ∙ k.made_is ∙ at.number

pub moves_on : (es es2 : List Event) (outs : List Out) (s s' : State) (w : Waiting) (r : In) (n : ℕ) (e : Event) (put : List Out) (over : List Over) → Steps es es2 outs s s' w r n e put over → (l : Live) → IsAwaited es s w l →
    AreBeside l.number put → moves es2 ≡ moves es
moves_on es es2 outs s s' w r n e put over k l at beside =
    ap moves k.at ∙ (beside_moves (es ++ e ∷ []) l.number put (made_then es es2 outs s s' w r n e put over k l at) beside).1 ∙ used_moves es e k.used

-- its session was made as it was
pub was_then : (es es2 : List Event) (outs : List Out) (s s' : State) (w : Waiting) (r : In) (n : ℕ) (e : Event) (put : List Out) (over : List Over) → Steps es es2 outs s s' w r n e put over → (boots_it : Bool) (j : ℕ) →
    WasSession boots_it j es → WasSession boots_it j es2
was_then es es2 outs s s' w r n e put over k boots_it j was = subst (WasSession boots_it j) (sym k.at) (was_on boots_it j (es ++ e ∷ []) (told put) (was_on boots_it j es (e ∷ []) was))

-- a drive's capacity is known still
still_known : (l : Live) (xs : List Exchange) → (isn : ℕ) × (i : LoginInfo) × (l.kind ≡ iscsi isn i) → Grows l xs → IsSome (answered l) → IsSome (answered (with_exchanges l xs))
still_known l xs (isn, i, kind) (more, is, unasked) known = subst (λ z. IsSome (answered (with_exchanges l z))) (sym is) (answered_stays l isn i more kind known)

-- nor was anything asked of it
pub still_unasked : (l : Live) (xs : List Exchange) → Grows l xs → AreUnasked l.exchanges → AreUnasked xs
still_unasked l xs (more, is, unasked) before = subst AreUnasked (sym is) (all_append (λ (x : Exchange). IsNoTask x.came) l.exchanges more before unasked)

-- no drive of its number is hooked still
pub free_on : (s s' : State) (r : In) (n : ℕ) (put : List Out) (over : List Over) → Network s n r put s' over → (hooking : Hooking) → HasFreeNumber hooking s.drives → HasFreeNumber hooking s'.drives
free_on s s' r n put over net hooking gone = network_none (is_drive hooking.number) s s' n r put over net gone

-- IT WAITS ON

pub waits_so : (es es2 : List Event) (outs : List Out) (s s' : State) (w : Waiting) (r : In) (n : ℕ) (e : Event) (put : List Out) (over : List Over) → Steps es es2 outs s s' w r n e put over →
    answer_in s' r over w.awaited ≡ None → AwaitsSo es s w → AwaitsSo es2 s' (waiting_anew w)
waits_so es es2 outs s s' w r n e put over k unanswered (awaits_time until at job none a) =
    awaits_time until at job (still_none es es2 outs s s' w r n e put over k none)
    (subst (λ m. SleepsUntil m s' until) (sym k.came.same) (record {
      shown = a.shown;
      is_shown = a.is_shown;
      seconds = a.seconds;
      sleeps_so = ap (λ z. comes_by z (so_far es) a.shown) k.leaves.opens ∙ a.sleeps_so;
      until_is = a.until_is;
      early = not_due until s'.now (sym (ap (answer_in s' r over) at) ∙ unanswered);
    }))
waits_so es es2 outs s s' w r n e put over k unanswered (awaits_file l wanted at number job f) = by (network_took s s' n r put over k.net at.earlier l at.last at.others)
  where
    by : Took l.number l put s'.live over → AwaitsSo es2 s' (waiting_anew w)
    by (took_on earlier xs is all missing beside plain) =
        awaits_file (with_exchanges l xs) wanted (awaited_on es es2 outs s s' w r n e put over k l at earlier xs is all beside) number job
        (subst (λ z. FetchesWith (hardware es2) (so_far es2) z (with_exchanges l xs) wanted) (sym (moves_on es es2 outs s s' w r n e put over k l at beside))
        (fetches_then es es2 (ms_of e) (moves es) l xs wanted k.came.same k.came.hard f))
    by (took_last x cause front some is beside plain) = absurd (none-some _ (sym (sym (ap (λ z. option_map by_end z) some) ∙ sym (ap (answer_in s' r over) number) ∙ unanswered)))
waits_so es es2 outs s s' w r n e put over k unanswered (awaits_query l query at number job a) = by (network_took s s' n r put over k.net at.earlier l at.last at.others)
  where
    by : Took l.number l put s'.live over → AwaitsSo es2 s' (waiting_anew w)
    by (took_on earlier xs is all missing beside plain) =
        awaits_query (with_exchanges l xs) query (awaited_on es es2 outs s s' w r n e put over k l at earlier xs is all beside) number job
        (subst (λ z. AsksIn (hardware es2) (so_far es2) z (with_exchanges l xs) query) (sym (moves_on es es2 outs s s' w r n e put over k l at beside))
        (asks_then es es2 (ms_of e) (moves es) l xs query k.came.same k.came.hard a))
    by (took_last x cause front some is beside plain) = absurd (none-some _ (sym (sym (ap (λ z. option_map by_end z) some) ∙ sym (ap (answer_in s' r over) number) ∙ unanswered)))
waits_so es es2 outs s s' w r n e put over k unanswered (awaits_host l hooking at number job f gone) = by (network_took s s' n r put over k.net at.earlier l at.last at.others)
  where
    by : Took l.number l put s'.live over → AwaitsSo es2 s' (waiting_anew w)
    by (took_on earlier xs is all missing beside plain) =
        awaits_host (with_exchanges l xs) hooking (awaited_on es es2 outs s s' w r n e put over k l at earlier xs is all beside) number job
        (subst (λ z. LooksUpDisk (hardware es2) (so_far es2) z (with_exchanges l xs) hooking) (sym (moves_on es es2 outs s s' w r n e put over k l at beside))
        (looks_up_then es es2 (ms_of e) (moves es) l xs hooking k.came.same k.came.hard f)) (free_on s s' r n put over k.net hooking gone)
    by (took_last x cause front some is beside plain) = absurd (none-some _ (sym (sym (ap (λ z. option_map by_end z) some) ∙ sym (ap (answer_in s' r over) number) ∙ unanswered)))
waits_so es es2 outs s s' w r n e put over k unanswered (awaits_drive l hooking at number job keeps f early gone) = by (network_took s s' n r put over k.net at.earlier l at.last at.others)
  where
    none_yet : option_or (option_map answer_of_over (find (is_number l.number) over)) (option_and_then answer_of_live (find (has_number l.number) s'.live)) ≡ None
    none_yet = sym (ap (answer_in s' r over) number) ∙ unanswered

    by : Took l.number l put s'.live over → AwaitsSo es2 s' (waiting_anew w)
    by (took_on earlier xs is all missing beside plain) =
        let found : find (has_number l.number) s'.live ≡ Some (with_exchanges l xs) = ap (find (has_number l.number)) is ∙ found_last l.number earlier (with_exchanges l xs) all refl in
        awaits_drive (with_exchanges l xs) hooking (awaited_on es es2 outs s s' w r n e put over k l at earlier xs is all beside) number job keeps
        (subst (λ z. HooksBy (so_far es2) z (with_exchanges l xs) hooking) (sym (moves_on es es2 outs s s' w r n e put over k l at beside)) (hooks_then es es2 (ms_of e) (moves es) l xs hooking k.came.same f))
        (none_answered (with_exchanges l xs) (sym (ap (λ z. option_or (option_map answer_of_over z) (option_and_then answer_of_live (find (has_number l.number) s'.live))) missing ∙ ap (option_and_then answer_of_live) found) ∙ none_yet))
        (free_on s s' r n put over k.net hooking gone)
    by (took_last x cause front some is beside plain) =
        absurd (none-some _ (sym (sym (ap (λ z. option_or (option_map answer_of_over z) (option_and_then answer_of_live (find (has_number l.number) s'.live))) some) ∙ none_yet)))
waits_so es es2 outs s s' w r n e put over k unanswered (awaits_disk l hooking keep at number job boots_it f was unasked early gone) = by (network_took s s' n r put over k.net at.earlier l at.last at.others)
  where
    none_yet : option_or (option_map by_end (find (is_number l.number) over)) (option_and_then answer_of_live (find (has_number l.number) s'.live)) ≡ None
    none_yet = sym (ap (answer_in s' r over) number) ∙ unanswered

    by : Took l.number l put s'.live over → AwaitsSo es2 s' (waiting_anew w)
    by (took_on earlier xs is all missing beside plain) =
        let found : find (has_number l.number) s'.live ≡ Some (with_exchanges l xs) = ap (find (has_number l.number)) is ∙ found_last l.number earlier (with_exchanges l xs) all refl in
        awaits_disk (with_exchanges l xs) hooking keep (awaited_on es es2 outs s s' w r n e put over k l at earlier xs is all beside) number job boots_it
        (subst (λ z. HooksBy (so_far es2) z (with_exchanges l xs) hooking) (sym (moves_on es es2 outs s s' w r n e put over k l at beside)) (hooks_then es es2 (ms_of e) (moves es) l xs hooking k.came.same f))
        (was_then es es2 outs s s' w r n e put over k true l.number was) (still_unasked l xs plain unasked)
        (none_answered (with_exchanges l xs) (sym (ap (λ z. option_or (option_map by_end z) (option_and_then answer_of_live (find (has_number l.number) s'.live))) missing ∙ ap (option_and_then answer_of_live) found) ∙ none_yet))
        (free_on s s' r n put over k.net hooking gone)
    by (took_last x cause front some is beside plain) =
        absurd (none-some _ (sym (sym (ap (λ z. option_or (option_map by_end z) (option_and_then answer_of_live (find (has_number l.number) s'.live))) some) ∙ none_yet)))
waits_so es es2 outs s s' w r n e put over k unanswered (awaits_block l hooking keep at number job boots_it f known unread gone) = by (network_took s s' n r put over k.net at.earlier l at.last at.others)
  where
    none_yet : option_or (option_map block_of_over (find (is_number l.number) over)) (option_and_then block_of_live (find (has_number l.number) s'.live)) ≡ None
    none_yet = sym (ap (answer_in s' r over) number) ∙ unanswered

    by : Took l.number l put s'.live over → AwaitsSo es2 s' (waiting_anew w)
    by (took_on earlier xs is all missing beside plain) =
        let found : find (has_number l.number) s'.live ≡ Some (with_exchanges l xs) = ap (find (has_number l.number)) is ∙ found_last l.number earlier (with_exchanges l xs) all refl in
        awaits_block (with_exchanges l xs) hooking keep (awaited_on es es2 outs s s' w r n e put over k l at earlier xs is all beside) number job boots_it
        (subst (λ z. HooksBy (so_far es2) z (with_exchanges l xs) hooking) (sym (moves_on es es2 outs s s' w r n e put over k l at beside)) (hooks_then es es2 (ms_of e) (moves es) l xs hooking k.came.same f))
        (still_known l xs f.is_drive plain known)
        (none_read (with_exchanges l xs) (sym (ap (λ z. option_or (option_map block_of_over z) (option_and_then block_of_live (find (has_number l.number) s'.live))) missing ∙ ap (option_and_then block_of_live) found) ∙ none_yet))
        (free_on s s' r n put over k.net hooking gone)
    by (took_last x cause front some is beside plain) =
        absurd (none-some _ (sym (sym (ap (λ z. option_or (option_map block_of_over z) (option_and_then block_of_live (find (has_number l.number) s'.live))) some) ∙ none_yet)))
waits_so es es2 outs s s' w r n e put over k unanswered (awaits_hooked l d b number job unread) = by (network_amid s s' n r put over k.net b.lives.earlier b.lives.later l b.lives.parted b.lives.before b.lives.behind)
  where
    none_yet : option_or (option_map block_of_over (find (is_number l.number) over)) (option_and_then block_of_live (find (has_number l.number) s'.live)) ≡ None
    none_yet = sym (ap (answer_in s' r over) number) ∙ unanswered

    by : TookAmid l.number l put s'.live over → AwaitsSo es2 s' (waiting_anew w)
    by (amid_on earlier later xs is all rear missing beside) =
        let found : find (has_number l.number) s'.live ≡ Some (with_exchanges l xs) = ap (find (has_number l.number)) is ∙ found_amid l.number earlier later (with_exchanges l xs) all refl in
        awaits_hooked (with_exchanges l xs) d (record {
          lives = record { earlier = earlier; later = later; parted = is; before = all; behind = rear };
          own = b.own;
          none = still_none es es2 outs s s' w r n e put over k b.none;
          names = ap booted_drive k.came.same ∙ b.names;
          is_drive = b.is_drive;
          kept = was_then es es2 outs s s' w r n e put over k false l.number b.kept;
        }) number job
        (none_read (with_exchanges l xs) (sym (ap (λ z. option_or (option_map block_of_over z) (option_and_then block_of_live (find (has_number l.number) s'.live))) missing ∙ ap (option_and_then block_of_live) found) ∙ none_yet))
    by (amid_last x cause front behind some is beside rear) =
        absurd (none-some _ (sym (sym (ap (λ z. option_or (option_map block_of_over z) (option_and_then block_of_live (find (has_number l.number) s'.live))) some) ∙ none_yet)))
