-- What a login says to one PDU more.
use Rattle.std.proofs.Common.{◌≡◌, ◌≤◌, ◌+◌, ◌&&◌, ℕ, Bool, true, false, not, List, [], ◌∷◌, ◌++◌, length, take, drop, map, max, fold, nat_le, nat_lt, Option, Some, None, if◌then◌else◌, refl, ap, ◌∙◌, sym, subst, append_assoc, append-nil, arith, leb}
use Rattle.std.specs.List.{AllByRecursion, flat_map}
use Rattle.std.specs.Option.{is_some}
use Rattle.std.proofs.lemmas.Bool.{false≢true, and_right}
use Rattle.std.proofs.lemmas.List.{map-append, length-append, drop_all, length-map}
use Rattle.std.proofs.lemmas.List.Concat.{flat_map-append}
use Rattle.std.proofs.lemmas.List.Sums.{fold-append}
use Rattle.nb_iscsipdu.specs.PduTexts.{PduParts}
use Rattle.nb_iscsipdu.specs.Streams.{Cut, cut, is_refused}
use Rattle.nb_login.specs.declared.info.LoginInfo.{LoginInfo}
use Rattle.nb_login.specs.declared.session.Session.{Session}
use Rattle.nb_login.specs.LoginHistory.{PduCame, pdu_came, LoginEntry, login_entry, login_ended, decided_at}
use Rattle.nb_login.specs.LoginStands.{session_opened}
use Rattle.nb_login.specs.Logins.{after_came, login_history, login_said, text_of_entry}
use Rattle.nb_disk.specs.Histories.{DiskCall, came, asked, stream_ended, nothing_read, SessionNumbers, at_work}
use Rattle.nb_disk.specs.DiskAnswers.{opened_of}
use Rattle.nb_disk.specs.DiskStands.{is_out}
use Rattle.nb_sans.specs.Sessions.{ReadTask, last_part, parts_of_cut, stream_parts, pdus_came, login_so_far, session_come, comes_from, drive_comes, taken_from, drive_calls, puts_from, opening_command, said_after_login, session_says}
use Rattle.nb_sans.specs.SessionSteps.{AreAskedBy, CallsFollowWhatComes, opening_of}
use Rattle.nb_sans.proofs.StreamGrowth.{cut_stays}
use Rattle.nb_sans.proofs.SessionGrowth.{ended_stays}
use Rattle.nb_sans.proofs.DriveSteps.{fewer}
use Rattle.nb_sans.proofs.Parts.{pdu_more}
use Rattle.nb_sans.proofs.SessionSteps.{part_call, task_call}

-- a login that goes on has taken all PDUs
all_answered : (i : LoginInfo) (ms : List PduCame) (h : List LoginEntry) → login_ended (fold (after_came i) h ms) ≡ false → length (fold (after_came i) h ms) ≡ length h + length ms
all_answered i [] h lives = omega arith
all_answered i (m ∷ ms) h lives = by (all_answered i ms (after_came i h m) lives) (login_ended h) refl
  where
    by : length (fold (after_came i) (after_came i h m) ms) ≡ length (after_came i h m) + length ms → (b : Bool) → login_ended h ≡ b
        → length (fold (after_came i) h (m ∷ ms)) ≡ length h + length (m ∷ ms)
    by rest true e = absurd (false≢true (sym lives ∙ ap login_ended (ended_stays i h (m ∷ ms) e) ∙ e))
    by rest false e =
        let entry : LoginEntry = login_entry m (decided_at i h m) in
        let one : length (after_came i h m) ≡ length h + 1 = ap (λ b. length (if b then h else h ++ login_entry m (decided_at i h m) ∷ [])) e ∙ length-append h (entry ∷ []) in
        omega (arith, rest, one)

-- texts of one entry more
flat_on : (f : LoginEntry → List ℕ) (first : List ℕ) (h : List LoginEntry) (e : LoginEntry) → first ++ flat_map f (h ++ e ∷ []) ≡ (first ++ flat_map f h) ++ f e
flat_on f first h e = ap (λ l. first ++ l) (flat_map-append f h (e ∷ []) ∙ ap (λ l. flat_map f h ++ l) (append-nil (f e))) ∙ sym (append_assoc first (flat_map f h) (f e))

-- ---- the drive's first calls

abbrev IsTask : DiskCall → Type 0
IsTask (came rec p) = ⊥
IsTask (asked lba n) = Unit {0}
IsTask (stream_ended rec) = ⊥

-- after the last part, only tasks come
only_tasks : (rec : ℕ) (stream : List ℕ) (done : ℕ) (tasks : List (ReadTask × ℕ)) → length (stream_parts rec stream) ≤ done → AllByRecursion IsTask (comes_from rec stream done tasks)
only_tasks rec stream done [] all = subst (AllByRecursion IsTask) (sym (drop_all done (stream_parts rec stream) all)) tt
only_tasks rec stream done (t ∷ tasks) all =
    let few = fewer rec stream t.1 in
    by (only_tasks rec stream (max done (length (stream_parts rec (take t.1 stream)))) tasks (omega (arith, few, all))) (drop_all done (stream_parts rec (take t.1 stream)) (omega (arith, few, all))) (leb t.1 (length stream))
  where
    by : AllByRecursion IsTask (comes_from rec stream (max done (length (stream_parts rec (take t.1 stream)))) tasks) → drop done (stream_parts rec (take t.1 stream)) ≡ [] → (b : Bool)
        → AllByRecursion IsTask (if b then (drop done (stream_parts rec (take t.1 stream)) ++ asked t.0.lba t.0.blocks ∷ comes_from rec stream (max done (length (stream_parts rec (take t.1 stream)))) tasks) else drop done (stream_parts rec stream))
    by rest none true =
        subst (λ (l : List DiskCall). AllByRecursion IsTask (l ++ asked t.0.lba t.0.blocks ∷ comes_from rec stream (max done (length (stream_parts rec (take t.1 stream)))) tasks)) (sym none) (tt, rest)
    by rest none false = subst (AllByRecursion IsTask) (sym (drop_all done (stream_parts rec stream) all)) tt

-- and TEST UNIT READY is at work, so none is taken
none_taken : (o : SessionNumbers) (comes : List DiskCall) → AllByRecursion IsTask comes → taken_from o nothing_read comes ≡ []
none_taken o [] all = refl
none_taken o (came rec p ∷ comes) all = absurd all.0
none_taken o (asked lba n ∷ comes) all =
    let off : ((nat_lt 0 n && nat_le n 64) && (not (is_out nothing_read lba n) && not (is_some (at_work nothing_read)))) ≡ false =
    and_right (nat_lt 0 n && nat_le n 64) (not (is_out nothing_read lba n) && not (is_some (at_work nothing_read))) refl in
    rw off (none_taken o comes all.1)
none_taken o (stream_ended rec ∷ comes) all = absurd all.0

module _ (rec : ℕ) (i : LoginInfo) (come later : List ℕ) (tasks : List (ReadTask × ℕ)) (p : PduParts) (lives : login_ended (login_so_far rec i come) ≡ false)
    (is : stream_parts rec (come ++ later) ≡ stream_parts rec come ++ came rec p ∷ []) where
  pub entry : LoginEntry
  entry = login_entry (pdu_came rec p) (decided_at i (login_so_far rec i come) (pdu_came rec p))

  more_came : pdus_came rec (come ++ later) ≡ pdus_came rec come ++ pdu_came rec p ∷ []
  more_came = ap (map (pdu_came rec)) (pdu_more rec come (come ++ later) p is) ∙ map-append (pdu_came rec) (cut come).pdus (p ∷ [])

  pub one_answer : login_so_far rec i (come ++ later) ≡ login_so_far rec i come ++ entry ∷ []
  unfolding entry
  one_answer =
      ap (login_history i) more_came ∙ fold-append (after_came i) [] (pdus_came rec come) (pdu_came rec p ∷ [])
      ∙ ap (λ b. if b then login_so_far rec i come else (login_so_far rec i come ++ entry ∷ [])) lives

  pub more_said : login_said i (pdus_came rec (come ++ later)) ≡ login_said i (pdus_came rec come) ++ text_of_entry i entry
  more_said = let one = one_answer in rw one (flat_on (text_of_entry i) _ (login_so_far rec i come) entry)

  -- all parts of the stream were the login's
  all_parts_taken : length (stream_parts rec (come ++ later)) ≤ length (login_so_far rec i (come ++ later))
  all_parts_taken = by (is_refused (cut come).rest) refl
    where
      more : length (stream_parts rec (come ++ later)) ≡ length (stream_parts rec come) + 1
      more = ap length is ∙ length-append (stream_parts rec come) (came rec p ∷ [])

      by : (b : Bool) → is_refused (cut come).rest ≡ b → length (stream_parts rec (come ++ later)) ≤ length (login_so_far rec i (come ++ later))
      by true e =
          let same : length (stream_parts rec (come ++ later)) ≡ length (stream_parts rec come) = ap (λ (c : Cut). length (parts_of_cut rec c)) (cut_stays come later e) in
          absurd (omega (arith, more, same))
      by false e =
          let parts : length (stream_parts rec come) ≡ length (map (came rec) (cut come).pdus) + length (last_part rec (cut come).rest) = length-append (map (came rec) (cut come).pdus) (last_part rec (cut come).rest) in
          let none : length (last_part rec (cut come).rest) ≡ 0 = ap (λ b. length (if b then stream_ended rec ∷ [] else [])) e in
          let pdus : length (map (came rec) (cut come).pdus) ≡ length (cut come).pdus = length-map (cut come).pdus (came rec) in
          let ms : length (pdus_came rec come) ≡ length (cut come).pdus = length-map (cut come).pdus (pdu_came rec) in
          let answers : length (login_so_far rec i come) ≡ length (pdus_came rec come) = omega (arith, all_answered i (pdus_came rec come) [] lives) in
          let longer : length (login_so_far rec i (come ++ later)) ≡ length (login_so_far rec i come) + 1 = ap length one_answer ∙ length-append (login_so_far rec i come) (entry ∷ []) in
          omega (arith, more, parts, none, pdus, ms, answers, longer)

  pub no_call_yet : (s : Session) → drive_calls rec i (come ++ later) tasks s ≡ []
  no_call_yet s = none_taken (opened_of s) (drive_comes rec i (come ++ later) tasks) (only_tasks rec (come ++ later) (length (login_so_far rec i (come ++ later))) tasks all_parts_taken)

first_said : (i : LoginInfo) (come later : List ℕ) (tasks : List (ReadTask × ℕ)) (p : PduParts) → login_ended (login_so_far 0 i come) ≡ false
    → stream_parts 0 (come ++ later) ≡ stream_parts 0 come ++ came 0 p ∷ [] → (o : Option Session) → said_after_login i (come ++ later) tasks o ≡ opening_of o
first_said i come later tasks p lives is None = refl
first_said i come later tasks p lives is (Some s) =
    ap (λ (l : List DiskCall). opening_command s ++ puts_from (opened_of s) nothing_read l) (no_call_yet 0 i come later tasks p lives is s) ∙ append-nil (opening_command s)

pub login_step : (i : LoginInfo) (come later : List ℕ) (before after : Bool) (tasks : List (ReadTask × ℕ)) (p : PduParts) → AreAskedBy come tasks
    → login_ended (login_so_far 0 i come) ≡ false → stream_parts 0 (come ++ later) ≡ stream_parts 0 come ++ came 0 p ∷ []
    → session_says i (come ++ later) after tasks ≡ session_says i come before tasks
    ++ (text_of_entry i (login_entry (pdu_came 0 p) (decided_at i (login_so_far 0 i come) (pdu_came 0 p))) ++ opening_of (session_come 0 i (come ++ later)))
unfolding entry
login_step i come later before after tasks p by lives is =
    let t : List ℕ = text_of_entry i (login_entry (pdu_came 0 p) (decided_at i (login_so_far 0 i come) (pdu_came 0 p))) in
    let opens = opening_of (session_come 0 i (come ++ later)) in
    let closed : session_come 0 i come ≡ None = ap (λ b. if b then session_opened i (login_so_far 0 i come) else None) lives in
    let first : session_says i come before tasks ≡ login_said i (pdus_came 0 come) =
    ap (λ (o : Option Session). login_said i (pdus_came 0 come) ++ said_after_login i come tasks o) closed ∙ append-nil (login_said i (pdus_came 0 come)) in
    ap (λ l. login_said i (pdus_came 0 (come ++ later)) ++ l) (first_said i come later tasks p lives is (session_come 0 i (come ++ later)))
    ∙ ap (λ l. l ++ opens) (more_said 0 i come later tasks p lives is)
    ∙ append_assoc (login_said i (pdus_came 0 come)) t opens
    ∙ ap (λ l. l ++ (t ++ opens)) (sym first)

pub calls_follow : CallsFollowWhatComes
unfolding entry
calls_follow = record {
  login = λ rec i come later p lives is. one_answer rec i come later [] p lives is;
  first = λ rec i come later tasks p s lives is opens. no_call_yet rec i come later tasks p lives is s;
  part = part_call;
  task = task_call;
}
