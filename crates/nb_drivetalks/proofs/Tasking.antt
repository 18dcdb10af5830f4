-- What a task that is asked for does to the three, from the entry of the unit that begins it.
use Rattle.std.proofs.Common.{◌≡◌, ℕ, Bool, true, false, not, List, [], ◌∷◌, ◌++◌, length, None, if◌then◌else◌, refl, sym, ap, ◌∙◌, append-nil}
use Rattle.std.proofs.lemmas.Bool.{false≢true}
use Rattle.std.proofs.lemmas.List.{map-append}
use Rattle.std.proofs.lemmas.Option.{none-some}
use Rattle.nb_ledger.specs.declared.event.Way.TheVariants as way
use Rattle.nb_effects.specs.declared.effects.Fx.{Fx}
use Rattle.nb_graph.specs.Whole.{port_at}
use Rattle.nb_graph.specs.Trace.{Said, down}
use Rattle.nb_graph.specs.Deeds.{Deed, Holds, Offers, Stage, runs_of}
use Rattle.nb_login.specs.declared.session.Session.{Session}
use Rattle.nb_login.specs.LoginHistory.{LoginEntry}
use Rattle.nb_login.specs.Logins.{login_said}
use Rattle.nb_conns.specs.Dialogues.{Dialogue}
use Rattle.nb_disk.specs.Histories.{DiskCall, asked, nothing_read, reading}
use Rattle.nb_disk.specs.DiskAnswers.{disk_answer, opened_of}
use Rattle.nb_drivechains.specs.DriveCalls.{read_said}
use Rattle.nb_drivenodes.specs.DriveAsks.{DriveAskParts}
use Rattle.nb_drivenodes.specs.SessionTalks.{SessionTalk, in_session}
use Rattle.nb_drivenodes.specs.UnitTalks.{UnitTalk, UnitTalks, takes_blocks, unit_ends, unit_reads, unit_rests, unit_works}
use Rattle.nb_nodes.specs.declared.load.Load.{Load}
use Rattle.nb_nodes.specs.declared.obj.Obj.{Obj}
use Rattle.nb_nodes.specs.Carriers.{text_carrier}
use Rattle.nb_nodes.specs.Objects.{obj_nature}
use Rattle.nb_sans.specs.Sessions.{ReadTask, drive_calls, pdus_came, said_after_login, session_come, session_says, text_of_put}
use Rattle.nb_sans.specs.SessionSteps.{AreAskedBy}
use Rattle.nb_sans.specs.RecordNumbers.{brought_by}
use Rattle.nb_talks.specs.Talking.{text_to_send}
use Rattle.nb_webtalks.proofs.Lowers.{IsBegun, OwesTo, regains_none}
use Rattle.nb_webtalks.proofs.Uppers.{runs_silent}
use Rattle.nb_drivetalks.proofs.Cames.{Reads, in_drive, in_login}
use Rattle.nb_drivetalks.proofs.DriveParts.{HasHad, task_calls, task_says}
use Rattle.nb_drivetalks.proofs.Opening.{put_at}
use Rattle.nb_drivetalks.proofs.Returning.{as_stages, unit_fails}
use Rattle.nb_drivetalks.proofs.Serving.{ends_later, put_texts}
use Rattle.nb_drivetalks.proofs.SessionParts.{none_open}
use Rattle.nb_drivetalks.proofs.Spelled.{put_some}
use Rattle.nb_drivetalks.proofs.Steps.{left_by, offer_unit, unit_settles}
use Rattle.nb_drivetalks.proofs.Talks.{Failed, Speaks, ran_out, speaks_as, speaks_none}
use Rattle.nb_drivetalks.proofs.Units.{UnitWent, text_calls_of, unit_entry, unit_failed, unit_off, unit_on}
use Rattle.nb_drivetalks.proofs.Walking.{DriveCall, Walk, view}

-- the tasks with one more, that was asked after all that had come
abbrev pub with_task : List (ReadTask × ℕ) → ReadTask → List ℕ → List (ReadTask × ℕ)
with_task tasks task come = tasks ++ (task, length come) ∷ []

-- It failed; or the connection was given the text that this brings to be said, and all go on.
pub data TaskDid (c : DriveCall) (n : ℕ) (ds : List (Deed Obj Load)) (d : Dialogue) (a : DriveAskParts) (tasks : List (ReadTask × ℕ)) (come : List ℕ) (task : ReadTask) (rec : ℕ) : Type 0 where
  task_fails : Failed c ds → TaskDid c n ds d a tasks come task rec
  task_does : (u : UnitTalk) (r : SessionTalk) (p : Dialogue) (told : List Said) (text : List ℕ) → Reads a (with_task tasks task come) come u r
      → ((ended : Bool) → session_says a.info come ended (with_task tasks task come) ≡ session_says a.info come ended tasks ++ text) → Speaks rec (text_to_send text c.now) d p told → OwesTo [] p
      → Walk c n (view true true true true) [] u r p told [] None ds → TaskDid c n ds d a tasks come task rec

module _ (c : DriveCall) (n : ℕ) (ds : List (Deed Obj Load)) (d : Dialogue) (a : DriveAskParts) (tasks : List (ReadTask × ℕ)) (come : List ℕ) (asks : AreAskedBy come tasks) (rec block count : ℕ) (begun : IsBegun d) (owes : OwesTo [] d) where
  abbrev task : ReadTask
  task = record { lba = block; blocks = count }

  abbrev msg : Said
  msg = read_said rec block count

  abbrev left_to : List (Stage Obj Load)
  left_to = Holds (port_at c.unit 0) way.Down None ∷ []

  -- it is left as it was
  still : {u : UnitTalk} {r : SessionTalk} (fx : Fx Obj Load) → runs_of obj_nature c.unit msg true fx ≡ [] → Reads a (with_task tasks task come) come u r
      → ((ended : Bool) → session_says a.info come ended (with_task tasks task come) ≡ session_says a.info come ended tasks ++ [])
      → Walk c n (view true true true true) (runs_of obj_nature c.unit msg true fx ++ left_to) u r d [] [] None ds → TaskDid c n ds d a tasks come task rec
  still {u = u} {r = r} fx is reads says k = task_does u r d [] [] reads says (speaks_none rec (regains_none d)) owes (unit_settles (left_by (as_stages left_to (ap (λ z. z ++ left_to) is) k)))

  module _ (s : Session) (calls : List DiskCall) (had : HasHad a.info come tasks s calls) where
    -- a task that isn't taken
    had_still : takes_blocks (opened_of s) calls block count ≡ false → HasHad a.info come (with_task tasks task come) s calls
    had_still off = record {
      opens = had.opens;
      same = had.same ∙ sym (task_calls a.info come tasks s calls had asks task ∙ ap (λ b. drive_calls 0 a.info come tasks s ++ (if b then asked block count ∷ [] else [])) off ∙ append-nil (drive_calls 0 a.info come tasks s));
      lives = had.lives;
    }

    says_still : takes_blocks (opened_of s) calls block count ≡ false → (ended : Bool) → session_says a.info come ended (with_task tasks task come) ≡ session_says a.info come ended tasks ++ []
    says_still off ended =
        task_says a.info come tasks s calls had asks task ended
        ∙ ap (λ b. session_says a.info come ended tasks ++ (if b then text_of_put (disk_answer (opened_of s) (reading (opened_of s) calls) (asked block count)).put else [])) off

    -- one that is
    had_more : takes_blocks (opened_of s) calls block count ≡ true → HasHad a.info come (with_task tasks task come) s (calls ++ asked block count ∷ [])
    had_more on = record {
      opens = had.opens;
      same = map-append (brought_by 0) calls (asked block count ∷ []) ∙ ap (λ z. z ++ asked block count ∷ []) had.same
          ∙ sym (task_calls a.info come tasks s calls had asks task ∙ ap (λ b. drive_calls 0 a.info come tasks s ++ (if b then asked block count ∷ [] else [])) on);
      lives = ends_later (opened_of s) nothing_read calls (asked block count) had.lives;
    }

    says_more : takes_blocks (opened_of s) calls block count ≡ true → (ended : Bool) → session_says a.info come ended (with_task tasks task come)
        ≡ session_says a.info come ended tasks ++ text_of_put (disk_answer (opened_of s) (reading (opened_of s) calls) (asked block count)).put
    says_more on ended =
        task_says a.info come tasks s calls had asks task ended
        ∙ ap (λ b. session_says a.info come ended tasks ++ (if b then text_of_put (disk_answer (opened_of s) (reading (opened_of s) calls) (asked block count)).put else [])) on

    taken_by : (h : List LoginEntry) → takes_blocks (opened_of s) calls block count ≡ true
        → UnitWent c n left_to (unit_works (opened_of s) s.chap (calls ++ asked block count ∷ [])) (in_session a come h) d [] [] ds [] rec (text_calls_of (put_at (opened_of s) calls (asked block count)) c.now) [] None
        → TaskDid c n ds d a tasks come task rec
    taken_by h on (unit_failed f) = task_fails f
    taken_by h on (unit_off x p told is sp e) = absurd (none-some x is)
    taken_by h on (unit_on p told none sp ow w) =
        let put = (disk_answer (opened_of s) (reading (opened_of s) calls) (asked block count)).put in
        task_does (unit_works (opened_of s) s.chap (calls ++ asked block count ∷ [])) (in_session a come h) p told (text_of_put put) (in_drive h s (calls ++ asked block count ∷ []) (had_more on)) (says_more on)
        (speaks_as rec (sym (put_texts put c.now (λ q is. put_some (opened_of s) (reading (opened_of s) calls) (asked block count) q is))) sp) ow (unit_settles (left_by w))

  not_off : (b : Bool) → not b ≡ true → b ≡ false
  not_off true e = absurd (false≢true e)
  not_off false e = refl

  unit_by : (done : Bool) (fx : Fx Obj Load) (u q : UnitTalk) (r : SessionTalk) → Reads a tasks come u r → UnitTalks text_carrier u (down msg c.now done fx) q
      → Walk c n (view true true true true) (runs_of obj_nature c.unit msg done fx ++ left_to) q r d [] [] None ds → TaskDid c n ds d a tasks come task rec
  unit_by false fx u q r reads did k = task_fails (ran_out (unit_fails left_to msg fx k))
  unit_by true fx _ _ _ (in_login ms pdus on) (unit_ends _ _ cut hands) k = absurd (let z = cut in cc)
  unit_by true fx _ _ _ (in_login ms pdus on) (unit_rests _ _ quiet idle) k =
      let none : session_come 0 a.info come ≡ None = none_open a.info come ms pdus on in
      still fx (runs_silent c.unit msg fx [] idle.0 idle.1) (in_login ms pdus on)
      (λ ended. ap (λ z. login_said a.info (pdus_came 0 come) ++ said_after_login a.info come (with_task tasks task come) z) none ∙ sym (append-nil (session_says a.info come ended tasks) ∙ ap (λ z. login_said a.info (pdus_came 0 come) ++ said_after_login a.info come tasks z) none)) k
  unit_by true fx _ _ _ (in_drive h s calls had) (unit_reads _ _ _ _ _ _ tag takes effects) k = taken_by s calls had h takes (unit_entry [] msg fx [] (put_at (opened_of s) calls (asked block count)) None effects begun owes k)
  unit_by true fx _ _ _ (in_drive h s calls had) (unit_ends _ _ cut hands) k = absurd (let z = cut in cc)
  unit_by true fx _ _ _ (in_drive h s calls had) (unit_rests _ _ quiet idle) k =
      let off : takes_blocks (opened_of s) calls block count ≡ false = not_off (takes_blocks (opened_of s) calls block count) quiet in
      still fx (runs_silent c.unit msg fx [] idle.0 idle.1) (in_drive h s calls (had_still s calls had off)) (says_still s calls had off) k

  pub task_walk : (u : UnitTalk) (r : SessionTalk) → Reads a tasks come u r → Walk c n (view true true true true) (Offers (port_at c.unit 0) msg ∷ []) u r d [] [] None ds → TaskDid c n ds d a tasks come task rec
  task_walk u r reads k = let w = offer_unit k in unit_by w.0 w.1 u w.2 r reads w.3 w.4
