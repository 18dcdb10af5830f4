-- What a unit hands up, by the calls of its drive: as far as the stream had come, and with one call more.
use Rattle.std.proofs.Common.{◌≡◌, ℕ, List, [], ◌∷◌, ◌++◌, length, drop, Option, Some, None, refl, ap, ◌∙◌, sym, append_assoc, append-nil, arith}
use Rattle.std.specs.List.{AllByRecursion}
use Rattle.std.specs.Option.{is_some}
use Rattle.std.proofs.lemmas.List.{drop_all, drop_at, map-append}
use Rattle.nb_graph.specs.Trace.{Said}
use Rattle.nb_login.specs.declared.info.LoginInfo.{LoginInfo}
use Rattle.nb_login.specs.declared.session.Session.{Session}
use Rattle.nb_disk.specs.Histories.{DiskCall, DiskReading, SessionNumbers, at_work, capacity_read, reading}
use Rattle.nb_disk.specs.DiskAnswers.{disk_answer, opened_of}
use Rattle.nb_drivenodes.specs.UnitAnswers.{unit_answered_by, answered_so}
use Rattle.nb_drivenodes.specs.UnitTalks.{answered_says, blocks_says}
use Rattle.nb_sans.specs.Sessions.{ReadTask, drive_calls, session_come}
use Rattle.nb_sans.specs.RecordNumbers.{brought_by}
use Rattle.nb_sans.proofs.RecordLaws.{records_show}
use Rattle.nb_streams.proofs.FlowLaws.{all_append}
use Rattle.nb_drivetalks.specs.Comings.{IsPart, calls_by, drive_hands, handed_up, session_calls, unit_says, units_say}
use Rattle.nb_drivetalks.proofs.DriveParts.{HasHad, reads_so}

pub units_more : (rec chap : ℕ) (o : SessionNumbers) (before xs : List DiskCall) (call : DiskCall) → units_say rec chap o before (xs ++ call ∷ []) ≡ units_say rec chap o before xs ++ unit_says rec chap o (before ++ xs) call
units_more rec chap o before [] call = append-nil (unit_says rec chap o before call) ∙ ap (λ (z : List DiskCall). unit_says rec chap o z call) (sym (append-nil before))
units_more rec chap o before (x ∷ xs) call =
    ap (λ z. unit_says rec chap o before x ++ z) (units_more rec chap o (before ++ x ∷ []) xs call)
    ∙ sym (append_assoc (unit_says rec chap o before x) (units_say rec chap o (before ++ x ∷ []) xs) (unit_says rec chap o ((before ++ x ∷ []) ++ xs) call))
    ∙ ap (λ (z : List DiskCall). units_say rec chap o before (x ∷ xs) ++ unit_says rec chap o z call) (append_assoc before (x ∷ []) xs)

-- of an open session, at these calls after others
abbrev pub units_by : ℕ → (before new : List DiskCall) → Option Session → List Said
units_by rec before new None = []
units_by rec before new (Some s) = units_say rec s.chap (opened_of s) before new

-- Since the stream had come to one place this was handed up, by the calls until it had come to another.
pub record HandedSo (rec : ℕ) (i : LoginInfo) (tasks : List (ReadTask × ℕ)) (first come : List ℕ) (us : List Said) : Type 0 where
  pub new : List DiskCall
  pub grown : session_calls i come tasks ≡ session_calls i first tasks ++ new
  pub says : us ≡ units_by rec (session_calls i first tasks) new (session_come 0 i come)
  pub each : AllByRecursion IsPart new

pub handed_first : (rec : ℕ) (i : LoginInfo) (tasks : List (ReadTask × ℕ)) (come : List ℕ) → HandedSo rec i tasks come come []
handed_first rec i tasks come = record { new = []; grown = sym (append-nil (session_calls i come tasks)); says = by (session_come 0 i come); each = tt }
  where
    by : (o : Option Session) → [] ≡ units_by rec (session_calls i come tasks) [] o
    by None = refl
    by (Some s) = refl

pub handed_all : (rec : ℕ) (i : LoginInfo) (tasks : List (ReadTask × ℕ)) (first come : List ℕ) (us : List Said) → HandedSo rec i tasks first come us → us ≡ handed_up rec i first come tasks
handed_all rec i tasks first come us h = h.says ∙ by (session_come 0 i come)
  where
    by : (o : Option Session) → units_by rec (session_calls i first tasks) h.new o ≡ drive_hands rec (session_calls i first tasks) (session_calls i come tasks) o
    by None = refl
    by (Some s) =
        let before = session_calls i first tasks in
        ap (units_say rec s.chap (opened_of s) before) (sym (ap (drop (length before)) h.grown ∙ drop_at before h.new (length before) refl))

-- What was handed up to one place leads to what was to another.
abbrev pub HandsOn : ℕ → LoginInfo → List (ReadTask × ℕ) → (come later : List ℕ) → (us more : List Said) → Type 0
HandsOn rec i tasks come later us more = (first : List ℕ) → HandedSo rec i tasks first come us → HandedSo rec i tasks first later more

module _ (rec : ℕ) (i : LoginInfo) (tasks : List (ReadTask × ℕ)) (come later : List ℕ) (us : List Said) where
  -- nothing more
  pub hands_none : session_come 0 i later ≡ session_come 0 i come → session_calls i later tasks ≡ session_calls i come tasks → HandsOn rec i tasks come later us us
  hands_none opens calls = λ first h. record {
    new = h.new;
    grown = calls ∙ h.grown;
    says = h.says ∙ ap (units_by rec (session_calls i first tasks) h.new) (sym opens);
    each = h.each;
  }

  none_both : (xs ys : List DiskCall) → [] ≡ xs ++ ys → (xs ≡ []) × (ys ≡ [])
  none_both [] [] e = (refl, refl)
  none_both [] (y ∷ ys) e = absurd cc
  none_both (x ∷ xs) ys e = absurd cc

  -- a session is opened
  pub hands_first : (s : Session) → session_come 0 i come ≡ None → session_come 0 i later ≡ Some s → drive_calls 0 i later tasks s ≡ [] → HandsOn rec i tasks come later us us
  hands_first s none opens calls = λ first h.
      let parts = none_both (session_calls i first tasks) h.new (sym (ap (calls_by i come tasks) none) ∙ h.grown) in
      let before : session_calls i later tasks ≡ [] = ap (calls_by i later tasks) opens ∙ calls in
      record {
        new = [];
        grown = before ∙ sym (append-nil (session_calls i first tasks) ∙ parts.0);
        says = h.says ∙ ap (units_by rec (session_calls i first tasks) h.new) none ∙ sym (ap (units_by rec (session_calls i first tasks) []) opens);
        each = tt;
      }

  -- one call more
  pub hands_more : (s : Session) (call : DiskCall) → session_come 0 i come ≡ Some s → session_come 0 i later ≡ Some s → drive_calls 0 i later tasks s ≡ drive_calls 0 i come tasks s ++ call ∷ [] → IsPart call
      → HandsOn rec i tasks come later us (us ++ unit_says rec s.chap (opened_of s) (drive_calls 0 i come tasks s) call)
  hands_more s call was opens calls of = λ first h.
      let before = session_calls i first tasks in
      let here : drive_calls 0 i come tasks s ≡ before ++ h.new = sym (ap (calls_by i come tasks) was) ∙ h.grown in
      record {
        new = h.new ++ call ∷ [];
        grown = ap (calls_by i later tasks) opens ∙ calls ∙ ap (λ z. z ++ call ∷ []) here ∙ append_assoc before h.new (call ∷ []);
        says = ap (λ z. z ++ unit_says rec s.chap (opened_of s) (drive_calls 0 i come tasks s) call) (h.says ∙ ap (units_by rec before h.new) was)
            ∙ ap (λ (z : List DiskCall). units_say rec s.chap (opened_of s) before h.new ++ unit_says rec s.chap (opened_of s) z call) here
            ∙ sym (units_more rec s.chap (opened_of s) before h.new call) ∙ sym (ap (units_by rec before (h.new ++ call ∷ [])) opens);
        each = all_append IsPart h.new (call ∷ []) h.each (of, tt);
      }

-- whichever record brought the call, and those before it
pub unit_same : (rec chap : ℕ) (i : LoginInfo) (come : List ℕ) (tasks : List (ReadTask × ℕ)) (s : Session) (calls : List DiskCall) → HasHad i come tasks s calls → (call : DiskCall)
    → unit_says rec chap (opened_of s) (drive_calls 0 i come tasks s) (brought_by 0 call) ≡ blocks_says rec (disk_answer (opened_of s) (reading (opened_of s) calls) call).give ++ answered_says rec chap (unit_answered_by (opened_of s) calls call)
unit_same rec chap i come tasks s calls had call =
    let o = opened_of s in
    let before = drive_calls 0 i come tasks s in
    let r : reading o before ≡ reading o calls = reads_so i come tasks s calls had in
    let give : (disk_answer o (reading o before) (brought_by 0 call)).give ≡ (disk_answer o (reading o calls) call).give = records_show.give o (reading o before) 0 call ∙ ap (λ (z : DiskReading). (disk_answer o z call).give) r in
    let over : is_some (disk_answer o (reading o before) (brought_by 0 call)).over ≡ is_some (disk_answer o (reading o calls) call).over =
    records_show.over o (reading o before) 0 call ∙ ap (λ (z : DiskReading). is_some (disk_answer o z call).over) r in
    let more : reading o (before ++ brought_by 0 call ∷ []) ≡ reading o (calls ++ call ∷ []) =
    ap (λ z. reading o (z ++ brought_by 0 call ∷ [])) (sym had.same) ∙ ap (reading o) (sym (map-append (brought_by 0) calls (call ∷ []))) ∙ records_show.reads o 0 (calls ++ call ∷ []) in
    let then : unit_answered_by o before (brought_by 0 call) ≡ unit_answered_by o calls call =
    ap (λ b. answered_so b (is_some (at_work (reading o before))) (is_some (at_work (reading o (before ++ brought_by 0 call ∷ [])))) (capacity_read (reading o (before ++ brought_by 0 call ∷ [])))) over
    ∙ ap (λ (z : DiskReading). answered_so (is_some (disk_answer o (reading o calls) call).over) (is_some (at_work z)) (is_some (at_work (reading o (before ++ brought_by 0 call ∷ [])))) (capacity_read (reading o (before ++ brought_by 0 call ∷ [])))) r
    ∙ ap (λ (z : DiskReading). answered_so (is_some (disk_answer o (reading o calls) call).over) (is_some (at_work (reading o calls))) (is_some (at_work z)) (capacity_read z)) more in
    ap (λ z. blocks_says rec z ++ answered_says rec chap (unit_answered_by o before (brought_by 0 call))) give
    ∙ ap (λ z. blocks_says rec (disk_answer o (reading o calls) call).give ++ answered_says rec chap z) then

-- where the stream came no further nothing is
pub handed_none : (rec : ℕ) (i : LoginInfo) (tasks : List (ReadTask × ℕ)) (come : List ℕ) → handed_up rec i come come tasks ≡ []
handed_none rec i tasks come = by (session_come 0 i come)
  where
    by : (o : Option Session) → drive_hands rec (session_calls i come tasks) (session_calls i come tasks) o ≡ []
    by None = refl
    by (Some s) = ap (units_say rec s.chap (opened_of s) (session_calls i come tasks)) (drop_all (length (session_calls i come tasks)) (session_calls i come tasks) (omega arith))
