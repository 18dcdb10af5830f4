-- What has come of bytes of the stream: they failed, all go on with what they brought, or the drive has ended by them.
use Rattle.std.proofs.Common.{◌≡◌, ℕ, suc, Bool, true, false, List, [], ◌∷◌, ◌++◌, length, take, drop, nat_lt, Some, None, refl, sym, ap, ◌∙◌, subst, append_assoc, append-nil, arith, if◌then◌else◌}
use Rattle.std.proofs.lemmas.Bool.{ltb-false}
use Rattle.std.proofs.lemmas.List.{length-append, take-append-drop, take_all}
use Rattle.nb_terms.specs.declared.cause.Cause.{Cause}
use Rattle.nb_ledger.specs.declared.event.Way.TheVariants as way
use Rattle.nb_graph.specs.Whole.{port_at}
use Rattle.nb_graph.specs.Trace.{Said, left, said_behind}
use Rattle.nb_graph.specs.Deeds.{Deed, Stage, Holds}
use Rattle.nb_iscsipdu.specs.Streams.{cut, is_refused}
use Rattle.nb_login.specs.declared.session.Session.{Session}
use Rattle.nb_login.specs.LoginHistory.{PduCame, login_ended}
use Rattle.nb_login.specs.LoginRecords.{pdus_alone}
use Rattle.nb_login.specs.Logins.{login_history}
use Rattle.nb_disk.specs.Histories.{DiskCall}
use Rattle.nb_disk.specs.DiskAnswers.{opened_of}
use Rattle.nb_conns.specs.declared.stream_tag.StreamTag.TheVariants as stream
use Rattle.nb_conns.specs.StreamTags.{stream_tag_number}
use Rattle.nb_conns.specs.Dialogues.{Dialogue}
use Rattle.nb_drivenodes.specs.DriveAsks.{DriveAskParts}
use Rattle.nb_drivenodes.specs.SessionTalks.{SessionTalk, in_session, logging_in}
use Rattle.nb_drivenodes.specs.UnitTalks.{UnitTalk, unit_waits, unit_works}
use Rattle.nb_login.specs.LoginHistory.{LoginEntry}
use Rattle.nb_nodes.specs.declared.load.Load.{Load}
use Rattle.nb_nodes.specs.declared.obj.Obj.{Obj}
use Rattle.nb_sans.specs.Sessions.{ReadTask, session_end, session_talker}
use Rattle.nb_sans.specs.SessionSteps.{AreAskedBy}
use Rattle.nb_talks.specs.Talking.{text_calls, texts_by}
use Rattle.nb_webtalks.proofs.Lowers.{IsBegun, OwesTo}
use Rattle.nb_drivetalks.proofs.DriveParts.{HasHad}
use Rattle.nb_drivetalks.proofs.Endings.{Ended, ended_less, ended_session}
use Rattle.nb_drivetalks.proofs.Ends.{is_still, still_ends}
use Rattle.nb_drivetalks.proofs.Handing.{HandsOn, hands_none}
use Rattle.nb_drivetalks.proofs.Steps.{left_by, session_settles, weaker}
use Rattle.nb_drivetalks.proofs.Talks.{Failed, Speaks, speaks_as, speaks_both}
use Rattle.nb_drivetalks.proofs.Turning.{calls_append, no_text, texts_append}
use Rattle.nb_drivetalks.proofs.Walking.{DriveCall, Walk, view}

-- Unit and session go on, after this much of the stream: a login that goes on has had its PDUs, or the unit has had those of an open session.
pub data Reads (a : DriveAskParts) (tasks : List (ReadTask × ℕ)) (come : List ℕ) : UnitTalk → SessionTalk → Type 0 where
  in_login : (ms : List PduCame) → pdus_alone ms ≡ (cut come).pdus → login_ended (login_history a.info ms) ≡ false → Reads a tasks come unit_waits (logging_in a come (login_history a.info ms))
  in_drive : (h : List LoginEntry) (s : Session) (calls : List DiskCall) → HasHad a.info come tasks s calls → Reads a tasks come (unit_works (opened_of s) s.chap calls) (in_session a come h)

-- tasks that were asked when no more than this had come were when no more had than what is longer
pub asked_later : (come later : List ℕ) (tasks : List (ReadTask × ℕ)) → AreAskedBy come tasks → AreAskedBy (come ++ later) tasks
asked_later come later [] by = tt
asked_later come later (t ∷ tasks) by = (omega (arith, length-append come later, by.0), asked_later come later tasks by.1)

-- the texts that bytes of a session's stream bring
abbrev pub texts_in : DriveAskParts → List (ReadTask × ℕ) → (come xs : List ℕ) → List (List ℕ)
texts_in a tasks come xs = texts_by (session_talker a.info) false tasks come xs

-- What has come of these bytes, after which so much of the stream has come.
pub data Came (c : DriveCall) (n : ℕ) (gs : List (Stage Obj Load)) (a : DriveAskParts) (rec : ℕ) (tasks : List (ReadTask × ℕ)) (come xs gone : List ℕ) (d : Dialogue) (ms us : List Said) (ds : List (Deed Obj Load)) (others : List Load) : Type 0 where
  came_failed : Failed c ds → Came c n gs a rec tasks come xs gone d ms us ds others
  came_on : (u : UnitTalk) (r : SessionTalk) (p : Dialogue) (told more : List Said) → Reads a tasks gone u r → is_refused (cut gone).rest ≡ false
      → Speaks rec (text_calls (texts_in a tasks come xs) c.now) d p told → HandsOn rec a.info tasks come gone us more → OwesTo others p
      → Walk c n (view true true true true) gs u r p (ms ++ told) more None ds → Came c n gs a rec tasks come xs gone d ms us ds others
  came_off : (x : Cause) (u : UnitTalk) (r : SessionTalk) (p : Dialogue) (told more : List Said) → session_end rec a.info gone false tasks ≡ Some x
      → Speaks rec (text_calls (texts_in a tasks come xs) c.now) d p told → HandsOn rec a.info tasks come gone us more
      → Ended c n gs u r p (ms ++ told) more x ds → Came c n gs a rec tasks come xs gone d ms us ds others

-- the texts of two parts
texts_both : (a : DriveAskParts) (tasks : List (ReadTask × ℕ)) (now : ℕ) (come xs ys : List ℕ) → text_calls (texts_in a tasks come (xs ++ ys)) now ≡ text_calls (texts_in a tasks come xs) now ++ text_calls (texts_in a tasks (come ++ xs) ys) now
texts_both a tasks now come xs ys =
    ap (λ z. text_calls z now) (texts_append (session_talker a.info) false tasks come xs ys) ∙ calls_append (texts_in a tasks come xs) (texts_in a tasks (come ++ xs) ys) now

-- what a message of the stream comes to, whatever came before
abbrev pub Goes : DriveCall → ℕ → List (Stage Obj Load) → DriveAskParts → ℕ → List (ReadTask × ℕ) → List (Deed Obj Load) → List Load → Type 0
Goes c n gs a rec tasks ds others = (come : List ℕ) (u : UnitTalk) (r : SessionTalk) (d : Dialogue) (ms us : List Said) (m : Said) → m.tag ≡ stream_tag_number stream.Received → m.rec ≡ rec
    → Reads a tasks come u r → is_refused (cut come).rest ≡ false → AreAskedBy come tasks → IsBegun d → OwesTo others d
    → Walk c n (view true true true true) (Holds (port_at c.session 1) way.Up (Some m) ∷ gs) u r d ms us None ds → Came c n gs a rec tasks come m.bytes (come ++ m.bytes) d ms us ds others

module _ {c : DriveCall} {n : ℕ} {gs : List (Stage Obj Load)} {a : DriveAskParts} {rec : ℕ} {tasks : List (ReadTask × ℕ)} {ds : List (Deed Obj Load)} {others : List Load} where
  pub came_less : {come xs gone : List ℕ} {d : Dialogue} {ms us : List Said} {m : ℕ} → n ≡ suc m → Came c m gs a rec tasks come xs gone d ms us ds others → Came c n gs a rec tasks come xs gone d ms us ds others
  came_less size (came_failed f) = came_failed f
  came_less size (came_on u r p told more reads whole s hands owes k) = came_on u r p told more reads whole s hands owes (weaker (omega (arith, size)) k)
  came_less size (came_off x u r p told more ends s hands e) = came_off x u r p told more ends s hands (ended_less size e)

  -- the same stream, spelled otherwise
  came_as : {come xs gone other : List ℕ} {d : Dialogue} {ms us : List Said} → gone ≡ other → Came c n gs a rec tasks come xs gone d ms us ds others → Came c n gs a rec tasks come xs other d ms us ds others
  came_as {come = come} {xs = xs} {d = d} {ms = ms} {us = us} is k = subst (λ z. Came c n gs a rec tasks come xs z d ms us ds others) is k

  same_bytes : {come xs ys gone : List ℕ} {d : Dialogue} {ms us : List Said} → xs ≡ ys → Came c n gs a rec tasks come xs gone d ms us ds others → Came c n gs a rec tasks come ys gone d ms us ds others
  same_bytes {come = come} {gone = gone} {d = d} {ms = ms} {us = us} is k = subst (λ z. Came c n gs a rec tasks come z gone d ms us ds others) is k

  -- after an end nothing more is said or handed up
  off_still : (come xs ys : List ℕ) (d : Dialogue) (ms us : List Said) (x : Cause) (u : UnitTalk) (r : SessionTalk) (p : Dialogue) (told more : List Said) → session_end rec a.info (come ++ xs) false tasks ≡ Some x
      → Speaks rec (text_calls (texts_in a tasks come xs) c.now) d p told → HandsOn rec a.info tasks come (come ++ xs) us more → Ended c n gs u r p (ms ++ told) more x ds
      → Came c n gs a rec tasks come (xs ++ ys) ((come ++ xs) ++ ys) d ms us ds others
  off_still come xs ys d ms us x u r p told more ends s hands e =
      let still = is_still rec a.info (come ++ xs) tasks x ends in
      let quiet : text_calls (texts_in a tasks (come ++ xs) ys) c.now ≡ [] = no_text (session_talker a.info) false tasks (come ++ xs) ys c.now (λ part later is. still.says part false false) in
      came_off x u r p told more (still_ends rec a.info (come ++ xs) tasks x ys false ends)
      (speaks_as rec (sym (texts_both a tasks c.now come xs ys ∙ ap (λ z. text_calls (texts_in a tasks come xs) c.now ++ z) quiet ∙ append-nil (text_calls (texts_in a tasks come xs) c.now))) s)
      (λ first h. hands_none rec a.info tasks (come ++ xs) ((come ++ xs) ++ ys) more (still.opens ys) (still.calls ys) first (hands first h)) e

  -- two parts, one after the other
  both_came : (come xs ys gone : List ℕ) (d p : Dialogue) (ms us told more : List Said) → Speaks rec (text_calls (texts_in a tasks come xs) c.now) d p told → HandsOn rec a.info tasks come (come ++ xs) us more
      → Came c n gs a rec tasks (come ++ xs) ys gone p (ms ++ told) more ds others → Came c n gs a rec tasks come (xs ++ ys) gone d ms us ds others
  both_came come xs ys gone d p ms us told more s hands (came_failed f) = came_failed f
  both_came come xs ys gone d p ms us told more s hands (came_on u r q told2 more2 reads whole s2 hands2 owes k) =
      came_on u r q (told ++ told2) more2 reads whole (speaks_as rec (sym (texts_both a tasks c.now come xs ys)) (speaks_both rec s s2)) (λ first h. hands2 first (hands first h)) owes
      (subst (λ z. Walk c n (view true true true true) gs u r q z more2 None ds) (append_assoc ms told told2) k)
  both_came come xs ys gone d p ms us told more s hands (came_off x u r q told2 more2 ends s2 hands2 e) =
      came_off x u r q (told ++ told2) more2 ends (speaks_as rec (sym (texts_both a tasks c.now come xs ys)) (speaks_both rec s s2)) (λ first h. hands2 first (hands first h))
      (subst (λ z. Ended c n gs u r q z more2 x ds) (append_assoc ms told told2) e)

  -- WHAT IS LEFT OF A MESSAGE

  module _ (again : Goes c n gs a rec tasks ds others) (come : List ℕ) (d : Dialogue) (ms us : List Said) (m : Said) (tag : m.tag ≡ stream_tag_number stream.Received) (of : m.rec ≡ rec) (asked : AreAskedBy come tasks) (begun : IsBegun d)
      (took : ℕ) where
    whole_is : (come ++ (take took m.bytes)) ++ (drop took m.bytes) ≡ come ++ m.bytes
    whole_is = append_assoc come (take took m.bytes) (drop took m.bytes) ∙ ap (λ z. come ++ z) (take-append-drop took m.bytes)

    pub came_then : Came c n (Holds (port_at c.session 1) way.Up (left took m) ∷ gs) a rec tasks come (take took m.bytes) (come ++ take took m.bytes) d ms us ds others → Came c n gs a rec tasks come m.bytes (come ++ m.bytes) d ms us ds others
    came_then (came_failed f) = came_failed f
    came_then (came_off x u r p told more ends s hands e) =
        same_bytes (take-append-drop took m.bytes) (came_as whole_is (off_still come (take took m.bytes) (drop took m.bytes) d ms us x u r p told more ends s hands (ended_session (left took m) e)))
    came_then (came_on u r p told more reads whole s hands owes k) = by (nat_lt took (length m.bytes)) refl
      where
        by : (b : Bool) → nat_lt took (length m.bytes) ≡ b → Came c n gs a rec tasks come m.bytes (come ++ m.bytes) d ms us ds others
        by false e =
            let all : (take took m.bytes) ≡ m.bytes = take_all took m.bytes (let l = ltb-false took (length m.bytes) e in omega (arith, l)) in
            let w : Walk c n (view true true true true) (Holds (port_at c.session 1) way.Up None ∷ gs) u r p (ms ++ told) more None ds =
            subst (λ o. Walk c n (view true true true true) (Holds (port_at c.session 1) way.Up o ∷ gs) u r p (ms ++ told) more None ds) (ap (λ b. if b then Some (said_behind took m) else None) e) k in
            same_bytes all (came_as (ap (λ z. come ++ z) all) (came_on u r p told more reads whole s hands owes (session_settles (left_by w))))
        by true e =
            let w : Walk c n (view true true true true) (Holds (port_at c.session 1) way.Up (Some (said_behind took m)) ∷ gs) u r p (ms ++ told) more None ds =
            subst (λ o. Walk c n (view true true true true) (Holds (port_at c.session 1) way.Up o ∷ gs) u r p (ms ++ told) more None ds) (ap (λ b. if b then Some (said_behind took m) else None) e) k in
            same_bytes (take-append-drop took m.bytes) (came_as whole_is
            (both_came come (take took m.bytes) (drop took m.bytes) ((come ++ (take took m.bytes)) ++ (drop took m.bytes)) d p ms us told more s hands
            (again (come ++ (take took m.bytes)) u r p (ms ++ told) more (said_behind took m) tag of reads whole (asked_later come (take took m.bytes) tasks asked) (s.begun begun) owes w)))
