-- A message of the stream comes to the session, PDU by PDU, and the stream's end does; where it goes on, it hasn't ended.
use Rattle.std.proofs.Common.{◌≡◌, ℕ, zero, suc, ◌||◌, ◌==◌, Bool, true, false, not, List, [], ◌∷◌, ◌++◌, length, take, map, Option, Some, None, if◌then◌else◌, refl, sym, ap, ◌∙◌, subst, append-nil, arith}
use Rattle.std.specs.List.{AllByRecursion}
use Rattle.std.specs.Option.{is_some, option_or}
use Rattle.std.proofs.lemmas.Bool.{eqb-true, eq-eqb, false≢true}
use Rattle.std.proofs.lemmas.Option.{same_Some}
use Rattle.nb_terms.specs.declared.cause.Cause.{Cause}
use Rattle.nb_ledger.specs.declared.event.Way.TheVariants as way
use Rattle.nb_effects.specs.declared.effects.Emit.{Emit}
use Rattle.nb_effects.specs.declared.effects.Fx.{Fx}
use Rattle.nb_graph.specs.Whole.{port_at}
use Rattle.nb_graph.specs.Trace.{Said, in_list, left, up}
use Rattle.nb_graph.specs.Deeds.{Deed, Stage, Closes, Holds, Sends, rest, returns_of, runs_of}
use Rattle.nb_iscsipdu.specs.Streams.{cut, is_refused}
use Rattle.nb_login.specs.LoginEndings.{login_broken}
use Rattle.nb_login.specs.LoginHistory.{end_given, last_done, pdu_came}
use Rattle.nb_login.specs.LoginStands.{session_opened}
use Rattle.nb_login.specs.Logins.{login_history}
use Rattle.nb_conns.specs.declared.stream_tag.StreamTag.TheVariants as stream
use Rattle.nb_conns.specs.StreamTags.{stream_tag_number}
use Rattle.nb_conns.specs.ConnEffects.{GoesAbove, emits_of}
use Rattle.nb_conns.specs.Dialogues.{Dialogue}
use Rattle.nb_disk.specs.Histories.{DiskCall, after_call, nothing_read}
use Rattle.nb_disk.specs.DiskAnswers.{broken, disk_answer, ended_from, opened_of}
use Rattle.nb_drivenodes.specs.DriveAsks.{DriveAskParts}
use Rattle.nb_drivenodes.specs.DriveEffects.{drive_says, stream_end_says}
use Rattle.nb_drivenodes.specs.SessionTalks.{SessionTalk, SessionTalks, answered_to, login_answers, login_breaks, login_failed, login_lacks, login_waits, reply_to, session_breaks, session_cut, session_drained, session_ends, session_gives, session_lacks, session_lives, session_rests, session_waits}
use Rattle.nb_drivenodes.specs.UnitTalks.{UnitTalk, unit_cut, unit_lives, unit_over, unit_works}
use Rattle.nb_nodes.specs.declared.load.Load.{Load}
use Rattle.nb_nodes.specs.declared.obj.Obj.{Obj}
use Rattle.nb_nodes.specs.Carriers.{text_carrier}
use Rattle.nb_nodes.specs.Objects.{obj_nature}
use Rattle.nb_sans.specs.Sessions.{ReadTask, drive_calls, login_over, login_so_far, over_from, over_or_short, session_end, session_end_by}
use Rattle.nb_sans.specs.SessionSteps.{AreAskedBy}
use Rattle.nb_sans.proofs.RecordLaws.{records_show}
use Rattle.nb_webtalks.proofs.Lowers.{IsBegun, OwesTo, regains_none}
use Rattle.nb_webtalks.proofs.Middle.{emits_stages}
use Rattle.nb_drivetalks.proofs.Cames.{Came, Goes, Reads, came_failed, came_less, came_then, in_drive, in_login}
use Rattle.nb_drivetalks.proofs.DriveParts.{lives_by, opens_by}
use Rattle.nb_drivetalks.proofs.Endings.{Ended, ended_less, ended_session, session_closes}
use Rattle.nb_drivetalks.proofs.Logging.{answers_on, breaks_off, waits_on}
use Rattle.nb_drivetalks.proofs.Opening.{end_said, end_up}
use Rattle.nb_drivetalks.proofs.Returning.{as_stages, session_all_returns, session_fails}
use Rattle.nb_drivetalks.proofs.Serving.{breaks_open, gives_open, waits_open}
use Rattle.nb_drivetalks.proofs.SessionParts.{ended_alike, none_open}
use Rattle.nb_drivetalks.proofs.Steps.{session_given}
use Rattle.nb_drivetalks.proofs.Talks.{Failed, Speaks, ran_out, speaks_none}
use Rattle.nb_drivetalks.proofs.Texts.{none_sent, one_sent, runs_all, runs_closing}
use Rattle.nb_drivetalks.proofs.Units.{UnitWent, unit_failed, unit_off, unit_on}
use Rattle.nb_drivetalks.proofs.Walking.{DriveCall, Walk, view}

-- WHERE IT GOES ON

lives_none : (o : _) (r : _) (calls : List DiskCall) → ended_from o r calls ≡ false → over_from o r calls ≡ None
lives_none o r [] e = refl
lives_none o r (call ∷ calls) e = by (λ f. lives_none o (after_call o r call) calls f) (disk_answer o r call).over e
  where
    by : (ended_from o (after_call o r call) calls ≡ false → over_from o (after_call o r call) calls ≡ None) → (over : Option Cause) → (is_some over || ended_from o (after_call o r call) calls) ≡ false
        → option_or over (over_from o (after_call o r call) calls) ≡ None
    by more None f = more f
    by more (Some x) f = absurd (let z = f in cc)

-- its end is none but the stream's
reads_short : (rec : ℕ) (a : DriveAskParts) (tasks : List (ReadTask × ℕ)) (come : List ℕ) (ended : Bool) (u : UnitTalk) (r : SessionTalk) → Reads a tasks come u r → is_refused (cut come).rest ≡ false
    → session_end rec a.info come ended tasks ≡ (if ended then Some (broken rec) else None)
reads_short rec a tasks come ended _ _ (in_login ks pdus on) whole =
    let goes : login_over rec a.info come ≡ None = ap (λ b. if b then end_given (last_done (login_so_far rec a.info come)) else None) (sym (ended_alike a.info come ks pdus rec) ∙ on) in
    ap (session_end_by rec a.info come ended tasks) (records_show.session rec a.info come ∙ none_open a.info come ks pdus on)
    ∙ ap (over_or_short rec (ended || is_refused (cut come).rest)) goes ∙ ap (λ b. if ended || b then Some (broken rec) else None) whole ∙ ap (λ b. if b then Some (broken rec) else None) (or_off ended)
  where
    or_off : (b : Bool) → (b || false) ≡ b
    or_off true = refl
    or_off false = refl
reads_short rec a tasks come ended _ _ (in_drive h s calls had) whole =
    ap (session_end_by rec a.info come ended tasks) (opens_by a.info come tasks s calls had rec)
    ∙ ap (over_or_short rec ended) (lives_none (opened_of s) nothing_read (drive_calls rec a.info come tasks s) (lives_by a.info come tasks s calls had rec))

pub reads_on : (rec : ℕ) (a : DriveAskParts) (tasks : List (ReadTask × ℕ)) (come : List ℕ) (u : UnitTalk) (r : SessionTalk) → Reads a tasks come u r → is_refused (cut come).rest ≡ false → session_end rec a.info come false tasks ≡ None
reads_on rec a tasks come u r reads whole = reads_short rec a tasks come false u r reads whole

pub reads_end : (rec : ℕ) (a : DriveAskParts) (tasks : List (ReadTask × ℕ)) (come : List ℕ) (u : UnitTalk) (r : SessionTalk) → Reads a tasks come u r → is_refused (cut come).rest ≡ false → session_end rec a.info come true tasks ≡ Some (broken rec)
reads_end rec a tasks come u r reads whole = reads_short rec a tasks come true u r reads whole

pub unit_reads_on : (a : DriveAskParts) (tasks : List (ReadTask × ℕ)) (come : List ℕ) (u : UnitTalk) (r : SessionTalk) → Reads a tasks come u r → unit_lives u ≡ true
unit_reads_on a tasks come _ _ (in_login ks pdus on) = refl
unit_reads_on a tasks come _ _ (in_drive h s calls had) = refl

pub session_reads_on : (a : DriveAskParts) (tasks : List (ReadTask × ℕ)) (come : List ℕ) (u : UnitTalk) (r : SessionTalk) → Reads a tasks come u r → session_lives r ≡ true
session_reads_on a tasks come _ _ (in_login ks pdus on) = refl
session_reads_on a tasks come _ _ (in_drive h s calls had) = refl

-- A MESSAGE OF THE STREAM

not_end : (m : Said) → m.tag ≡ stream_tag_number stream.Received → (m.tag == stream_tag_number stream.End) ≡ true → ⊥
not_end m tag is = let e = eqb-true m.tag 8 is in omega (arith, tag, e)

not_quiet : (m : Said) → m.tag ≡ stream_tag_number stream.Received → not ((m.tag == stream_tag_number stream.Received) || (m.tag == stream_tag_number stream.End)) ≡ true → ⊥
not_quiet m tag quiet = false≢true (sym (ap (λ b. not (b || (m.tag == stream_tag_number stream.End))) (eq-eqb m.tag 5 tag)) ∙ quiet)

module _ (c : DriveCall) (n : ℕ) (gs : List (Stage Obj Load)) (a : DriveAskParts) (tasks : List (ReadTask × ℕ)) (ds : List (Deed Obj Load)) (others : List Load) (lun : length a.info.lun ≡ 8) (come : List ℕ) (d : Dialogue) (ms us : List Said)
    (m : Said) (again : Goes c n gs a m.rec tasks ds others)
    (tag : m.tag ≡ stream_tag_number stream.Received) (whole : is_refused (cut come).rest ≡ false) (asked : AreAskedBy come tasks) (begun : IsBegun d) (owes : OwesTo others d) where
  message_by : (done : Bool) (fx : Fx Obj Load) (u : UnitTalk) (r q : SessionTalk) → Reads a tasks come u r → SessionTalks text_carrier r (up 1 m c.now done fx) q
      → Walk c n (view true true true true) (runs_of obj_nature c.session m done fx ++ Holds (port_at c.session 1) way.Up (rest m done fx) ∷ gs) u q d ms us None ds → Came c n gs a m.rec tasks come m.bytes (come ++ m.bytes) d ms us ds others
  message_by false fx u r q reads did k = came_failed (ran_out (session_fails (Holds (port_at c.session 1) way.Up None ∷ gs) m fx k))
  message_by true fx _ _ _ (in_login ks pdus on) (login_waits _ _ _ _ _ _ _ comes cuts effects) k =
      came_then again come d ms us m tag refl asked begun fx.took
      (waits_on c n (Holds (port_at c.session 1) way.Up (left fx.took m) ∷ gs) a tasks ds others come (take fx.took m.bytes) d ms us m asked begun owes ks pdus on fx cuts.comes.0 cuts.comes.1 cuts.least effects k)
  message_by true fx _ _ _ (in_login ks pdus on) (login_answers _ _ _ p _ _ _ _ comes cuts effects) k =
      came_then again come d ms us m tag refl asked begun fx.took
      (answers_on c n (Holds (port_at c.session 1) way.Up (left fx.took m) ∷ gs) a tasks ds others come (take fx.took m.bytes) d ms us m asked begun owes ks pdus on fx p cuts.comes.0 (ap is_refused cuts.comes.1) cuts.least lun
      (reply_to a.info (login_history a.info ks) (pdu_came m.rec p)) (session_opened a.info (answered_to a.info (login_history a.info ks) (pdu_came m.rec p))) refl refl effects k)
  message_by true fx _ _ q (in_login ks pdus on) (login_breaks _ _ _ _ _ _ _ comes cuts effects) k =
      came_then again come d ms us m tag refl asked begun fx.took
      (breaks_off c n (Holds (port_at c.session 1) way.Up (left fx.took m) ∷ gs) a tasks ds others come (take fx.took m.bytes) d ms us m asked begun owes ks pdus on fx cuts.comes.0 cuts.comes.1 cuts.least effects _ k)
  message_by true fx _ _ _ (in_login ks pdus on) (login_lacks _ _ _ _ _ _ _ comes all effects) k = absurd (not_end m tag comes)
  message_by true fx _ _ _ (in_login ks pdus on) (session_ends _ _ is hands) k = absurd (let z = is in cc)
  message_by true fx _ _ _ (in_login ks pdus on) (session_rests _ _ quiet idle) k = absurd (not_quiet m tag quiet)
  message_by true fx _ _ _ (in_drive h s calls had) (session_waits _ _ _ _ _ _ _ comes cuts effects) k =
      came_then again come d ms us m tag refl asked begun fx.took
      (waits_open c n (Holds (port_at c.session 1) way.Up (left fx.took m) ∷ gs) a tasks ds others come (take fx.took m.bytes) d ms us m asked begun owes s calls had h cuts.least fx cuts.comes.0 cuts.comes.1 effects k)
  message_by true fx _ _ _ (in_drive h s calls had) (session_gives _ _ _ p _ _ _ _ comes cuts effects) k =
      came_then again come d ms us m tag refl asked begun fx.took
      (gives_open c n (Holds (port_at c.session 1) way.Up (left fx.took m) ∷ gs) a tasks ds others come (take fx.took m.bytes) d ms us m asked begun owes s calls had h cuts.least fx p cuts.comes.0 (ap is_refused cuts.comes.1) effects k)
  message_by true fx _ _ _ (in_drive h s calls had) (session_breaks _ _ _ _ _ _ _ comes cuts effects) k =
      came_then again come d ms us m tag refl asked begun fx.took
      (breaks_open c n (Holds (port_at c.session 1) way.Up (left fx.took m) ∷ gs) a tasks ds others come (take fx.took m.bytes) d ms us m asked begun owes s calls had h cuts.least fx cuts.comes.0 whole cuts.comes.1 effects k)
  message_by true fx _ _ _ (in_drive h s calls had) (session_lacks _ _ _ _ _ _ _ comes all effects) k = absurd (not_end m tag comes)
  message_by true fx _ _ _ (in_drive h s calls had) (session_ends _ _ is hands) k = absurd (let z = is in cc)
  message_by true fx _ _ _ (in_drive h s calls had) (session_rests _ _ quiet idle) k = absurd (not_quiet m tag quiet)

-- all of it
pub session_message : (c : DriveCall) (gs : List (Stage Obj Load)) (a : DriveAskParts) (rec : ℕ) (tasks : List (ReadTask × ℕ)) (ds : List (Deed Obj Load)) (others : List Load) → length a.info.lun ≡ 8 → (n : ℕ) → Goes c n gs a rec tasks ds others
session_message c gs a rec tasks ds others lun zero come u r d ms us m tag of reads whole asked begun owes k = absurd (let f = k.told.few in omega (arith, f))
session_message c gs a rec tasks ds others lun (suc n) come u r d ms us m tag of reads whole asked begun owes k =
    let y = session_given n refl k in
    let again : Goes c n gs a m.rec tasks ds others = subst (λ z. Goes c n gs a z tasks ds others) (sym of) (session_message c gs a rec tasks ds others lun n) in
    subst (λ z. Came c (suc n) gs a z tasks come m.bytes (come ++ m.bytes) d ms us ds others) of
    (came_less refl (message_by c n gs a tasks ds others lun come d ms us m again tag whole asked begun owes y.0 y.1 u r y.2 reads y.3 y.4))

-- THE END OF THE STREAM

-- What comes of it: it failed, or the drive has ended, for want of a PDU.
pub data EndCame (c : DriveCall) (n : ℕ) (gs : List (Stage Obj Load)) (rec : ℕ) (d : Dialogue) (ms us : List Said) (ds : List (Deed Obj Load)) : Type 0 where
  end_failed : Failed c ds → EndCame c n gs rec d ms us ds
  end_off : (u : UnitTalk) (r : SessionTalk) (p : Dialogue) (told : List Said) → Speaks rec [] d p told → Ended c n gs u r p (ms ++ told) us (broken rec) ds → EndCame c n gs rec d ms us ds

not_received : (m : Said) → m.tag ≡ stream_tag_number stream.End → (m.tag == stream_tag_number stream.Received) ≡ true → ⊥
not_received m tag is = let e = eqb-true m.tag 5 is in omega (arith, tag, e)

or_true : (a b : Bool) → b ≡ true → not (a || b) ≡ true → ⊥
or_true true b is quiet = let z = quiet in cc
or_true false true is quiet = let z = quiet in cc
or_true false false is quiet = let z = is in cc

not_still : (m : Said) → m.tag ≡ stream_tag_number stream.End → not ((m.tag == stream_tag_number stream.Received) || (m.tag == stream_tag_number stream.End)) ≡ true → ⊥
not_still m tag quiet = or_true (m.tag == stream_tag_number stream.Received) (m.tag == stream_tag_number stream.End) (eq-eqb m.tag 8 tag) quiet

module _ (c : DriveCall) (n : ℕ) (gs : List (Stage Obj Load)) (a : DriveAskParts) (tasks : List (ReadTask × ℕ)) (ds : List (Deed Obj Load)) (others : List Load) (come : List ℕ) (d : Dialogue) (ms us : List Said) (m : Said)
    (tag : m.tag ≡ stream_tag_number stream.End) (begun : IsBegun d) (owes : OwesTo others d) where
  ended_unit_by : (o : Option Said) (ls : List Load) (u : UnitTalk) (r : SessionTalk) → UnitWent c n (returns_of c.session ls ++ Holds (port_at c.session 1) way.Up o ∷ gs) u r d ms us ds others m.rec [] [] (Some (broken m.rec))
      → EndCame c n gs m.rec d ms us ds
  ended_unit_by o ls u r (unit_failed f) = end_failed f
  ended_unit_by o ls u r (unit_on p told none sp ow w) = absurd (let z = none in cc)
  ended_unit_by o ls u r (unit_off x p told is sp e) =
      let here : Ended c n (returns_of c.session ls ++ Holds (port_at c.session 1) way.Up o ∷ gs) u session_cut p (ms ++ told) us (broken m.rec) ds =
      subst (λ (z : Cause). Ended c n (returns_of c.session ls ++ Holds (port_at c.session 1) way.Up o ∷ gs) u session_cut p (ms ++ told) us z ds) (same_Some x (broken m.rec) (sym is))
      (subst (λ z. Ended c n (returns_of c.session ls ++ Holds (port_at c.session 1) way.Up o ∷ gs) u session_cut p (ms ++ told) z x ds) (append-nil us) e) in
      end_off u session_cut p told sp (ended_session o (record { at = here.at; net = here.net; told = here.told; closing = here.closing; walk = session_all_returns ls here.walk }))

  end_by : (done : Bool) (fx : Fx Obj Load) (u : UnitTalk) (r q : SessionTalk) → Reads a tasks come u r → SessionTalks text_carrier r (up 1 m c.now done fx) q
      → Walk c n (view true true true true) (runs_of obj_nature c.session m done fx ++ Holds (port_at c.session 1) way.Up (rest m done fx) ∷ gs) u q d ms us None ds → EndCame c n gs m.rec d ms us ds
  end_by false fx u r q reads did k = end_failed (ran_out (session_fails (Holds (port_at c.session 1) way.Up None ∷ gs) m fx k))
  end_by true fx _ _ _ (in_login ks pdus on) (login_waits _ _ _ _ _ _ _ comes cuts effects) k = absurd (not_received m tag comes)
  end_by true fx _ _ _ (in_login ks pdus on) (login_answers _ _ _ p _ _ _ _ comes cuts effects) k = absurd (not_received m tag comes)
  end_by true fx _ _ _ (in_login ks pdus on) (login_breaks _ _ _ _ _ _ _ comes cuts effects) k = absurd (not_received m tag comes)
  end_by true fx _ _ _ (in_login ks pdus on) (login_lacks _ _ _ _ _ _ _ comes all effects) k =
      let hs : List (Stage Obj Load) = Holds (port_at c.session 1) way.Up (left fx.took m) ∷ gs in
      let w = as_stages (Closes (port_at c.session 0) (login_broken m.rec) ∷ Closes (port_at c.session 1) (login_broken m.rec) ∷ hs) (runs_closing c.session fx hs effects refl refl) k in
      let e = session_closes refl begun w in
      let q : SessionTalk = login_failed a come (login_history a.info ks) (Some (login_broken m.rec)) in
      end_off unit_cut q d [] (speaks_none m.rec (regains_none d)) (subst (λ z. Ended c n gs unit_cut q d z us (broken m.rec) ds) (sym (append-nil ms)) (ended_session (left fx.took m) e))
  end_by true fx _ _ _ (in_login ks pdus on) (session_ends _ _ is hands) k = absurd (let z = is in cc)
  end_by true fx _ _ _ (in_login ks pdus on) (session_rests _ _ quiet idle) k = absurd (not_still m tag quiet)
  end_by true fx _ _ _ (in_drive h s calls had) (session_waits _ _ _ _ _ _ _ comes cuts effects) k = absurd (not_received m tag comes)
  end_by true fx _ _ _ (in_drive h s calls had) (session_gives _ _ _ p _ _ _ _ comes cuts effects) k = absurd (not_received m tag comes)
  end_by true fx _ _ _ (in_drive h s calls had) (session_breaks _ _ _ _ _ _ _ comes cuts effects) k = absurd (not_received m tag comes)
  end_by true fx _ _ _ (in_drive h s calls had) (session_lacks _ _ _ _ _ _ _ comes all effects) k =
      let hs : List (Stage Obj Load) = Holds (port_at c.session 1) way.Up (left fx.took m) ∷ gs in
      by (emits_of fx.ups) effects.ups effects.above
      (as_stages (emits_stages c.session m (emits_of fx.ups) ++ hs)
      (runs_all c.session m fx [] hs effects.no_make effects.closes ∙ ap (λ (z : List (Emit Load)). emits_stages c.session m z ++ (emits_stages c.session m (emits_of fx.ups) ++ hs)) (none_sent m (emits_of fx.downs) effects.downs)) k)
    where
      by : (es : List (Emit Load)) → map (drive_says text_carrier m) es ≡ stream_end_says m.rec → AllByRecursion GoesAbove es
          → Walk c n (view true true true true) (emits_stages c.session m es ++ Holds (port_at c.session 1) way.Up (left fx.took m) ∷ gs) (unit_works (opened_of s) s.chap calls) (session_drained a come h) d ms us None ds
          → EndCame c n gs m.rec d ms us ds
      by [] says above w = absurd (let z = says in cc)
      by (e ∷ es) says above w =
          let first : drive_says text_carrier m e ≡ end_said m.rec = let z = says in cc in
          let none : map (drive_says text_carrier m) es ≡ [] = let z = says in cc in
          let js : List (Stage Obj Load) = Holds (port_at c.session 1) way.Up (left fx.took m) ∷ gs in
          let hs : List (Stage Obj Load) = returns_of c.session (in_list e.load) ++ js in
          ended_unit_by (left fx.took m) (in_list e.load) (unit_over (opened_of s) s.chap _ _) (session_drained a come h)
          (end_up hs others m.rec (opened_of s) s.chap calls refl begun owes
          (as_stages (Sends (port_at c.session 0) (end_said m.rec) ∷ hs)
          (one_sent c.session 0 m e es (end_said m.rec) js above.0 first ∙ ap (λ (z : List (Emit Load)). Sends (port_at c.session 0) (end_said m.rec) ∷ (returns_of c.session (in_list e.load) ++ (emits_stages c.session m z ++ js))) (none_sent m es none)) w))
  end_by true fx _ _ _ (in_drive h s calls had) (session_ends _ _ is hands) k = absurd (let z = is in cc)
  end_by true fx _ _ _ (in_drive h s calls had) (session_rests _ _ quiet idle) k = absurd (not_still m tag quiet)

pub session_end_message : (c : DriveCall) (n : ℕ) (gs : List (Stage Obj Load)) (a : DriveAskParts) (tasks : List (ReadTask × ℕ)) (ds : List (Deed Obj Load)) (others : List Load) (come : List ℕ) (d : Dialogue) (ms us : List Said) (m : Said)
    → m.tag ≡ stream_tag_number stream.End → IsBegun d → OwesTo others d
    → (u : UnitTalk) (r : SessionTalk) → Reads a tasks come u r → Walk c n (view true true true true) (Holds (port_at c.session 1) way.Up (Some m) ∷ gs) u r d ms us None ds → EndCame c n gs m.rec d ms us ds
session_end_message c zero gs a tasks ds others come d ms us m tag begun owes u r reads k = absurd (let f = k.told.few in omega (arith, f))
session_end_message c (suc n) gs a tasks ds others come d ms us m tag begun owes u r reads k =
    let y = session_given n refl k in less (end_by c n gs a tasks ds others come d ms us m tag begun owes y.0 y.1 u r y.2 reads y.3 y.4)
  where
    less : EndCame c n gs m.rec d ms us ds → EndCame c (suc n) gs m.rec d ms us ds
    less (end_failed f) = end_failed f
    less (end_off v q p told sp e) = end_off v q p told sp (ended_less refl e)
