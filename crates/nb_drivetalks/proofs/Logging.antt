-- What the stream brings to a session that logs in: it waits on, asks on, opens the session, or fails.
use Rattle.std.proofs.Common.{◌≡◌, ◌<◌, ℕ, Bool, true, false, List, [], ◌∷◌, ◌++◌, length, map, Option, Some, None, if◌then◌else◌, refl, sym, ap, ◌∙◌, subst, append-nil}
use Rattle.std.specs.List.{AllByRecursion}
use Rattle.std.specs.Option.{is_some, option_map_or}
use Rattle.std.proofs.lemmas.Bool.{false≢true}
use Rattle.nb_terms.specs.declared.cause.Cause.{Cause}
use Rattle.nb_effects.specs.declared.effects.Emit.{Emit}
use Rattle.nb_effects.specs.declared.effects.Fx.{Fx}
use Rattle.nb_graph.specs.Whole.{port_at}
use Rattle.nb_graph.specs.Trace.{Said, in_list}
use Rattle.nb_graph.specs.Deeds.{Deed, Stage, Closes, Sends, closes_of, returns_of, runs_of}
use Rattle.nb_iscsipdu.specs.PduTexts.{PduParts}
use Rattle.nb_iscsipdu.specs.Streams.{cut, is_refused, StaysOpen}
use Rattle.nb_login.specs.declared.info.LoginInfo.{LoginInfo}
use Rattle.nb_login.specs.declared.session.Session.{Session}
use Rattle.nb_login.specs.LoginEndings.{login_broken}
use Rattle.nb_login.specs.LoginHistory.{PduCame, pdu_came, login_entry, decided_at, end_given, expected, expected_of, is_end, last_done, login_ended}
use Rattle.nb_login.specs.LoginRecords.{pdus_alone}
use Rattle.nb_login.specs.LoginStands.{session_opened}
use Rattle.nb_login.specs.Logins.{login_history, login_said}
use Rattle.nb_login.proofs.LoginHistoryLemmas.{last_done-append}
use Rattle.nb_login.proofs.LoginRecordLaws.{opened_ended}
use Rattle.nb_streams.specs.Flows.{text_came}
use Rattle.nb_conns.specs.ConnEffects.{GoesAbove, closes_for, emits_of}
use Rattle.nb_conns.specs.Dialogues.{Dialogue}
use Rattle.nb_iscsipdu.specs.declared.command.Command.TheVariants.{TestUnitReady}
use Rattle.nb_disk.specs.Histories.{nothing_read}
use Rattle.nb_disk.specs.DiskAnswers.{broken, opened_of}
use Rattle.nb_drivenodes.specs.SessionNotes.{note_of}
use Rattle.nb_drivenodes.specs.DriveAsks.{DriveAskParts}
use Rattle.nb_drivenodes.specs.DriveEffects.{DriveEffects, drive_says, opens_says, sends_says}
use Rattle.nb_drivenodes.specs.SessionTalks.{SessionTalk, answered_to, in_session, logging_in, login_failed, login_fault, login_leads, reply_to}
use Rattle.nb_drivenodes.specs.UnitAnswers.{first_command}
use Rattle.nb_drivenodes.specs.UnitTalks.{UnitTalk, unit_cut, unit_waits, unit_works}
use Rattle.nb_nodes.specs.declared.load.Load.{Load}
use Rattle.nb_nodes.specs.declared.obj.Obj.{Obj}
use Rattle.nb_nodes.specs.Carriers.{text_carrier}
use Rattle.nb_nodes.specs.Objects.{obj_nature}
use Rattle.nb_sans.specs.Sessions.{ReadTask, login_over, login_so_far, opening_command, over_or_short, session_come, session_end, session_end_by, session_says}
use Rattle.nb_sans.specs.SessionSteps.{AreAskedBy, opening_of}
use Rattle.nb_sans.proofs.RecordLaws.{records_show}
use Rattle.nb_sans.proofs.SessionGrowth.{login_first}
use Rattle.nb_talks.specs.Talking.{text_calls}
use Rattle.nb_webtalks.proofs.Lowers.{IsBegun, OwesTo, regains_none}
use Rattle.nb_webtalks.proofs.Middle.{emits_stages}
use Rattle.nb_drivetalks.proofs.Cames.{Came, Reads, came_failed, came_off, came_on, in_drive, in_login, texts_in}
use Rattle.nb_drivetalks.proofs.Chunks.{chunk_none, chunk_one, none_still, quiet_texts}
use Rattle.nb_drivetalks.proofs.DriveParts.{HasHad}
use Rattle.nb_drivetalks.proofs.Endings.{session_closes}
use Rattle.nb_drivetalks.proofs.Handing.{HandsOn, hands_first, hands_none}
use Rattle.nb_drivetalks.proofs.LoginAlike.{asks_on, silent_ended, silent_ends}
use Rattle.nb_drivetalks.proofs.Opening.{opened_said, opened_up}
use Rattle.nb_drivetalks.proofs.Returning.{as_stages, session_all_returns}
use Rattle.nb_drivetalks.proofs.SessionParts.{closed_then, ended_alike, more_history, more_pdus, no_calls, none_open, opened_then, over_more, says_more}
use Rattle.nb_drivetalks.proofs.Spelled.{command_some, note_back, note_short, reply_some, session_fields}
use Rattle.nb_drivetalks.proofs.Talks.{Speaks, speaks_as, speaks_none}
use Rattle.nb_drivetalks.proofs.Texts.{Spoke, none_sent, one_sent, runs_all, runs_closing, session_speaks, spoke, spoke_not}
use Rattle.nb_drivetalks.proofs.Units.{UnitWent, text_calls_of, unit_failed, unit_off, unit_on}
use Rattle.nb_drivetalks.proofs.Walking.{DriveCall, Walk, view}

-- WHAT A PDU LEAVES

module _ (a : DriveAskParts) (tasks : List (ReadTask × ℕ)) (come xs : List ℕ) (asked : AreAskedBy come tasks) (ks : List PduCame) (pdus : pdus_alone ks ≡ (cut come).pdus) (on : login_ended (login_history a.info ks) ≡ false)
    (p : PduParts) (rec : ℕ) (one : (cut (come ++ xs)).pdus ≡ (cut come).pdus ++ p ∷ []) (whole : is_refused (cut (come ++ xs)).rest ≡ false) where
  entry_ended : (b : Bool) → is_end (decided_at a.info (login_history a.info ks) (pdu_came rec p)) ≡ b → login_ended (answered_to a.info (login_history a.info ks) (pdu_came rec p)) ≡ b
  entry_ended b is =
      let h = login_history a.info ks in
      ap is_end (last_done-append h (login_entry (pdu_came rec p) (decided_at a.info h (pdu_came rec p)))) ∙ is

  adds : (text : List ℕ) (o : Option Session) → option_map_or (λ (x : List ℕ). x) (reply_to a.info (login_history a.info ks) (pdu_came rec p)) [] ≡ text → session_come 0 a.info (come ++ xs) ≡ o
      → session_says a.info (come ++ xs) false tasks ≡ session_says a.info come false tasks ++ (text ++ opening_of o)
  adds text o t s =
      says_more a.info come xs ks pdus on p rec one whole false false tasks asked
      ∙ ap (λ z. session_says a.info come false tasks ++ (z ++ opening_of (session_come 0 a.info (come ++ xs)))) t
      ∙ ap (λ z. session_says a.info come false tasks ++ (text ++ opening_of z)) s

  goes_on : (text : List ℕ) → reply_to a.info (login_history a.info ks) (pdu_came rec p) ≡ Some text → is_end (decided_at a.info (login_history a.info ks) (pdu_came rec p)) ≡ false
  goes_on text is = asks_on a.info (expected_of (pdu_came rec p)) (login_entry (pdu_came rec p) (decided_at a.info (login_history a.info ks) (pdu_came rec p))) text is

  -- it asks on
  reads_on : (text : List ℕ) → reply_to a.info (login_history a.info ks) (pdu_came rec p) ≡ Some text → Reads a tasks (come ++ xs) unit_waits (logging_in a (come ++ xs) (answered_to a.info (login_history a.info ks) (pdu_came rec p)))
  reads_on text is =
      let more = more_history a.info come xs ks pdus on p rec one whole in
      subst (λ z. Reads a tasks (come ++ xs) unit_waits (logging_in a (come ++ xs) z)) more
      (in_login (ks ++ pdu_came rec p ∷ []) (more_pdus a.info come xs ks pdus on p rec one whole) (ap login_ended more ∙ entry_ended false (goes_on text is)))

  none_after : (text : List ℕ) → reply_to a.info (login_history a.info ks) (pdu_came rec p) ≡ Some text → session_come 0 a.info (come ++ xs) ≡ None
  none_after text is = closed_then a.info come xs ks pdus on p rec one whole (entry_ended false (goes_on text is))

  -- it opens the session
  open_after : (s : Session) → session_opened a.info (answered_to a.info (login_history a.info ks) (pdu_came rec p)) ≡ Some s → session_come 0 a.info (come ++ xs) ≡ Some s
  open_after s is = opened_then a.info come xs ks pdus on p rec one whole (opened_ended a.info (answered_to a.info (login_history a.info ks) (pdu_came rec p)) s is) ∙ is

  had_after : (s : Session) → session_opened a.info (answered_to a.info (login_history a.info ks) (pdu_came rec p)) ≡ Some s → HasHad a.info (come ++ xs) tasks s []
  had_after s is = record { opens = open_after s is; same = sym (no_calls a.info come xs ks pdus on p rec one whole tasks s (open_after s is)); lives = refl }

  -- it fails
  module _ (none : reply_to a.info (login_history a.info ks) (pdu_came rec p) ≡ None) where
    ended_then : login_ended (answered_to a.info (login_history a.info ks) (pdu_came rec p)) ≡ true
    ended_then = entry_ended true (silent_ended a.info (expected_of (pdu_came rec p)) (login_entry (pdu_came rec p) (decided_at a.info (login_history a.info ks) (pdu_came rec p))) none)

    ends_some : (over : Option Cause) → end_given (last_done (answered_to a.info (login_history a.info ks) (pdu_came rec p))) ≡ over → (x : Cause) × (over ≡ Some x)
    ends_some (Some x) is = (x, refl)
    ends_some None is =
        let h = login_history a.info ks in
        let e = login_entry (pdu_came rec p) (decided_at a.info h (pdu_came rec p)) in
        absurd (false≢true (ap is_some (sym is ∙ ap end_given (last_done-append h e)) ∙ silent_ends a.info (expected_of (pdu_came rec p)) e none))

    none_later : session_opened a.info (answered_to a.info (login_history a.info ks) (pdu_came rec p)) ≡ None → session_come 0 a.info (come ++ xs) ≡ None
    none_later is = opened_then a.info come xs ks pdus on p rec one whole ended_then ∙ is

    ends_so : (x : Cause) → end_given (last_done (answered_to a.info (login_history a.info ks) (pdu_came rec p))) ≡ Some x → session_opened a.info (answered_to a.info (login_history a.info ks) (pdu_came rec p)) ≡ None
        → session_end rec a.info (come ++ xs) false tasks ≡ Some x
    ends_so x is opens =
        let h = login_history a.info ks in
        let e = login_entry (pdu_came rec p) (decided_at a.info h (pdu_came rec p)) in
        ap (session_end_by rec a.info (come ++ xs) false tasks) (records_show.session rec a.info (come ++ xs) ∙ none_later opens)
        ∙ ap (over_or_short rec (is_refused (cut (come ++ xs)).rest)) (over_more a.info come xs ks pdus on p rec one whole ended_then ∙ sym (ap end_given (last_done-append h e)) ∙ is)

-- WHAT AN ENTRY OF THE SESSION DOES

module _ (c : DriveCall) (n : ℕ) (gs : List (Stage Obj Load)) (a : DriveAskParts) (tasks : List (ReadTask × ℕ)) (ds : List (Deed Obj Load)) (others : List Load) (come xs : List ℕ) (d : Dialogue) (ms us : List Said) (m : Said)
    (asked : AreAskedBy come tasks) (begun : IsBegun d) (owes : OwesTo others d)
    (ks : List PduCame) (pdus : pdus_alone ks ≡ (cut come).pdus) (on : login_ended (login_history a.info ks) ≡ false) (fx : Fx Obj Load) where
  -- nothing goes down
  silent : text_calls (texts_in a tasks come xs) c.now ≡ [] → Speaks m.rec (text_calls (texts_in a tasks come xs) c.now) d d []
  silent none = speaks_as m.rec (sym none) (speaks_none m.rec (regains_none d))

  still : {hs : List (Stage Obj Load)} {u : UnitTalk} {r : SessionTalk} {z : Option Cause} → Walk c n (view true true true true) hs u r d ms us z ds → Walk c n (view true true true true) hs u r d (ms ++ []) us z ds
  still {hs} {u} {r} {z} k = subst (λ y. Walk c n (view true true true true) hs u r d y us z ds) (sym (append-nil ms)) k

  was_none : session_come 0 a.info come ≡ None
  was_none = none_open a.info come ks pdus on

  hands : session_come 0 a.info (come ++ xs) ≡ None → HandsOn m.rec a.info tasks come (come ++ xs) us us
  hands none = hands_none m.rec a.info tasks come (come ++ xs) us (none ∙ sym was_none) (none_still a tasks come xs asked c.now was_none none)

  -- bytes that make no PDU whole
  pub waits_on : (cut (come ++ xs)).pdus ≡ (cut come).pdus → is_refused (cut (come ++ xs)).rest ≡ false → StaysOpen (cut come).rest xs → DriveEffects text_carrier m [] [] [] fx
      → Walk c n (view true true true true) (runs_of obj_nature c.session m true fx ++ gs) unit_waits (logging_in a (come ++ xs) (login_history a.info ks)) d ms us None ds → Came c n gs a m.rec tasks come xs (come ++ xs) d ms us ds others
  waits_on same whole stays effects k =
      let later : pdus_alone ks ≡ (cut (come ++ xs)).pdus = pdus ∙ sym same in
      came_on unit_waits (logging_in a (come ++ xs) (login_history a.info ks)) d [] us (in_login ks later on) whole (silent (quiet_texts a tasks come xs asked c.now same whole stays))
      (hands (none_open a.info (come ++ xs) ks later on)) owes (still (as_stages gs (runs_closing c.session fx gs effects refl refl) k))

  -- bytes with which no PDU begins
  pub breaks_off : (cut (come ++ xs)).pdus ≡ (cut come).pdus → is_refused (cut (come ++ xs)).rest ≡ true → StaysOpen (cut come).rest xs → DriveEffects text_carrier m [] [] (closes_for (Some (login_broken m.rec))) fx → (r : SessionTalk)
      → Walk c n (view true true true true) (runs_of obj_nature c.session m true fx ++ gs) unit_waits r d ms us None ds → Came c n gs a m.rec tasks come xs (come ++ xs) d ms us ds others
  breaks_off same off stays effects r k =
      let later : pdus_alone ks ≡ (cut (come ++ xs)).pdus = pdus ∙ sym same in
      let none : session_come 0 a.info (come ++ xs) ≡ None = none_open a.info (come ++ xs) ks later on in
      let says : session_says a.info (come ++ xs) false tasks ≡ session_says a.info come false tasks =
      login_first a.info (come ++ xs) false tasks none ∙ ap (λ (z : List PduParts). login_said a.info (map (pdu_came 0) z)) same ∙ sym (login_first a.info come false tasks was_none) in
      let goes : login_over m.rec a.info (come ++ xs) ≡ None =
      ap (λ b. if b then end_given (last_done (login_so_far m.rec a.info (come ++ xs))) else None) (sym (ended_alike a.info (come ++ xs) ks later m.rec) ∙ on) in
      let ends : session_end m.rec a.info (come ++ xs) false tasks ≡ Some (broken m.rec) =
      ap (session_end_by m.rec a.info (come ++ xs) false tasks) (records_show.session m.rec a.info (come ++ xs) ∙ none)
      ∙ ap (over_or_short m.rec (is_refused (cut (come ++ xs)).rest)) goes ∙ ap (λ b. if b then Some (broken m.rec) else None) off in
      came_off (login_broken m.rec) unit_cut r d [] us ends (silent (chunk_none a tasks come xs asked c.now stays says)) (hands none)
      (session_closes refl begun (still (as_stages (Closes (port_at c.session 0) (login_broken m.rec) ∷ Closes (port_at c.session 1) (login_broken m.rec) ∷ gs) (runs_closing c.session fx gs effects refl refl) k)))

  -- a PDU
  module _ (p : PduParts) (one : (cut (come ++ xs)).pdus ≡ (cut come).pdus ++ p ∷ []) (whole : is_refused (cut (come ++ xs)).rest ≡ false) (stays : StaysOpen (cut come).rest xs) (lun : length a.info.lun ≡ 8) where
    asks_by : (text : List ℕ) → reply_to a.info (login_history a.info ks) (pdu_came m.rec p) ≡ Some text → map (drive_says text_carrier m) (emits_of fx.ups) ≡ []
        → Spoke c n (emits_stages c.session m (emits_of fx.ups) ++ gs) unit_waits (logging_in a (come ++ xs) (answered_to a.info (login_history a.info ks) (pdu_came m.rec p))) d ms us ds others m.rec (text_came text c.now ∷ [])
        → Came c n gs a m.rec tasks come xs (come ++ xs) d ms us ds others
    asks_by text is no_up (spoke_not f) = came_failed f
    asks_by text is no_up (spoke q told s ow w) =
        let none = none_after a tasks come xs asked ks pdus on p m.rec one whole text is in
        let says : session_says a.info (come ++ xs) false tasks ≡ session_says a.info come false tasks ++ text =
        adds a tasks come xs asked ks pdus on p m.rec one whole text None (ap (λ (z : Option (List ℕ)). option_map_or (λ (x : List ℕ). x) z []) is) none ∙ ap (λ z. session_says a.info come false tasks ++ z) (append-nil text) in
        let some : 0 < length text = reply_some a.info (expected_of (pdu_came m.rec p)) (login_entry (pdu_came m.rec p) (decided_at a.info (login_history a.info ks) (pdu_came m.rec p))) text is in
        came_on unit_waits (logging_in a (come ++ xs) (answered_to a.info (login_history a.info ks) (pdu_came m.rec p))) q told us (reads_on a tasks come xs asked ks pdus on p m.rec one whole text is) whole
        (speaks_as m.rec (sym (chunk_one a tasks come xs asked c.now stays text some says)) s) (hands none) ow
        (as_stages gs (ap (λ (z : List (Emit Load)). emits_stages c.session m z ++ gs) (none_sent m (emits_of fx.ups) no_up)) w)

    -- the session is open: the unit sends its first command
    opens_by : (s : Session) → reply_to a.info (login_history a.info ks) (pdu_came m.rec p) ≡ None → session_opened a.info (answered_to a.info (login_history a.info ks) (pdu_came m.rec p)) ≡ Some s → (ls : List Load)
        → UnitWent c n (returns_of c.session ls ++ gs) (unit_works (opened_of s) s.chap []) (in_session a (come ++ xs) (answered_to a.info (login_history a.info ks) (pdu_came m.rec p))) d ms us ds others m.rec (text_calls_of (Some (first_command (opened_of s))) c.now) [] None
        → Came c n gs a m.rec tasks come xs (come ++ xs) d ms us ds others
    opens_by s is opens ls (unit_failed f) = came_failed f
    opens_by s is opens ls (unit_off x q told over sp e) = absurd (let z = over in cc)
    opens_by s is opens ls (unit_on q told over sp ow w) =
        let now_open = open_after a tasks come xs asked ks pdus on p m.rec one whole s opens in
        let says : session_says a.info (come ++ xs) false tasks ≡ session_says a.info come false tasks ++ opening_command s =
        adds a tasks come xs asked ks pdus on p m.rec one whole [] (Some s) (ap (λ (z : Option (List ℕ)). option_map_or (λ (x : List ℕ). x) z []) is) now_open in
        came_on (unit_works (opened_of s) s.chap []) (in_session a (come ++ xs) (answered_to a.info (login_history a.info ks) (pdu_came m.rec p))) q told us
        (in_drive (answered_to a.info (login_history a.info ks) (pdu_came m.rec p)) s [] (had_after a tasks come xs asked ks pdus on p m.rec one whole s opens)) whole
        (speaks_as m.rec (sym (chunk_one a tasks come xs asked c.now stays (opening_command s) (command_some (opened_of s) nothing_read 0 TestUnitReady) says)) sp)
        (hands_first m.rec a.info tasks come (come ++ xs) us s was_none now_open (no_calls a.info come xs ks pdus on p m.rec one whole tasks s now_open)) ow
        (subst (λ z. Walk c n (view true true true true) gs (unit_works (opened_of s) s.chap []) (in_session a (come ++ xs) (answered_to a.info (login_history a.info ks) (pdu_came m.rec p))) q (ms ++ told) z None ds) (append-nil us) (session_all_returns ls w))

    fails_by : (over : Option Cause) → end_given (last_done (answered_to a.info (login_history a.info ks) (pdu_came m.rec p))) ≡ over → reply_to a.info (login_history a.info ks) (pdu_came m.rec p) ≡ None
        → session_opened a.info (answered_to a.info (login_history a.info ks) (pdu_came m.rec p)) ≡ None → (r : SessionTalk)
        → Walk c n (view true true true true) (closes_of c.session (closes_for over) ++ gs) unit_waits r d ms us None ds → Came c n gs a m.rec tasks come xs (come ++ xs) d ms us ds others
    fails_by None gives is opens r k = absurd (let z = (ends_some a tasks come xs asked ks pdus on p m.rec one whole is None gives).1 in cc)
    fails_by (Some x) gives is opens r k =
        let none = none_later a tasks come xs asked ks pdus on p m.rec one whole is opens in
        let says : session_says a.info (come ++ xs) false tasks ≡ session_says a.info come false tasks =
        adds a tasks come xs asked ks pdus on p m.rec one whole [] None (ap (λ (z : Option (List ℕ)). option_map_or (λ (x : List ℕ). x) z []) is) none ∙ append-nil (session_says a.info come false tasks) in
        came_off x unit_cut r d [] us (ends_so a tasks come xs asked ks pdus on p m.rec one whole is x gives opens) (silent (chunk_none a tasks come xs asked c.now stays says)) (hands none)
        (session_closes refl begun (still k))

    pub answers_on : (text : Option (List ℕ)) (session : Option Session) → reply_to a.info (login_history a.info ks) (pdu_came m.rec p) ≡ text → session_opened a.info (answered_to a.info (login_history a.info ks) (pdu_came m.rec p)) ≡ session
        → DriveEffects text_carrier m (sends_says m.rec text) (opens_says m.rec text session) (closes_for (login_fault (answered_to a.info (login_history a.info ks) (pdu_came m.rec p)) text session)) fx
        → Walk c n (view true true true true) (runs_of obj_nature c.session m true fx ++ gs) unit_waits (login_leads a (come ++ xs) (answered_to a.info (login_history a.info ks) (pdu_came m.rec p)) text session) d ms us None ds
        → Came c n gs a m.rec tasks come xs (come ++ xs) d ms us ds others
    answers_on (Some text) session is opens effects k = asks_by text is effects.ups (session_speaks gs others m.rec text fx [] [] refl effects begun owes k)
    answers_on None (Some s) is opens effects k =
        let w : Walk c n (view true true true true) (emits_stages c.session m (emits_of fx.ups) ++ gs) unit_waits (in_session a (come ++ xs) (answered_to a.info (login_history a.info ks) (pdu_came m.rec p))) d ms us None ds =
        as_stages (emits_stages c.session m (emits_of fx.ups) ++ gs)
        (runs_all c.session m fx [] gs effects.no_make effects.closes ∙ ap (λ (z : List (Emit Load)). emits_stages c.session m z ++ (emits_stages c.session m (emits_of fx.ups) ++ gs)) (none_sent m (emits_of fx.downs) effects.downs)) k in
        by (emits_of fx.ups) effects.ups effects.above w
      where
        by : (es : List (Emit Load)) → map (drive_says text_carrier m) es ≡ opened_said m.rec s ∷ [] → AllByRecursion GoesAbove es
            → Walk c n (view true true true true) (emits_stages c.session m es ++ gs) unit_waits (in_session a (come ++ xs) (answered_to a.info (login_history a.info ks) (pdu_came m.rec p))) d ms us None ds
            → Came c n gs a m.rec tasks come xs (come ++ xs) d ms us ds others
        by [] says above w = absurd (let z = says in cc)
        by (e ∷ es) says above w =
            let first : drive_says text_carrier m e ≡ opened_said m.rec s = let z = says in cc in
            let rest : map (drive_says text_carrier m) es ≡ [] = let z = says in cc in
            let f = session_fields a.info (expected (answered_to a.info (login_history a.info ks) (pdu_came m.rec p))) (last_done (answered_to a.info (login_history a.info ks) (pdu_came m.rec p))) s opens in
            let mine : s.info.lun ≡ a.info.lun = ap (λ (z : LoginInfo). z.lun) f.0 in
            let hs : List (Stage Obj Load) = returns_of c.session (in_list e.load) ++ gs in
            opens_by s is opens (in_list e.load)
            (opened_up hs others m.rec s (note_back a.info.lun lun (note_of s) mine f.1 f.2) (note_short (note_of s) (ap length mine ∙ lun)) begun owes
            (as_stages (Sends (port_at c.session 0) (opened_said m.rec s) ∷ hs)
            (one_sent c.session 0 m e es (opened_said m.rec s) gs above.0 first ∙ ap (λ (z : List (Emit Load)). Sends (port_at c.session 0) (opened_said m.rec s) ∷ (returns_of c.session (in_list e.load) ++ (emits_stages c.session m z ++ gs))) (none_sent m es rest)) w))
    answers_on None None is opens effects k =
        let h2 = answered_to a.info (login_history a.info ks) (pdu_came m.rec p) in
        fails_by (end_given (last_done h2)) refl is opens (login_failed a (come ++ xs) h2 (end_given (last_done h2)))
        (as_stages (closes_of c.session (closes_for (end_given (last_done h2))) ++ gs) (runs_closing c.session fx gs effects refl refl) k)
