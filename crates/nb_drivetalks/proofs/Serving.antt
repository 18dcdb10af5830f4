-- What the stream brings to an open session: bytes that make no PDU whole, a PDU for the unit, or that no further one comes.
use Rattle.std.proofs.Common.{◌≡◌, ◌<◌, ℕ, ◌||◌, Bool, true, false, List, [], ◌∷◌, ◌++◌, length, map, fold, Option, Some, None, refl, sym, ap, ◌∙◌, subst, append-nil, arith}
use Rattle.std.specs.List.{AllByRecursion}
use Rattle.std.specs.Option.{is_some, option_map}
use Rattle.std.proofs.lemmas.List.{length-append}
use Rattle.nb_terms.specs.declared.cause.Cause.{Cause}
use Rattle.nb_effects.specs.declared.effects.Emit.{Emit}
use Rattle.nb_effects.specs.declared.effects.Fx.{Fx}
use Rattle.nb_graph.specs.Whole.{port_at}
use Rattle.nb_graph.specs.Trace.{Said, in_list}
use Rattle.nb_graph.specs.Deeds.{Deed, Stage, Sends, returns_of, runs_of}
use Rattle.nb_iscsipdu.specs.PduTexts.{PduParts, IsPdu, pdu_text}
use Rattle.nb_iscsipdu.specs.Streams.{cut, is_refused, StaysOpen}
use Rattle.nb_login.specs.declared.session.Session.{Session}
use Rattle.nb_login.specs.LoginHistory.{LoginEntry}
use Rattle.nb_conns.specs.ConnEffects.{GoesAbove, emits_of}
use Rattle.nb_conns.specs.Dialogues.{Dialogue}
use Rattle.nb_disk.specs.Histories.{DiskCall, after_call, came, nothing_read, reading, stream_ended}
use Rattle.nb_disk.specs.DiskAnswers.{broken, disk_answer, ended_from, opened_of}
use Rattle.nb_drivenodes.specs.DriveAsks.{DriveAskParts}
use Rattle.nb_drivenodes.specs.DriveEffects.{DriveEffects, drive_says, pdu_says, stream_end_says}
use Rattle.nb_drivenodes.specs.SessionTalks.{SessionTalk, in_session, session_cut, session_drained}
use Rattle.nb_drivenodes.specs.UnitTalks.{UnitTalk, unit_over, unit_works, worked_on}
use Rattle.nb_nodes.specs.declared.load.Load.{Load}
use Rattle.nb_nodes.specs.declared.obj.Obj.{Obj}
use Rattle.nb_nodes.specs.Carriers.{text_carrier}
use Rattle.nb_nodes.specs.Objects.{obj_nature}
use Rattle.nb_sans.specs.Sessions.{ReadTask, session_come, session_end, stream_parts, text_of_put}
use Rattle.nb_sans.specs.SessionSteps.{AreAskedBy}
use Rattle.nb_sans.specs.RecordNumbers.{brought_by}
use Rattle.nb_sans.proofs.Parts.{parts_follow}
use Rattle.nb_sans.proofs.SessionGrowth.{opened_ended as open_is_ended, stays_open}
use Rattle.nb_talks.specs.Talking.{text_calls, text_to_send}
use Rattle.nb_webtalks.proofs.Lowers.{IsBegun, OwesTo, regains_none}
use Rattle.nb_webtalks.proofs.Middle.{emits_stages}
use Rattle.nb_drivetalks.proofs.Cames.{Came, came_failed, came_off, came_on, in_drive, texts_in}
use Rattle.nb_drivetalks.proofs.Chunks.{calls_still, chunk_texts, quiet_parts, quiet_texts, text_is}
use Rattle.nb_drivetalks.specs.Comings.{IsPart}
use Rattle.nb_drivetalks.proofs.DriveParts.{HasHad, calls_then, ends_then, quiet_calls, same_part, same_then, says_then, still as still_open}
use Rattle.nb_drivetalks.proofs.Handing.{HandsOn, hands_more, hands_none, unit_same}
use Rattle.nb_drivetalks.proofs.Opening.{end_said, end_up, given_at, over_at, pdu_said, pdu_up, put_at}
use Rattle.nb_drivetalks.proofs.Returning.{as_stages, session_all_returns}
use Rattle.nb_drivetalks.proofs.SessionParts.{is_pdu}
use Rattle.nb_drivetalks.proofs.Spelled.{pdu_back, put_some}
use Rattle.nb_drivetalks.proofs.Talks.{speaks_as, speaks_none}
use Rattle.nb_drivetalks.proofs.Texts.{none_sent, one_sent, runs_all, runs_closing}
use Rattle.nb_drivetalks.proofs.Units.{UnitWent, text_calls_of, unit_failed, unit_off, unit_on}
use Rattle.nb_drivetalks.proofs.Walking.{DriveCall, Walk, view}

-- a call that didn't end it leaves it going on
pub ends_later : (o : _) (r : _) (calls : List DiskCall) (call : DiskCall) → ended_from o r calls ≡ false → ended_from o r (calls ++ call ∷ []) ≡ is_some (disk_answer o (fold (after_call o) r calls) call).over
ends_later o r [] call e = or_nil (is_some (disk_answer o r call).over)
  where
    or_nil : (b : Bool) → (b || false) ≡ b
    or_nil true = refl
    or_nil false = refl
ends_later o r (x ∷ calls) call e = by (λ f. ends_later o (after_call o r x) calls call f) (is_some (disk_answer o r x).over) e
  where
    by : (ended_from o (after_call o r x) calls ≡ false → ended_from o (after_call o r x) (calls ++ call ∷ []) ≡ is_some (disk_answer o (fold (after_call o) (after_call o r x) calls) call).over)
        → (b : Bool) → (b || ended_from o (after_call o r x) calls) ≡ false → (b || ended_from o (after_call o r x) (calls ++ call ∷ [])) ≡ is_some (disk_answer o (fold (after_call o) (after_call o r x) calls) call).over
    by more true f = absurd (let z = f in cc)
    by more false f = more f

-- the text of what a call puts, as it is said and as it is sent
pub put_texts : (p : Option PduParts) (now : ℕ) → ((q : PduParts) → p ≡ Some q → 0 < length (pdu_text q)) → text_to_send (text_of_put p) now ≡ text_calls_of (option_map pdu_text p) now
put_texts None now some = refl
put_texts (Some q) now some = text_is (pdu_text q) now (some q refl)

-- A PART OF THE STREAM COMES TO A DRIVE

module _ (c : DriveCall) (n : ℕ) (gs : List (Stage Obj Load)) (a : DriveAskParts) (tasks : List (ReadTask × ℕ)) (ds : List (Deed Obj Load)) (others : List Load) (come xs : List ℕ) (d : Dialogue) (ms us : List Said) (rec : ℕ)
    (asked : AreAskedBy come tasks)
    (s : Session) (calls : List DiskCall) (had : HasHad a.info come tasks s calls) (h : List LoginEntry) (stays : StaysOpen (cut come).rest xs) where
  module _ (call : DiskCall) (of : IsPart call) (mine : brought_by rec call ≡ call) (parts : (r : ℕ) → stream_parts r (come ++ xs) ≡ stream_parts r come ++ brought_by r call ∷ []) where
    part_texts : text_calls (texts_in a tasks come xs) c.now ≡ text_calls_of (put_at (opened_of s) calls call) c.now
    part_texts =
        let put = (disk_answer (opened_of s) (reading (opened_of s) calls) call).put in
        chunk_texts a tasks come xs asked c.now stays (text_of_put put) (says_then a.info come tasks s calls had xs asked call of parts false false)
        ∙ put_texts put c.now (λ q is. put_some (opened_of s) (reading (opened_of s) calls) call q is)

    part_hands : HandsOn rec a.info tasks come (come ++ xs) us (us ++ given_at rec s.chap (opened_of s) calls call)
    part_hands =
        subst (λ z. HandsOn rec a.info tasks come (come ++ xs) us (us ++ z)) (unit_same rec s.chap a.info come tasks s calls had call)
        (hands_more rec a.info tasks come (come ++ xs) us s (brought_by 0 call) had.opens (still_open a.info come tasks s calls had xs asked call of parts) (calls_then a.info come tasks s calls had xs asked call of parts) (same_part 0 call of))

    part_ends : (x : Cause) → over_at (opened_of s) calls call ≡ Some x → session_end rec a.info (come ++ xs) false tasks ≡ Some x
    part_ends x is = ends_then a.info come tasks s calls had xs asked call of parts rec ∙ ap (λ (z : DiskCall). (disk_answer (opened_of s) (reading (opened_of s) calls) z).over) mine ∙ is

    part_had : over_at (opened_of s) calls call ≡ None → HasHad a.info (come ++ xs) tasks s (calls ++ call ∷ [])
    part_had none = record {
      opens = still_open a.info come tasks s calls had xs asked call of parts;
      same = same_then a.info come tasks s calls had xs asked call of parts;
      lives = ends_later (opened_of s) nothing_read calls call had.lives ∙ ap is_some none;
    }

  -- a PDU, after what the unit did
  pdu_came_by : (p : PduParts) (ls : List Load) → is_refused (cut (come ++ xs)).rest ≡ false → ((r : ℕ) → stream_parts r (come ++ xs) ≡ stream_parts r come ++ came r p ∷ [])
      → UnitWent c n (returns_of c.session ls ++ gs) (worked_on (opened_of s) s.chap (calls ++ came rec p ∷ []) (over_at (opened_of s) calls (came rec p))) (in_session a (come ++ xs) h) d ms us ds others rec (text_calls_of (put_at (opened_of s) calls (came rec p)) c.now) (given_at rec s.chap (opened_of s) calls (came rec p)) (over_at (opened_of s) calls (came rec p))
      → Came c n gs a rec tasks come xs (come ++ xs) d ms us ds others
  pdu_came_by p ls whole parts (unit_failed f) = came_failed f
  pdu_came_by p ls whole parts (unit_on q told none sp ow w) =
      came_on (unit_works (opened_of s) s.chap (calls ++ came rec p ∷ [])) (in_session a (come ++ xs) h) q told (us ++ given_at rec s.chap (opened_of s) calls (came rec p))
      (in_drive h s (calls ++ came rec p ∷ []) (part_had (came rec p) tt refl parts none)) whole (speaks_as rec (sym (part_texts (came rec p) tt refl parts)) sp) (part_hands (came rec p) tt refl parts) ow
      (session_all_returns ls (subst (λ z. Walk c n (view true true true true) (returns_of c.session ls ++ gs) (worked_on (opened_of s) s.chap (calls ++ came rec p ∷ []) z) (in_session a (come ++ xs) h) q (ms ++ told) (us ++ given_at rec s.chap (opened_of s) calls (came rec p)) None ds) none w))
  pdu_came_by p ls whole parts (unit_off x q told is sp e) =
      came_off x _ session_cut q told (us ++ given_at rec s.chap (opened_of s) calls (came rec p)) (part_ends (came rec p) tt refl parts x is) (speaks_as rec (sym (part_texts (came rec p) tt refl parts)) sp) (part_hands (came rec p) tt refl parts)
      (record { at = e.at; net = e.net; told = e.told; closing = e.closing; walk = session_all_returns ls e.walk })

  -- no further PDU, after what the unit did
  end_came_by : (ls : List Load) (r : SessionTalk) → ((k : ℕ) → stream_parts k (come ++ xs) ≡ stream_parts k come ++ stream_ended k ∷ [])
      → UnitWent c n (returns_of c.session ls ++ gs) (unit_over (opened_of s) s.chap (calls ++ stream_ended rec ∷ []) (Some (broken rec))) r d ms us ds others rec [] [] (Some (broken rec))
      → Came c n gs a rec tasks come xs (come ++ xs) d ms us ds others
  end_came_by ls r parts (unit_failed f) = came_failed f
  end_came_by ls r parts (unit_on q told none sp ow w) = absurd (let z = none in cc)
  end_came_by ls r parts (unit_off x q told is sp e) =
      came_off x _ session_cut q told (us ++ []) (part_ends (stream_ended rec) tt refl parts x is) (speaks_as rec (sym (part_texts (stream_ended rec) tt refl parts)) sp) (part_hands (stream_ended rec) tt refl parts)
      (record { at = e.at; net = e.net; told = e.told; closing = e.closing; walk = session_all_returns ls e.walk })

-- WHAT AN ENTRY OF THE SESSION DOES

module _ (c : DriveCall) (n : ℕ) (gs : List (Stage Obj Load)) (a : DriveAskParts) (tasks : List (ReadTask × ℕ)) (ds : List (Deed Obj Load)) (others : List Load) (come xs : List ℕ) (d : Dialogue) (ms us : List Said) (m : Said)
    (asked : AreAskedBy come tasks) (begun : IsBegun d) (owes : OwesTo others d)
    (s : Session) (calls : List DiskCall) (had : HasHad a.info come tasks s calls) (h : List LoginEntry) (stays : StaysOpen (cut come).rest xs) (fx : Fx Obj Load) where
  -- what goes up from it, alone
  ups_alone : {u : UnitTalk} {r : SessionTalk} (given : List Said) → DriveEffects text_carrier m [] given [] fx → Walk c n (view true true true true) (runs_of obj_nature c.session m true fx ++ gs) u r d ms us None ds
      → Walk c n (view true true true true) (emits_stages c.session m (emits_of fx.ups) ++ gs) u r d ms us None ds
  ups_alone given effects k =
      as_stages (emits_stages c.session m (emits_of fx.ups) ++ gs)
      (runs_all c.session m fx [] gs effects.no_make effects.closes ∙ ap (λ (z : List (Emit Load)). emits_stages c.session m z ++ (emits_stages c.session m (emits_of fx.ups) ++ gs)) (none_sent m (emits_of fx.downs) effects.downs)) k

  -- bytes that make no PDU whole
  pub waits_open : (cut (come ++ xs)).pdus ≡ (cut come).pdus → is_refused (cut (come ++ xs)).rest ≡ false → DriveEffects text_carrier m [] [] [] fx
      → Walk c n (view true true true true) (runs_of obj_nature c.session m true fx ++ gs) (unit_works (opened_of s) s.chap calls) (in_session a (come ++ xs) h) d ms us None ds → Came c n gs a m.rec tasks come xs (come ++ xs) d ms us ds others
  waits_open same whole effects k =
      let parts = quiet_parts a tasks come xs asked c.now same whole in
      let opens : session_come 0 a.info (come ++ xs) ≡ Some s = stays_open 0 a.info come xs (open_is_ended 0 a.info come s had.opens) ∙ had.opens in
      came_on (unit_works (opened_of s) s.chap calls) (in_session a (come ++ xs) h) d [] us
      (in_drive h s calls (record { opens = opens; same = had.same ∙ sym (quiet_calls a.info come xs tasks s had.opens asked (parts 0)); lives = had.lives })) whole
      (speaks_as m.rec (sym (quiet_texts a tasks come xs asked c.now same whole stays)) (speaks_none m.rec (regains_none d)))
      (hands_none m.rec a.info tasks come (come ++ xs) us (opens ∙ sym had.opens) (calls_still a tasks come xs asked c.now s had.opens opens (parts 0))) owes
      (subst (λ y. Walk c n (view true true true true) gs (unit_works (opened_of s) s.chap calls) (in_session a (come ++ xs) h) d y us None ds) (sym (append-nil ms)) (as_stages gs (runs_closing c.session fx gs effects refl refl) k))

  -- a PDU
  pub gives_open : (p : PduParts) → (cut (come ++ xs)).pdus ≡ (cut come).pdus ++ p ∷ [] → is_refused (cut (come ++ xs)).rest ≡ false → DriveEffects text_carrier m [] (pdu_says m.rec p) [] fx
      → Walk c n (view true true true true) (runs_of obj_nature c.session m true fx ++ gs) (unit_works (opened_of s) s.chap calls) (in_session a (come ++ xs) h) d ms us None ds → Came c n gs a m.rec tasks come xs (come ++ xs) d ms us ds others
  gives_open p one whole effects k = by (emits_of fx.ups) effects.ups effects.above (ups_alone (pdu_says m.rec p) effects k)
    where
      is : IsPdu p
      is = is_pdu (come ++ xs) (cut come).pdus p one

      by : (es : List (Emit Load)) → map (drive_says text_carrier m) es ≡ pdu_says m.rec p → AllByRecursion GoesAbove es
          → Walk c n (view true true true true) (emits_stages c.session m es ++ gs) (unit_works (opened_of s) s.chap calls) (in_session a (come ++ xs) h) d ms us None ds → Came c n gs a m.rec tasks come xs (come ++ xs) d ms us ds others
      by [] says above w = absurd (let z = says in cc)
      by (e ∷ es) says above w =
          let first : drive_says text_carrier m e ≡ pdu_said m.rec p = let z = says in cc in
          let rest : map (drive_says text_carrier m) es ≡ [] = let z = says in cc in
          let hs : List (Stage Obj Load) = returns_of c.session (in_list e.load) ++ gs in
          pdu_came_by c n gs a tasks ds others come xs d ms us m.rec asked s calls had h stays p (in_list e.load) whole (λ r. parts_follow.one r come xs p one whole)
          (pdu_up hs others m.rec p (opened_of s) s.chap calls (pdu_back p is) (omega (arith, length-append p.head p.seg, is.head, is.short)) begun owes
          (as_stages (Sends (port_at c.session 0) (pdu_said m.rec p) ∷ hs)
          (one_sent c.session 0 m e es (pdu_said m.rec p) gs above.0 first ∙ ap (λ (z : List (Emit Load)). Sends (port_at c.session 0) (pdu_said m.rec p) ∷ (returns_of c.session (in_list e.load) ++ (emits_stages c.session m z ++ gs))) (none_sent m es rest)) w))

  -- bytes with which no PDU begins
  pub breaks_open : (cut (come ++ xs)).pdus ≡ (cut come).pdus → is_refused (cut come).rest ≡ false → is_refused (cut (come ++ xs)).rest ≡ true → DriveEffects text_carrier m [] (stream_end_says m.rec) [] fx
      → Walk c n (view true true true true) (runs_of obj_nature c.session m true fx ++ gs) (unit_works (opened_of s) s.chap calls) (session_drained a (come ++ xs) h) d ms us None ds → Came c n gs a m.rec tasks come xs (come ++ xs) d ms us ds others
  breaks_open same on off effects k = by (emits_of fx.ups) effects.ups effects.above (ups_alone (stream_end_says m.rec) effects k)
    where
      by : (es : List (Emit Load)) → map (drive_says text_carrier m) es ≡ stream_end_says m.rec → AllByRecursion GoesAbove es
          → Walk c n (view true true true true) (emits_stages c.session m es ++ gs) (unit_works (opened_of s) s.chap calls) (session_drained a (come ++ xs) h) d ms us None ds → Came c n gs a m.rec tasks come xs (come ++ xs) d ms us ds others
      by [] says above w = absurd (let z = says in cc)
      by (e ∷ es) says above w =
          let first : drive_says text_carrier m e ≡ end_said m.rec = let z = says in cc in
          let rest : map (drive_says text_carrier m) es ≡ [] = let z = says in cc in
          let hs : List (Stage Obj Load) = returns_of c.session (in_list e.load) ++ gs in
          end_came_by c n gs a tasks ds others come xs d ms us m.rec asked s calls had h stays (in_list e.load) (session_drained a (come ++ xs) h) (λ r. parts_follow.off r come xs same on off)
          (end_up hs others m.rec (opened_of s) s.chap calls refl begun owes
          (as_stages (Sends (port_at c.session 0) (end_said m.rec) ∷ hs)
          (one_sent c.session 0 m e es (end_said m.rec) gs above.0 first ∙ ap (λ (z : List (Emit Load)). Sends (port_at c.session 0) (end_said m.rec) ∷ (returns_of c.session (in_list e.load) ++ (emits_stages c.session m z ++ gs))) (none_sent m es rest)) w))
