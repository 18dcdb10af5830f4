-- What bytes of the stream bring to a session that goes on: none that count, an answer to its login, a PDU of the open session, or that no
-- further one comes; by the answers that the login has had, whichever records brought them.
use Rattle.std.proofs.Common.{◌≡◌, ◌<◌, ◌+◌, ℕ, Bool, true, false, List, [], ◌∷◌, ◌++◌, length, map, Some, None, if◌then◌else◌, refl, ap, ◌∙◌, sym, subst, append_assoc, append-nil, arith}
use Rattle.std.proofs.lemmas.List.{length-append, map-append}
use Rattle.std.proofs.lemmas.List.Sums.{fold-append}
use Rattle.nb_iscsipdu.specs.declared.pdus.PduState.TheVariants.{More}
use Rattle.nb_iscsipdu.specs.PduTexts.{PduParts, IsPdu}
use Rattle.nb_iscsipdu.specs.Streams.{Cut, after_byte, cut, is_refused, is_whole_pdu, none_cut, pdu_of, pdu_state_of, SpellsPdus, StaysOpen}
use Rattle.nb_iscsipdu.proofs.CutLemmas.{cut-spells}
use Rattle.nb_iscsipdu.proofs.StreamLemmas.{fold-reached, more-not_refused, more-not_whole, reached}
use Rattle.nb_login.specs.declared.info.LoginInfo.{LoginInfo}
use Rattle.nb_login.specs.declared.session.Session.{Session}
use Rattle.nb_login.specs.LoginHistory.{PduCame, pdu_came, LoginEntry, login_entry, decided_at, end_given, last_done, login_ended}
use Rattle.nb_login.specs.LoginStands.{session_opened}
use Rattle.nb_login.specs.Logins.{after_came, login_history, text_of_entry}
use Rattle.nb_login.specs.LoginRecords.{pdus_alone}
use Rattle.nb_login.proofs.LoginHistoryLemmas.{last_done-append}
use Rattle.nb_login.proofs.LoginRecordLaws.{records_show}
use Rattle.nb_disk.specs.Histories.{came}
use Rattle.nb_sans.specs.Sessions.{ReadTask, drive_calls, login_so_far, login_over, pdus_came, session_come, session_says, stream_parts}
use Rattle.nb_sans.specs.SessionSteps.{AreAskedBy, opening_of}
use Rattle.nb_sans.proofs.Parts.{parts_follow}
use Rattle.nb_sans.proofs.LoginSteps.{calls_follow, login_step}
use Rattle.nb_sans.proofs.SessionSteps.{quiet_step}
use Rattle.nb_drivetalks.proofs.LoginAlike.{AlikeSoFar, histories_alike, next_same, text_alike}

-- the PDUs of what came by a record
pub alone_of : (rec : ℕ) (ps : List PduParts) → pdus_alone (map (pdu_came rec) ps) ≡ ps
alone_of rec [] = refl
alone_of rec (p ∷ ps) = ap (λ (z : List PduParts). p ∷ z) (alone_of rec ps)

module _ (i : LoginInfo) (stream : List ℕ) (ms : List PduCame) (pdus : pdus_alone ms ≡ (cut stream).pdus) (rec : ℕ) where
  -- the login of a stream, and one that was given its PDUs
  pub stream_alike : AlikeSoFar (login_history i ms) (login_so_far rec i stream)
  stream_alike = histories_alike i ms (pdus_came rec stream) (pdus ∙ sym (alone_of rec (cut stream).pdus))

  pub ended_alike : login_ended (login_history i ms) ≡ login_ended (login_so_far rec i stream)
  ended_alike = stream_alike.ended

module _ (i : LoginInfo) (stream : List ℕ) (ms : List PduCame) (pdus : pdus_alone ms ≡ (cut stream).pdus) where
  -- a login that goes on has no session
  pub none_open : login_ended (login_history i ms) ≡ false → session_come 0 i stream ≡ None
  none_open on = ap (λ b. if b then session_opened i (login_so_far 0 i stream) else None) (sym (ended_alike i stream ms pdus 0) ∙ on)

  -- one that has ended may have one
  pub opens_so : login_ended (login_history i ms) ≡ true → session_come 0 i stream ≡ session_opened i (login_history i ms)
  opens_so off =
      ap (λ b. if b then session_opened i (login_so_far 0 i stream) else None) (sym (ended_alike i stream ms pdus 0) ∙ off)
      ∙ sym (records_show i ms (pdus_came 0 stream) (pdus ∙ sym (alone_of 0 (cut stream).pdus))).session

-- ONE PDU MORE COMES TO A LOGIN

module _ (i : LoginInfo) (come xs : List ℕ) (ms : List PduCame) (pdus : pdus_alone ms ≡ (cut come).pdus) (on : login_ended (login_history i ms) ≡ false) (p : PduParts) (rec : ℕ)
    (one : (cut (come ++ xs)).pdus ≡ (cut come).pdus ++ p ∷ []) (whole : is_refused (cut (come ++ xs)).rest ≡ false) where
  abbrev pub m : PduCame
  m = pdu_came rec p

  abbrev pub h : List LoginEntry
  h = login_history i ms

  abbrev pub entry : LoginEntry
  entry = login_entry m (decided_at i h m)

  pub more_history : login_history i (ms ++ m ∷ []) ≡ h ++ entry ∷ []
  more_history = fold-append (after_came i) [] ms (m ∷ []) ∙ ap (λ b. if b then h else h ++ entry ∷ []) on

  pub more_pdus : pdus_alone (ms ++ m ∷ []) ≡ (cut (come ++ xs)).pdus
  more_pdus = map-append (λ (x : PduCame). x.pdu) ms (m ∷ []) ∙ ap (λ (z : List PduParts). z ++ p ∷ []) pdus ∙ sym one

  pub more_parts : (r : ℕ) → stream_parts r (come ++ xs) ≡ stream_parts r come ++ came r p ∷ []
  more_parts r = parts_follow.one r come xs p one whole

  goes_on : (r : ℕ) → login_ended (login_so_far r i come) ≡ false
  goes_on r = sym (ended_alike i come ms pdus r) ∙ on

  pub says_more : (before after : Bool) (tasks : List (ReadTask × ℕ)) → AreAskedBy come tasks
      → session_says i (come ++ xs) after tasks ≡ session_says i come before tasks ++ (text_of_entry i entry ++ opening_of (session_come 0 i (come ++ xs)))
  says_more before after tasks by =
      login_step i come xs before after tasks p by (goes_on 0) (more_parts 0)
      ∙ ap (λ z. session_says i come before tasks ++ (z ++ opening_of (session_come 0 i (come ++ xs))))
      (sym (text_alike i h (login_so_far 0 i come) (stream_alike i come ms pdus 0) on rec 0 p))

  -- how it ends then
  pub over_more : login_ended (h ++ entry ∷ []) ≡ true → login_over rec i (come ++ xs) ≡ end_given (decided_at i h m)
  over_more off =
      let other : LoginEntry = login_entry m (decided_at i (login_so_far rec i come) m) in
      let ended : login_ended (login_so_far rec i (come ++ xs)) ≡ true = sym (ended_alike i (come ++ xs) (ms ++ m ∷ []) more_pdus rec) ∙ ap login_ended more_history ∙ off in
      ap (λ b. if b then end_given (last_done (login_so_far rec i (come ++ xs))) else None) ended
      ∙ ap (λ (z : List LoginEntry). end_given (last_done z)) (calls_follow.login rec i come xs p (goes_on rec) (more_parts rec))
      ∙ ap end_given (last_done-append (login_so_far rec i come) other)
      ∙ ap end_given (sym (next_same i h (login_so_far rec i come) (stream_alike i come ms pdus rec) on m))

  pub opened_then : login_ended (h ++ entry ∷ []) ≡ true → session_come 0 i (come ++ xs) ≡ session_opened i (h ++ entry ∷ [])
  opened_then off = opens_so i (come ++ xs) (ms ++ m ∷ []) more_pdus (ap login_ended more_history ∙ off) ∙ ap (session_opened i) more_history

  pub closed_then : login_ended (h ++ entry ∷ []) ≡ false → session_come 0 i (come ++ xs) ≡ None
  closed_then still = none_open i (come ++ xs) (ms ++ m ∷ []) more_pdus (ap login_ended more_history ∙ still)

  pub no_calls : (tasks : List (ReadTask × ℕ)) (s : Session) → session_come 0 i (come ++ xs) ≡ Some s → drive_calls 0 i (come ++ xs) tasks s ≡ []
  no_calls tasks s opens = calls_follow.first 0 i come xs tasks p s (goes_on 0) (more_parts 0) opens

-- BYTES THAT COMPLETE NO PDU

pub quiet_bytes : (i : LoginInfo) (come xs : List ℕ) (before after : Bool) (tasks : List (ReadTask × ℕ)) → AreAskedBy come tasks → (cut (come ++ xs)).pdus ≡ (cut come).pdus → is_refused (cut (come ++ xs)).rest ≡ false
    → session_says i (come ++ xs) after tasks ≡ session_says i come before tasks
quiet_bytes i come xs before after tasks by pdus on = quiet_step i come xs before after tasks by (parts_follow.none 0 come xs pdus on)

-- so are those before the last one, where no shorter part is a PDU
module _ (come xs : List ℕ) (stays : StaysOpen (cut come).rest xs) (part later : List ℕ) (is : xs ≡ part ++ later) (some : 0 < length later) where
  shorter : StaysOpen (cut come).rest part
  shorter = λ a b e f. stays a (b ++ later) (is ∙ ap (λ z. z ++ later) e ∙ append_assoc a b later) (omega (arith, length-append b later, some))

  open_first : is_whole_pdu (cut come).rest ≡ false
  open_first =
      let all : length xs ≡ length part + length later = ap length is ∙ length-append part later in
      more-not_whole (cut come).rest (ap pdu_state_of (sym (append-nil (cut come).rest)) ∙ stays [] xs refl (omega (arith, all, some)))

  state_then : pdu_state_of ((cut come).rest ++ part) ≡ More
  state_then = stays part later is some

  cut_then : cut (come ++ part) ≡ reached (cut come) ((cut come).rest ++ part)
  cut_then = fold-append after_byte none_cut come part ∙ fold-reached (cut come) part open_first shorter

  pub part_pdus : (cut (come ++ part)).pdus ≡ (cut come).pdus
  part_pdus =
      ap (λ (z : Cut). z.pdus) cut_then ∙ ap (λ b. (cut come).pdus ++ (if b then pdu_of ((cut come).rest ++ part) ∷ [] else [])) (more-not_whole ((cut come).rest ++ part) state_then)
      ∙ append-nil (cut come).pdus

  pub part_open : is_refused (cut (come ++ part)).rest ≡ false
  part_open =
      ap (λ (z : Cut). is_refused z.rest) cut_then ∙ ap (λ b. is_refused (if b then [] else (cut come).rest ++ part)) (more-not_whole ((cut come).rest ++ part) state_then)
      ∙ more-not_refused ((cut come).rest ++ part) state_then

-- THE PDUS OF A STREAM

spelled_last : (text : List ℕ) (ps : List PduParts) (p : PduParts) → SpellsPdus text (ps ++ p ∷ []) → IsPdu p
spelled_last text [] p w = w.3.is
spelled_last text (q ∷ ps) p w = spelled_last w.1 ps p w.4

pub is_pdu : (stream : List ℕ) (ps : List PduParts) (p : PduParts) → (cut stream).pdus ≡ ps ++ p ∷ [] → IsPdu p
is_pdu stream ps p is = let y = cut-spells stream in spelled_last y.spelled ps p (subst (SpellsPdus y.spelled) is y.spells)
