-- The texts that bytes of a session's stream bring, up to the next PDU or the byte that shows that there is none, and what is handed up.
use Rattle.std.proofs.Common.{◌≡◌, ◌<◌, ℕ, false, List, [], ◌∷◌, ◌++◌, length, Some, None, refl, ap, ◌∙◌, sym, append-nil, arith}
use Rattle.nb_iscsipdu.specs.Streams.{cut, is_refused, StaysOpen}
use Rattle.nb_login.specs.declared.session.Session.{Session}
use Rattle.nb_streams.specs.Flows.{text_came}
use Rattle.nb_drivenodes.specs.DriveAsks.{DriveAskParts}
use Rattle.nb_sans.specs.Sessions.{ReadTask, session_come, session_says, session_talker, stream_parts}
use Rattle.nb_sans.specs.SessionSteps.{AreAskedBy}
use Rattle.nb_sans.proofs.Parts.{parts_follow}
use Rattle.nb_talks.specs.Talking.{text_calls, text_to_send}
use Rattle.nb_drivetalks.specs.Comings.{calls_by, session_calls}
use Rattle.nb_drivetalks.proofs.Cames.{texts_in}
use Rattle.nb_drivetalks.proofs.DriveParts.{quiet_calls}
use Rattle.nb_drivetalks.proofs.SessionParts.{part_open, part_pdus, quiet_bytes}
use Rattle.nb_drivetalks.proofs.Turning.{more_rest, one_text}

-- a text that isn't empty is one call
pub text_is : (text : List ℕ) (now : ℕ) → 0 < length text → text_to_send text now ≡ text_came text now ∷ []
text_is [] now some = absurd (omega (arith, some))
text_is (b ∷ bytes) now some = refl

module _ (a : DriveAskParts) (tasks : List (ReadTask × ℕ)) (come xs : List ℕ) (asked : AreAskedBy come tasks) (now : ℕ) where
  -- where no shorter part brings something, they bring what is added
  pub chunk_texts : StaysOpen (cut come).rest xs → (text : List ℕ) → session_says a.info (come ++ xs) false tasks ≡ session_says a.info come false tasks ++ text → text_calls (texts_in a tasks come xs) now ≡ text_to_send text now
  chunk_texts stays text adds =
      one_text (session_talker a.info) false tasks come xs now
      (λ part later is some. quiet_bytes a.info come part false false tasks asked (part_pdus come xs stays part later is some) (part_open come xs stays part later is some))
      ∙ ap (λ z. text_to_send z now) (more_rest (session_says a.info come false tasks) text (session_says a.info (come ++ xs) false tasks) adds)

  pub chunk_none : StaysOpen (cut come).rest xs → session_says a.info (come ++ xs) false tasks ≡ session_says a.info come false tasks → text_calls (texts_in a tasks come xs) now ≡ []
  chunk_none stays same = chunk_texts stays [] (same ∙ sym (append-nil (session_says a.info come false tasks)))

  pub chunk_one : StaysOpen (cut come).rest xs → (text : List ℕ) → 0 < length text → session_says a.info (come ++ xs) false tasks ≡ session_says a.info come false tasks ++ text → text_calls (texts_in a tasks come xs) now ≡ text_came text now ∷ []
  chunk_one stays text some adds = chunk_texts stays text adds ∙ text_is text now some

  -- bytes that complete no PDU
  module _ (pdus : (cut (come ++ xs)).pdus ≡ (cut come).pdus) (on : is_refused (cut (come ++ xs)).rest ≡ false) where
    pub quiet_texts : StaysOpen (cut come).rest xs → text_calls (texts_in a tasks come xs) now ≡ []
    quiet_texts stays = chunk_none stays (quiet_bytes a.info come xs false false tasks asked pdus on)

    pub quiet_parts : (rec : ℕ) → stream_parts rec (come ++ xs) ≡ stream_parts rec come
    quiet_parts rec = parts_follow.none rec come xs pdus on

  -- the calls of a session that is open before and after
  pub calls_still : (s : Session) → session_come 0 a.info come ≡ Some s → session_come 0 a.info (come ++ xs) ≡ Some s → stream_parts 0 (come ++ xs) ≡ stream_parts 0 come → session_calls a.info (come ++ xs) tasks ≡ session_calls a.info come tasks
  calls_still s was opens same = ap (calls_by a.info (come ++ xs) tasks) opens ∙ quiet_calls a.info come xs tasks s was asked same ∙ sym (ap (calls_by a.info come tasks) was)

  -- or of none
  pub none_still : session_come 0 a.info come ≡ None → session_come 0 a.info (come ++ xs) ≡ None → session_calls a.info (come ++ xs) tasks ≡ session_calls a.info come tasks
  none_still was is = ap (calls_by a.info (come ++ xs) tasks) is ∙ sym (ap (calls_by a.info come tasks) was)
