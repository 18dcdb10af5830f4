-- A drive's open to which nothing has come has answered nothing.
use Rattle.std.proofs.Common.{◌≡◌, ℕ, List, [], None, refl, sym, ◌∙◌, ap, ◌∷◌, ◌++◌, ◌+◌, ◌-◌, arith, append-nil, option_and_then}
use Rattle.std.proofs.lemmas.Option.{none-some}
use Rattle.nb_login.specs.declared.info.LoginInfo.{LoginInfo}
use Rattle.nb_sans.specs.Sessions.{session_chap, session_talker}
use Rattle.nb_streams.specs.Streams.{front}
use Rattle.nb_streams.specs.Flows.{held_after, conn_phase}
use Rattle.nb_talks.specs.Talking.{talk_held, begun_talk, text_to_send}
use Rattle.nb_drivecmd.specs.declared.outcome.Hooking.{Hooking}
use Rattle.nb_machine.specs.Drives.{session_answer, last_read}
use Rattle.nb_machine.specs.Kinds.{answered}
use Rattle.nb_machine.specs.States.{State}
use Rattle.nb_machine.specs.Scripts.{drive_for}
use Rattle.nb_machine.specs.Findings.{open_words, first_word}
use Rattle.nb_drivelogin.specs.DriveLogins.{login_by}
use Rattle.nb_laws.specs.Events.{Event, puts}
use Rattle.nb_laws.specs.Lists.{made, hardware}
use Rattle.nb_laws.specs.Webs.{came_at, brought_to}
use Rattle.nb_laws.specs.Hookings.{HasDriveAnswer, HasRead}
use Rattle.nb_laws.specs.Drives.{SessionOpening, came_to_session, session_so_far, answered_so_far}
use Rattle.nb_laws.proofs.DriveTalks.{held_tasks}
use Rattle.nb_laws.proofs.Tellings.{came_more, tasks_alone}
use Rattle.nb_defs.specs.Records.{Out}

chap_none : (i : LoginInfo) → session_chap i [] ≡ None
chap_none i = refl

-- what it has said brings nothing
held_text : (isn start : ℕ) (text : List ℕ) → front (held_after isn (text_to_send text start)) ≡ []
unfolding conn_phase
held_text isn start [] = refl
held_text isn start (b ∷ text) = refl

pub fresh_none : (i : LoginInfo) (isn start server : ℕ) → session_answer server i (front (talk_held isn (begun_talk (session_talker i) isn start))) (begun_talk (session_talker i) isn start).tasks ≡ None
fresh_none i isn start server = ap (λ z. session_answer server i z []) (held_text isn start _)

pub fresh_answers_none : (s : State) (hooking : Hooking) (server : ℕ) → answered (drive_for s hooking server) ≡ None
fresh_answers_none s hooking server = fresh_none (login_by hooking.disk (open_words s.machine s.opens) s.table) (first_word s.machine s.opens) s.now server

-- so has one that has just been made and has ended, by the history
fresh_answered : (es : List Event) (k : ℕ) (s : SessionOpening) → brought_to k es ≡ [] → answered_so_far k s es ≡ None
fresh_answered es k s none =
    let w = first_word (hardware es).identity k in
    let d = session_so_far k s es in
    ap (λ z. session_answer s.opening.server s.login z d.tasks)
    (ap front (held_tasks (hardware es) k s (begun_talk (session_talker s.login) w s.opening.since) (came_to_session k es) (tasks_alone k es none)) ∙ held_text w s.opening.since _)

-- what is known of it then
record IsFresh (es es3 : List Event) : Type 0 where
  at : made es3 - 1 ≡ made es
  none : brought_to (made es3 - 1) es3 ≡ []

is_fresh : (es es2 es3 : List Event) (o last : Out) → es2 ≡ es ++ puts o ∷ [] → es3 ≡ es2 ++ puts last ∷ [] → made es3 ≡ made es + 1 → brought_to (made es) es ≡ [] → came_at (made es3 - 1) es (puts o) ≡ [] →
    came_at (made es3 - 1) es2 (puts last) ≡ [] → IsFresh es es3
is_fresh es es2 es3 o last two three many silent first second =
    let k = made es3 - 1 in
    let at : k ≡ made es = ap (λ n. n - 1) many ∙ minus_one (made es) in
    record {
      at = at;
      none = ap (brought_to k) three ∙ came_more k es2 (puts last) ∙ append-nil (brought_to k es2) ∙ ap (brought_to k) two ∙ came_more k es (puts o) ∙ append-nil (brought_to k es) ∙ ap (λ n. brought_to n es) at ∙ silent;
    }
  where
    minus_one : (n : ℕ) → (n + 1) - 1 ≡ n
    minus_one n = omega arith

pub fresh_drive : (es es2 es3 : List Event) (o last : Out) → es2 ≡ es ++ puts o ∷ [] → es3 ≡ es2 ++ puts last ∷ [] → made es3 ≡ made es + 1 → brought_to (made es) es ≡ [] → HasDriveAnswer es3 → ⊥
fresh_drive es es2 es3 o last two three many silent h =
    let f = is_fresh es es2 es3 o last two three many silent refl refl in
    absurd (none-some h.answer (sym (fresh_answered es3 (made es3 - 1) h.session f.none) ∙ h.answered))

-- nor has it read a block
pub fresh_block : (es es2 es3 : List Event) (o last : Out) → es2 ≡ es ++ puts o ∷ [] → es3 ≡ es2 ++ puts last ∷ [] → made es3 ≡ made es + 1 → brought_to (made es) es ≡ [] → (bytes : List ℕ) → HasRead (made es3 - 1) es3 bytes → ⊥
fresh_block es es2 es3 o last two three many silent bytes h =
    let f = is_fresh es es2 es3 o last two three many silent refl refl in
    absurd (none-some bytes (sym (ap (option_and_then last_read) (fresh_answered es3 (made es3 - 1) h.session f.none)) ∙ h.read))
