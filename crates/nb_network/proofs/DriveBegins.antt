-- A drive that begins has answered and read nothing.
use Rattle.std.proofs.Common.{◌≡◌, ℕ, cond, List, [], ◌∷◌, Some, None, option_map, refl, sym, ap, ◌∙◌, append-nil}
use Rattle.std.specs.Prelude.{option_and_then}
use Rattle.nb_disk.specs.Histories.{at_work}
use Rattle.nb_drivenodes.specs.DriveAsks.{info_of}
use Rattle.nb_graph.specs.Whole.{Objects}
use Rattle.nb_login.specs.declared.info.LoginInfo.{LoginInfo}
use Rattle.nb_nodes.specs.declared.obj.Obj.{Obj}
use Rattle.nb_sans.specs.Sessions.{ReadTask, session_reading, session_talker}
use Rattle.nb_streams.specs.Flows.{conn_phase, held_after}
use Rattle.nb_streams.specs.Streams.{front}
use Rattle.nb_talks.specs.Talking.{Talk, text_to_send, unsaid}
use Rattle.nb_talks.proofs.TalkLaws.{held_with_texts}
use Rattle.nb_machine.specs.Drives.{DriveAnswer, last_read, session_answer}
use Rattle.nb_open.specs.DriveAnswers.{bytes_of_read, is_read}
use Rattle.nb_open.specs.declared.opening.Opening.{Opening}
use Rattle.nb_open.specs.declared.opening.Opening.TheVariants.{File, Web, Drive, Name, Lease, Echo}
use Rattle.nb_open.specs.Open.{IsOpenOf as IsBareOf}
use Rattle.nb_open.specs.Opening.{live_by, server_by}
use Rattle.nb_network.specs.declared.living.KeptDrive.{KeptDrive}
use Rattle.nb_network.specs.declared.living.Living.{Living}
use Rattle.nb_network.specs.Drives.{drive_by, drive_of}
use Rattle.nb_network.specs.Many.{IsLivingOf, bare_open}
use Rattle.nb_network.proofs.Hearing.{living_is}

-- nothing of its stream has come
nothing_held_yet : (isn : ℕ) → front (held_after isn []) ≡ []
unfolding conn_phase
nothing_held_yet isn = refl

nothing_came : (isn : ℕ) (text : List ℕ) (now : ℕ) → front (held_after isn (text_to_send text now)) ≡ []
nothing_came isn text now = ap (λ z. front (held_after isn z)) (sym (append-nil (text_to_send text now))) ∙ (ap front (held_with_texts isn [] (text ∷ []) now) ∙ nothing_held_yet isn)

-- what is kept of a drive to which this has come, and of which nothing was asked
abbrev kept_first : ℕ → LoginInfo → List ℕ → KeptDrive
kept_first server i come =
    let answer = session_answer server i come [] in
    let r = session_reading i come [] in
    record {
      login = i;
      chap = option_map (λ (a : DriveAnswer). a.chap) answer;
      capacity = option_map (λ (a : DriveAnswer). a.capacity) answer;
      coming = cond (is_read (at_work r)) (Some (bytes_of_read r (at_work r))) None;
      read = option_and_then last_read answer;
    }

begun_kept : (server isn now : ℕ) (i : LoginInfo) → (let none : Talk ReadTask = record { calls = []; tasks = [] } in
    kept_first server i (front (held_after isn (text_to_send (unsaid (session_talker i) isn none) now)))) ≡ (let d : KeptDrive = record { login = i; chap = None; capacity = None; coming = None; read = None } in d)
begun_kept server isn now i = ap (kept_first server i) (nothing_came isn (unsaid (session_talker i) isn (let d : Talk ReadTask = record { calls = []; tasks = [] } in d)) now)

drive_begun : (a : Opening) (number now : ℕ) → drive_by a ≡ drive_of (live_by a number now)
drive_begun (File a) number now = refl
drive_begun (Web a) number now = refl
drive_begun (Drive a) number now = ap Some (sym (begun_kept (server_by (Drive a)) a.ask.conn.isn now (info_of a.ask)))
drive_begun (Name a) number now = refl
drive_begun (Lease a) number now = refl
drive_begun (Echo a) number now = refl

pub begins_as : (a : Opening) (number now : ℕ) (h : Objects Obj) (o : Living) → o.drive ≡ drive_by a → IsBareOf h (bare_open o) (live_by a number now) → IsLivingOf h o (live_by a number now)
begins_as a number now h o kept i = living_is i (kept ∙ drive_begun a number now)
