-- Where nothing is handed up of a drive, and no more of its stream has come, it has answered what it had.
use Rattle.std.proofs.Common.{◌≡◌, inl, ℕ, List, [], ◌∷◌, ◌++◌, None, sym, ◌∙◌, ap, subst, append-nil}
use Rattle.std.specs.Option.{option_and_then}
use Rattle.std.specs.List.{AllByRecursion, flat_map}
use Rattle.std.proofs.lemmas.List.Concat.{flat_map-append}
use Rattle.std.proofs.lemmas.List.Sums.{fold-append}
use Rattle.nb_ledger.specs.Flat.{Notice}
use Rattle.nb_login.specs.declared.info.LoginInfo.{LoginInfo}
use Rattle.nb_sans.specs.Sessions.{ReadTask, session_reading, session_talker}
use Rattle.nb_streams.specs.Flows.{held_after, held_in, time_came}
use Rattle.nb_streams.specs.Streams.{front}
use Rattle.nb_streams.proofs.OtherSendLaws.{phase_append}
use Rattle.nb_disk.specs.Histories.{at_work}
use Rattle.nb_talks.specs.Talking.{Came, Talk, Talker, begun_talk, by_time, talk_after, talk_held, talks_on}
use Rattle.nb_machine.specs.Drives.{input_to_session, last_read, session_answer, session_of}
use Rattle.nb_machine.specs.Kinds.{answered, answered_by}
use Rattle.nb_machine.specs.Lives.{Exchange, Live, continued, iscsi}
use Rattle.nb_teller.specs.Deliveries.{delivered_answer, delivered_blocks}
use Rattle.nb_drivechains.specs.declared.drive_chain.DriveChain.{DriveChain}
use Rattle.nb_drivetalks.specs.Tellings.{told_above, told_below}
use Rattle.nb_webtalks.specs.Tellings.{messages_of}
use Rattle.nb_open.specs.DriveAnswers.{AnswersAfter, AnswersAtEnd, bytes_by, bytes_of_read, bytes_so_far, is_read, is_reading, reads_by}
use Rattle.nb_open.proofs.Delivering.{DeliversNone}
use Rattle.nb_open.proofs.DrivePuts.{answer_among, answer_up, blocks_among, blocks_up}

-- with one thing more that came, the talk has gone on
pub session_more : (isn : ℕ) (i : LoginInfo) (l : Live) (x : Exchange) (c : Came ReadTask) → input_to_session x.came ≡ c ∷ [] → session_of isn i (continued l x) ≡ talks_on (session_talker i) isn (session_of isn i l) c
session_more isn i l x c is =
    let came : List Exchange → List (Came ReadTask) = flat_map (λ (y : Exchange). input_to_session y.came) in
    ap (talk_after (session_talker i) isn l.since) (flat_map-append (λ (y : Exchange). input_to_session y.came) l.exchanges (x ∷ []) ∙ ap (λ z. came l.exchanges ++ (z ++ [])) is)
    ∙ fold-append (talks_on (session_talker i) isn) (begun_talk (session_talker i) isn l.since) (came l.exchanges) (c ∷ [])

-- a time brings nothing of the stream, and asks nothing
time_held : (isn now : ℕ) (t : Talker ReadTask) (d : Talk ReadTask) → talk_held isn (talks_on t isn d (by_time now)) ≡ talk_held isn d
time_held isn now t d = ap (held_after isn) (append-nil (d.calls ++ time_came now ∷ [])) ∙ ap held_in (phase_append isn d.calls (time_came now))

module _ (c : DriveChain) (l : Live) (x : Exchange) (ns : List Notice) (isn : ℕ) (i : LoginInfo) (of : l.kind ≡ iscsi isn i) (above : told_above c.unit.0 ns ≡ []) (none : AllByRecursion DeliversNone (messages_of (told_below c.unit.0 ns))) where
  module _ (now : ℕ) (is : input_to_session x.came ≡ by_time now ∷ []) where
    abbrev after : Live
    after = continued l x

    abbrev talk : Talk ReadTask
    talk = session_of isn i l

    abbrev then_talk : Talk ReadTask
    then_talk = talks_on (session_talker i) isn talk (by_time now)

    goes_on : session_of isn i after ≡ then_talk
    goes_on = session_more isn i l x (by_time now) is

    same_answer : answered after ≡ answered l
    same_answer =
        ap (λ z. answered_by z after) of
        ∙ (ap (λ (d : Talk ReadTask). session_answer l.server i (front (talk_held isn d)) d.tasks) goes_on
        ∙ (ap (λ h. session_answer l.server i (front h) talk.tasks) (time_held isn now (session_talker i) talk)
        ∙ ap (λ z. answered_by z l) (sym of)))

    same_bytes : bytes_so_far after ≡ bytes_so_far l
    same_bytes =
        ap (λ z. bytes_by z after) of
        ∙ (ap (λ (d : Talk ReadTask). (let r = session_reading i (front (talk_held isn d)) d.tasks in bytes_of_read r (at_work r))) goes_on
        ∙ (ap (λ h. (let r = session_reading i (front h) talk.tasks in bytes_of_read r (at_work r))) (time_held isn now (session_talker i) talk)
        ∙ ap (λ z. bytes_by z l) (sym of)))

    same_reading : is_reading after ≡ is_reading l
    same_reading =
        ap (λ z. reads_by z after) of
        ∙ (ap (λ (d : Talk ReadTask). is_read (at_work (session_reading i (front (talk_held isn d)) d.tasks))) goes_on
        ∙ (ap (λ h. is_read (at_work (session_reading i (front h) talk.tasks))) (time_held isn now (session_talker i) talk)
        ∙ ap (λ z. reads_by z l) (sym of)))

    no_answer_told : delivered_answer ns ≡ None
    no_answer_told = answer_up c.unit.0 ns none ∙ ap answer_among above

    no_blocks_told : delivered_blocks ns ≡ []
    no_blocks_told = blocks_up c.unit.0 ns none ∙ ap blocks_among above

    pub aside_after : AnswersAfter l after (delivered_answer ns) (delivered_blocks ns)
    aside_after = subst (λ z. AnswersAfter l after z (delivered_blocks ns)) (sym no_answer_told) (same_answer, same_bytes ∙ (sym (append-nil (bytes_so_far l)) ∙ ap (λ z. bytes_so_far l ++ z) (sym no_blocks_told)), same_reading)

    pub aside_at_end : AnswersAtEnd l after (delivered_answer ns) (delivered_blocks ns)
    aside_at_end = subst (λ z. AnswersAtEnd l after z (delivered_blocks ns)) (sym no_answer_told) (inl same_answer, ap (option_and_then last_read) same_answer)
