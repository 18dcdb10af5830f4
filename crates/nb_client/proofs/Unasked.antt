-- An open of which no block was asked has read none, nor has it as it is asked for the first.
use Rattle.std.proofs.Common.{◌≡◌, ℕ, ◌||◌, Bool, true, false, List, [], ◌∷◌, ◌++◌, None, refl, ◌∙◌, ap}
use Rattle.std.specs.List.{AllByRecursion, list_any}
use Rattle.std.specs.Option.{option_and_then}
use Rattle.nb_defs.specs.Records.{Out}
use Rattle.nb_login.specs.declared.info.LoginInfo.{LoginInfo}
use Rattle.nb_sans.specs.Sessions.{session_talker}
use Rattle.nb_stack.specs.Client.{Client}
use Rattle.nb_streams.specs.Streams.{front}
use Rattle.nb_streams.specs.Flows.{held_after, conn_phase}
use Rattle.nb_talks.specs.Talking.{begun_talk, talk_held, text_to_send}
use Rattle.nb_machine.specs.Drives.{first_block_read, last_read, session_answer}
use Rattle.nb_machine.specs.Kinds.{answered, answered_by, read_last}
use Rattle.nb_machine.specs.Lives.{OpenInput, message, tcp_segment, time, task, close, OpenKind, tftp, http, iscsi, dns, dhcp, ping, Exchange, Live, continued}
use Rattle.nb_machine.specs.Takings.{AllTake, Over, all_have, is_over, lives_on}
use Rattle.nb_openlaws.specs.Sessions.{is_task}
use Rattle.nb_openlaws.proofs.SessionAnswers.{unread_asked, unread_unasked}
use Rattle.nb_client.specs.Soundness.{AsksNoTask, IsAskedNoTask}

-- no task is among its exchanges
no_task : (came : OpenInput) → AsksNoTask came → is_task came ≡ false
no_task (message rec port body now) is = refl
no_task (tcp_segment rec g now) is = refl
no_task (time now) is = refl
no_task (task t now) is = absurd is
no_task (close cause) is = refl

no_tasks : (xs : List Exchange) → AllByRecursion (λ (x : Exchange). AsksNoTask x.came) xs → list_any (λ (x : Exchange). is_task x.came) xs ≡ false
no_tasks [] h = refl
no_tasks (x ∷ xs) h = ap (λ b. b || list_any (λ (y : Exchange). is_task y.came) xs) (no_task x.came h.0) ∙ no_tasks xs h.1

unread_by : (k : OpenKind) (l : Live) → l.kind ≡ k → IsAskedNoTask l → read_last l ≡ None
unread_by tftp l is h = ap (λ k. option_and_then last_read (answered_by k l)) is
unread_by (http isn) l is h = ap (λ k. option_and_then last_read (answered_by k l)) is
unread_by (iscsi isn i) l is h = unread_unasked l isn i is (no_tasks l.exchanges h)
unread_by (dns id) l is h = ap (λ k. option_and_then last_read (answered_by k l)) is
unread_by (dhcp a) l is h = ap (λ k. option_and_then last_read (answered_by k l)) is
unread_by ping l is h = ap (λ k. option_and_then last_read (answered_by k l)) is

pub unread : (l : Live) → IsAskedNoTask l → read_last l ≡ None
unread l h = unread_by l.kind l refl h

-- AS IT IS ASKED

first_by : (k : OpenKind) (l : Live) (x : Exchange) (now : ℕ) → l.kind ≡ k → IsAskedNoTask l → x.came ≡ task first_block_read now → read_last (continued l x) ≡ None
first_by tftp l x now is h came = ap (λ k. option_and_then last_read (answered_by k (continued l x))) is
first_by (http isn) l x now is h came = ap (λ k. option_and_then last_read (answered_by k (continued l x))) is
first_by (iscsi isn i) l x now is h came = unread_asked l isn i x now is (no_tasks l.exchanges h) came
first_by (dns id) l x now is h came = ap (λ k. option_and_then last_read (answered_by k (continued l x))) is
first_by (dhcp a) l x now is h came = ap (λ k. option_and_then last_read (answered_by k (continued l x))) is
first_by ping l x now is h came = ap (λ k. option_and_then last_read (answered_by k (continued l x))) is

pub unread_first : {devices : List Client} {put : List Out} {after : List Live} {over : List Over} {now : ℕ} (l : Live) → IsAskedNoTask l → AllTake devices (task first_block_read now) (l ∷ []) put after over → AllByRecursion (λ m. read_last m ≡ None) after
unread_first {now = now} l h (lives_on _ _ _ link put more _ dev keeps none all_have) = (first_by l.kind l _ now refl h refl, tt)
unread_first l h (is_over _ _ _ link put more _ cause dev keeps ends all_have) = tt

-- AN OPEN THAT HAS JUST BEGUN

held_text : (isn start : ℕ) (text : List ℕ) → front (held_after isn (text_to_send text start)) ≡ []
unfolding conn_phase
held_text isn start [] = refl
held_text isn start (b ∷ text) = refl

fresh_none : (i : LoginInfo) (isn start server : ℕ) → session_answer server i (front (talk_held isn (begun_talk (session_talker i) isn start))) (begun_talk (session_talker i) isn start).tasks ≡ None
fresh_none i isn start server = ap (λ z. session_answer server i z []) (held_text isn start _)

fresh_by : (k : OpenKind) (l : Live) → l.exchanges ≡ [] → answered_by k l ≡ None
fresh_by tftp l none = refl
fresh_by (http isn) l none = refl
fresh_by (iscsi isn i) l none = rw none (fresh_none i isn l.since l.server)
fresh_by (dns id) l none = refl
fresh_by (dhcp a) l none = refl
fresh_by ping l none = refl

-- has answered nothing
pub fresh : (l : Live) → l.exchanges ≡ [] → answered l ≡ None
fresh l none = fresh_by l.kind l none
