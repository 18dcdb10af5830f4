-- How far a stream has come: a time leaves it as it is, and of one opening it is what its connection holds.
use Rattle.std.proofs.Common.{◌≡◌, ℕ, ◌+◌, ◌==◌, true, false, cond, ◌||◌, List, [], ◌∷◌, ◌++◌, map, refl, sym, ◌∙◌, ap, append_assoc, append-nil, arith}
use Rattle.std.specs.List.{flat_map, fold, list_any, sum_by}
use Rattle.std.proofs.lemmas.List.Sums.{fold-append}
use Rattle.std.proofs.lemmas.Bool.{eqb-true}
use Rattle.nb_streams.specs.Streams.{next}
use Rattle.nb_streams.specs.Flows.{TcpCall, time_came, text_came, ConnPhase, asking, flowing, conn_phase, after_tcp_call, held_in, held_after}
use Rattle.nb_talks.specs.Talking.{Came, by_time, Talker, talk_held, text_to_send, talks_on, begun_talk, talk_after}
use Rattle.nb_streams.proofs.FlowLaws.{held_going}
use Rattle.nb_streams.proofs.OtherSendLaws.{phase_append}
use Rattle.nb_webs.specs.Webs.{NoTask}
use Rattle.nb_machine.specs.Findings.{first_word}
use Rattle.nb_machine.specs.Webs.{web_at}
use Rattle.nb_laws.specs.Events.{Event}
use Rattle.nb_laws.specs.Lists as lists
use Rattle.nb_laws.specs.Lists.{Hardware, hardware, Opening, openings, file_blocks, blocks_where, opens_file}
use Rattle.nb_laws.specs.Progress.{file_place}
use Rattle.nb_laws.specs.Webs.{opens_web, opens_session, brought_to, talk_by, stream_place_by, stream_place}
use Rattle.nb_laws.specs.Drives.{SessionOpening, sessions, session_by, to_session, came_to_session, session_place_by, session_place}
use Rattle.nb_laws.proofs.DriveTalks.{session_one, held_with}
use Rattle.nb_laws.proofs.SessionOpenings.{no_session_of}
use Rattle.nb_sans.specs.Sessions.{ReadTask}

-- text that is said brings nothing of the stream
pub held_text : (isn : ℕ) (cs : List TcpCall) (text : List ℕ) (now : ℕ) → held_after isn (cs ++ text_to_send text now) ≡ held_after isn cs
held_text isn cs [] now = ap (held_after isn) (append-nil cs)
held_text isn cs (b ∷ bytes) now = ap held_in (phase_append isn cs (text_came (b ∷ bytes) now)) ∙ still (conn_phase isn cs)
  where
    still : (p : ConnPhase) → held_in (after_tcp_call isn p (text_came (b ∷ bytes) now)) ≡ held_in p
    still (asking text) = refl
    still (flowing f) = held_going false (record f { text = f.text ++ b ∷ bytes })

time_held : {T : Type 0} (t : Talker T) (isn start : ℕ) (came : List (Came T)) (now : ℕ) → talk_held isn (talk_after t isn start (came ++ by_time now ∷ [])) ≡ talk_held isn (talk_after t isn start came)
time_held t isn start came now =
    let d = talk_after t isn start came in
    ap (λ x. talk_held isn x) (fold-append (talks_on t isn) (begun_talk t isn start) came (by_time now ∷ []))
    ∙ ap (held_after isn) (append-nil (d.calls ++ time_came now ∷ []))
    ∙ ap held_in (phase_append isn d.calls (time_came now))

pub time_stream : (h : Hardware) (k : ℕ) (o : Opening) (came : List (Came NoTask)) (now : ℕ) → stream_place_by h k (came ++ by_time now ∷ []) o ≡ stream_place_by h k came o
time_stream h k o came now = ap (λ z. cond (opens_web o) (next z) 0) (time_held (web_at o.target) (first_word h.identity k) o.since came now)

-- so do several, as one comes to each that lives
pub times_stream : (h : Hardware) (k : ℕ) (o : Opening) (came : List (Came NoTask)) (now : ℕ) (os : List Opening) → stream_place_by h k (came ++ flat_map (λ x. by_time now ∷ []) os) o ≡ stream_place_by h k came o
times_stream h k o came now [] = ap (λ z. stream_place_by h k z o) (append-nil came)
times_stream h k o came now (x ∷ os) =
    ap (λ z. stream_place_by h k z o) (sym (append_assoc came (by_time now ∷ []) (flat_map (λ y. by_time now ∷ []) os)))
    ∙ times_stream h k o (came ++ by_time now ∷ []) now os ∙ time_stream h k o came now

-- a sum of the same
pub same_sum : {A : Type 0} (f g : A → ℕ) (os : List A) → ((o : A) → f o ≡ g o) → sum_by f os ≡ sum_by g os
same_sum {A} f g os same = on os 0
  where
    on : (xs : List A) (t : ℕ) → fold (λ (n : ℕ) (o : A). n + f o) t xs ≡ fold (λ (n : ℕ) (o : A). n + g o) t xs
    on [] t = refl
    on (x ∷ xs) t = ap (λ z. fold (λ (n : ℕ) (o : A). n + f o) (t + z) xs) (same x) ∙ on xs (t + g x)

-- the same of a drive's session, to which times alone come
pub times_session : (h : Hardware) (k : ℕ) (s : SessionOpening) (came : List (Came ReadTask)) (now : ℕ) (os : List Opening) → session_place_by h k (came ++ map to_session (flat_map (λ x. by_time now ∷ []) os)) s ≡ session_place_by h k came s
times_session h k s came now [] = ap (λ z. session_place_by h k z s) (append-nil came)
times_session h k s came now (x ∷ os) =
    ap (λ z. session_place_by h k z s) (sym (append_assoc came (by_time now ∷ []) (map to_session (flat_map (λ y. by_time now ∷ []) os))))
    ∙ times_session h k s (came ++ by_time now ∷ []) now os
    ∙ ap (λ d. next (talk_held (first_word h.identity k) d)) (session_one h k s came (by_time now))
    ∙ ap next (held_with h k s (session_by h k s came) (by_time now) ∙ ap held_in (phase_append (first_word h.identity k) (session_by h k s came).calls (time_came now)))

-- of one opening that fetches by HTTP
pub stream_so : (k : ℕ) (es : List Event) (o : Opening) → openings k es ≡ o ∷ [] → opens_web o ≡ true → file_place k es ≡ stream_place_by (hardware es) k (brought_to k es) o
stream_so k es o e is =
    ap (λ z. z + stream_place k es + session_place k es) (ap (λ os. blocks_where (list_any opens_file os) (lists.datagrams_of k es)) e ∙ ap (λ n. blocks_where ((n == 1) || false) (lists.datagrams_of k es)) (eqb-true o.kind 2 is))
    ∙ ap (λ os. 0 + sum_by (stream_place_by (hardware es) k (brought_to k es)) os + session_place k es) e
    ∙ ap (λ ss. 0 + (0 + stream_place_by (hardware es) k (brought_to k es) o) + sum_by (session_place_by (hardware es) k (came_to_session k es)) ss) (no_session_of k es o e (ap (λ n. n == 3) (eqb-true o.kind 2 is)))
    ∙ alone (stream_place_by (hardware es) k (brought_to k es) o)
  where
    alone : (n : ℕ) → 0 + (0 + n) + 0 ≡ n
    alone n = omega arith

-- of one that is a drive's session
pub session_so : (k : ℕ) (es : List Event) (o : Opening) (s : SessionOpening) → openings k es ≡ o ∷ [] → opens_session o ≡ true → sessions k es ≡ s ∷ [] → file_place k es ≡ session_place_by (hardware es) k (came_to_session k es) s
session_so k es o s e is one =
    ap (λ z. z + stream_place k es + session_place k es) (ap (λ os. blocks_where (list_any opens_file os) (lists.datagrams_of k es)) e ∙ ap (λ n. blocks_where ((n == 1) || false) (lists.datagrams_of k es)) (eqb-true o.kind 3 is))
    ∙ ap (λ os. 0 + sum_by (stream_place_by (hardware es) k (brought_to k es)) os + session_place k es) e
    ∙ ap (λ n. 0 + (0 + cond (n == 2) (next (talk_held (first_word (hardware es).identity k) (talk_by (hardware es) k o (brought_to k es)))) 0) + session_place k es) (eqb-true o.kind 3 is)
    ∙ ap (λ ss. 0 + (0 + 0) + sum_by (session_place_by (hardware es) k (came_to_session k es)) ss) one
    ∙ alone (session_place_by (hardware es) k (came_to_session k es) s)
  where
    alone : (n : ℕ) → 0 + (0 + 0) + (0 + n) ≡ n
    alone n = omega arith
