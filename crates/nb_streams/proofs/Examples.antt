-- Small instances, by computing.
use Rattle.std.proofs.Common.{◌≡◌, ℕ, List, [], ◌∷◌, ◌++◌, Option, Some, None, Bool, true, false, refl}
use Rattle.nb_streams.specs.Segments.{Incoming, ahead}
use Rattle.nb_streams.specs.Streams.{front, next, has_ended}
use Rattle.nb_streams.specs.Flows.{TcpCall, segment_came, text_came, time_came, ConnPhase, asking, flowing, conn_phase, held_after}
use Rattle.nb_streams.specs.Sending.{Outgoing, pure_ack, rst_ack, calls_for}
use Rattle.nb_streams.specs.Trying.{timer_after, due_tries}

-- going round
wrapped : ahead 4294967290 5 ≡ 11
wrapped = refl

acknowledged_place : ahead 5 4294967290 ≡ 4294967285
acknowledged_place = refl

segment_of : Bool → Bool → ℕ → ℕ → List ℕ → Incoming
segment_of fin syn number acknowledges body = record { number = number; acknowledges = acknowledges; fin = fin; syn = syn; rst = false; ack = true; window = 1000; mss = Some 2; body = body }

call : Incoming → TcpCall
unfolding segment_of
call s = segment_came (record { rec = 1; segment = s }) 0

-- the peer's first number is 4294967290, so that of place 5 is 0
first_calls : List TcpCall
unfolding segment_of call
first_calls = call (segment_of false true 4294967290 101 []) ∷ text_came (71 ∷ 69 ∷ 84 ∷ []) 0 ∷ call (segment_of false false 1 101 (16 ∷ 17 ∷ 18 ∷ 19 ∷ [])) ∷ []

second_calls : List TcpCall
unfolding first_calls
second_calls = first_calls ++ call (segment_of false false 4294967291 103 (10 ∷ 11 ∷ 12 ∷ [])) ∷ []

-- other bytes at the places 2 and 6, which have bytes; and the end
third_calls : List TcpCall
unfolding second_calls
third_calls = second_calls ++ call (segment_of false false 4294967293 104 (99 ∷ 13 ∷ 14 ∷ 15 ∷ 98 ∷ [])) ∷ call (segment_of true false 5 104 []) ∷ []

none_yet : next (held_after 100 first_calls) ≡ 0
unfolding first_calls conn_phase
none_yet = refl

three : front (held_after 100 second_calls) ≡ 10 ∷ 11 ∷ 12 ∷ []
unfolding second_calls conn_phase
three = refl

ten : front (held_after 100 third_calls) ≡ 10 ∷ 11 ∷ 12 ∷ 13 ∷ 14 ∷ 15 ∷ 16 ∷ 17 ∷ 18 ∷ 19 ∷ []
unfolding third_calls conn_phase
ten = refl

at_end : has_ended (held_after 100 third_calls) ≡ true
unfolding third_calls conn_phase
at_end = refl

-- an acknowledgement counts the FIN that was reached, and a reset that closes doesn't
acknowledged_by : ConnPhase → ℕ × ℕ
acknowledged_by (asking text) = (0, 0)
acknowledged_by (flowing f) = ((pure_ack f).acknowledges, (rst_ack f).acknowledges)

past_end : acknowledged_by (conn_phase 100 third_calls) ≡ (6, 5)
unfolding third_calls conn_phase acknowledged_by
past_end = refl

numbers : List (Outgoing × Option ℕ) → List (ℕ × ℕ × Option ℕ)
numbers [] = []
numbers (s ∷ ss) = (s.0.number, s.0.acknowledges, s.1) ∷ numbers ss

-- the segment with place 0 to 2 acknowledges two bytes: the new place is acknowledged, then the last byte of text goes out
answer : numbers (calls_for 100 (conn_phase 100 first_calls) (segment_of false false 4294967291 103 (10 ∷ 11 ∷ 12 ∷ []))) ≡ (103, 4294967294, None) ∷ (103, 4294967294, Some 1) ∷ []
unfolding first_calls conn_phase numbers
answer = refl

-- tries of the text at its plan's times, and probes once all is acknowledged
ticks : List ℕ → List TcpCall
ticks [] = []
ticks (t ∷ ts) = time_came t ∷ ticks ts

text_tries : due_tries (timer_after 100 0 (first_calls ++ ticks (200 ∷ 260 ∷ 700 ∷ 800 ∷ []))) ≡ (1, 0) ∷ (2, 260) ∷ (3, 800) ∷ []
unfolding first_calls ticks timer_after
text_tries = refl

probe_tries : due_tries (timer_after 100 0 (third_calls ++ ticks (14000 ∷ 15000 ∷ 29000 ∷ 31000 ∷ []))) ≡ (1, 15000) ∷ (2, 31000) ∷ []
unfolding third_calls ticks timer_after
probe_tries = refl
