-- What a close, more text and a try again send, the connection may send.
use Rattle.std.proofs.Common.{◌≡◌, ◌≤◌, ◌<◌, ℕ, ◌+◌, ◌-◌, ◌==◌, ◌&&◌, List, [], ◌∷◌, ◌++◌, length, take, drop, min, max, Option, Bool, true, false, refl, ap, ◌∙◌, sym, subst, append_assoc, arith, ltb}
use Rattle.std.specs.List.{AllByRecursion}
use Rattle.std.proofs.lemmas.Bool.{and_parts, ltb-true, ltb-false}
use Rattle.std.proofs.lemmas.List.{length-take, length-drop, take-append-drop, drop-append-le}
use Rattle.std.proofs.lemmas.List.Sums.{fold-append}
use Rattle.nb_streams.specs.Flows.{TcpCall, text_came, Flow, ConnPhase, asking, flowing, conn_phase, after_tcp_call, is_sending, going_on, sends_next, size, full_window}
use Rattle.nb_streams.specs.Sending.{Outgoing, IsTextAt, segment_at, MaySend, by_asking, by_text, by_probe, by_closing_early, by_closing, by_closing_behind, text_segment, text_calls_for, closing_segment, tried_again, has_stop, with_first_try, only_if}
use Rattle.nb_streams.proofs.StreamLaws.{either}
use Rattle.nb_streams.proofs.SendLaws.{IsFlow, IsPhase, all_in_order}

-- A segment is text that stands at its place, of which the connection has sent so much.
pub record SaysText (isn : ℕ) (cs : List TcpCall) (o : Outgoing) : Type 0 where
  pub flow : Flow
  pub place : ℕ
  pub bytes : List ℕ
  pub phase : conn_phase isn cs ≡ flowing flow
  pub at : IsTextAt flow place bytes
  pub is : o ≡ segment_at 24 full_window bytes place flow

pub said_may : (isn : ℕ) (cs : List TcpCall) (o : Outgoing) → SaysText isn cs o → MaySend isn cs o
said_may isn cs o s = by_text s.flow s.place s.bytes s.phase s.at s.is

-- the segment that waits, where one does
text_says : (isn : ℕ) (cs : List TcpCall) (f : Flow) → IsFlow f → f.acked < f.upto → conn_phase isn cs ≡ flowing f → SaysText isn cs (text_segment f)
text_says isn cs f is some e =
    let long : length (take (f.upto - f.acked) (drop f.acked f.text)) ≡ min (f.upto - f.acked) (length (drop f.acked f.text)) = length-take (f.upto - f.acked) (drop f.acked f.text) in
    let left : length (drop f.acked f.text) ≡ length f.text - f.acked = length-drop f.acked f.text in
    record {
      flow = f;
      place = f.acked;
      bytes = take (f.upto - f.acked) (drop f.acked f.text);
      phase = e;
      at = record {
        rest = drop (f.upto - f.acked) (drop f.acked f.text);
        stands = sym (take-append-drop (f.upto - f.acked) (drop f.acked f.text));
        some = omega (arith, long, left, some, is.upto, is.sent);
        sent = omega (arith, long, left, some, is.upto, is.sent);
      };
      is = refl;
    }

text_may : (isn : ℕ) (cs : List TcpCall) (f : Flow) → IsFlow f → f.acked < f.upto → conn_phase isn cs ≡ flowing f → MaySend isn cs (text_segment f)
text_may isn cs f is some e = said_may isn cs (text_segment f) (text_says isn cs f is some e)

-- a try again
pub again_may : (isn : ℕ) (cs : List TcpCall) (p : ConnPhase) → IsPhase p → conn_phase isn cs ≡ p → MaySend isn cs (tried_again isn p)
again_may isn cs (asking text) is e = by_asking text e refl
again_may isn cs (flowing f) is e = either (ltb f.acked f.sent)
    (λ t. rw t (text_may isn cs f is (is.some (ltb-true f.acked f.sent t)) e))
    (λ g. rw g (by_probe f e (omega (arith, is.acked, ltb-false f.acked f.sent g)) refl))

-- a close
pub closing_may : (isn : ℕ) (cs : List TcpCall) (p : ConnPhase) → conn_phase isn cs ≡ p → MaySend isn cs (closing_segment isn p)
closing_may isn cs (asking text) e = by_closing_early text e refl
closing_may isn cs (flowing f) e = either (has_stop f.held.stop)
    (λ t. rw t (by_closing_behind f e t refl))
    (λ g. rw g (by_closing f e g refl))

-- new text
text_begins : (isn : ℕ) (cs : List TcpCall) (f : Flow) → IsFlow (going_on false f) → conn_phase isn cs ≡ flowing (going_on false f) → AllByRecursion (λ s. SaysText isn cs s.0) (only_if (is_sending false f) (with_first_try (text_segment (going_on false f))))
text_begins isn cs f is e = either (is_sending false f)
    (λ t. let free : (f.acked == f.sent && ltb f.acked (length f.text)) ≡ true = t in
    let going : going_on false f ≡ sends_next f = rw t refl in
    let some : (going_on false f).acked < (going_on false f).upto = subst (λ g. g.acked < g.upto) (sym going) (further f.acked (size f) (length f.text) (some_size f.mss f.room) (ltb-true f.acked (length f.text) (and_parts (f.acked == f.sent) (ltb f.acked (length f.text)) free).1)) in
    subst (λ b. AllByRecursion (λ s. SaysText isn cs s.0) (only_if b (with_first_try (text_segment (going_on false f))))) (sym t) (text_says isn cs (going_on false f) is some e, tt))
    (λ g. subst (λ b. AllByRecursion (λ s. SaysText isn cs s.0) (only_if b (with_first_try (text_segment (going_on false f))))) (sym g) tt)
  where
    further : (a s t : ℕ) → 1 ≤ s → a < t → a < min (a + s) t
    further a s t l k = omega (arith, l, k)

    some_size : (a b : ℕ) → 1 ≤ min (min (max a 1) (max b 1)) 1460
    some_size a b = omega arith

text_calls_say : (isn : ℕ) (cs : List TcpCall) (p : ConnPhase) (bytes : List ℕ) (now : ℕ) → IsPhase (after_tcp_call isn p (text_came bytes now)) → conn_phase isn cs ≡ after_tcp_call isn p (text_came bytes now) → AllByRecursion (λ s. SaysText isn cs s.0) (text_calls_for p bytes)
text_calls_say isn cs (asking text) bytes now is e = tt
text_calls_say isn cs (flowing f) bytes now is e = text_begins isn cs (record f { text = f.text ++ bytes }) is e

-- the connection after one call more
pub phase_append : (isn : ℕ) (cs : List TcpCall) (c : TcpCall) → conn_phase isn (cs ++ c ∷ []) ≡ after_tcp_call isn (conn_phase isn cs) c
unfolding conn_phase
phase_append isn cs c = fold-append (after_tcp_call isn) (asking []) cs (c ∷ [])

-- the text that is given next
pub text_is_said : (isn : ℕ) (cs : List TcpCall) (bytes : List ℕ) (now : ℕ) → AllByRecursion (λ s. SaysText isn (cs ++ text_came bytes now ∷ []) s.0) (text_calls_for (conn_phase isn cs) bytes)
text_is_said isn cs bytes now =
    text_calls_say isn (cs ++ text_came bytes now ∷ []) (conn_phase isn cs) bytes now
    (subst IsPhase (phase_append isn cs (text_came bytes now)) (all_in_order isn (cs ++ text_came bytes now ∷ []))) (phase_append isn cs (text_came bytes now))

all_said_may : (isn : ℕ) (cs : List TcpCall) (sends : List (Outgoing × Option ℕ)) → AllByRecursion (λ s. SaysText isn cs s.0) sends → AllByRecursion (λ s. MaySend isn cs s.0) sends
all_said_may isn cs [] all = tt
all_said_may isn cs (s ∷ sends) all = (said_may isn cs s.0 all.0, all_said_may isn cs sends all.1)

pub text_may_be_sent : (isn : ℕ) (cs : List TcpCall) (bytes : List ℕ) (now : ℕ) → AllByRecursion (λ s. MaySend isn (cs ++ text_came bytes now ∷ []) s.0) (text_calls_for (conn_phase isn cs) bytes)
text_may_be_sent isn cs bytes now = all_said_may isn (cs ++ text_came bytes now ∷ []) (text_calls_for (conn_phase isn cs) bytes) (text_is_said isn cs bytes now)

-- more text leaves what was sent of it as it was
more_at : (f : Flow) (more : List ℕ) (place : ℕ) (bytes : List ℕ) → f.sent ≤ length f.text → IsTextAt f place bytes → IsTextAt (record f { text = f.text ++ more }) place bytes
more_at f more place bytes within at = record {
  rest = at.rest ++ more;
  stands = drop-append-le place f.text more (omega (arith, at.sent, within)) ∙ ap (λ (x : List ℕ). x ++ more) at.stands ∙ append_assoc bytes at.rest more;
  some = at.some;
  sent = at.sent;
}

-- so does a text that is given later
pub more_says : (isn : ℕ) (cs : List TcpCall) (o : Outgoing) (more : List ℕ) (now : ℕ) → SaysText isn cs o → SaysText isn (cs ++ text_came more now ∷ []) o
more_says isn cs o more now s =
    let f : Flow = s.flow in
    let g : Flow = record f { text = f.text ++ more } in
    let is : IsFlow f = subst IsPhase s.phase (all_in_order isn cs) in
    let e : conn_phase isn (cs ++ text_came more now ∷ []) ≡ flowing (going_on false g) = phase_append isn cs (text_came more now) ∙ ap (λ p. after_tcp_call isn p (text_came more now)) s.phase in
    let at : IsTextAt g s.place s.bytes = more_at f more s.place s.bytes is.sent s.at in
    either (is_sending false g)
    (λ t. record {
      flow = going_on false g;
      place = s.place;
      bytes = s.bytes;
      phase = e;
      at = rw t (record { rest = at.rest; stands = at.stands; some = at.some; sent = omega (arith, at.sent) });
      is = s.is ∙ rw t refl;
    })
    (λ n. record { flow = going_on false g; place = s.place; bytes = s.bytes; phase = e; at = rw n at; is = s.is ∙ rw n refl })
