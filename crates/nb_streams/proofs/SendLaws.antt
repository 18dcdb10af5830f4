-- All that a segment calls for, the connection may send.
use Rattle.std.proofs.Common.{◌≡◌, ◌≤◌, ◌<◌, ℕ, ◌+◌, ◌-◌, ◌==◌, ◌&&◌, not, min, max, List, [], ◌∷◌, ◌++◌, length, take, drop, Option, Bool, true, false, refl, ap, ◌∙◌, sym, subst, arith, ltb, ⊎_elim}
use Rattle.std.specs.List.{AllByRecursion, list_any, fold}
use Rattle.std.proofs.lemmas.Bool.{false≢true, and_parts, or_cases, ltb-true, or_right, not-true, ltb-false}
use Rattle.std.proofs.lemmas.List.{length-take, length-drop, take-append-drop, length-append}
use Rattle.nb_streams.specs.Segments.{Incoming, Arrival}
use Rattle.nb_streams.specs.Flows.{TcpCall, segment_came, text_came, time_came, full_window, Flow, ConnPhase, asking, flowing, conn_phase, after_tcp_call, is_taken, is_current, advance_of, advances, with_segment, size, sends_next, is_free, is_sending, going_on, after_segment, after_text, answers_syn, establishes, opened_by, established, window_bytes, is_past}
use Rattle.nb_streams.specs.Sending.{Outgoing, segment_at, pure_ack, text_segment, rst_ack, rst_ack_at, rst_for, IsTextAt, MaySend, by_wrong_answer, by_text, by_ack, by_length, without_try, with_first_try, only_if, brings_more, ongoing_sends, taken_sends, is_answered_by_ack, segment_sends, established_sends, calls_for}
use Rattle.nb_streams.proofs.StreamLaws.{either}
use Rattle.nb_streams.proofs.TryLaws.{not_past, not_beyond, acked_now, acked_still, by_advance}

-- the places of a connection in order
pub record IsFlow (f : Flow) : Type 0 where
  pub acked : f.acked ≤ f.sent
  pub upto : f.upto ≤ f.sent
  pub sent : f.sent ≤ length f.text
  pub some : f.acked < f.sent → f.acked < f.upto

-- the same, where a new segment may be to begin
record IsNearly (f : Flow) : Type 0 where
  acked : f.acked ≤ f.sent
  upto : f.upto ≤ f.sent
  sent : f.sent ≤ length f.text

size_some : (f : Flow) → 1 ≤ size f
size_some f = by_most f.mss f.room
  where
    by_most : (a b : ℕ) → 1 ≤ min (min (max a 1) (max b 1)) 1460
    by_most a b = omega arith

text_left : (advanced : Bool) (f : Flow) → IsNearly f → is_sending advanced f ≡ true → f.acked < length f.text
text_left advanced f is go = ⊎_elim
    (λ both. let low : f.acked < f.sent = ltb-true f.acked f.sent (and_parts advanced (ltb f.acked f.sent) both).1 in omega (arith, low, is.sent))
    (λ free. ltb-true f.acked (length f.text) (and_parts (f.acked == f.sent) (ltb f.acked (length f.text)) free).1)
    (or_cases (advanced && ltb f.acked f.sent) (is_free f) go)

next_is : (f : Flow) → IsNearly f → f.acked < length f.text → IsFlow (sends_next f)
next_is f is left =
    let some : 1 ≤ size f = size_some f in
    record {
      acked = by_max f.acked f.sent (min (f.acked + size f) (length f.text)) is.acked;
      upto = above f.sent (min (f.acked + size f) (length f.text));
      sent = below f.sent (f.acked + size f) (length f.text) is.sent;
      some = λ l. further f.acked (size f) (length f.text) some left;
    }
  where
    by_max : (a b c : ℕ) → a ≤ b → a ≤ max b c
    by_max a b c l = omega (arith, l)

    above : (b c : ℕ) → c ≤ max b c
    above b c = omega arith

    below : (b c d : ℕ) → b ≤ d → max b (min c d) ≤ d
    below b c d l = omega (arith, l)

    further : (a s t : ℕ) → 1 ≤ s → a < t → a < min (a + s) t
    further a s t l k = omega (arith, l, k)

going_is : (advanced : Bool) (f : Flow) → IsNearly f → (is_sending advanced f ≡ false → f.acked < f.sent → f.acked < f.upto) → IsFlow (going_on advanced f)
going_is advanced f is some = either (is_sending advanced f)
    (λ go. rw go (next_is f is (text_left advanced f is go)))
    (λ stay. rw stay record { acked = is.acked; upto = is.upto; sent = is.sent; some = some stay })

segment_going : (advanced : Bool) (f : Flow) (flags width place : ℕ) (bytes : List ℕ) → segment_at flags width bytes place (going_on advanced f) ≡ segment_at flags width bytes place f
segment_going advanced f flags width place bytes = either (is_sending advanced f) (λ go. rw go refl) (λ stay. rw stay refl)

reset_going : (advanced : Bool) (f : Flow) (place : ℕ) → rst_ack_at place (going_on advanced f) ≡ rst_ack_at place f
reset_going advanced f place = either (is_sending advanced f) (λ go. rw go refl) (λ stay. rw stay refl)

sent_going : (advanced : Bool) (f : Flow) → f.sent ≤ (going_on advanced f).sent
sent_going advanced f = either (is_sending advanced f) (λ go. rw go (above f.sent (min (f.acked + size f) (length f.text)))) (λ stay. rw stay (same f.sent))
  where
    above : (b c : ℕ) → b ≤ max b c
    above b c = omega arith

    same : (b : ℕ) → b ≤ b
    same b = omega arith

text_at : (f : Flow) → IsFlow f → f.acked < f.upto → IsTextAt f f.acked (take (f.upto - f.acked) (drop f.acked f.text))
text_at f is some =
    let long : length (take (f.upto - f.acked) (drop f.acked f.text)) ≡ min (f.upto - f.acked) (length (drop f.acked f.text)) = length-take (f.upto - f.acked) (drop f.acked f.text) in
    let left : length (drop f.acked f.text) ≡ length f.text - f.acked = length-drop f.acked f.text in
    record {
      rest = drop (f.upto - f.acked) (drop f.acked f.text);
      stands = sym (take-append-drop (f.upto - f.acked) (drop f.acked f.text));
      some = omega (arith, long, left, some, is.upto, is.sent);
      sent = omega (arith, long, left, some, is.upto, is.sent);
    }

-- a new segment of text is out
going_text : (advanced : Bool) (f : Flow) → IsNearly f → is_sending advanced f ≡ true → (going_on advanced f).acked < (going_on advanced f).upto
going_text advanced f is go = rw go (further f.acked (size f) (length f.text) (size_some f) (text_left advanced f is go))
  where
    further : (a s t : ℕ) → 1 ≤ s → a < t → a < min (a + s) t
    further a s t l k = omega (arith, l, k)

with_is : (f : Flow) (s : Incoming) → IsFlow f → is_taken f s ≡ true → IsNearly (with_segment s f)
with_is f s is taken = record {
  acked = either (is_current f s)
      (λ now. rw now (not_past f s (not_beyond f s taken) now))
      (λ old. rw old is.acked);
  upto = is.upto;
  sent = is.sent;
}

-- without an advance nothing changes, and with one a new segment begins
still_some : (f : Flow) (s : Incoming) → IsFlow f → is_taken f s ≡ true → is_sending (advances f s) (with_segment s f) ≡ false → (with_segment s f).acked < f.sent → (with_segment s f).acked < f.upto
still_some f s is taken still low = either (advances f s)
    (λ forth. absurd (no_less (with_segment s f).acked f.sent low (by_advance f s taken forth still)))
    (λ back. either (is_current f s)
    (λ now.
    let none : advance_of f s ≡ 0 = zero_by (advance_of f s) (and_right_false (is_current f s) (ltb 0 (advance_of f s)) now back) in
    let same : (with_segment s f).acked ≡ f.acked = omega (arith, acked_now f s now, none) in
    subst (λ k. k < f.upto) (sym same) (is.some (omega (arith, low, same))))
    (λ old. subst (λ k. k < f.upto) (sym (acked_still f s old)) (is.some (omega (arith, low, acked_still f s old)))))
  where
    no_less : (a b : ℕ) → a < b → a ≡ b → ⊥
    no_less a b l e = omega (arith, l, e)

    and_right_false : (x y : Bool) → x ≡ true → (x && y) ≡ false → y ≡ false
    and_right_false true y e off = off
    and_right_false false y e off = absurd (false≢true e)

    zero_by : (n : ℕ) → ltb 0 n ≡ false → n ≡ 0
    zero_by n e = omega (arith, ltb-false 0 n e)

segment_flow : (f : Flow) (s : Incoming) → IsFlow f → IsFlow (after_segment f s)
segment_flow f s is = either (is_taken f s)
    (λ taken. rw taken (going_is (advances f s) (with_segment s f) (with_is f s is taken) (still_some f s is taken)))
    (λ dropped. rw dropped is)

opened_is : (isn : ℕ) (text : List ℕ) (s : Incoming) → IsFlow (established isn text s)
opened_is isn text s = going_is false (opened_by isn text s) (record { acked = none; upto = none; sent = least (length text) }) (λ still low. absurd (never low))
  where
    none : 0 ≤ 0
    none = omega arith

    least : (n : ℕ) → 0 ≤ n
    least n = omega arith

    never : 0 < 0 → ⊥
    never l = omega (arith, l)

text_is : (f : Flow) (bytes : List ℕ) → IsFlow f → IsFlow (after_text f bytes)
text_is f bytes is = going_is false (record f { text = f.text ++ bytes }) (record { acked = is.acked; upto = is.upto; sent = more f.sent (length f.text) (length bytes) is.sent (length-append f.text bytes) }) (λ still. is.some)
  where
    more : (a b c : ℕ) → a ≤ b → length (f.text ++ bytes) ≡ b + c → a ≤ length (f.text ++ bytes)
    more a b c l e = omega (arith, l, e)

abbrev pub IsPhase : ConnPhase → Type 0
IsPhase (asking text) = Unit {0}
IsPhase (flowing f) = IsFlow f

phase_is : (isn : ℕ) (p : ConnPhase) (c : TcpCall) → IsPhase p → IsPhase (after_tcp_call isn p c)
phase_is isn (asking text) (segment_came m now) is = either (establishes isn m.segment) (λ only_if. rw only_if (opened_is isn text m.segment)) (λ off. rw off tt)
phase_is isn (asking text) (time_came now) is = tt
phase_is isn (asking text) (text_came bytes now) is = tt
phase_is isn (flowing f) (segment_came m now) is = segment_flow f m.segment is
phase_is isn (flowing f) (time_came now) is = is
phase_is isn (flowing f) (text_came bytes now) is = text_is f bytes is

phases_are : (isn : ℕ) (p : ConnPhase) (cs : List TcpCall) → IsPhase p → IsPhase (fold (after_tcp_call isn) p cs)
phases_are isn p [] is = is
phases_are isn p (c ∷ cs) is = phases_are isn (after_tcp_call isn p c) cs (phase_is isn p c is)

-- the places of a connection are in order after any calls
pub all_in_order : (isn : ℕ) (cs : List TcpCall) → IsPhase (conn_phase isn cs)
unfolding conn_phase
all_in_order isn cs = phases_are isn (asking []) cs tt

abbrev May : ℕ → List TcpCall → Outgoing × Option ℕ → Type 0
May isn all s = MaySend isn all s.0

on_may : (isn : ℕ) (all : List TcpCall) (b : Bool) (s : Outgoing × Option ℕ) → (b ≡ true → May isn all s) → AllByRecursion (May isn all) (only_if b s)
on_may isn all true s may = (may refl, tt)
on_may isn all false s may = tt

both_may : (isn : ℕ) (all : List TcpCall) (xs ys : List (Outgoing × Option ℕ)) → AllByRecursion (May isn all) xs → AllByRecursion (May isn all) ys → AllByRecursion (May isn all) (xs ++ ys)
both_may isn all [] ys p q = q
both_may isn all (x ∷ xs) ys p q = (p.0, both_may isn all xs ys p.1 q)

any_more : (xs ys : List (ℕ × ℕ)) → list_any is_past ys ≡ true → list_any is_past (xs ++ ys) ≡ true
any_more [] ys e = e
any_more (x ∷ xs) ys e = or_right (is_past x) (list_any is_past (xs ++ ys)) (any_more xs ys e)

held_going : (advanced : Bool) (f : Flow) → (going_on advanced f).held ≡ f.held
held_going advanced f = either (is_sending advanced f) (λ go. rw go refl) (λ stay. rw stay refl)

-- the acknowledgement before the text goes on
ack_may : (isn : ℕ) (all : List TcpCall) (advanced : Bool) (f : Flow) → conn_phase isn all ≡ flowing (going_on advanced f) → MaySend isn all (pure_ack f)
ack_may isn all advanced f e = by_ack (going_on advanced f) f.sent e (sent_going advanced f) (sym (segment_going advanced f 16 full_window f.sent []))

text_may : (isn : ℕ) (all : List TcpCall) (f : Flow) → IsFlow f → f.acked < f.upto → conn_phase isn all ≡ flowing f → MaySend isn all (text_segment f)
text_may isn all f is some e = by_text f f.acked (take (f.upto - f.acked) (drop f.acked f.text)) e (text_at f is some) refl

ongoing_may : (isn : ℕ) (all : List TcpCall) (f : Flow) (s : Incoming) → IsFlow f → is_taken f s ≡ true → conn_phase isn all ≡ flowing (going_on (advances f s) (with_segment s f)) → AllByRecursion (May isn all) (ongoing_sends f s)
ongoing_may isn all f s is taken e =
    let near : IsNearly (with_segment s f) = with_is f s is taken in
    let whole : IsFlow (going_on (advances f s) (with_segment s f)) = going_is (advances f s) (with_segment s f) near (still_some f s is taken) in
    both_may isn all _ _
    (on_may isn all (brings_more s) (without_try (pure_ack (with_segment s f))) (λ brings. ack_may isn all (advances f s) (with_segment s f) e))
    (on_may isn all (is_sending (advances f s) (with_segment s f)) (with_first_try (text_segment (going_on (advances f s) (with_segment s f))))
    (λ go. text_may isn all (going_on (advances f s) (with_segment s f)) whole (going_text (advances f s) (with_segment s f) near go) e))

-- the reset before the text goes on
reset_may : (isn : ℕ) (all : List TcpCall) (f : Flow) (s : Incoming) → list_any is_past (window_bytes f s) ≡ true → conn_phase isn all ≡ flowing (going_on (advances f s) (with_segment s f)) → MaySend isn all (rst_ack (with_segment s f))
reset_may isn all f s past e = by_length (going_on (advances f s) (with_segment s f)) (with_segment s f).sent e
    (ap (λ h. list_any is_past h.pairs) (held_going (advances f s) (with_segment s f)) ∙ any_more f.held.pairs (window_bytes f s) past)
    (sent_going (advances f s) (with_segment s f))
    (sym (reset_going (advances f s) (with_segment s f) (with_segment s f).sent))

taken_may : (isn : ℕ) (all : List TcpCall) (f : Flow) (s : Incoming) → IsFlow f → is_taken f s ≡ true → conn_phase isn all ≡ flowing (going_on (advances f s) (with_segment s f)) → AllByRecursion (May isn all) (taken_sends f s)
taken_may isn all f s is taken e = either (list_any is_past (window_bytes f s))
    (λ past. rw past (ack_may isn all (advances f s) (with_segment s f) e, (reset_may isn all f s past e, tt)))
    (λ short. rw short (ongoing_may isn all f s is taken e))

flow_may : (isn : ℕ) (all : List TcpCall) (f : Flow) (s : Incoming) → IsFlow f → conn_phase isn all ≡ flowing (after_segment f s) → AllByRecursion (May isn all) (segment_sends f s)
flow_may isn all f s is e = either (is_taken f s)
    (λ taken. rw taken (taken_may isn all f s is taken (rw taken at e)))
    (λ dropped. rw dropped (on_may isn all (is_answered_by_ack f s) (without_try (pure_ack f)) (λ answered. by_ack f f.sent (rw dropped at e) (same f.sent) refl)))
  where
    same : (n : ℕ) → n ≤ n
    same n = omega arith

opening_may : (isn : ℕ) (all : List TcpCall) (text : List ℕ) (s : Incoming) → conn_phase isn all ≡ flowing (established isn text s) → AllByRecursion (May isn all) (established_sends (opened_by isn text s))
opening_may isn all text s e =
    let near : IsNearly (opened_by isn text s) = record { acked = none; upto = none; sent = least (length text) } in (
      ack_may isn all false (opened_by isn text s) e,
      on_may isn all (is_sending false (opened_by isn text s)) (with_first_try (text_segment (going_on false (opened_by isn text s))))
          (λ go. text_may isn all (established isn text s) (opened_is isn text s) (going_text false (opened_by isn text s) near go) e),
    )
  where
    none : 0 ≤ 0
    none = omega arith

    least : (n : ℕ) → 0 ≤ n
    least n = omega arith

phase_may : (isn : ℕ) (all : List TcpCall) (p : ConnPhase) (m : Arrival) (now : ℕ) → IsPhase p → conn_phase isn all ≡ after_tcp_call isn p (segment_came m now) → AllByRecursion (May isn all) (calls_for isn p m.segment)
phase_may isn all (flowing f) m now is e = flow_may isn all f m.segment is e
phase_may isn all (asking text) m now is e = either (establishes isn m.segment)
    (λ opens. rw opens (opening_may isn all text m.segment (rw opens at e)))
    (λ not_yet. rw not_yet (on_may isn all (m.segment.ack && (not (answers_syn isn m.segment) && not m.segment.rst)) (without_try (rst_for m.segment))
    (λ wrong.
    let rest : (not (answers_syn isn m.segment) && not m.segment.rst) ≡ true = (and_parts m.segment.ack (not (answers_syn isn m.segment) && not m.segment.rst) wrong).1 in
    by_wrong_answer text m.segment (rw not_yet at e) (and_parts m.segment.ack (not (answers_syn isn m.segment) && not m.segment.rst) wrong).0
    (not-true (answers_syn isn m.segment) (and_parts (not (answers_syn isn m.segment)) (not m.segment.rst) rest).0)
    (not-true m.segment.rst (and_parts (not (answers_syn isn m.segment)) (not m.segment.rst) rest).1) refl)))

fold_on : (isn : ℕ) (p : ConnPhase) (cs more : List TcpCall) → fold (after_tcp_call isn) p (cs ++ more) ≡ fold (after_tcp_call isn) (fold (after_tcp_call isn) p cs) more
fold_on isn p [] more = refl
fold_on isn p (c ∷ cs) more = fold_on isn (after_tcp_call isn p c) cs more

after_one : (isn : ℕ) (cs : List TcpCall) (c : TcpCall) → conn_phase isn (cs ++ c ∷ []) ≡ after_tcp_call isn (conn_phase isn cs) c
unfolding conn_phase
after_one isn cs c = fold_on isn (asking []) cs (c ∷ [])

-- what a segment calls for, the connection may send after it
pub all_may_be_sent : (isn : ℕ) (cs : List TcpCall) (m : Arrival) (now : ℕ) → AllByRecursion (λ s. MaySend isn (cs ++ segment_came m now ∷ []) s.0) (calls_for isn (conn_phase isn cs) m.segment)
all_may_be_sent isn cs m now = phase_may isn (cs ++ segment_came m now ∷ []) (conn_phase isn cs) m now (all_in_order isn cs) (after_one isn cs (segment_came m now))
