-- Texts that are given to a connection in turn: what each calls for may be sent after all of them, and a try is what the connection would try again then.
use Rattle.std.proofs.Common.{◌≡◌, ℕ, ◌-◌, ◌&&◌, Bool, true, false, cond, List, [], ◌∷◌, ◌++◌, length, take, drop, Option, Some, refl, sym, ◌∙◌, ap, subst, append_assoc, append-nil, arith, ltb}
use Rattle.std.specs.List.{AllByRecursion}
use Rattle.std.proofs.lemmas.Bool.{ltb-true, ne_eqb}
use Rattle.std.proofs.lemmas.List.{length-drop, take-append-le, drop-append-le}
use Rattle.nb_streams.specs.Flows.{TcpCall, text_came, Flow, ConnPhase, asking, flowing, conn_phase, after_tcp_call, full_window, sends_next, is_sending, going_on}
use Rattle.nb_streams.specs.Sending.{Outgoing, segment_at, MaySend, only_if, with_first_try, text_segment, text_calls_for, probe, tried_again}
use Rattle.nb_talks.specs.Talking.{text_to_send, text_calls}
use Rattle.nb_talks.specs.TalkPromises.{Sends, said_sends, texts_sent}
use Rattle.nb_streams.proofs.FlowLaws.{all_append}
use Rattle.nb_streams.proofs.SendLaws.{IsFlow, IsPhase, all_in_order}
use Rattle.nb_streams.proofs.OtherSendLaws.{phase_append, SaysText, said_may, text_is_said, more_says}
use Rattle.nb_openlaws.proofs.WebPuts.{TriedSo, sends_past}

-- OF EACH OF SOME TEXTS

all_weaker : (P Q : Outgoing × Option ℕ → Type 0) (sends : Sends) → ((s : Outgoing × Option ℕ) → P s → Q s) → AllByRecursion P sends → AllByRecursion Q sends
all_weaker P Q [] weaker all = tt
all_weaker P Q (s ∷ sends) weaker all = (weaker s all.0, all_weaker P Q sends weaker all.1)

-- what holds of all that a text calls for, and still does as more text is given
module _ (P : List TcpCall → Outgoing × Option ℕ → Type 0) (isn : ℕ)
    (one : (cs : List TcpCall) (bytes : List ℕ) (now : ℕ) → AllByRecursion (P (cs ++ text_came bytes now ∷ [])) (text_calls_for (conn_phase isn cs) bytes))
    (more : (cs : List TcpCall) (s : Outgoing × Option ℕ) (bytes : List ℕ) (now : ℕ) → P cs s → P (cs ++ text_came bytes now ∷ []) s) where
  pub of_text : (cs : List TcpCall) (text : List ℕ) (now : ℕ) → AllByRecursion (P (cs ++ text_to_send text now)) (said_sends (conn_phase isn cs) text)
  of_text cs [] now = tt
  of_text cs (b ∷ bytes) now = one cs (b ∷ bytes) now

  with_text : (cs : List TcpCall) (text : List ℕ) (now : ℕ) (sends : Sends) → AllByRecursion (P cs) sends → AllByRecursion (P (cs ++ text_to_send text now)) sends
  with_text cs [] now sends all = subst (λ z. AllByRecursion (P z) sends) (sym (append-nil cs)) all
  with_text cs (b ∷ bytes) now sends all = all_weaker (P cs) (P (cs ++ text_came (b ∷ bytes) now ∷ [])) sends (λ s. more cs s (b ∷ bytes) now) all

  with_texts : (cs : List TcpCall) (texts : List (List ℕ)) (now : ℕ) (sends : Sends) → AllByRecursion (P cs) sends → AllByRecursion (P (cs ++ text_calls texts now)) sends
  with_texts cs [] now sends all = subst (λ z. AllByRecursion (P z) sends) (sym (append-nil cs)) all
  with_texts cs (x ∷ xs) now sends all =
      subst (λ z. AllByRecursion (P z) sends) (append_assoc cs (text_to_send x now) (text_calls xs now)) (with_texts (cs ++ text_to_send x now) xs now sends (with_text cs x now sends all))

  pub of_texts : (cs : List TcpCall) (texts : List (List ℕ)) (now : ℕ) → AllByRecursion (P (cs ++ text_calls texts now)) (texts_sent isn cs texts now)
  of_texts cs [] now = tt
  of_texts cs (x ∷ xs) now =
      let then = cs ++ text_to_send x now in
      let whole = append_assoc cs (text_to_send x now) (text_calls xs now) in
      all_append (P (cs ++ text_calls (x ∷ xs) now)) (said_sends (conn_phase isn cs) x) (texts_sent isn then xs now)
      (subst (λ z. AllByRecursion (P z) (said_sends (conn_phase isn cs) x)) whole (with_texts then xs now (said_sends (conn_phase isn cs) x) (of_text cs x now)))
      (subst (λ z. AllByRecursion (P z) (texts_sent isn then xs now)) whole (of_texts then xs now))

-- THEY MAY BE SENT

abbrev IsSaid : ℕ → List TcpCall → Outgoing × Option ℕ → Type 0
IsSaid isn cs s = SaysText isn cs s.0

still_said : (isn : ℕ) (cs : List TcpCall) (s : Outgoing × Option ℕ) (bytes : List ℕ) (now : ℕ) → IsSaid isn cs s → IsSaid isn (cs ++ text_came bytes now ∷ []) s
still_said isn cs s bytes now says = more_says isn cs s.0 bytes now says

all_may : (isn : ℕ) (cs : List TcpCall) (sends : Sends) → AllByRecursion (IsSaid isn cs) sends → AllByRecursion (λ s. MaySend isn cs s.0) sends
all_may isn cs sends all = all_weaker (IsSaid isn cs) (λ s. MaySend isn cs s.0) sends (λ s. said_may isn cs s.0) all

pub text_may : (isn : ℕ) (cs : List TcpCall) (text : List ℕ) (now : ℕ) → AllByRecursion (λ s. MaySend isn (cs ++ text_to_send text now) s.0) (said_sends (conn_phase isn cs) text)
text_may isn cs text now = all_may isn (cs ++ text_to_send text now) (said_sends (conn_phase isn cs) text) (of_text (IsSaid isn) isn (text_is_said isn) (still_said isn) cs text now)

pub texts_may : (isn : ℕ) (cs : List TcpCall) (texts : List (List ℕ)) (now : ℕ) → AllByRecursion (λ s. MaySend isn (cs ++ text_calls texts now) s.0) (texts_sent isn cs texts now)
texts_may isn cs texts now = all_may isn (cs ++ text_calls texts now) (texts_sent isn cs texts now) (of_texts (IsSaid isn) isn (text_is_said isn) (still_said isn) cs texts now)

-- THEIR TRIES

-- a segment of text that isn't acknowledged
record Waits (isn : ℕ) (cs : List TcpCall) (o : Outgoing) : Type 0 where
  flow : Flow
  phase : conn_phase isn cs ≡ flowing flow
  unacked : ltb flow.acked flow.sent ≡ true
  is : o ≡ text_segment flow

abbrev WaitsSo : ℕ → List TcpCall → Outgoing × Option ℕ → Type 0
WaitsSo isn cs s = (n : ℕ) → s.1 ≡ Some n → Waits isn cs s.0

begins_to_wait : (isn : ℕ) (cs : List TcpCall) (g : Flow) (go : Bool) → is_sending false g ≡ go → conn_phase isn cs ≡ flowing (going_on false g) → AllByRecursion (WaitsSo isn cs) (only_if go (with_first_try (text_segment (going_on false g))))
begins_to_wait isn cs g false is e = tt
begins_to_wait isn cs g true is e = (λ n some. record { flow = going_on false g; phase = e; unacked = sends_past false g is; is = refl }, tt)

text_waits : (isn : ℕ) (cs : List TcpCall) (bytes : List ℕ) (now : ℕ) → AllByRecursion (WaitsSo isn (cs ++ text_came bytes now ∷ [])) (text_calls_for (conn_phase isn cs) bytes)
text_waits isn cs bytes now = by (conn_phase isn cs) (phase_append isn cs (text_came bytes now))
  where
    by : (p : ConnPhase) → conn_phase isn (cs ++ text_came bytes now ∷ []) ≡ after_tcp_call isn p (text_came bytes now) → AllByRecursion (WaitsSo isn (cs ++ text_came bytes now ∷ [])) (text_calls_for p bytes)
    by (asking text) e = tt
    by (flowing f) e = begins_to_wait isn (cs ++ text_came bytes now ∷ []) (record f { text = f.text ++ bytes }) (is_sending false (record f { text = f.text ++ bytes })) refl e

-- more text leaves it so
same_part : (f : Flow) (bytes : List ℕ) → IsFlow f → take (f.upto - f.acked) (drop f.acked (f.text ++ bytes)) ≡ take (f.upto - f.acked) (drop f.acked f.text)
same_part f bytes is =
    let left : length (drop f.acked f.text) ≡ length f.text - f.acked = length-drop f.acked f.text in
    ap (take (f.upto - f.acked)) (drop-append-le f.acked f.text bytes (omega (arith, is.acked, is.sent)))
    ∙ take-append-le (f.upto - f.acked) (drop f.acked f.text) bytes (omega (arith, left, is.upto, is.sent))

not_free : (f : Flow) (bytes : List ℕ) → ltb f.acked f.sent ≡ true → is_sending false (record f { text = f.text ++ bytes }) ≡ false
not_free f bytes low = ap (λ b. b && ltb f.acked (length (f.text ++ bytes))) (ne_eqb f.acked f.sent (λ e. let less = ltb-true f.acked f.sent low in omega (arith, less, e)))

still_waits : (isn : ℕ) (cs : List TcpCall) (s : Outgoing × Option ℕ) (bytes : List ℕ) (now : ℕ) → WaitsSo isn cs s → WaitsSo isn (cs ++ text_came bytes now ∷ []) s
still_waits isn cs s bytes now waits n some =
    let w = waits n some in
    let f : Flow = w.flow in
    let g : Flow = record f { text = f.text ++ bytes } in
    let is : IsFlow f = subst IsPhase w.phase (all_in_order isn cs) in
    record {
      flow = g;
      phase = phase_append isn cs (text_came bytes now) ∙ ap (λ p. after_tcp_call isn p (text_came bytes now)) w.phase ∙ ap (λ b. flowing (cond b (sends_next g) g)) (not_free f bytes w.unacked);
      unacked = w.unacked;
      is = w.is ∙ ap (λ z. segment_at 24 full_window z f.acked f) (sym (same_part f bytes is));
    }

all_tried : (isn : ℕ) (cs : List TcpCall) (sends : Sends) → AllByRecursion (WaitsSo isn cs) sends → AllByRecursion (TriedSo isn (conn_phase isn cs)) sends
all_tried isn cs sends all = all_weaker (WaitsSo isn cs) (TriedSo isn (conn_phase isn cs)) sends one all
  where
    one : (s : Outgoing × Option ℕ) → WaitsSo isn cs s → TriedSo isn (conn_phase isn cs) s
    one s waits n some =
        let w = waits n some in
        w.is ∙ sym (ap (λ b. cond b (text_segment w.flow) (probe w.flow)) w.unacked) ∙ ap (tried_again isn) (sym w.phase)

pub text_tried : (isn : ℕ) (cs : List TcpCall) (text : List ℕ) (now : ℕ) → AllByRecursion (TriedSo isn (conn_phase isn (cs ++ text_to_send text now))) (said_sends (conn_phase isn cs) text)
text_tried isn cs text now = all_tried isn (cs ++ text_to_send text now) (said_sends (conn_phase isn cs) text) (of_text (WaitsSo isn) isn (text_waits isn) (still_waits isn) cs text now)

pub texts_tried : (isn : ℕ) (cs : List TcpCall) (texts : List (List ℕ)) (now : ℕ) → AllByRecursion (TriedSo isn (conn_phase isn (cs ++ text_calls texts now))) (texts_sent isn cs texts now)
texts_tried isn cs texts now = all_tried isn (cs ++ text_calls texts now) (texts_sent isn cs texts now) (of_texts (WaitsSo isn) isn (text_waits isn) (still_waits isn) cs texts now)
