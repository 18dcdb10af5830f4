-- What an open that fetches by HTTP puts: the segments may be sent after all that has come, a try is what the connection would try again, a
-- place is further than the one before.
use Rattle.std.proofs.Common.{◌≡◌, ℕ, ◌+◌, ◌==◌, ◌&&◌, ◌<◌, ◌≤◌, min, max, Bool, true, false, cond, not, List, [], ◌∷◌, ◌++◌, length, Option, Some, None, refl, sym, ◌∙◌, ap, subst, arith, ltb, ⊎_elim, eq-eqb}
use Rattle.std.specs.Prelude.{unwrap_or}
use Rattle.std.specs.List.{list_any, AllByRecursion}
use Rattle.std.proofs.lemmas.Bool.{and_parts, or_cases, eqb-true, ltb-true, ltb-false, lt-ltb}
use Rattle.std.proofs.lemmas.List.{length-append}
use Rattle.nb_retry.specs.declared.retry.Due.{Due}
use Rattle.nb_retry.specs.declared.retry.Due.TheVariants.{Not, Again, Over}
use Rattle.nb_streams.specs.Segments.{Incoming, Arrival}
use Rattle.nb_streams.specs.Streams.{front, next, grown, IsPrefixOf}
use Rattle.nb_streams.specs.Flows.{TcpCall, segment_came, time_came, Flow, ConnPhase, asking, flowing, conn_phase, after_tcp_call, held_in, held_after, is_taken, advances, with_segment, size, is_free, is_sending, going_on, answers_syn, establishes, opened_by, established, window_bytes, is_past}
use Rattle.nb_streams.specs.Sending.{Outgoing, probe, MaySend, without_try, with_first_try, only_if, pure_ack, rst_ack, text_segment, rst_for, brings_more, ongoing_sends, taken_sends, is_answered_by_ack, segment_sends, calls_for, closing_segment, tried_again}
use Rattle.nb_streams.specs.Endings.{segment_end}
use Rattle.nb_talks.specs.Talking.{Came, by_segment, by_time, by_task, talk_after}
use Rattle.nb_talks.specs.TalkPromises.{Put, PutsSo, closes_by, due_sends}
use Rattle.nb_streams.proofs.StreamLaws.{either}
use Rattle.nb_streams.proofs.FlowLaws.{all_append, front_grows}
use Rattle.nb_streams.proofs.SendLaws.{all_in_order, all_may_be_sent}
use Rattle.nb_streams.proofs.OtherSendLaws.{again_may, closing_may, phase_append}
use Rattle.nb_readings.specs.Ends.{verdict_end}
use Rattle.nb_webs.specs.Webs.{NoTask, web, call_of, response_come, web_put}
use Rattle.nb_openlaws.proofs.Requests.{calls_after, said_once, puts_once}

-- A TRY

-- a segment that begins to be sent waits to be acknowledged
pub sends_past : (advanced : Bool) (f : Flow) → is_sending advanced f ≡ true → ltb (going_on advanced f).acked (going_on advanced f).sent ≡ true
sends_past advanced f go = rw go (lt-ltb f.acked (max f.sent (min (f.acked + size f) (length f.text))) (past go))
  where
    some : (a b : ℕ) → 1 ≤ min (min (max a 1) (max b 1)) 1460
    some a b = omega arith

    further : (a s n t : ℕ) → 1 ≤ n → a < t → a < max s (min (a + n) t)
    further a s n t l k = omega (arith, l, k)

    before : (a s n : ℕ) → a < s → a < max s n
    before a s n l = omega (arith, l)

    past : is_sending advanced f ≡ true → f.acked < max f.sent (min (f.acked + size f) (length f.text))
    past is = ⊎_elim
        (λ both. before f.acked f.sent (min (f.acked + size f) (length f.text)) (ltb-true f.acked f.sent (and_parts advanced (ltb f.acked f.sent) both).1))
        (λ free. further f.acked f.sent (size f) (length f.text) (some f.mss f.room) (ltb-true f.acked (length f.text) (and_parts (f.acked == f.sent) (ltb f.acked (length f.text)) free).1))
        (or_cases (advanced && ltb f.acked f.sent) (is_free f) is)

pub again_is : (isn : ℕ) (advanced : Bool) (f : Flow) → is_sending advanced f ≡ true → text_segment (going_on advanced f) ≡ tried_again isn (flowing (going_on advanced f))
again_is isn advanced f go = sym (ap (λ b. cond b (text_segment (going_on advanced f)) (probe (going_on advanced f))) (sends_past advanced f go))

-- where one of these is a try, it is what the connection would try again after this
abbrev pub TriedSo : ℕ → ConnPhase → Outgoing × Option ℕ → Type 0
TriedSo isn p s = (n : ℕ) → s.1 ≡ Some n → s.0 ≡ tried_again isn p

untried : (isn : ℕ) (p : ConnPhase) (s : Outgoing) → TriedSo isn p (without_try s)
untried isn p s n is = absurd (cc)

pub only_tried : (isn : ℕ) (p : ConnPhase) (b : Bool) (s : Outgoing × Option ℕ) → (b ≡ true → TriedSo isn p s) → AllByRecursion (TriedSo isn p) (only_if b s)
only_tried isn p true s t = (t refl, tt)
only_tried isn p false s t = tt

ongoing_tried : (isn : ℕ) (f : Flow) (s : Incoming) → AllByRecursion (TriedSo isn (flowing (going_on (advances f s) (with_segment s f)))) (ongoing_sends f s)
ongoing_tried isn f s =
    let then : ConnPhase = flowing (going_on (advances f s) (with_segment s f)) in
    all_append (TriedSo isn then) (only_if (brings_more s) (without_try (pure_ack (with_segment s f)))) (only_if (is_sending (advances f s) (with_segment s f)) (with_first_try (text_segment (going_on (advances f s) (with_segment s f)))))
    (only_tried isn then (brings_more s) (without_try (pure_ack (with_segment s f))) (λ on. untried isn then (pure_ack (with_segment s f))))
    (only_tried isn then (is_sending (advances f s) (with_segment s f)) (with_first_try (text_segment (going_on (advances f s) (with_segment s f)))) (λ go n is. again_is isn (advances f s) (with_segment s f) go))

taken_tried : (isn : ℕ) (f : Flow) (s : Incoming) → AllByRecursion (TriedSo isn (flowing (going_on (advances f s) (with_segment s f)))) (taken_sends f s)
taken_tried isn f s =
    let then : ConnPhase = flowing (going_on (advances f s) (with_segment s f)) in
    either (list_any is_past (window_bytes f s))
    (λ past. rw past (untried isn then (pure_ack (with_segment s f)), (untried isn then (rst_ack (with_segment s f)), tt)))
    (λ short. rw short (ongoing_tried isn f s))

flow_tried : (isn : ℕ) (f : Flow) (m : Arrival) (now : ℕ) → AllByRecursion (TriedSo isn (after_tcp_call isn (flowing f) (segment_came m now))) (segment_sends f m.segment)
flow_tried isn f m now = either (is_taken f m.segment)
    (λ taken. rw taken (taken_tried isn f m.segment))
    (λ dropped. rw dropped (only_tried isn (flowing f) (is_answered_by_ack f m.segment) (without_try (pure_ack f)) (λ on. untried isn (flowing f) (pure_ack f))))

-- what a segment calls for
pub calls_tried : (isn : ℕ) (p : ConnPhase) (m : Arrival) (now : ℕ) → AllByRecursion (TriedSo isn (after_tcp_call isn p (segment_came m now))) (calls_for isn p m.segment)
calls_tried isn (flowing f) m now = flow_tried isn f m now
calls_tried isn (asking text) m now =
    let begins = opened_by isn text m.segment in
    let then : ConnPhase = flowing (established isn text m.segment) in
    either (establishes isn m.segment)
    (λ opens. rw opens (untried isn then (pure_ack begins), only_tried isn then (is_sending false begins) (with_first_try (text_segment (going_on false begins))) (λ go n is. again_is isn false begins go)))
    (λ not_yet. rw not_yet (only_tried isn (asking text) (m.segment.ack && (not (answers_syn isn m.segment) && not m.segment.rst)) (without_try (rst_for m.segment)) (λ on. untried isn (asking text) (rst_for m.segment))))

pub close_tried : (isn : ℕ) (p q : ConnPhase) (ends other : Option _) → AllByRecursion (TriedSo isn p) (closes_by ends other isn q)
close_tried isn p q None other = tt
close_tried isn p q (Some c) None = (untried isn p (closing_segment isn q), tt)
close_tried isn p q (Some c) (Some d) = tt

pub close_may : (isn : ℕ) (cs : List TcpCall) (ends other : Option _) → AllByRecursion (λ s. MaySend isn cs s.0) (closes_by ends other isn (conn_phase isn cs))
close_may isn cs None other = tt
close_may isn cs (Some c) None = (closing_may isn cs (conn_phase isn cs) refl, tt)
close_may isn cs (Some c) (Some d) = tt

-- ALL THAT AN EXCHANGE PUTS

-- after these calls: its segments may be sent, and its tries are tried again; its place is further than the one before these last
pub record PutsWell (isn : ℕ) (before after : List TcpCall) (put : Put) : Type 0 where
  pub may : AllByRecursion (λ s. MaySend isn after s.0) put.sends
  pub tried : AllByRecursion (TriedSo isn (conn_phase isn after)) put.sends
  pub place : put.advance ≡ grown (next (held_after isn before)) (next (held_after isn after))
  pub further : next (held_after isn before) ≤ next (held_after isn after)

pub not_back : (isn : ℕ) (before more : List TcpCall) → next (held_after isn before) ≤ next (held_after isn (before ++ more))
not_back isn before more =
    let g : IsPrefixOf (front (held_after isn before)) (front (held_after isn (before ++ more))) = front_grows isn before more in
    omega (arith, ap length g.1, length-append (front (held_after isn before)) g.0)

segment_well : (isn : ℕ) (calls : List TcpCall) (m : Arrival) (now : ℕ) → PutsWell isn calls (calls ++ segment_came m now ∷ []) (web_put isn calls m now)
segment_well isn calls m now =
    let come = calls ++ segment_came m now ∷ [] in
    let ends = verdict_end m.rec (response_come isn come).verdict in
    let other = segment_end isn (conn_phase isn calls) m in
    record {
      may = all_append (λ (s : Outgoing × Option ℕ). MaySend isn come s.0) (calls_for isn (conn_phase isn calls) m.segment) (closes_by ends other isn (conn_phase isn come)) (all_may_be_sent isn calls m now) (close_may isn come ends other);
      tried = all_append (TriedSo isn (conn_phase isn come)) (calls_for isn (conn_phase isn calls) m.segment) (closes_by ends other isn (conn_phase isn come))
          (subst (λ p. AllByRecursion (TriedSo isn p) (calls_for isn (conn_phase isn calls) m.segment)) (sym (phase_append isn calls (segment_came m now))) (calls_tried isn (conn_phase isn calls) m now))
          (close_tried isn (conn_phase isn come) (conn_phase isn come) ends other);
      place = refl;
      further = not_back isn calls (segment_came m now ∷ []);
    }

pub same_grown : (a b : ℕ) → a ≡ b → None ≡ grown a b
same_grown a b e = sym (ap (λ z. cond z None (Some b)) (eq-eqb a b e))

-- how far a stream has come
pub grown_unwrap : (a b : ℕ) → unwrap_or (grown a b) a ≡ b
grown_unwrap a b = either (a == b) (λ same. ap (λ z. unwrap_or (cond z None (Some b)) a) same ∙ eqb-true a b same) (λ other. ap (λ z. unwrap_or (cond z None (Some b)) a) other)

pub grown_some : (a b n : ℕ) → a ≤ b → grown a b ≡ Some n → a < n
grown_some a b n le is = either (a == b)
    (λ same. absurd (let no : None ≡ Some n = sym (ap (λ z. cond z None (Some b)) same) ∙ is in cc))
    (λ other. let one : Some b ≡ Some n = sym (ap (λ z. cond z None (Some b)) other) ∙ is in let at : b ≡ n = cc in
    either (ltb a b) (λ less. subst (λ z. a < z) at (ltb-true a b less))
    (λ no. absurd (let same : a ≡ b = omega (arith, le, ltb-false a b no) in let both : true ≡ false = sym (eq-eqb a b same) ∙ other in cc)))

-- a time leaves the connection as it was
pub time_phase : (isn : ℕ) (calls : List TcpCall) (now : ℕ) → conn_phase isn (calls ++ time_came now ∷ []) ≡ conn_phase isn calls
time_phase isn calls now = phase_append isn calls (time_came now)

pub due_may : (isn : ℕ) (calls : List TcpCall) (now : ℕ) (due : Due) → AllByRecursion (λ s. MaySend isn (calls ++ time_came now ∷ []) s.0) (due_sends isn (conn_phase isn calls) due)
due_may isn calls now Not = tt
due_may isn calls now (Again n) = (again_may isn (calls ++ time_came now ∷ []) (conn_phase isn calls) (all_in_order isn calls) (time_phase isn calls now), tt)
due_may isn calls now Over = tt

pub due_tried : (isn : ℕ) (p : ConnPhase) (due : Due) → AllByRecursion (TriedSo isn p) (due_sends isn p due)
due_tried isn p Not = tt
due_tried isn p (Again n) = (λ k is. refl, tt)
due_tried isn p Over = tt

pub web_well : (request : List ℕ) (isn start : ℕ) (came : List (Came NoTask)) (c : Came NoTask) (put : Put) → PutsSo (web request) isn start (talk_after (web request) isn start came) c put →
    PutsWell isn (calls_after request start came) (calls_after request start came ++ call_of c ∷ []) put
web_well request isn start came (by_segment m now) put puts =
    subst (PutsWell isn (calls_after request start came) (calls_after request start came ++ segment_came m now ∷ [])) (sym (puts_once request isn start came m now put puts)) (segment_well isn (calls_after request start came) m now)
web_well request isn start came (by_time now) put puts =
    let calls = calls_after request start came in
    let same = said_once request isn start came in
    let sends : put.sends ≡ due_sends isn (conn_phase isn calls) puts.due = ap (λ (p : Put). p.sends) puts.is ∙ ap (λ cs. due_sends isn (conn_phase isn cs) puts.due) same in
    let held : held_after isn calls ≡ held_after isn (calls ++ time_came now ∷ []) = ap (λ p. held_in p) (sym (time_phase isn calls now)) in
    record {
      may = subst (λ z. AllByRecursion (λ s. MaySend isn (calls ++ time_came now ∷ []) s.0) z) (sym sends) (due_may isn calls now puts.due);
      tried = subst (λ z. AllByRecursion (TriedSo isn (conn_phase isn (calls ++ time_came now ∷ []))) z) (sym sends)
          (subst (λ p. AllByRecursion (TriedSo isn p) (due_sends isn (conn_phase isn calls) puts.due)) (sym (time_phase isn calls now)) (due_tried isn (conn_phase isn calls) puts.due));
      place = ap (λ (p : Put). p.advance) puts.is ∙ same_grown (next (held_after isn calls)) (next (held_after isn (calls ++ time_came now ∷ []))) (ap next held);
      further = not_back isn calls (time_came now ∷ []);
    }
web_well request isn start came (by_task task now) put puts = absurd task
