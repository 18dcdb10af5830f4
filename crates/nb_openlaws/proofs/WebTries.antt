-- The tries of a connection that goes on: those that are due, by all that has come.
use Rattle.std.proofs.Common.{◌≡◌, ℕ, ◌==◌, ◌&&◌, Bool, true, false, cond, not, List, [], ◌∷◌, ◌++◌, Option, Some, None, refl, sym, ◌∙◌, ap, subst, append_assoc, append-nil, map}
use Rattle.std.specs.List.{flat_map, fold, list_any}
use Rattle.std.proofs.lemmas.List.{map-append}
use Rattle.std.proofs.lemmas.List.Concat.{flat_map-append}
use Rattle.nb_terms.specs.declared.cause.Cause.{Cause}
use Rattle.nb_retry.specs.declared.plan.Plan.TheVariants.{Common, Probe}
use Rattle.nb_retry.specs.declared.retry.Due.{Due}
use Rattle.nb_retry.specs.declared.retry.Due.TheVariants.{Not, Again, Over}
use Rattle.nb_streams.specs.Segments.{Arrival}
use Rattle.nb_streams.specs.Flows.{TcpCall, segment_came, time_came, text_came, Flow, ConnPhase, asking, flowing, conn_phase, after_tcp_call, is_taken, advances, with_segment, is_sending, going_on, answers_syn, establishes, opened_by, window_bytes, has_other_stop, is_past}
use Rattle.nb_streams.specs.Sending.{Outgoing, without_try, with_first_try, only_if, pure_ack, text_segment, rst_for, brings_more, ongoing_sends, too_long_sends, taken_sends, is_answered_by_ack, established_sends, calls_for, text_calls_for}
use Rattle.nb_streams.specs.Trying.{TryTimer, timer_since, segment_timer, text_timer, timer_by, timer_from, timer_after, starting_try, try_of, fired, due_tries, due_fired, TryMark, comes_in, tries_at, mark_tries}
use Rattle.nb_streams.specs.Endings.{segment_end, taken_end, end_cause}
use Rattle.nb_talks.specs.Talking.{text_to_send, text_calls}
use Rattle.nb_talks.specs.TalkPromises.{Sends, said_sends, texts_sent, due_sends, earlier}
use Rattle.nb_streams.proofs.StreamLaws.{either}
use Rattle.nb_openlaws.specs.Sessions.{TriesStand}

-- the tries that segments tell
abbrev pub sent_mark : ℕ → Option ℕ → List TryMark
sent_mark now None = []
sent_mark now (Some n) = tries_at n now ∷ []

abbrev pub sends_marks : ℕ → Sends → List TryMark
sends_marks now sends = flat_map (λ s. sent_mark now s.1) sends

-- THE TIMER

timer_on : (isn : ℕ) (p : ConnPhase) (w : TryTimer) (cs : List TcpCall) (c : TcpCall) → timer_from isn p w (cs ++ c ∷ []) ≡ timer_by isn (fold (after_tcp_call isn) p cs) c (timer_from isn p w cs)
timer_on isn p w [] c = refl
timer_on isn p w (x ∷ cs) c = timer_on isn (after_tcp_call isn p x) (timer_by isn p x w) cs c

pub timer_more : (isn start : ℕ) (cs : List TcpCall) (c : TcpCall) → timer_after isn start (cs ++ c ∷ []) ≡ timer_by isn (conn_phase isn cs) c (timer_after isn start cs)
unfolding timer_after conn_phase
timer_more isn start cs c = timer_on isn (asking []) (timer_since Common start) cs c

-- what a segment does to the timer, and the tries that it calls for
data Timed (isn : ℕ) (p : ConnPhase) (m : Arrival) (now : ℕ) (w : TryTimer) : Type 0 where
  tries_anew : segment_timer isn p m.segment now w ≡ timer_since Common now → sends_marks now (calls_for isn p m.segment) ≡ tries_at 1 now ∷ [] → Timed isn p m now w
  rests : segment_timer isn p m.segment now w ≡ timer_since Probe now → sends_marks now (calls_for isn p m.segment) ≡ [] → Timed isn p m now w
  stays : segment_timer isn p m.segment now w ≡ w → sends_marks now (calls_for isn p m.segment) ≡ [] → Timed isn p m now w

no_mark : (now : ℕ) (b : Bool) (s : Outgoing) → sends_marks now (only_if b (without_try s)) ≡ []
no_mark now true s = refl
no_mark now false s = refl

pub marks_of_two : (now : ℕ) (xs ys : Sends) → sends_marks now (xs ++ ys) ≡ sends_marks now xs ++ sends_marks now ys
marks_of_two now xs ys = flat_map-append (λ (s : Outgoing × Option ℕ). sent_mark now s.1) xs ys

opens_timed : (isn : ℕ) (text : List ℕ) (m : Arrival) (now : ℕ) (w : TryTimer) → establishes isn m.segment ≡ true → Timed isn (asking text) m now w
opens_timed isn text m now w opens = either (is_sending false (opened_by isn text m.segment))
    (λ go. tries_anew (rw (opens, go) refl) (rw (opens, go) refl))
    (λ no. rests (rw (opens, no) refl) (rw (opens, no) refl))

ongoing_timed : (isn : ℕ) (f : Flow) (m : Arrival) (now : ℕ) (w : TryTimer) → is_taken f m.segment ≡ true → list_any is_past (window_bytes f m.segment) ≡ false → Timed isn (flowing f) m now w
ongoing_timed isn f m now w taken short = either (is_sending (advances f m.segment) (with_segment m.segment f))
    (λ go. tries_anew (rw (taken, go) refl) (marks ∙ ap (sends_marks now) (ap (λ b. only_if b (with_first_try text)) go)))
    (λ no. either ((with_segment m.segment f).acked == (with_segment m.segment f).sent)
    (λ all. rests (rw (taken, no, all) refl) (marks ∙ ap (sends_marks now) (ap (λ b. only_if b (with_first_try text)) no)))
    (λ some. stays (rw (taken, no, some) refl) (marks ∙ ap (sends_marks now) (ap (λ b. only_if b (with_first_try text)) no))))
  where
    text : Outgoing
    text = text_segment (going_on (advances f m.segment) (with_segment m.segment f))

    marks : sends_marks now (calls_for isn (flowing f) m.segment) ≡ sends_marks now (only_if (is_sending (advances f m.segment) (with_segment m.segment f)) (with_first_try text))
    marks =
        ap (sends_marks now) (ap (λ b. cond b (taken_sends f m.segment) (only_if (is_answered_by_ack f m.segment) (without_try (pure_ack f)))) taken ∙ ap (λ b. cond b (too_long_sends f m.segment) (ongoing_sends f m.segment)) short)
        ∙ marks_of_two now (only_if (brings_more m.segment) (without_try (pure_ack (with_segment m.segment f)))) (only_if (is_sending (advances f m.segment) (with_segment m.segment f)) (with_first_try text))
        ∙ ap (λ z. z ++ sends_marks now (only_if (is_sending (advances f m.segment) (with_segment m.segment f)) (with_first_try text))) (no_mark now (brings_more m.segment) (pure_ack (with_segment m.segment f)))

-- a segment that doesn't end the connection brings no bytes past the longest stream
not_past_end : (isn : ℕ) (f : Flow) (m : Arrival) → is_taken f m.segment ≡ true → segment_end isn (flowing f) m ≡ None → list_any is_past (window_bytes f m.segment) ≡ false
not_past_end isn f m taken none = either (list_any is_past (window_bytes f m.segment)) (λ past. absurd (ends past)) (λ short. short)
  where
    by : (reset : Bool) (inner : Option Cause) (a b : Cause) → inner ≡ Some b → cond reset (Some a) inner ≡ None → ⊥
    by true inner a b is e = cc
    by false inner a b is e = let no : Some b ≡ None = sym is ∙ e in cc

    ends : list_any is_past (window_bytes f m.segment) ≡ true → ⊥
    ends past = by _ (cond (is_taken f m.segment) (taken_end f m) None) _ (end_cause 5 3 0) (ap (λ b. cond b (taken_end f m) None) taken ∙ ap (λ b. cond b (Some (end_cause 5 3 0)) (cond (has_other_stop f m.segment) (Some (end_cause 3 m.rec 0)) None)) past) none

segment_timed : (isn : ℕ) (p : ConnPhase) (m : Arrival) (now : ℕ) (w : TryTimer) → segment_end isn p m ≡ None → Timed isn p m now w
segment_timed isn (asking text) m now w none = either (establishes isn m.segment) (λ opens. opens_timed isn text m now w opens)
    (λ not_yet. stays (rw not_yet refl) (ap (λ b. sends_marks now (cond b (established_sends (opened_by isn text m.segment)) (only_if (m.segment.ack && (not (answers_syn isn m.segment) && not m.segment.rst)) (without_try (rst_for m.segment))))) not_yet
    ∙ no_mark now (m.segment.ack && (not (answers_syn isn m.segment) && not m.segment.rst)) (rst_for m.segment)))
segment_timed isn (flowing f) m now w none = either (is_taken f m.segment) (λ taken. ongoing_timed isn f m now w taken (not_past_end isn f m taken none))
    (λ dropped. stays (rw dropped refl) (ap (λ b. sends_marks now (cond b (taken_sends f m.segment) (only_if (is_answered_by_ack f m.segment) (without_try (pure_ack f))))) dropped ∙ no_mark now (is_answered_by_ack f m.segment) (pure_ack f)))

-- THE TRIES STAND

all_marks : (marks earlier rest more : List TryMark) → marks ≡ earlier ++ rest → marks ++ more ≡ earlier ++ (rest ++ more)
all_marks marks earlier rest more e = ap (λ z. z ++ more) e ∙ append_assoc earlier rest more

-- The same, by what came and what it put: the marks since the timer was started begin among the first or among the others.
pub data TriesStandIn (isn start : ℕ) (calls : List TcpCall) (came put : List TryMark) : Type 0 where
  from_came : (before rest : List TryMark) → came ≡ before ++ rest → flat_map mark_tries rest ++ flat_map mark_tries put ≡ due_tries (timer_after isn start calls) → TriesStandIn isn start calls came put
  from_put : (before rest : List TryMark) → put ≡ before ++ rest → flat_map mark_tries rest ≡ due_tries (timer_after isn start calls) → TriesStandIn isn start calls came put

pub they_stand : (isn start : ℕ) (calls : List TcpCall) (came put : List TryMark) → TriesStandIn isn start calls came put → TriesStand isn start calls (came ++ put)
they_stand isn start calls came put (from_came before rest all tried) = record { earlier = before; rest = rest ++ put; all = all_marks came before rest put all; tried = flat_map-append mark_tries rest put ∙ tried }
they_stand isn start calls came put (from_put before rest all tried) = record { earlier = came ++ before; rest = rest; all = ap (λ z. came ++ z) all ∙ sym (append_assoc came before rest); tried = tried }

-- a segment
pub segment_in : (isn start : ℕ) (calls : List TcpCall) (marks : List TryMark) (m : Arrival) (now : ℕ) → segment_end isn (conn_phase isn calls) m ≡ None → TriesStand isn start calls marks →
    TriesStandIn isn start (calls ++ segment_came m now ∷ []) (marks ++ comes_in (segment_came m now) ∷ []) (sends_marks now (calls_for isn (conn_phase isn calls) m.segment))
segment_in isn start calls marks m now none t = by (segment_timed isn (conn_phase isn calls) m now (timer_after isn start calls) none)
  where
    came : TryMark
    came = comes_in (segment_came m now)

    put : List TryMark
    put = sends_marks now (calls_for isn (conn_phase isn calls) m.segment)

    timer : timer_after isn start (calls ++ segment_came m now ∷ []) ≡ segment_timer isn (conn_phase isn calls) m.segment now (timer_after isn start calls)
    timer = timer_more isn start calls (segment_came m now)

    by : Timed isn (conn_phase isn calls) m now (timer_after isn start calls) → TriesStandIn isn start (calls ++ segment_came m now ∷ []) (marks ++ came ∷ []) put
    by (tries_anew anew told) = from_came (marks ++ came ∷ []) [] (sym (append-nil (marks ++ came ∷ []))) (ap (flat_map mark_tries) told ∙ sym (ap due_tries (timer ∙ anew)))
    by (rests anew told) = from_came (marks ++ came ∷ []) [] (sym (append-nil (marks ++ came ∷ []))) (ap (flat_map mark_tries) told ∙ sym (ap due_tries (timer ∙ anew)))
    by (stays same told) =
        from_came t.earlier (t.rest ++ came ∷ []) (all_marks marks t.earlier t.rest (came ∷ []) t.all)
        (ap (λ z. flat_map mark_tries (t.rest ++ came ∷ []) ++ flat_map mark_tries z) told ∙ append-nil (flat_map mark_tries (t.rest ++ came ∷ []))
        ∙ flat_map-append mark_tries t.rest (came ∷ []) ∙ append-nil (flat_map mark_tries t.rest) ∙ t.tried ∙ sym (ap due_tries (timer ∙ same)))

pub segment_tries : (isn start : ℕ) (calls : List TcpCall) (marks : List TryMark) (m : Arrival) (now : ℕ) → segment_end isn (conn_phase isn calls) m ≡ None → TriesStand isn start calls marks →
    TriesStand isn start (calls ++ segment_came m now ∷ []) (marks ++ comes_in (segment_came m now) ∷ sends_marks now (calls_for isn (conn_phase isn calls) m.segment))
segment_tries isn start calls marks m now none t =
    let came = marks ++ comes_in (segment_came m now) ∷ [] in
    let put = sends_marks now (calls_for isn (conn_phase isn calls) m.segment) in
    subst (TriesStand isn start (calls ++ segment_came m now ∷ [])) (append_assoc marks (comes_in (segment_came m now) ∷ []) put)
    (they_stand isn start (calls ++ segment_came m now ∷ []) came put (segment_in isn start calls marks m now none t))

abbrev due_mark : ℕ → Due → List TryMark
due_mark now Not = []
due_mark now (Again n) = tries_at n now ∷ []
due_mark now Over = []

due_marks_are : (isn now : ℕ) (p : ConnPhase) (due : Due) → sends_marks now (due_sends isn p due) ≡ due_mark now due
due_marks_are isn now p Not = refl
due_marks_are isn now p (Again n) = refl
due_marks_are isn now p Over = refl

due_tried_so : (now : ℕ) (due : Due) → flat_map try_of (due_fired now due) ≡ flat_map mark_tries (due_mark now due)
due_tried_so now Not = refl
due_tried_so now (Again n) = refl
due_tried_so now Over = refl

-- a time: what is due is tried
pub time_tries : (isn start : ℕ) (calls : List TcpCall) (marks : List TryMark) (now : ℕ) (due : Due) → fired (timer_after isn start (calls ++ time_came now ∷ [])) ≡ fired (timer_after isn start calls) ++ due_fired now due → TriesStand isn start calls marks →
    TriesStand isn start (calls ++ time_came now ∷ []) (marks ++ comes_in (time_came now) ∷ sends_marks now (due_sends isn (conn_phase isn calls) due))
time_tries isn start calls marks now due fires t = record {
  earlier = t.earlier;
  rest = t.rest ++ comes_in (time_came now) ∷ sends_marks now (due_sends isn (conn_phase isn calls) due);
  all = all_marks marks t.earlier t.rest (comes_in (time_came now) ∷ sends_marks now (due_sends isn (conn_phase isn calls) due)) t.all;
  tried = flat_map-append mark_tries t.rest (comes_in (time_came now) ∷ sends_marks now (due_sends isn (conn_phase isn calls) due))
      ∙ ap (λ z. flat_map mark_tries t.rest ++ flat_map mark_tries z) (due_marks_are isn now (conn_phase isn calls) due)
      ∙ ap (λ z. z ++ flat_map mark_tries (due_mark now due)) t.tried
      ∙ ap (λ z. due_tries (timer_after isn start calls) ++ z) (sym (due_tried_so now due))
      ∙ append_assoc (starting_try (timer_after isn start calls).plan (timer_after isn start calls).since) (flat_map try_of (fired (timer_after isn start calls))) (flat_map try_of (due_fired now due))
      ∙ ap (λ z. starting_try (timer_after isn start calls).plan (timer_after isn start calls).since ++ z) (sym (flat_map-append try_of (fired (timer_after isn start calls)) (due_fired now due)) ∙ ap (flat_map try_of) (sym fires))
      ∙ ap (λ z. starting_try z (timer_after isn start calls).since ++ flat_map try_of (fired (timer_after isn start (calls ++ time_came now ∷ [])))) (sym (ap (λ (w : TryTimer). w.plan) timer))
      ∙ ap (λ z. starting_try (timer_after isn start (calls ++ time_came now ∷ [])).plan z ++ flat_map try_of (fired (timer_after isn start (calls ++ time_came now ∷ [])))) (sym (ap (λ (w : TryTimer). w.since) timer));
}
  where
    timer : timer_after isn start (calls ++ time_came now ∷ []) ≡ record (timer_after isn start calls) { times = (timer_after isn start calls).times ++ now ∷ [] }
    timer = timer_more isn start calls (time_came now)

-- TEXT THAT IS SAID

-- what more text does to the timer, and the try that it calls for
data TextTimed (p : ConnPhase) (bytes : List ℕ) (now : ℕ) (w : TryTimer) : Type 0 where
  begins : text_timer p bytes now w ≡ timer_since Common now → sends_marks now (text_calls_for p bytes) ≡ tries_at 1 now ∷ [] → TextTimed p bytes now w
  waits : text_timer p bytes now w ≡ w → sends_marks now (text_calls_for p bytes) ≡ [] → TextTimed p bytes now w

text_timed : (p : ConnPhase) (bytes : List ℕ) (now : ℕ) (w : TryTimer) → TextTimed p bytes now w
text_timed (asking text) bytes now w = waits refl refl
text_timed (flowing f) bytes now w = either (is_sending false (record f { text = f.text ++ bytes }))
    (λ go. begins (rw go refl) (rw go refl))
    (λ no. waits (rw no refl) (rw no refl))

-- the same with calls, marks and tries that are equal
same_in : (isn start : ℕ) (calls cs : List TcpCall) (came cm put pm : List TryMark) → calls ≡ cs → came ≡ cm → put ≡ pm → TriesStandIn isn start calls came put → TriesStandIn isn start cs cm pm
same_in isn start calls cs came cm put pm a b c t = subst (λ z. TriesStandIn isn start z cm pm) a (subst (λ z. TriesStandIn isn start calls z pm) b (subst (λ z. TriesStandIn isn start calls came z) c t))

-- a text that is said then
pub text_in : (isn start : ℕ) (calls : List TcpCall) (came put : List TryMark) (text : List ℕ) (now : ℕ) → TriesStandIn isn start calls came put →
    TriesStandIn isn start (calls ++ text_to_send text now) (came ++ map comes_in (text_to_send text now)) (put ++ sends_marks now (said_sends (conn_phase isn calls) text))
text_in isn start calls came put [] now t = same_in isn start calls (calls ++ []) came (came ++ []) put (put ++ []) (sym (append-nil calls)) (sym (append-nil came)) (sym (append-nil put)) t
text_in isn start calls came put (b ∷ bytes) now t = by (text_timed (conn_phase isn calls) (b ∷ bytes) now (timer_after isn start calls)) t
  where
    spoken : TryMark
    spoken = comes_in (text_came (b ∷ bytes) now)

    more : List TryMark
    more = sends_marks now (text_calls_for (conn_phase isn calls) (b ∷ bytes))

    timer : timer_after isn start (calls ++ text_came (b ∷ bytes) now ∷ []) ≡ text_timer (conn_phase isn calls) (b ∷ bytes) now (timer_after isn start calls)
    timer = timer_more isn start calls (text_came (b ∷ bytes) now)

    none_more : more ≡ [] → put ++ more ≡ put
    none_more quiet = ap (λ z. put ++ z) quiet ∙ append-nil put

    by : TextTimed (conn_phase isn calls) (b ∷ bytes) now (timer_after isn start calls) → TriesStandIn isn start calls came put → TriesStandIn isn start (calls ++ text_came (b ∷ bytes) now ∷ []) (came ++ spoken ∷ []) (put ++ more)
    by (begins anew told) s = from_put put (tries_at 1 now ∷ []) (ap (λ z. put ++ z) told) (sym (ap due_tries (timer ∙ anew)))
    by (waits same quiet) (from_came before rest all tried) =
        from_came before (rest ++ spoken ∷ []) (all_marks came before rest (spoken ∷ []) all)
        (ap (λ z. flat_map mark_tries (rest ++ spoken ∷ []) ++ flat_map mark_tries z) (none_more quiet)
        ∙ ap (λ z. z ++ flat_map mark_tries put) (flat_map-append mark_tries rest (spoken ∷ []) ∙ append-nil (flat_map mark_tries rest)) ∙ tried ∙ sym (ap due_tries (timer ∙ same)))
    by (waits same quiet) (from_put before rest all tried) = from_put before rest (none_more quiet ∙ all) (tried ∙ sym (ap due_tries (timer ∙ same)))

-- so do several, one after another
pub texts_in : (isn start : ℕ) (calls : List TcpCall) (came put : List TryMark) (texts : List (List ℕ)) (now : ℕ) → TriesStandIn isn start calls came put →
    TriesStandIn isn start (calls ++ text_calls texts now) (came ++ map comes_in (text_calls texts now)) (put ++ sends_marks now (texts_sent isn calls texts now))
texts_in isn start calls came put [] now t = same_in isn start calls (calls ++ []) came (came ++ []) put (put ++ []) (sym (append-nil calls)) (sym (append-nil came)) (sym (append-nil put)) t
texts_in isn start calls came put (x ∷ xs) now t =
    let one = text_to_send x now in
    let rest = text_calls xs now in
    let said = said_sends (conn_phase isn calls) x in
    let then = texts_sent isn (calls ++ one) xs now in
    same_in isn start ((calls ++ one) ++ rest) (calls ++ (one ++ rest)) ((came ++ map comes_in one) ++ map comes_in rest) (came ++ map comes_in (one ++ rest))
    ((put ++ sends_marks now said) ++ sends_marks now then) (put ++ sends_marks now (said ++ then))
    (append_assoc calls one rest)
    (append_assoc came (map comes_in one) (map comes_in rest) ∙ ap (λ z. came ++ z) (sym (map-append comes_in one rest)))
    (append_assoc put (sends_marks now said) (sends_marks now then) ∙ ap (λ z. put ++ z) (sym (marks_of_two now said then)))
    (texts_in isn start (calls ++ one) (came ++ map comes_in one) (put ++ sends_marks now said) xs now (text_in isn start calls came put x now t))

-- a segment, and what is said then
pub texts_tries : (isn start : ℕ) (calls : List TcpCall) (marks : List TryMark) (m : Arrival) (now : ℕ) (texts : List (List ℕ)) → segment_end isn (conn_phase isn calls) m ≡ None → TriesStand isn start calls marks →
    TriesStand isn start ((calls ++ segment_came m now ∷ []) ++ text_calls texts now)
    (marks ++ (comes_in (segment_came m now) ∷ map comes_in (text_calls texts now) ++ sends_marks now (calls_for isn (conn_phase isn calls) m.segment ++ texts_sent isn (calls ++ segment_came m now ∷ []) texts now)))
texts_tries isn start calls marks m now texts none t =
    let then = calls ++ segment_came m now ∷ [] in
    let came = marks ++ comes_in (segment_came m now) ∷ [] in
    let words = map comes_in (text_calls texts now) in
    let called = calls_for isn (conn_phase isn calls) m.segment in
    let said = texts_sent isn then texts now in
    subst (TriesStand isn start (then ++ text_calls texts now))
    (ap (λ z. (came ++ words) ++ z) (sym (marks_of_two now called said)) ∙ append_assoc came words (sends_marks now (called ++ said))
    ∙ append_assoc marks (comes_in (segment_came m now) ∷ []) (words ++ sends_marks now (called ++ said)))
    (they_stand isn start (then ++ text_calls texts now) (came ++ words) (sends_marks now called ++ sends_marks now said) (texts_in isn start then came (sends_marks now called) texts now (segment_in isn start calls marks m now none t)))
