-- What follows from a connection's promises: what goes up is the stream's, each end has its cause, and what is sent may be.
use Rattle.std.proofs.Common.{◌≡◌, ◌≤◌, ◌<◌, ℕ, ◌-◌, ◌^◌, ◌&&◌, List, [], ◌∷◌, ◌++◌, length, Option, Some, None, true, false, cond, refl, ap, ◌∙◌, sym, subst, arith, append-nil, append_assoc}
use Rattle.std.specs.List.{list_any}
use Rattle.std.proofs.lemmas.Bool.{false≢true, and_parts}
use Rattle.std.proofs.lemmas.List.{take_all}
use Rattle.std.proofs.lemmas.Option.{none-some, same_Some}
use Rattle.nb_retry.specs.declared.retry.Due.TheVariants.{Over}
use Rattle.nb_terms.specs.declared.acts.Acts.{Acts}
use Rattle.nb_terms.specs.declared.cause.Cause.{Cause}
use Rattle.nb_reasm.specs.declared.held.Held.{Held}
use Rattle.nb_reasm.specs.HeldWindows.{window}
use Rattle.nb_streams.specs.Segments.{Arrival}
use Rattle.nb_streams.specs.Streams.{front, has_ended, IsPrefixOf}
use Rattle.nb_streams.specs.Flows.{TcpCall, segment_came, time_came, text_came, Flow, ConnPhase, asking, flowing, conn_phase, after_tcp_call, held_in, held_after, is_taken, window_bytes, is_past, has_other_stop, answers_syn, going_on, is_sending}
use Rattle.nb_streams.specs.Sending.{is_reset}
use Rattle.nb_streams.specs.Trying.{timer_after, fired, PlanIsOver, due_fired}
use Rattle.nb_streams.specs.Endings.{end_cause, plan_tries, ConnEnds, by_syn_refusal, by_reset, by_length, by_second_stop, by_no_answer, taken_end, segment_end}
use Rattle.nb_streams.specs.Carrying.{AreFrom}
use Rattle.nb_streams.proofs.StreamLaws.{either}
use Rattle.nb_streams.proofs.EndLaws.{end_by_segment}
use Rattle.nb_streams.proofs.FlowLaws.{front_grows}
use Rattle.nb_streams.proofs.HonestLaws.{front_of_pieces, whole_of_pieces}
use Rattle.nb_tcp.specs.declared.link.Link.{Link}
use Rattle.nb_tcp.specs.declared.conn.Conn.{Conn}
use Rattle.nb_tcp.specs.Numbers.{upto_stop}
use Rattle.nb_tcp.specs.ConnHistory.{ConnCall, calls_in, lends_out, comes_back, closes_from_above, ConnEntry, conn_entry, tcp_calls_of, tcp_calls, delivered_by, delivered, is_waiting_after, is_lent_after, due_said, EachConnEntry}
use Rattle.nb_tcp.specs.ConnPromises.{due_asks, IsAskedSo, AsksAsPromised, ConnKeeps}
use Rattle.nb_tcp.specs.ConnStanding.{IsDelivered, HoldsRest, ConnStands}
use Rattle.nb_tcp.proofs.ConnHistoryLemmas.{calls-append, delivered-append, phase-append}
use Rattle.nb_tcp.proofs.SegmentStandsLemmas.{nothing_waits}

prefix_same : (xs ys zs : List ℕ) → xs ≡ ys → ys ≡ zs → IsPrefixOf xs zs
prefix_same xs ys zs e f = ([], sym f ∙ sym e ∙ sym (append-nil xs))

prefix_on : (xs ys zs : List ℕ) → IsPrefixOf xs ys → IsPrefixOf ys zs → IsPrefixOf xs zs
prefix_on xs ys zs a b = (a.0 ++ b.0, b.1 ∙ ap (λ l. l ++ b.0) a.1 ∙ append_assoc xs a.0 b.0)

-- one call more
prefix_step : (l : Link) (start : ℕ) (h : List ConnEntry) (e : ConnEntry) → AsksAsPromised l start h e → IsPrefixOf (delivered h) (front (held_after l.isn (tcp_calls h)))
    → IsPrefixOf (delivered (h ++ e ∷ [])) (front (held_after l.isn (tcp_calls (h ++ e ∷ []))))
prefix_step l start h e asks was =
    subst (λ xs. IsPrefixOf xs (front (held_after l.isn (tcp_calls (h ++ e ∷ []))))) (sym (delivered-append h e))
    (subst (λ cs. IsPrefixOf (delivered h ++ delivered_by e.call) (front (held_after l.isn cs))) (sym (calls-append h e)) (by_call e.call asks))
  where
    by_call : (c : ConnCall) → IsAskedSo l start h e c → IsPrefixOf (delivered h ++ delivered_by c) (front (held_after l.isn (tcp_calls h ++ tcp_calls_of c)))
    by_call (calls_in x) k = subst (λ xs. IsPrefixOf xs (front (held_after l.isn (tcp_calls h ++ x ∷ [])))) (sym (append-nil (delivered h))) (prefix_on (delivered h) (front (held_after l.isn (tcp_calls h))) (front (held_after l.isn (tcp_calls h ++ x ∷ []))) was (front_grows l.isn (tcp_calls h) (x ∷ [])))
    by_call (lends_out bytes) k = prefix_same (delivered h ++ bytes) (front (held_after l.isn (tcp_calls h))) (front (held_after l.isn (tcp_calls h ++ []))) k (ap (λ cs. front (held_after l.isn cs)) (sym (append-nil (tcp_calls h))))
    by_call comes_back k = subst (λ xs. IsPrefixOf xs (front (held_after l.isn (tcp_calls h ++ [])))) (sym (append-nil (delivered h))) (subst (λ cs. IsPrefixOf (delivered h) (front (held_after l.isn cs))) (sym (append-nil (tcp_calls h))) was)
    by_call closes_from_above k = subst (λ xs. IsPrefixOf xs (front (held_after l.isn (tcp_calls h ++ [])))) (sym (append-nil (delivered h))) (subst (λ cs. IsPrefixOf (delivered h) (front (held_after l.isn cs))) (sym (append-nil (tcp_calls h))) was)

prefix_steps : (l : Link) (start : ℕ) (h es : List ConnEntry) → EachConnEntry (AsksAsPromised l start) h es → IsPrefixOf (delivered h) (front (held_after l.isn (tcp_calls h)))
    → IsPrefixOf (delivered (h ++ es)) (front (held_after l.isn (tcp_calls (h ++ es))))
prefix_steps l start h [] each was = subst (λ k. IsPrefixOf (delivered k) (front (held_after l.isn (tcp_calls k)))) (sym (append-nil h)) was
prefix_steps l start h (e ∷ es) each was =
    subst (λ k. IsPrefixOf (delivered k) (front (held_after l.isn (tcp_calls k)))) (append_assoc h (e ∷ []) es)
    (prefix_steps l start (h ++ e ∷ []) es each.1 (prefix_step l start h e each.0 was))

-- what was delivered is a prefix of what has come
pub up_is_front : (l : Link) (start : ℕ) (h : List ConnEntry) → ConnKeeps l start h → IsPrefixOf (delivered h) (front (held_after l.isn (tcp_calls h)))
up_is_front l start h keeps = prefix_steps l start [] h keeps.each (front (held_after l.isn []), refl)

-- and so of the stream whose pieces came
pub up_is_streams : (l : Link) (start : ℕ) (h : List ConnEntry) (xs : List ℕ) → ConnKeeps l start h → length xs < 2 ^ 31 - 1 → AreFrom xs l.isn (asking []) (tcp_calls h) → IsPrefixOf (delivered h) xs
up_is_streams l start h xs keeps short from = prefix_on (delivered h) (front (held_after l.isn (tcp_calls h))) xs (up_is_front l start h keeps) (front_of_pieces xs l.isn (tcp_calls h) short from)

upto_most : (stop : Option ℕ) (k : ℕ) → upto_stop stop k ≤ k
upto_most None k = omega arith
upto_most (Some stop) k = omega arith

-- where nothing waits, all that has come was delivered
pub all_went_up : (l : Link) (start : ℕ) (c : Conn) (h : List ConnEntry) → ConnStands l start c h → is_waiting_after h ≡ false → delivered h ≡ front (held_after l.isn (tcp_calls h))
all_went_up l start c h was waits = either (is_lent_after h) (λ t. by_lent c.held was.held t) (λ f. by_held c.held was.held (nothing_waits l start c h was f waits))
  where
    by_lent : (o : Option Held) → HoldsRest o (held_after l.isn (tcp_calls h)) (delivered h) (is_lent_after h) → is_lent_after h ≡ true → delivered h ≡ front (held_after l.isn (tcp_calls h))
    by_lent None k t = k.1
    by_lent (Some w) k t = absurd (false≢true (sym k.0 ∙ t))

    by_held : (o : Option Held) → HoldsRest o (held_after l.isn (tcp_calls h)) (delivered h) (is_lent_after h) → IsDelivered o → delivered h ≡ front (held_after l.isn (tcp_calls h))
    by_held None k here = absurd here
    by_held (Some w) k here = k.2 ∙ take_all (window w).base (front (held_after l.isn (tcp_calls h))) (omega (arith, here, k.1.next, upto_most (held_after l.isn (tcp_calls h)).stop (window w).next))

-- at the stream's end all of it was delivered
pub all_at_the_end : (l : Link) (start : ℕ) (c : Conn) (h : List ConnEntry) (xs : List ℕ) → ConnStands l start c h → is_waiting_after h ≡ false → length xs < 2 ^ 31 - 1 → AreFrom xs l.isn (asking []) (tcp_calls h)
    → has_ended (held_after l.isn (tcp_calls h)) ≡ true → delivered h ≡ xs
all_at_the_end l start c h xs was waits short from ended = all_went_up l start c h was waits ∙ whole_of_pieces xs l.isn (tcp_calls h) short from ended

-- the last call
pub each_last : (P : List ConnEntry → ConnEntry → Type 0) (before es : List ConnEntry) (e : ConnEntry) → EachConnEntry P before (es ++ e ∷ []) → P (before ++ es) e
each_last P before [] e each = subst (λ h. P h e) (sym (append-nil before)) each.0
each_last P before (x ∷ es) e each = subst (λ h. P h e) (append_assoc before (x ∷ []) es) (each_last P (before ++ x ∷ []) es e each.1)

-- each end has its cause
pub end_is_so : (l : Link) (start : ℕ) (h : List ConnEntry) (c : TcpCall) (acts : Acts) (cause : Cause) → ConnKeeps l start (h ++ conn_entry (calls_in c) acts ∷ []) → acts.over ≡ Some cause → ConnEnds l.isn start (tcp_calls h) c cause
end_is_so l start h c acts cause keeps over = by_call c (each_last (AsksAsPromised l start) [] h (conn_entry (calls_in c) acts) keeps.each)
  where
    by_call : (x : TcpCall) → IsAskedSo l start h (conn_entry (calls_in c) acts) (calls_in x) → ConnEnds l.isn start (tcp_calls h) x cause
    by_call (segment_came m now) k = end_by_segment l.isn start (tcp_calls h) (conn_phase l.isn (tcp_calls h)) m now cause refl (sym (ap (λ (a : Acts). a.over) k.0) ∙ over)
    by_call (text_came bytes now) k = absurd (none-some cause (sym (ap (λ (a : Acts). a.over) k.0) ∙ over))
    by_call (time_came now) k =
        let said : due_said acts ≡ Over = rw over refl in
        let asked : acts ≡ due_asks l (conn_phase l.isn (tcp_calls h)) (is_waiting_after h) (timer_after l.isn start (tcp_calls h)).plan Over = k.0 ∙ ap (λ d. due_asks l (conn_phase l.isn (tcp_calls h)) (is_waiting_after h) (timer_after l.isn start (tcp_calls h)).plan d) said in
        let plan : PlanIsOver (timer_after l.isn start (tcp_calls h ++ time_came now ∷ [])) now = record { earlier = fired (timer_after l.isn start (tcp_calls h)); last = k.1 ∙ ap (λ d. fired (timer_after l.isn start (tcp_calls h)) ++ due_fired now d) said } in
        subst (λ x. ConnEnds l.isn start (tcp_calls h) (time_came now) x) (same_Some (end_cause 2 (plan_tries (timer_after l.isn start (tcp_calls h)).plan) 0) cause (sym (ap (λ (a : Acts). a.over) asked) ∙ over)) (by_no_answer now plan)

-- what has come stays through times, texts and closes
pub held_stays : (l : Link) (h : List ConnEntry) (c : ConnCall) (acts : Acts) → ((m : Arrival) (now : ℕ) → c ≡ calls_in (segment_came m now) → ⊥) → held_after l.isn (tcp_calls (h ++ conn_entry c acts ∷ [])) ≡ held_after l.isn (tcp_calls h)
held_stays l h c acts other = ap (λ cs. held_after l.isn cs) (calls-append h (conn_entry c acts)) ∙ by_call c other
  where
    going_held : (f : Flow) → (going_on false f).held ≡ f.held
    going_held f = either (is_sending false f) (λ t. rw t refl) (λ g. rw g refl)

    text_held : (p : ConnPhase) (bytes : List ℕ) (now : ℕ) → held_in (after_tcp_call l.isn p (text_came bytes now)) ≡ held_in p
    text_held (asking text) bytes now = refl
    text_held (flowing f) bytes now = going_held (record f { text = f.text ++ bytes })

    none_more : held_after l.isn (tcp_calls h ++ []) ≡ held_after l.isn (tcp_calls h)
    none_more = ap (λ cs. held_after l.isn cs) (append-nil (tcp_calls h))

    by_call : (x : ConnCall) → ((m : Arrival) (now : ℕ) → x ≡ calls_in (segment_came m now) → ⊥) → held_after l.isn (tcp_calls h ++ tcp_calls_of x) ≡ held_after l.isn (tcp_calls h)
    by_call (calls_in (segment_came m now)) apart = absurd (apart m now refl)
    by_call (calls_in (time_came now)) apart = ap held_in (phase-append l.isn (tcp_calls h) (time_came now))
    by_call (calls_in (text_came bytes now)) apart = ap held_in (phase-append l.isn (tcp_calls h) (text_came bytes now)) ∙ text_held (conn_phase l.isn (tcp_calls h)) bytes now
    by_call (lends_out bytes) apart = none_more
    by_call comes_back apart = none_more
    by_call closes_from_above apart = none_more
