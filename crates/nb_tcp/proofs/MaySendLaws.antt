-- All that a connection sends, it may send.
use Rattle.std.proofs.Common.{◌≡◌, ◌≤◌, ◌<◌, ℕ, ◌+◌, ◌-◌, ◌==◌, ◌&&◌, List, [], ◌∷◌, ◌++◌, length, take, drop, map, min, max, Option, Bool, true, false, refl, sym, subst, arith, ltb, append-nil}
use Rattle.std.specs.List.{AllByRecursion}
use Rattle.std.proofs.lemmas.Bool.{and_parts, ltb-true, ltb-false}
use Rattle.std.proofs.lemmas.List.{length-take, length-drop, take-append-drop}
use Rattle.nb_retry.specs.declared.plan.Plan.{Plan}
use Rattle.nb_retry.specs.declared.retry.Due.{Due}
use Rattle.nb_retry.specs.declared.retry.Due.TheVariants.{Not, Again, Over}
use Rattle.nb_terms.specs.declared.acts.Acts.{Acts}
use Rattle.nb_streams.specs.Flows.{TcpCall, segment_came, time_came, text_came, Flow, ConnPhase, asking, flowing, conn_phase, after_tcp_call, is_sending, going_on, sends_next, size}
use Rattle.nb_streams.specs.Sending.{Outgoing, MaySend, by_asking, by_text, by_probe, by_closing_early, by_closing, by_closing_behind, text_segment, tried_again, calls_for, has_stop, with_first_try, only_if, closing_segment, text_calls_for}
use Rattle.nb_streams.specs.Trying.{timer_after}
use Rattle.nb_streams.proofs.StreamLaws.{either}
use Rattle.nb_streams.proofs.OtherSendLaws.{again_may, closing_may, text_may_be_sent}
use Rattle.nb_streams.proofs.SendLaws.{IsPhase, all_in_order, all_may_be_sent}
use Rattle.nb_tcp.specs.declared.link.Link.{Link}
use Rattle.nb_tcp.specs.Messages.{outgoing_message}
use Rattle.nb_tcp.specs.ConnHistory.{ConnCall, calls_in, lends_out, comes_back, closes_from_above, ConnEntry, tcp_calls_of, tcp_calls, is_waiting_after, due_said}
use Rattle.nb_tcp.specs.ConnPromises.{due_asks, IsAskedSo, AsksAsPromised, ConnKeeps}
use Rattle.nb_tcp.specs.MayBeSent.{MayBeSent}
use Rattle.nb_tcp.proofs.ConnHistoryLemmas.{phase-append}
use Rattle.nb_tcp.proofs.ConnLaws.{each_last}

may_all : (l : Link) (cs : List TcpCall) (xs : List (Outgoing × Option ℕ)) → AllByRecursion (λ s. MaySend l.isn cs s.0) xs → AllByRecursion (MayBeSent l cs) (map (λ s. outgoing_message l s.0) xs)
may_all l cs [] all = tt
may_all l cs (x ∷ xs) all = (record { outgoing = x.0; is = refl; may = all.0 }, may_all l cs xs all.1)

may_one : (l : Link) (cs : List TcpCall) (o : Outgoing) → MaySend l.isn cs o → AllByRecursion (MayBeSent l cs) (outgoing_message l o ∷ [])
may_one l cs o may = (record { outgoing = o; is = refl; may = may }, tt)

due_may : (l : Link) (cs : List TcpCall) (p : ConnPhase) (w : Bool) (plan : Plan) (d : Due) → IsPhase p → conn_phase l.isn cs ≡ p → AllByRecursion (MayBeSent l cs) (due_asks l p w plan d).sends.items
due_may l cs p w plan Not is e = tt
due_may l cs p w plan (Again n) is e = may_one l cs (tried_again l.isn p) (again_may l.isn cs p is e)
due_may l cs p w plan Over is e = tt

-- each message of the last call may be sent
pub sends_may : (l : Link) (start : ℕ) (h : List ConnEntry) (e : ConnEntry) → ConnKeeps l start (h ++ e ∷ []) → (e.call ≡ comes_back → ⊥) → ((bytes : List ℕ) → e.call ≡ lends_out bytes → ⊥)
    → AllByRecursion (MayBeSent l (tcp_calls h ++ tcp_calls_of e.call)) e.acts.sends.items
sends_may l start h e keeps not_back not_lent = by_call e.call refl (each_last (AsksAsPromised l start) [] h e keeps.each)
  where
    by_call : (c : ConnCall) → e.call ≡ c → IsAskedSo l start h e c → AllByRecursion (MayBeSent l (tcp_calls h ++ tcp_calls_of c)) e.acts.sends.items
    by_call (calls_in (segment_came m now)) is k = subst (λ (a : Acts). AllByRecursion (MayBeSent l (tcp_calls h ++ segment_came m now ∷ [])) a.sends.items) (sym k.0)
        (may_all l (tcp_calls h ++ segment_came m now ∷ []) (calls_for l.isn (conn_phase l.isn (tcp_calls h)) m.segment) (all_may_be_sent l.isn (tcp_calls h) m now))
    by_call (calls_in (time_came now)) is k = subst (λ (a : Acts). AllByRecursion (MayBeSent l (tcp_calls h ++ time_came now ∷ [])) a.sends.items) (sym k.0)
        (due_may l (tcp_calls h ++ time_came now ∷ []) (conn_phase l.isn (tcp_calls h)) (is_waiting_after h) (timer_after l.isn start (tcp_calls h)).plan (due_said e.acts) (all_in_order l.isn (tcp_calls h)) (phase-append l.isn (tcp_calls h) (time_came now)))
    by_call (calls_in (text_came bytes now)) is k = subst (λ (a : Acts). AllByRecursion (MayBeSent l (tcp_calls h ++ text_came bytes now ∷ [])) a.sends.items) (sym k.0)
        (may_all l (tcp_calls h ++ text_came bytes now ∷ []) (text_calls_for (conn_phase l.isn (tcp_calls h)) bytes) (text_may_be_sent l.isn (tcp_calls h) bytes now))
    by_call (lends_out bytes) is k = absurd (not_lent bytes is)
    by_call comes_back is k = absurd (not_back is)
    by_call closes_from_above is k = subst (λ (a : Acts). AllByRecursion (MayBeSent l (tcp_calls h ++ [])) a.sends.items) (sym k)
        (subst (λ cs. AllByRecursion (MayBeSent l cs) (outgoing_message l (closing_segment l.isn (conn_phase l.isn (tcp_calls h))) ∷ [])) (sym (append-nil (tcp_calls h)))
        (may_one l (tcp_calls h) (closing_segment l.isn (conn_phase l.isn (tcp_calls h))) (closing_may l.isn (tcp_calls h) (conn_phase l.isn (tcp_calls h)) refl)))
