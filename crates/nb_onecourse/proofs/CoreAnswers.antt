-- The promises of each core leave it one answer to the last of its calls.
use Rattle.std.proofs.Common.{◌≡◌, ℕ, inl, inr, List, [], ◌∷◌, ◌++◌, filter, map, sym, ◌∙◌, ap, subst, append_assoc, append-nil}
use Rattle.std.proofs.lemmas.List.{append_cancel_left, map-append}
use Rattle.std.proofs.lemmas.List.Elements.{filter-append}
use Rattle.nb_terms.specs.declared.acts.Acts.{Acts}
use Rattle.nb_retry.specs.declared.plan.Plan.TheVariants.{Common, Dhcp}
use Rattle.nb_retry.specs.Plans.{Asked, asked_at, firings, waits}
use Rattle.nb_retry.specs.Calls.{fires}
use Rattle.nb_tftp.specs.Asks.{Begun, due_acts}
use Rattle.nb_tftp.specs.History.{Call, came, ticked, Entry, entry, got, watched, due_of, EachEntry}
use Rattle.nb_tftp.specs.Received.{fixed_port}
use Rattle.nb_tftp.specs.Blocks.{count}
use Rattle.nb_tftp.specs.Sentences.{Meets, AsksSo}
use Rattle.nb_tftp.proofs.HistoryLemmas.{watched-append}
use Rattle.nb_dns.specs.Lookups.{Lookup, asks_lookup_end, asks_by, lookup_cause}
use Rattle.nb_dns.specs.LookupCalls.{DnsDatagram, LookupCall, arrived, clocked, LookupEntry, lookup_entry, datagrams, lookup_times, said_by}
use Rattle.nb_dns.specs.LookupPromises.{AsksAt, AsksInTurn, LookupMeets}
use Rattle.nb_dns.proofs.CallsLemmas.{lookup_times-append, each-last, reply_one}
use Rattle.nb_dhcp.specs.declared.asker.Asker.{Asker}
use Rattle.nb_dhcp.specs.History.{LeaseCall, replied, elapsed, LeaseEntry, lease_entry, all_handed, taken_offer, timer_said, LeaseWatch, lease_watch}
use Rattle.nb_dhcp.specs.Acting.{timer_acts}
use Rattle.nb_dhcp.specs.Promises.{ActsSo, TriesInPlan, LeasePromises}
use Rattle.nb_dhcp.proofs.LeaseHistoryLemmas.{lease_watch-append, AtEach-at}
use Rattle.nb_ping.specs.Pings.{Pinged, ping_asks}
use Rattle.nb_ping.specs.PingCalls.{PingCall, echoed, waited, PingEntry, ping_entry, ping_times, ping_said}
use Rattle.nb_ping.specs.PingPromises.{PingAsksInTurn, PingMeets}
use Rattle.nb_ping.proofs.PingCallsLemmas.{ping_times-append, each-last as each_ping_last}
use Rattle.nb_onecourse.proofs.Dues.{last_said, last_one}

-- a fact of the last entry
pub each_last : (P : List Entry → Entry → Type 0) (before es : List Entry) (e : Entry) → EachEntry P before (es ++ e ∷ []) → P (before ++ es) e
each_last P before [] e h = subst (λ z. P z e) (sym (append-nil before)) h.0
each_last P before (x ∷ es) e h = subst (λ z. P z e) (append_assoc before (x ∷ []) es) (each_last P (before ++ x ∷ []) es e h.1)

-- the firings of a watch whose last time was said so
fired : (b : Begun) (began now : ℕ) (es : List Entry) (a : Acts) → Meets b began (es ++ entry (ticked now) a ∷ []) →
    filter (λ call. fires call.said) (watched began es).times ++ filter (λ call. fires call.said) (asked_at now (due_of a) ∷ [])
    ≡ firings (watched began es).since (waits Common) (map (λ call. call.at) (watched began es).times ++ now ∷ [])
fired b began now es a m =
    let w = watched-append began es (entry (ticked now) a) in
    let t = rw w at m.tries in
    sym (filter-append (λ call. fires call.said) (watched began es).times (asked_at now (due_of a) ∷ [])) ∙ t
    ∙ ap (firings (watched began es).since (waits Common)) (map-append (λ call. call.at) (watched began es).times (asked_at now (due_of a) ∷ []))

-- the promises of a transfer leave it one answer
pub one_answer : (b : Begun) (began : ℕ) (es : List Entry) (call : Call) (a c : Acts) → Meets b began (es ++ entry call a ∷ []) → Meets b began (es ++ entry call c ∷ []) → a ≡ c
one_answer b began es (came m now) a c p q =
    each_last (AsksSo b) [] es (entry (came m now) a) p.sending ∙ sym (each_last (AsksSo b) [] es (entry (came m now) c) q.sending)
one_answer b began es (ticked now) a c p q =
    let due = last_said now (due_of a) (due_of c) (append_cancel_left (filter (λ call. fires call.said) (watched began es).times) _ _ (fired b began now es a p ∙ sym (fired b began now es c q))) in
    each_last (AsksSo b) [] es (entry (ticked now) a) p.sending
    ∙ ap (due_acts b (fixed_port (got es)) (count (got es))) due
    ∙ sym (each_last (AsksSo b) [] es (entry (ticked now) c) q.sending)

-- a datagram of a name server
pub arrived_one : (l : Lookup) (before : List DnsDatagram) (m : DnsDatagram) (now : ℕ) (a c : Acts) → AsksAt l before (arrived m now) a → AsksAt l before (arrived m now) c → a ≡ c
arrived_one l before m now a c (inl x) (inl y) = x.ends ∙ ap (λ z. asks_lookup_end (lookup_cause m.rec z)) (reply_one l m x.answer y.answer x.replies y.replies) ∙ sym y.ends
arrived_one l before m now a c (inl x) (inr (none, nothing)) = absurd (none x.answer x.replies)
arrived_one l before m now a c (inr (none, nothing)) (inl y) = absurd (none y.answer y.replies)
arrived_one l before m now a c (inr (none, nothing)) (inr (none', nothing')) = nothing ∙ sym nothing'

pub look_up_one : (l : Lookup) (start : ℕ) (h : List LookupEntry) (call : LookupCall) (a c : Acts) → LookupMeets l start (h ++ lookup_entry call a ∷ []) → LookupMeets l start (h ++ lookup_entry call c ∷ []) → a ≡ c
look_up_one l start h (arrived m now) a c p q =
    arrived_one l (datagrams h) m now a c (each-last (AsksInTurn l) [] h (lookup_entry (arrived m now) a) p.asking) (each-last (AsksInTurn l) [] h (lookup_entry (arrived m now) c) q.asking)
look_up_one l start h (clocked now) a c p q =
    let said : said_by a ≡ said_by c = last_one (waits Common) start now (lookup_times h) (said_by a) (said_by c) (tries a p) (tries c q) in
    let x = each-last (AsksInTurn l) [] h (lookup_entry (clocked now) a) p.asking in
    let y = each-last (AsksInTurn l) [] h (lookup_entry (clocked now) c) q.asking in
    x.0 ∙ ap (asks_by l) said ∙ sym y.0
  where
    tries : (z : Acts) → LookupMeets l start (h ++ lookup_entry (clocked now) z ∷ []) →
        filter (λ (call : Asked). fires call.said) (lookup_times h ++ asked_at now (said_by z) ∷ []) ≡ firings start (waits Common) (map (λ (call : Asked). call.at) (lookup_times h ++ asked_at now (said_by z) ∷ []))
    tries z meets = subst (λ ts. filter (λ (call : Asked). fires call.said) ts ≡ firings start (waits Common) (map (λ (call : Asked). call.at) ts)) (lookup_times-append h (lookup_entry (clocked now) z)) meets.tries

pub lease_one : (b : Asker) (start : ℕ) (h : List LeaseEntry) (call : LeaseCall) (a c : Acts) → LeasePromises b start (h ++ lease_entry call a ∷ []) → LeasePromises b start (h ++ lease_entry call c ∷ []) → a ≡ c
lease_one b start h (replied m now) a c p q =
    AtEach-at (ActsSo b) [] h (lease_entry (replied m now) a) [] p.sending ∙ sym (AtEach-at (ActsSo b) [] h (lease_entry (replied m now) c) [] q.sending)
lease_one b start h (elapsed now) a c p q =
    let w = lease_watch start h in
    let said : timer_said a ≡ timer_said c = last_one (waits Dhcp) w.since now w.times (timer_said a) (timer_said c) (tries a p) (tries c q) in
    AtEach-at (ActsSo b) [] h (lease_entry (elapsed now) a) [] p.sending ∙ ap (timer_acts b (taken_offer b (all_handed h))) said
    ∙ sym (AtEach-at (ActsSo b) [] h (lease_entry (elapsed now) c) [] q.sending)
  where
    tries : (z : Acts) → LeasePromises b start (h ++ lease_entry (elapsed now) z ∷ []) →
        filter (λ (call : Asked). fires call.said) ((lease_watch start h).times ++ asked_at now (timer_said z) ∷ [])
        ≡ firings (lease_watch start h).since (waits Dhcp) (map (λ (call : Asked). call.at) ((lease_watch start h).times ++ asked_at now (timer_said z) ∷ []))
    tries z meets =
        subst (λ (v : LeaseWatch). filter (λ (call : Asked). fires call.said) v.times ≡ firings v.since (waits Dhcp) (map (λ (call : Asked). call.at) v.times)) (lease_watch-append start h (lease_entry (elapsed now) z))
        (AtEach-at (TriesInPlan start) [] h (lease_entry (elapsed now) z) [] meets.tries)

pub ping_one : (b : Pinged) (start : ℕ) (h : List PingEntry) (call : PingCall) (a c : Acts) → PingMeets b start (h ++ ping_entry call a ∷ []) → PingMeets b start (h ++ ping_entry call c ∷ []) → a ≡ c
ping_one b start h (echoed r now) a c p q =
    each_ping_last (PingAsksInTurn b) [] h (ping_entry (echoed r now) a) p.asking ∙ sym (each_ping_last (PingAsksInTurn b) [] h (ping_entry (echoed r now) c) q.asking)
ping_one b start h (waited now) a c p q =
    let said : ping_said a ≡ ping_said c = last_one (waits Common) start now (ping_times h) (ping_said a) (ping_said c) (tries a p) (tries c q) in
    let x = each_ping_last (PingAsksInTurn b) [] h (ping_entry (waited now) a) p.asking in
    let y = each_ping_last (PingAsksInTurn b) [] h (ping_entry (waited now) c) q.asking in
    x.0 ∙ ap (ping_asks b) said ∙ sym y.0
  where
    tries : (z : Acts) → PingMeets b start (h ++ ping_entry (waited now) z ∷ []) →
        filter (λ (call : Asked). fires call.said) (ping_times h ++ asked_at now (ping_said z) ∷ []) ≡ firings start (waits Common) (map (λ (call : Asked). call.at) (ping_times h ++ asked_at now (ping_said z) ∷ []))
    tries z meets = subst (λ ts. filter (λ (call : Asked). fires call.said) ts ≡ firings start (waits Common) (map (λ (call : Asked). call.at) ts)) (ping_times-append h (ping_entry (waited now) z)) meets.tries
