-- Laws of what a ping promises.
use Rattle.std.proofs.Common.{◌≡◌, ℕ, List, [], ◌∷◌, ◌++◌, Option, Some, None, Bool, true, false, cond, ◌||◌, ◌&&◌, ◌⊎◌, inl, inr, refl, ap, ◌∙◌, sym, subst, eqb}
use Rattle.std.specs.Prelude.{filter}
use Rattle.std.specs.Option.{option_map_or, is_some}
use Rattle.std.proofs.lemmas.Bool.{eqb-true, false≢true}
use Rattle.std.proofs.lemmas.List.Elements.{filter-append}
use Rattle.std.proofs.lemmas.Option.{none-some, same_Some}
use Rattle.nb_retry.specs.declared.retry.Due.{Due}
use Rattle.nb_retry.specs.declared.retry.Due.TheVariants.{Not, Again, Over}
use Rattle.nb_retry.specs.Calls.{fires}
use Rattle.nb_retry.specs.Plans.{Asked, asked_at}
use Rattle.nb_terms.specs.declared.acts.Acts.{Acts}
use Rattle.nb_terms.specs.declared.cause.Cause.{Cause}
use Rattle.nb_wire.specs.declared.address.Ip4.{Ip4}
use Rattle.nb_ping.specs.Pings.{Pinged, echo_request, asks_nothing, asks_end, ping_ok, ping_timed_out, ping_asks}
use Rattle.nb_ping.specs.PingCalls.{EchoReply, PingCall, echoed, waited, PingEntry, ping_entry, echo_replies, ping_times, ping_said, ping_ended, EachPingEntry, answers_ping, is_answered}
use Rattle.nb_ping.specs.PingPromises.{PingMeets, PingAsksAt, PingAsksInTurn}
use Rattle.nb_ping.specs.PingEndings.{PingFires, PingEnding, by_echo, by_no_echo}
use Rattle.nb_ping.proofs.PingCallsLemmas.{ping_times-append, each-last}

-- what the last call asks, by the promises
last_asks : (p : Pinged) (start : ℕ) (h : List PingEntry) (e : PingEntry) → PingMeets p start (h ++ e ∷ []) → PingAsksInTurn p h e
last_asks p start h e meets = each-last (PingAsksInTurn p) [] h e meets.asking

-- a timer's answer that fires is the plan's last firing so far
fires_last : (p : Pinged) (start : ℕ) (h : List PingEntry) (now : ℕ) (acts : Acts) (due : Due) → PingMeets p start (h ++ ping_entry (waited now) acts ∷ []) → ping_said acts ≡ due → fires due ≡ true
    → PingFires start (h ++ ping_entry (waited now) acts ∷ []) now due
fires_last p start h now acts due meets said is = record {
  earlier = filter (λ (call : Asked). fires call.said) (ping_times h);
  last = sym meets.tries
      ∙ ap (λ (x : List Asked). filter (λ call. fires call.said) x) (ping_times-append h (ping_entry (waited now) acts) ∙ ap (λ d. ping_times h ++ asked_at now d ∷ []) said)
      ∙ filter-append (λ (call : Asked). fires call.said) (ping_times h) (asked_at now due ∷ [])
      ∙ ap (λ b. filter (λ (call : Asked). fires call.said) (ping_times h) ++ cond b (asked_at now due ∷ []) []) is;
}

and_both : (a b : Bool) → (a && b) ≡ true → (a ≡ true) × (b ≡ true)
and_both true b h = (refl, h)
and_both false b h = absurd (false≢true h)

same_host : (a b : Ip4) → eqb a.0 b.0 ≡ true → a ≡ b
same_host a b h = ap (λ n. record { 0 = n }) (eqb-true a.0 b.0 h)

due_ends : (p : Pinged) (due : Due) (cause : Cause) → (ping_asks p due).over ≡ Some cause → (due ≡ Over) × (cause ≡ ping_timed_out)
due_ends p Not cause is = absurd (none-some cause is)
due_ends p (Again n) cause is = absurd (none-some cause is)
due_ends p Over cause is = (refl, sym (same_Some ping_timed_out cause is))

abbrev echo_over_by : Bool → Option Cause
echo_over_by b = (cond b (asks_end ping_ok) asks_nothing).over

echo_ends : (p : Pinged) (start : ℕ) (h : List PingEntry) (r : EchoReply) (now : ℕ) (acts : Acts) (cause : Cause) (b : Bool) → answers_ping p r ≡ b → echo_over_by b ≡ Some cause → PingEnding p start h (ping_entry (echoed r now) acts) cause
echo_ends p start h r now acts cause true is ends =
    let both = and_both (eqb r.src.0 p.host.0) (eqb r.ident p.ident) is in
    by_echo r now refl (same_host r.src p.host both.0) (eqb-true r.ident p.ident both.1) (sym (same_Some ping_ok cause ends))
echo_ends p start h r now acts cause false is ends = absurd (none-some cause ends)

call_ends : (p : Pinged) (start : ℕ) (h : List PingEntry) (call : PingCall) (acts : Acts) (cause : Cause) → PingMeets p start (h ++ ping_entry call acts ∷ []) → PingAsksAt p (echo_replies h) call acts → acts.over ≡ Some cause
    → PingEnding p start h (ping_entry call acts) cause
call_ends p start h (echoed r now) acts cause meets asks over =
    echo_ends p start h r now acts cause (answers_ping p r) refl (sym (ap (λ (x : Acts). x.over) asks) ∙ over)
call_ends p start h (waited now) acts cause meets (asks, silent) over =
    let ends = due_ends p (ping_said acts) cause (sym (ap (λ (x : Acts). x.over) asks) ∙ over) in
    by_no_echo now refl silent (fires_last p start h now acts Over meets ends.0 refl) ends.1

pub cause_stands : (p : Pinged) (start : ℕ) (h : List PingEntry) (e : PingEntry) (cause : Cause) → PingMeets p start (h ++ e ∷ []) → e.acts.over ≡ Some cause → PingEnding p start h e cause
cause_stands p start h e cause meets over = call_ends p start h e.call e.acts cause meets (last_asks p start h e meets) over

pub tried_silent : (p : Pinged) (start : ℕ) (h : List PingEntry) (now n : ℕ) (acts : Acts) → PingMeets p start (h ++ ping_entry (waited now) acts ∷ []) → acts.tried ≡ Some n → is_answered p (echo_replies h) ≡ false
tried_silent p start h now n acts meets tried = (last_asks p start h (ping_entry (waited now) acts) meets).1

pub tried_in_time : (p : Pinged) (start : ℕ) (h : List PingEntry) (now n : ℕ) (acts : Acts) → PingMeets p start (h ++ ping_entry (waited now) acts ∷ []) → acts.tried ≡ Some n → PingFires start (h ++ ping_entry (waited now) acts ∷ []) now (Again n)
tried_in_time p start h now n acts meets tried =
    fires_last p start h now acts (Again n) meets (ap (λ (o : Option ℕ). option_map_or (λ k. Again k) o (cond (is_some acts.over) Over Not)) tried) refl

abbrev echo_try_by : Bool → Option ℕ
echo_try_by b = (cond b (asks_end ping_ok) asks_nothing).tried

no_try_by : (b : Bool) (n : ℕ) → echo_try_by b ≡ Some n → ⊥
no_try_by true n h = none-some n h
no_try_by false n h = none-some n h

pub no_try_by_echo : (p : Pinged) (start : ℕ) (h : List PingEntry) (r : EchoReply) (now n : ℕ) (acts : Acts) → PingMeets p start (h ++ ping_entry (echoed r now) acts ∷ []) → acts.tried ≡ Some n → ⊥
no_try_by_echo p start h r now n acts meets tried =
    no_try_by (answers_ping p r) n (sym (ap (λ (x : Acts). x.tried) (last_asks p start h (ping_entry (echoed r now) acts) meets)) ∙ tried)

or_true : (a : Bool) → (a || true) ≡ true
or_true true = refl
or_true false = refl

abbrev EchoAsks : Pinged → EchoReply → Acts → Type 0
EchoAsks p r acts = acts ≡ cond (answers_ping p r) (asks_end ping_ok) asks_nothing

-- an answer, or one later
answered_by : (acts : Acts) (b later : Bool) (ended : Bool) → acts ≡ cond b (asks_end ping_ok) asks_nothing → (b || later) ≡ true → (later ≡ true → ended ≡ true) → (is_some acts.over || ended) ≡ true
answered_by acts true later ended asks is then = ap (λ (x : Acts). is_some x.over || ended) asks
answered_by acts false later ended asks is then = ap (λ b. is_some acts.over || b) (then is) ∙ or_true (is_some acts.over)

each_ended : (p : Pinged) (before es : List PingEntry) → EachPingEntry (PingAsksInTurn p) before es → is_answered p (echo_replies es) ≡ true → ping_ended es ≡ true
each_ended p before [] each is = absurd (false≢true is)
each_ended p before (e ∷ es) (asks, each) is = by e.call e.acts asks (each_ended p (before ++ e ∷ []) es each) is
  where
    by : (call : PingCall) (acts : Acts) → PingAsksAt p (echo_replies before) call acts → (is_answered p (echo_replies es) ≡ true → ping_ended es ≡ true) → is_answered p (echo_replies (ping_entry call acts ∷ es)) ≡ true → ping_ended (ping_entry call acts ∷ es) ≡ true
    by (waited now) acts asks later is = ap (λ b. is_some acts.over || b) (later is) ∙ or_true (is_some acts.over)
    by (echoed r now) acts asks later is = answered_by acts (answers_ping p r) (is_answered p (echo_replies es)) (ping_ended es) asks is later

pub reply_ended : (p : Pinged) (start : ℕ) (h : List PingEntry) → PingMeets p start h → is_answered p (echo_replies h) ≡ true → ping_ended h ≡ true
reply_ended p start h meets is = each_ended p [] h meets.asking is

abbrev SendsAlone : Pinged → Acts → Type 0
SendsAlone p acts = (acts.sends.items ≡ []) ⊎ (acts.sends.items ≡ echo_request p ∷ [])

due_sends : (p : Pinged) (due : Due) → SendsAlone p (ping_asks p due)
due_sends p Not = inl refl
due_sends p (Again n) = inr refl
due_sends p Over = inl refl

echo_sends : (p : Pinged) (b : Bool) → SendsAlone p (cond b (asks_end ping_ok) asks_nothing)
echo_sends p true = inl refl
echo_sends p false = inl refl

pub sends_alone : (p : Pinged) (start : ℕ) (h : List PingEntry) (call : PingCall) (acts : Acts) → PingMeets p start (h ++ ping_entry call acts ∷ []) → SendsAlone p acts
sends_alone p start h call acts meets = by call (last_asks p start h (ping_entry call acts) meets)
  where
    by : (call : PingCall) → PingAsksAt p (echo_replies h) call acts → SendsAlone p acts
    by (echoed r now) asks = subst (λ (x : Acts). SendsAlone p x) (sym asks) (echo_sends p (answers_ping p r))
    by (waited now) (asks, silent) = subst (λ (x : Acts). SendsAlone p x) (sym asks) (due_sends p (ping_said acts))
