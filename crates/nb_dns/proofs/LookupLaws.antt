-- Laws of what a look-up promises.
use Rattle.std.proofs.Common.{◌≡◌, ℕ, zero, suc, ◌<◌, List, [], ◌∷◌, ◌++◌, Option, Some, None, Bool, true, false, cond, ◌||◌, ◌⊎◌, inl, inr, refl, ap, ◌∙◌, sym, subst, arith, eqb}
use Rattle.std.specs.Prelude.{filter}
use Rattle.std.specs.Option.{option_map_or, is_some}
use Rattle.std.proofs.lemmas.Bool.{eqb-true, eqb-false}
use Rattle.std.proofs.lemmas.List.Elements.{filter-append}
use Rattle.std.proofs.lemmas.Option.{none-some, same_Some}
use Rattle.nb_retry.specs.declared.retry.Due.{Due}
use Rattle.nb_retry.specs.declared.retry.Due.TheVariants.{Not, Again, Over}
use Rattle.nb_retry.specs.Calls.{fires}
use Rattle.nb_retry.specs.Plans.{Asked, asked_at}
use Rattle.nb_terms.specs.declared.acts.Acts.{Acts}
use Rattle.nb_terms.specs.declared.cause.Cause.{Cause}
use Rattle.nb_wire.specs.declared.address.Ip4.{Ip4}
use Rattle.nb_dnsmsg.specs.declared.answer.Answer.{Answer}
use Rattle.nb_dns.specs.Lookups.{Lookup, query_to, asks_lookup_nothing, asks_by, looked_up, lookup_refused, lookup_timed_out, lookup_cause}
use Rattle.nb_dns.specs.LookupCalls.{DnsDatagram, LookupCall, arrived, clocked, LookupEntry, lookup_entry, datagrams, lookup_times, said_by, lookup_ended, EachLookupEntry, IsReplyTo, IsNoReply, IsSilentCall, FirstReply}
use Rattle.nb_dns.specs.LookupPromises.{LookupMeets, AsksAt, AsksInTurn, TakesReply}
use Rattle.nb_dns.specs.LookupEndings.{PlanFires, LookupEnding, by_address, by_code, by_no_address, by_no_reply}
use Rattle.nb_dns.proofs.CallsLemmas.{lookup_times-append, each-last}

-- what the last call asks, by the promises
last_asks : (l : Lookup) (start : ℕ) (h : List LookupEntry) (e : LookupEntry) → LookupMeets l start (h ++ e ∷ []) → AsksInTurn l h e
last_asks l start h e meets = each-last (AsksInTurn l) [] h e meets.asking

-- a timer's answer that fires is the plan's last firing so far
fires_last : (l : Lookup) (start : ℕ) (h : List LookupEntry) (now : ℕ) (acts : Acts) (due : Due) → LookupMeets l start (h ++ lookup_entry (clocked now) acts ∷ []) → said_by acts ≡ due → fires due ≡ true
    → PlanFires start (h ++ lookup_entry (clocked now) acts ∷ []) now due
fires_last l start h now acts due meets said is = record {
  earlier = filter (λ (call : Asked). fires call.said) (lookup_times h);
  last = sym meets.tries
      ∙ ap (λ (x : List Asked). filter (λ call. fires call.said) x) (lookup_times-append h (lookup_entry (clocked now) acts) ∙ ap (λ d. lookup_times h ++ asked_at now d ∷ []) said)
      ∙ filter-append (λ (call : Asked). fires call.said) (lookup_times h) (asked_at now due ∷ [])
      ∙ ap (λ b. filter (λ (call : Asked). fires call.said) (lookup_times h) ++ cond b (asked_at now due ∷ []) []) is;
}

cause_with : ℕ → ℕ → Bool → Option Ip4 → Cause
cause_with rec code b o = option_map_or (λ address. looked_up) (cond b o None) (lookup_refused rec code)

not_zero : (n : ℕ) → (n ≡ 0 → ⊥) → 0 < n
not_zero zero other = absurd (other refl)
not_zero (suc n) other = omega arith

reply_ends : (l : Lookup) (start : ℕ) (h : List LookupEntry) (m : DnsDatagram) (now : ℕ) (acts : Acts) (a : Answer) (cause : Cause) → IsReplyTo l m a → lookup_cause m.rec a ≡ cause → LookupEnding l start h (lookup_entry (arrived m now) acts) cause
unfolding cause_with
reply_ends l start h m now acts a cause is ends = by (eqb a.rcode 0) refl a.address refl ends
  where
    by : (b : Bool) → eqb a.rcode 0 ≡ b → (o : Option Ip4) → a.address ≡ o → cause_with m.rec a.rcode (eqb a.rcode 0) a.address ≡ cause → LookupEnding l start h (lookup_entry (arrived m now) acts) cause
    by true e (Some x) at ends =
        by_address m now a x refl is (eqb-true a.rcode 0 e) at (sym ends ∙ ap (λ b. cause_with m.rec a.rcode b a.address) e ∙ ap (cause_with m.rec a.rcode true) at)
    by true e None at ends =
        let none = eqb-true a.rcode 0 e in
        by_no_address m now a refl is none at (sym ends ∙ ap (λ b. cause_with m.rec a.rcode b a.address) e ∙ ap (cause_with m.rec a.rcode true) at ∙ ap (lookup_refused m.rec) none)
    by false e o at ends =
        by_code m now a refl is (not_zero a.rcode (eqb-false a.rcode 0 e)) (sym ends ∙ ap (λ b. cause_with m.rec a.rcode b a.address) e)

due_ends : (l : Lookup) (due : Due) (cause : Cause) → (asks_by l due).over ≡ Some cause → (due ≡ Over) × (cause ≡ lookup_timed_out)
due_ends l Not cause is = absurd (none-some cause is)
due_ends l (Again n) cause is = absurd (none-some cause is)
due_ends l Over cause is = (refl, sym (same_Some lookup_timed_out cause is))

call_ends : (l : Lookup) (start : ℕ) (h : List LookupEntry) (call : LookupCall) (acts : Acts) (cause : Cause) → LookupMeets l start (h ++ lookup_entry call acts ∷ []) → AsksAt l (datagrams h) call acts → acts.over ≡ Some cause
    → LookupEnding l start h (lookup_entry call acts) cause
call_ends l start h (arrived m now) acts cause meets (inl takes) over =
    reply_ends l start h m now acts takes.answer cause takes.replies (same_Some (lookup_cause m.rec takes.answer) cause (sym (ap (λ (x : Acts). x.over) takes.ends) ∙ over))
call_ends l start h (arrived m now) acts cause meets (inr (none, nothing)) over = absurd (none-some cause (sym (ap (λ (x : Acts). x.over) nothing) ∙ over))
call_ends l start h (clocked now) acts cause meets (asks, silent) over =
    let ends = due_ends l (said_by acts) cause (sym (ap (λ (x : Acts). x.over) asks) ∙ over) in
    by_no_reply now refl silent (fires_last l start h now acts Over meets ends.0 refl) ends.1

pub cause_stands : (l : Lookup) (start : ℕ) (h : List LookupEntry) (e : LookupEntry) (cause : Cause) → LookupMeets l start (h ++ e ∷ []) → e.acts.over ≡ Some cause → LookupEnding l start h e cause
cause_stands l start h e cause meets over = call_ends l start h e.call e.acts cause meets (last_asks l start h e meets) over

pub tried_silent : (l : Lookup) (start : ℕ) (h : List LookupEntry) (now n : ℕ) (acts : Acts) → LookupMeets l start (h ++ lookup_entry (clocked now) acts ∷ []) → acts.tried ≡ Some n → IsSilentCall l (datagrams h)
tried_silent l start h now n acts meets tried = (last_asks l start h (lookup_entry (clocked now) acts) meets).1

pub tried_in_time : (l : Lookup) (start : ℕ) (h : List LookupEntry) (now n : ℕ) (acts : Acts) → LookupMeets l start (h ++ lookup_entry (clocked now) acts ∷ []) → acts.tried ≡ Some n → PlanFires start (h ++ lookup_entry (clocked now) acts ∷ []) now (Again n)
tried_in_time l start h now n acts meets tried =
    fires_last l start h now acts (Again n) meets (ap (λ (o : Option ℕ). option_map_or (λ k. Again k) o (cond (is_some acts.over) Over Not)) tried) refl

pub no_try_by_datagram : (l : Lookup) (start : ℕ) (h : List LookupEntry) (m : DnsDatagram) (now n : ℕ) (acts : Acts) → LookupMeets l start (h ++ lookup_entry (arrived m now) acts ∷ []) → acts.tried ≡ Some n → ⊥
no_try_by_datagram l start h m now n acts meets tried = by (last_asks l start h (lookup_entry (arrived m now) acts) meets)
  where
    by : TakesReply l m acts ⊎ (IsNoReply l m × (acts ≡ asks_lookup_nothing)) → ⊥
    by (inl takes) = none-some n (sym (ap (λ (x : Acts). x.tried) takes.ends) ∙ tried)
    by (inr (none, nothing)) = none-some n (sym (ap (λ (x : Acts). x.tried) nothing) ∙ tried)

or_true : (a : Bool) → (a || true) ≡ true
or_true true = refl
or_true false = refl

each_ended : (l : Lookup) (before es : List LookupEntry) (a : Answer) → EachLookupEntry (AsksInTurn l) before es → FirstReply l (datagrams es) a → lookup_ended es ≡ true
each_ended l before [] a each first = absurd first
each_ended l before (e ∷ es) a (asks, each) first = by e.call e.acts asks (each_ended l (before ++ e ∷ []) es a each) first
  where
    by : (call : LookupCall) (acts : Acts) → AsksAt l (datagrams before) call acts → (FirstReply l (datagrams es) a → lookup_ended es ≡ true) → FirstReply l (datagrams (lookup_entry call acts ∷ es)) a → lookup_ended (lookup_entry call acts ∷ es) ≡ true
    by (clocked now) acts asks later first = ap (λ b. is_some acts.over || b) (later first) ∙ or_true (is_some acts.over)
    by (arrived m now) acts (inl takes) later first = ap (λ (x : Acts). is_some x.over || lookup_ended es) takes.ends
    by (arrived m now) acts (inr (none, nothing)) later (inl is) = absurd (none a is)
    by (arrived m now) acts (inr (none, nothing)) later (inr (other, first)) = ap (λ b. is_some acts.over || b) (later first) ∙ or_true (is_some acts.over)

pub reply_ended : (l : Lookup) (start : ℕ) (h : List LookupEntry) (a : Answer) → LookupMeets l start h → FirstReply l (datagrams h) a → lookup_ended h ≡ true
reply_ended l start h a meets first = each_ended l [] h a meets.asking first

due_sends : (l : Lookup) (due : Due) → ((asks_by l due).sends.items ≡ []) ⊎ ((asks_by l due).sends.items ≡ query_to l ∷ [])
due_sends l Not = inl refl
due_sends l (Again n) = inr refl
due_sends l Over = inl refl

abbrev SendsAlone : Lookup → Acts → Type 0
SendsAlone l acts = (acts.sends.items ≡ []) ⊎ (acts.sends.items ≡ query_to l ∷ [])

pub sends_alone : (l : Lookup) (start : ℕ) (h : List LookupEntry) (call : LookupCall) (acts : Acts) → LookupMeets l start (h ++ lookup_entry call acts ∷ []) → SendsAlone l acts
sends_alone l start h call acts meets = by call (last_asks l start h (lookup_entry call acts) meets)
  where
    by : (call : LookupCall) → AsksAt l (datagrams h) call acts → SendsAlone l acts
    by (arrived m now) (inl takes) = inl (ap (λ (x : Acts). x.sends.items) takes.ends)
    by (arrived m now) (inr (none, nothing)) = inl (ap (λ (x : Acts). x.sends.items) nothing)
    by (clocked now) (asks, silent) = subst (λ (x : Acts). SendsAlone l x) (sym asks) (due_sends l (said_by acts))
