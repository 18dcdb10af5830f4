-- Laws of what a client promises: why it ends, and what it sends.
use Rattle.std.proofs.Common.{◌≡◌, ℕ, ◌==◌, ◌&&◌, ◌||◌, true, false, cond, List, [], ◌∷◌, ◌++◌, Option, Some, None, refl, sym, ◌∙◌, ap, subst, eq-eqb}
use Rattle.std.specs.Prelude.{filter}
use Rattle.std.specs.List.{AllByRecursion, list_any}
use Rattle.std.specs.Option.{option_map, option_map_or}
use Rattle.std.proofs.lemmas.Bool.{eqb-true, false≢true}
use Rattle.std.proofs.lemmas.List.{append-nil, append_assoc}
use Rattle.std.proofs.lemmas.List.Elements.{filter-append}
use Rattle.std.proofs.lemmas.Option.{none-some, same_Some}
use Rattle.nb_retry.specs.declared.retry.Due.{Due}
use Rattle.nb_retry.specs.declared.retry.Due.TheVariants.{Not, Again, Over}
use Rattle.nb_retry.specs.Calls.{fires}
use Rattle.nb_retry.specs.Plans.{Asked, asked_at}
use Rattle.nb_terms.specs.declared.acts.Acts.{Acts}
use Rattle.nb_terms.specs.declared.cause.Cause.{Cause}
use Rattle.nb_dhcpmsg.specs.Messages.{MessageParts, IsMessage}
use Rattle.nb_dhcpmsg.proofs.FieldLemmas.{either_way}
use Rattle.nb_dhcpmsg.proofs.ReadingLemmas.{by_option, message_is}
use Rattle.nb_dhcp.specs.declared.asker.Asker.{Asker}
use Rattle.nb_dhcp.specs.declared.offer.Offer.{Offer}
use Rattle.nb_dhcp.specs.Replies.{is_its, offer_in, kind_from}
use Rattle.nb_dhcp.specs.Acting.{no_acts, lease_asking, lease_ending, lease_ok, lease_refused, lease_timed_out, reply_acts, verdict_acts, timer_acts}
use Rattle.nb_dhcp.specs.History.{Handed, LeaseCall, replied, elapsed, LeaseEntry, lease_entry, all_handed, Offered, offered, taken_offer, is_verdict, timer_said, LeaseWatch, lease_watch}
use Rattle.nb_dhcp.specs.Promises.{LeasePromises, ActsSo, TriesInSilence, TriesInPlan, IsWithoutAnswer, answers_asker}
use Rattle.nb_dhcp.specs.Leases.{AnswersAsker, NamesServer, IsOfferTo, IsWithoutOffer, IsFirstOffer}
use Rattle.nb_dhcp.specs.LeaseEndings.{LeaseFires, IsNoVerdict, IsSilence, no_offer, no_verdict, LeaseEnding, by_acknowledgement, by_refusal, by_no_answer, LeaseSending, sends_nothing, sends_discover, sends_request}
use Rattle.nb_dhcp.proofs.ReplyLemmas.{kind_read}
use Rattle.nb_dhcp.proofs.LeaseHistoryLemmas.{all_handed-append, lease_watch-append, AtEach-at, offered_now}
use Rattle.nb_dhcp.proofs.LeaseLaws.{is_reply, is_named, offer_is, no_offer_is, offer_is_read, IsFrom, is_from, Found, found}

first_offer : (a : Asker) (ms : List Handed) (f : Offered) → offered a ms ≡ Some f → IsFirstOffer a ms f.offer
first_offer a ms f is =
    let o : Found a ms f = found a ms f is in
    record { before = o.before; first = o.first; after = f.after; in_order = o.all; none_before = o.none_before; is_offer = o.is_offer }

without_offer : (a : Asker) (ms : List Handed) → offered a ms ≡ None → IsWithoutOffer a ms
without_offer a [] is = tt
without_offer a (m ∷ ms) is = by_option (offer_in a m.body)
    (λ none. (λ other o. no_offer_is a m.body other none o, without_offer a ms (sym (ap (λ o. option_map_or (λ (x : Offer). Some (record { offer = x; after = ms })) o (offered a ms)) none) ∙ is)))
    (λ o some. absurd (none-some (record { offer = o; after = ms }) (sym is ∙ ap (λ o. option_map_or (λ (x : Offer). Some (record { offer = x; after = ms })) o (offered a ms)) some)))

-- of a first offer, by the function
first_read : (a : Asker) (before : List Handed) (first : Handed) (after : List Handed) (offer : Offer) → IsWithoutOffer a before → IsOfferTo a offer first.body
    → offered a (before ++ first ∷ after) ≡ Some (record { offer = offer; after = after })
first_read a [] first after offer none is = ap (λ o. option_map_or (λ (x : Offer). Some (record { offer = x; after = after })) o (offered a after)) (offer_is_read a first.body offer is)
first_read a (m ∷ ms) first after offer none is = by_option (offer_in a m.body)
    (λ nothing. ap (λ o. option_map_or (λ (x : Offer). Some (record { offer = x; after = ms ++ first ∷ after })) o (offered a (ms ++ first ∷ after))) nothing ∙ first_read a ms first after offer none.1 is)
    (λ o some. absurd (none.0 o (offer_is a m.body o some)))

first_is_read : (a : Asker) (ms : List Handed) (offer : Offer) → (i : IsFirstOffer a ms offer) → offered a ms ≡ Some (record { offer = offer; after = i.after })
first_is_read a ms offer i = ap (offered a) i.in_order ∙ first_read a i.before i.first i.after offer i.none_before i.is_offer

-- the first offer stays the first
pub first_stays : (a : Asker) (ms more : List Handed) (offer other : Offer) → IsFirstOffer a ms offer → IsFirstOffer a (ms ++ more) other → offer ≡ other
first_stays a ms more offer other i j =
    let longer : IsFirstOffer a (ms ++ more) offer = record {
      before = i.before;
      first = i.first;
      after = i.after ++ more;
      in_order = ap (λ t. t ++ more) i.in_order ∙ append_assoc i.before (i.first ∷ i.after) more;
      none_before = i.none_before;
      is_offer = i.is_offer;
    } in
    ap (λ (o : Offered). o.offer) (same_Some (record { offer = offer; after = i.after ++ more }) (record { offer = other; after = j.after }) (sym (first_is_read a (ms ++ more) offer longer) ∙ first_is_read a (ms ++ more) other j))

kind_is : (a : Asker) (offer : Offer) (bytes : List ℕ) (m : MessageParts) → IsMessage bytes m → AnswersAsker a m → NamesServer bytes offer.server → kind_from a offer.server bytes ≡ Some m.kind
kind_is a offer bytes m is reply named =
    kind_read a offer.server bytes m (Some offer.server.0) (message_is bytes m is) (is_named bytes offer.server named)
    ∙ ap (λ b. cond (b && is_its offer.server (Some offer.server.0)) (Some m.kind) None) (is_reply a m reply)
    ∙ ap (λ b. cond b (Some m.kind) None) (eq-eqb offer.server.0 offer.server.0 refl)

no_verdict_is : (a : Asker) (offer : Offer) (m : Handed) → is_verdict a offer m ≡ false → IsNoVerdict a offer m
no_verdict_is a offer m is = (
  λ ack. let kind : kind_from a offer.server m.body ≡ Some 5 = kind_is a offer m.body ack.message ack.is_message ack.reply ack.server ∙ ap (λ n. Some n) ack.kind in
      false≢true (sym is ∙ ap (λ k. option_map_or (λ n. n == 5) k false || option_map_or (λ n. n == 6) k false) kind),
  λ nak. let kind : kind_from a offer.server m.body ≡ Some 6 = kind_is a offer m.body nak.message nak.is_message nak.reply nak.server ∙ ap (λ n. Some n) nak.kind in
      false≢true (sym is ∙ ap (λ k. option_map_or (λ n. n == 5) k false || option_map_or (λ n. n == 6) k false) kind),
)

all_no_verdict : (a : Asker) (offer : Offer) (ms : List Handed) → list_any (is_verdict a offer) ms ≡ false → AllByRecursion (IsNoVerdict a offer) ms
all_no_verdict a offer [] is = tt
all_no_verdict a offer (m ∷ ms) is = either_way (is_verdict a offer m)
    (λ yes. absurd (false≢true (sym is ∙ ap (λ b. b || list_any (is_verdict a offer) ms) yes)))
    (λ no. (no_verdict_is a offer m no, all_no_verdict a offer ms (sym (ap (λ b. b || list_any (is_verdict a offer) ms) no) ∙ is)))

silence : (a : Asker) (start : ℕ) (h : List LeaseEntry) → IsWithoutAnswer a start h → IsSilence a start h
silence a start h is = by_option (offered a (all_handed h))
    (λ none. no_offer (without_offer a (all_handed h) none))
    (λ f some.
    let taken : taken_offer a (all_handed h) ≡ Some f.offer = ap (option_map (λ (x : Offered). x.offer)) some in
    no_verdict f.offer (first_offer a (all_handed h) f some) (all_no_verdict a f.offer (lease_watch start h).replies (sym (ap (λ o. list_any (answers_asker a o) (lease_watch start h).replies) taken) ∙ is)))

-- a timer's answer that fires is the plan's last firing so far
fires_last : (start : ℕ) (h : List LeaseEntry) (now : ℕ) (acts : Acts) (due : Due) → TriesInPlan start h (lease_entry (elapsed now) acts) → timer_said acts ≡ due → fires due ≡ true
    → LeaseFires start (h ++ lease_entry (elapsed now) acts ∷ []) now due
fires_last start h now acts due keeps said is = record {
  earlier = filter (λ (call : Asked). fires call.said) (lease_watch start h).times;
  last = sym keeps
      ∙ ap (λ (w : LeaseWatch). filter (λ (call : Asked). fires call.said) w.times) (lease_watch-append start h (lease_entry (elapsed now) acts))
      ∙ ap (λ d. filter (λ (call : Asked). fires call.said) ((lease_watch start h).times ++ asked_at now d ∷ [])) said
      ∙ filter-append (λ (call : Asked). fires call.said) (lease_watch start h).times (asked_at now due ∷ [])
      ∙ ap (λ b. filter (λ (call : Asked). fires call.said) (lease_watch start h).times ++ cond b (asked_at now due ∷ []) []) is;
}

due_ends : (a : Asker) (offer : Option Offer) (due : Due) (cause : Cause) → (timer_acts a offer due).over ≡ Some cause → (due ≡ Over) × (cause ≡ lease_timed_out)
due_ends a offer Not cause is = absurd (none-some cause is)
due_ends a offer (Again n) cause is = absurd (none-some cause is)
due_ends a offer Over cause is = (refl, sym (same_Some lease_timed_out cause is))

no_offer_ends : (a : Asker) (m : Handed) (cause : Cause) (o : Option Offer) → (option_map_or (λ offer. lease_asking a (Some offer) 1) o no_acts).over ≡ Some cause → ⊥
no_offer_ends a m cause None is = none-some cause is
no_offer_ends a m cause (Some offer) is = none-some cause is

verdict_ends : (a : Asker) (start : ℕ) (h : List LeaseEntry) (m : Handed) (now : ℕ) (acts : Acts) (cause : Cause) (f : Offered) (kind : Option ℕ)
    → offered a (all_handed h) ≡ Some f → kind_from a f.offer.server m.body ≡ kind → (verdict_acts m.rec kind).over ≡ Some cause → LeaseEnding a start h (lease_entry (replied m now) acts) cause
verdict_ends a start h m now acts cause f None some is over = absurd (none-some cause over)
verdict_ends a start h m now acts cause f (Some kind) some is over =
    let from : IsFrom a f.offer.server m.body kind = is_from a f.offer.server m.body kind is in
    let first : IsFirstOffer a (all_handed h) f.offer = first_offer a (all_handed h) f some in
    either_way (kind == 5)
    (λ five.
    let ends : lease_ok ≡ cause = same_Some lease_ok cause (sym (ap (λ b. (cond b (lease_ending lease_ok) (cond (kind == 6) (lease_ending (lease_refused m.rec)) no_acts)).over) five) ∙ over) in
    by_acknowledgement m now f.offer refl first
    (record { message = from.message; is_message = from.is_message; reply = from.reply; kind = from.is_kind ∙ eqb-true kind 5 five; server = from.named }) (sym ends))
    (λ no_five.
    let then : (cond (kind == 6) (lease_ending (lease_refused m.rec)) no_acts).over ≡ Some cause = sym (ap (λ b. (cond b (lease_ending lease_ok) (cond (kind == 6) (lease_ending (lease_refused m.rec)) no_acts)).over) no_five) ∙ over in
    either_way (kind == 6)
    (λ six.
    let ends : lease_refused m.rec ≡ cause = same_Some (lease_refused m.rec) cause (sym (ap (λ b. (cond b (lease_ending (lease_refused m.rec)) no_acts).over) six) ∙ then) in
    by_refusal m now f.offer refl first
    (record { message = from.message; is_message = from.is_message; reply = from.reply; kind = from.is_kind ∙ eqb-true kind 6 six; server = from.named }) (sym ends))
    (λ no_six. absurd (none-some cause (sym (ap (λ b. (cond b (lease_ending (lease_refused m.rec)) no_acts).over) no_six) ∙ then))))

call_ends : (a : Asker) (start : ℕ) (h : List LeaseEntry) (call : LeaseCall) (acts : Acts) (cause : Cause) → ActsSo a h (lease_entry call acts) → TriesInSilence a start h (lease_entry call acts) → TriesInPlan start h (lease_entry call acts)
    → acts.over ≡ Some cause → LeaseEnding a start h (lease_entry call acts) cause
call_ends a start h (replied m now) acts cause asks silent keeps over = by_option (offered a (all_handed h))
    (λ none.
    let taken : taken_offer a (all_handed h) ≡ None = ap (option_map (λ (x : Offered). x.offer)) none in
    absurd (no_offer_ends a m cause (offer_in a m.body) (sym (ap (λ (x : Acts). x.over) (asks ∙ ap (λ o. reply_acts a o m) taken)) ∙ over)))
    (λ f some.
    let taken : taken_offer a (all_handed h) ≡ Some f.offer = ap (option_map (λ (x : Offered). x.offer)) some in
    verdict_ends a start h m now acts cause f (kind_from a f.offer.server m.body) some refl (sym (ap (λ (x : Acts). x.over) (asks ∙ ap (λ o. reply_acts a o m) taken)) ∙ over))
call_ends a start h (elapsed now) acts cause asks silent keeps over =
    let ends = due_ends a (taken_offer a (all_handed h)) (timer_said acts) cause (sym (ap (λ (x : Acts). x.over) asks) ∙ over) in
    by_no_answer now refl (silence a start h silent) (fires_last start h now acts Over keeps ends.0 refl) ends.1

pub cause_stands : (a : Asker) (start : ℕ) (h : List LeaseEntry) (e : LeaseEntry) (later : List LeaseEntry) (cause : Cause) → LeasePromises a start (h ++ e ∷ later) → e.acts.over ≡ Some cause → LeaseEnding a start h e cause
cause_stands a start h e later cause meets over =
    call_ends a start h e.call e.acts cause (AtEach-at (ActsSo a) [] h e later meets.sending) (AtEach-at (TriesInSilence a start) [] h e later meets.unanswered) (AtEach-at (TriesInPlan start) [] h e later meets.tries) over

verdict_silent : (a : Asker) (ms : List Handed) (rec : ℕ) (kind : Option ℕ) → LeaseSending a ms (verdict_acts rec kind)
verdict_silent a ms rec None = sends_nothing refl
verdict_silent a ms rec (Some kind) = either_way (kind == 5)
    (λ five. subst (LeaseSending a ms) (sym (ap (λ b. cond b (lease_ending lease_ok) (cond (kind == 6) (lease_ending (lease_refused rec)) no_acts)) five)) (sends_nothing refl))
    (λ no_five. subst (LeaseSending a ms) (sym (ap (λ b. cond b (lease_ending lease_ok) (cond (kind == 6) (lease_ending (lease_refused rec)) no_acts)) no_five))
    (either_way (kind == 6)
    (λ six. subst (LeaseSending a ms) (sym (ap (λ b. cond b (lease_ending (lease_refused rec)) no_acts) six)) (sends_nothing refl))
    (λ no_six. subst (LeaseSending a ms) (sym (ap (λ b. cond b (lease_ending (lease_refused rec)) no_acts) no_six)) (sends_nothing refl))))

due_sends : (a : Asker) (ms : List Handed) (due : Due) → LeaseSending a ms (timer_acts a (taken_offer a ms) due)
due_sends a ms Not = sends_nothing refl
due_sends a ms Over = sends_nothing refl
due_sends a ms (Again n) = by_option (offered a ms)
    (λ none.
    let taken : taken_offer a ms ≡ None = ap (option_map (λ (x : Offered). x.offer)) none in
    subst (λ o. LeaseSending a ms (lease_asking a o n)) (sym taken) (sends_discover (without_offer a ms none) refl))
    (λ f some.
    let taken : taken_offer a ms ≡ Some f.offer = ap (option_map (λ (x : Offered). x.offer)) some in
    subst (λ o. LeaseSending a ms (lease_asking a o n)) (sym taken) (sends_request f.offer (first_offer a ms f some) refl))

reply_sends : (a : Asker) (ms : List Handed) (m : Handed) → LeaseSending a (ms ++ m ∷ []) (reply_acts a (taken_offer a ms) m)
reply_sends a ms m = by_option (offered a ms)
    (λ none.
    let taken : taken_offer a ms ≡ None = ap (option_map (λ (x : Offered). x.offer)) none in
    subst (λ o. LeaseSending a (ms ++ m ∷ []) (reply_acts a o m)) (sym taken)
    (by_option (offer_in a m.body)
    (λ nothing. subst (LeaseSending a (ms ++ m ∷ [])) (sym (ap (λ o. option_map_or (λ (x : Offer). lease_asking a (Some x) 1) o no_acts) nothing)) (sends_nothing refl))
    (λ offer some.
    let first : offered a (ms ++ m ∷ []) ≡ Some (record { offer = offer; after = [] }) = offered_now a ms m none ∙ ap (λ o. option_map_or (λ (x : Offer). Some (record { offer = x; after = [] })) o None) some in
    subst (LeaseSending a (ms ++ m ∷ [])) (sym (ap (λ o. option_map_or (λ (x : Offer). lease_asking a (Some x) 1) o no_acts) some))
    (sends_request offer (first_offer a (ms ++ m ∷ []) (record { offer = offer; after = [] }) first) refl))))
    (λ f some.
    let taken : taken_offer a ms ≡ Some f.offer = ap (option_map (λ (x : Offered). x.offer)) some in
    subst (λ o. LeaseSending a (ms ++ m ∷ []) (reply_acts a o m)) (sym taken) (verdict_silent a (ms ++ m ∷ []) m.rec (kind_from a f.offer.server m.body)))

call_sends : (a : Asker) (h : List LeaseEntry) (call : LeaseCall) (acts : Acts) → ActsSo a h (lease_entry call acts) → LeaseSending a (all_handed (h ++ lease_entry call acts ∷ [])) acts
call_sends a h (replied m now) acts asks =
    subst (λ ms. LeaseSending a ms acts) (sym (all_handed-append h (lease_entry (replied m now) acts)))
    (subst (LeaseSending a (all_handed h ++ m ∷ [])) (sym asks) (reply_sends a (all_handed h) m))
call_sends a h (elapsed now) acts asks =
    subst (λ ms. LeaseSending a ms acts) (sym (all_handed-append h (lease_entry (elapsed now) acts) ∙ append-nil (all_handed h)))
    (subst (LeaseSending a (all_handed h)) (sym asks) (due_sends a (all_handed h) (timer_said acts)))

pub sends_for : (a : Asker) (start : ℕ) (h : List LeaseEntry) (e : LeaseEntry) (later : List LeaseEntry) → LeasePromises a start (h ++ e ∷ later) → LeaseSending a (all_handed (h ++ e ∷ [])) e.acts
sends_for a start h e later meets = call_sends a h e.call e.acts (AtEach-at (ActsSo a) [] h e later meets.sending)
