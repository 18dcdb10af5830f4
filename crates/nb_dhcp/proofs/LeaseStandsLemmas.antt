-- A core goes on to stand for its calls, one datagram later.
use Rattle.std.proofs.Common.{◌≡◌, ℕ, List, [], ◌∷◌, ◌++◌, Option, Some, None, Bool, true, false, cond, ◌||◌, ◌==◌, refl, ap, ◌∙◌, sym, subst}
use Rattle.std.specs.List.{list_any}
use Rattle.std.specs.Option.{option_map, option_map_or, option_and_then, is_some}
use Rattle.std.proofs.lemmas.Bool.{false≢true}
use Rattle.std.proofs.lemmas.Option.{none-some, same_Some}
use Rattle.std.proofs.lemmas.List.Folds.{list_any-append}
use Rattle.nb_retry.specs.declared.plan.Plan.TheVariants.{Dhcp}
use Rattle.nb_retry.specs.Calls.{TimerStands}
use Rattle.nb_retry.specs.Timer.{started}
use Rattle.nb_terms.specs.declared.acts.Acts.{Acts}
use Rattle.nb_terms.specs.declared.cause.Cause.{Cause}
use Rattle.nb_dhcpmsg.proofs.FieldLemmas.{either_way}
use Rattle.nb_dhcpmsg.proofs.ReadingLemmas.{by_option}
use Rattle.nb_dhcp.specs.declared.asker.Asker.{Asker}
use Rattle.nb_dhcp.specs.declared.offer.Offer.{Offer}
use Rattle.nb_dhcp.specs.declared.state.Phase.{Phase}
use Rattle.nb_dhcp.specs.declared.state.Phase.TheVariants.{Selecting, Requesting, Bound, Ended}
use Rattle.nb_dhcp.specs.declared.state.State.{State}
use Rattle.nb_dhcp.specs.Replies.{offer_in, kind_from, acknowledges_for, refuses_for}
use Rattle.nb_dhcp.specs.Acting.{no_acts, lease_asking, lease_ending, lease_ok, lease_refused, reply_acts, verdict_acts}
use Rattle.nb_dhcp.specs.History.{Handed, replied, LeaseEntry, lease_entry, all_handed, Offered, offered, taken_offer, is_verdict, verdict_after, granted_by, granted_after, acknowledgement_in, is_done, LeaseWatch, watch_since, lease_watch}
use Rattle.nb_dhcp.specs.Promises.{LeasePromises, ActsSo, OkWhereGranted, TriesInSilence, KeepsPlan, TriesInPlan, answers_asker}
use Rattle.nb_dhcp.specs.LeaseSteps.{offer_at, is_over_at, kept_at, after_offered, after_verdict, after_reply, acts_on_reply}
use Rattle.nb_dhcp.specs.LeaseStands.{IsPending, LeaseStands}
use Rattle.nb_dhcp.proofs.LeaseHistoryLemmas.{all_handed-append, is_done-append, lease_watch-append, AtEach-append, plan_kept, more_after, offered_already, offered_now, verdict_more, pending_none}

pub or_none : (a : Bool) → (a || false) ≡ a
or_none true = refl
or_none false = refl

pub or_some : (a : Bool) → (a || true) ≡ true
or_some true = refl
or_some false = refl

-- the promises keep, where the new call keeps each of them
pub promises_keep : (a : Asker) (start : ℕ) (h : List LeaseEntry) (e : LeaseEntry) → LeasePromises a start h
    → ActsSo a h e → OkWhereGranted a h e → TriesInSilence a start h e → KeepsPlan (lease_watch start (h ++ e ∷ []))
    → LeasePromises a start (h ++ e ∷ [])
promises_keep a start h e meets acts ok silent plan = record {
  sending = AtEach-append (ActsSo a) [] h e meets.sending acts;
  whole = AtEach-append (OkWhereGranted a) [] h e meets.whole ok;
  tries = AtEach-append (TriesInPlan start) [] h e meets.tries plan;
  unanswered = AtEach-append (TriesInSilence a start) [] h e meets.unanswered silent;
}

-- what is so of the datagrams before the call and its own is so of all of them
more_handed : (h : List LeaseEntry) (m : Handed) (now : ℕ) (acts : Acts) → all_handed (h ++ lease_entry (replied m now) acts ∷ []) ≡ all_handed h ++ m ∷ []
more_handed h m now acts = all_handed-append h (lease_entry (replied m now) acts)

-- a datagram that calls for nothing
quiet_reply : (a : Asker) (start : ℕ) (s : State) (h : List LeaseEntry) (m : Handed) (now : ℕ)
    → LeaseStands a start s h → is_over_at s.phase ≡ false
    → taken_offer a (all_handed h ++ m ∷ []) ≡ taken_offer a (all_handed h)
    → IsPending a (offered a (all_handed h ++ m ∷ []))
    → answers_asker a (taken_offer a (all_handed h)) m ≡ false
    → no_acts ≡ reply_acts a (taken_offer a (all_handed h)) m
    → LeaseStands a start s (h ++ lease_entry (replied m now) no_acts ∷ [])
quiet_reply a start s h m now stands unended taken pending unanswered asks =
    let e : LeaseEntry = lease_entry (replied m now) no_acts in
    let live = stands.asks unended in
    let more = more_handed h m now no_acts in
    let watch : lease_watch start (h ++ e ∷ []) ≡ record (lease_watch start h) { replies = (lease_watch start h).replies ++ m ∷ [] } = lease_watch-append start h e in
    let none : acknowledgement_in a (all_handed (h ++ e ∷ [])) ≡ None = ap (acknowledgement_in a) more ∙ pending_none a (offered a (all_handed h ++ m ∷ [])) pending in
    let same : taken_offer a (all_handed (h ++ e ∷ [])) ≡ taken_offer a (all_handed h) = ap (taken_offer a) more ∙ taken in
    record {
      meets = promises_keep a start h e stands.meets asks (sym (ap is_some none)) tt (subst KeepsPlan (sym watch) (plan_kept start [] h refl stands.meets.tries));
      its = stands.its;
      over = stands.over ∙ sym (is_done-append h e ∙ or_none (is_done h));
      kept = stands.kept ∙ pending_none a (offered a (all_handed h)) live.pending ∙ sym none;
      asks = λ _. record {
        taken = live.taken ∙ sym same;
        pending = subst (λ (ms : List Handed). IsPending a (offered a ms)) (sym more) pending;
        timer = subst (λ (w : LeaseWatch). TimerStands s.retry w.times) (sym watch) live.timer;
        since = live.since ∙ sym (ap (λ w. w.since) watch);
        plan = live.plan;
        unanswered =
            ap (λ o. list_any (answers_asker a o) (lease_watch start (h ++ e ∷ [])).replies) same
            ∙ ap (λ w. list_any (answers_asker a (taken_offer a (all_handed h))) w.replies) watch
            ∙ list_any-append (answers_asker a (taken_offer a (all_handed h))) (lease_watch start h).replies (m ∷ [])
            ∙ ap (λ x. x || (answers_asker a (taken_offer a (all_handed h)) m || false)) live.unanswered
            ∙ ap (λ x. x || false) unanswered;
      };
    }

-- the first valid offer is requested
request_reply : (a : Asker) (start : ℕ) (s : State) (h : List LeaseEntry) (m : Handed) (now : ℕ) (offer : Offer)
    → LeaseStands a start s h → is_over_at s.phase ≡ false → offered a (all_handed h) ≡ None → offer_in a m.body ≡ Some offer
    → LeaseStands a start (record s { phase = Requesting offer; retry = started now Dhcp }) (h ++ lease_entry (replied m now) (lease_asking a (Some offer) 1) ∷ [])
request_reply a start s h m now offer stands unended before is =
    let acts : Acts = lease_asking a (Some offer) 1 in
    let e : LeaseEntry = lease_entry (replied m now) acts in
    let more = more_handed h m now acts in
    let first : offered a (all_handed (h ++ e ∷ [])) ≡ Some (record { offer = offer; after = [] }) =
    ap (offered a) more ∙ offered_now a (all_handed h) m before ∙ ap (λ o. option_map_or (λ (x : Offer). Some (record { offer = x; after = [] })) o None) is in
    let taken : taken_offer a (all_handed h) ≡ None = ap (option_map (λ (f : Offered). f.offer)) before in
    let watch : lease_watch start (h ++ e ∷ []) ≡ watch_since now = lease_watch-append start h e in
    let none : acknowledgement_in a (all_handed (h ++ e ∷ [])) ≡ None = ap (option_and_then (granted_after a)) first in
    record {
      meets = promises_keep a start h e stands.meets
          (sym (ap (λ o. reply_acts a o m) taken ∙ ap (λ o. option_map_or (λ (x : Offer). lease_asking a (Some x) 1) o no_acts) is))
          (sym (ap is_some none)) tt (subst KeepsPlan (sym watch) refl);
      its = stands.its;
      over = sym (is_done-append h e ∙ or_none (is_done h) ∙ sym stands.over ∙ unended);
      kept = sym none;
      asks = λ _. record {
        taken = sym (ap (option_map (λ (f : Offered). f.offer)) first);
        pending = subst (IsPending a) (sym first) refl;
        timer = subst (λ (w : LeaseWatch). TimerStands (started now Dhcp) w.times) (sym watch) refl;
        since = sym (ap (λ w. w.since) watch);
        plan = refl;
        unanswered = ap (λ w. list_any (answers_asker a (taken_offer a (all_handed (h ++ e ∷ [])))) w.replies) watch;
      };
    }

-- the server's verdict ends it
ended_reply : (a : Asker) (start : ℕ) (s t : State) (h : List LeaseEntry) (m : Handed) (now : ℕ) (cause : Cause)
    → LeaseStands a start s h → is_over_at t.phase ≡ true → t.asker ≡ s.asker
    → kept_at t.phase t.ack.items ≡ acknowledgement_in a (all_handed h ++ m ∷ [])
    → (cause.code == 0) ≡ is_some (acknowledgement_in a (all_handed h ++ m ∷ []))
    → lease_ending cause ≡ reply_acts a (taken_offer a (all_handed h)) m
    → LeaseStands a start t (h ++ lease_entry (replied m now) (lease_ending cause) ∷ [])
ended_reply a start s t h m now cause stands over its kept ok asks =
    let e : LeaseEntry = lease_entry (replied m now) (lease_ending cause) in
    let more = more_handed h m now (lease_ending cause) in
    let watch : lease_watch start (h ++ e ∷ []) ≡ record (lease_watch start h) { replies = (lease_watch start h).replies ++ m ∷ [] } = lease_watch-append start h e in
    record {
      meets = promises_keep a start h e stands.meets asks (ok ∙ sym (ap (λ (ms : List Handed). is_some (acknowledgement_in a ms)) more)) tt (subst KeepsPlan (sym watch) (plan_kept start [] h refl stands.meets.tries));
      its = its ∙ stands.its;
      over = over ∙ sym (is_done-append h e ∙ or_some (is_done h));
      kept = kept ∙ sym (ap (acknowledgement_in a) more);
      asks = λ unended. absurd (false≢true (sym unended ∙ over));
    }

phase_selecting : (p : Phase) → is_over_at p ≡ false → offer_at p ≡ None → p ≡ Selecting
phase_selecting Selecting on is = refl
phase_selecting (Requesting offer) on is = absurd (none-some offer (sym is))
phase_selecting Bound on is = absurd (false≢true (sym on))
phase_selecting Ended on is = absurd (false≢true (sym on))

phase_requesting : (p : Phase) (offer : Offer) → offer_at p ≡ Some offer → p ≡ Requesting offer
phase_requesting Selecting offer is = absurd (none-some offer is)
phase_requesting (Requesting other) offer is = ap (λ o. Requesting o) (same_Some other offer is)
phase_requesting Bound offer is = absurd (none-some offer is)
phase_requesting Ended offer is = absurd (none-some offer is)

abbrev Goes : Asker → ℕ → List LeaseEntry → Handed → ℕ → State → Acts → Type 0
Goes a start h m now t acts = LeaseStands a start t (h ++ lease_entry (replied m now) acts ∷ [])

-- a datagram before there is a valid offer
selecting_reply : (a : Asker) (start : ℕ) (s : State) (h : List LeaseEntry) (m : Handed) (now : ℕ)
    → LeaseStands a start s h → is_over_at s.phase ≡ false → offered a (all_handed h) ≡ None
    → Goes a start h m now (after_offered s (offer_in a m.body) now) (reply_acts a None m)
selecting_reply a start s h m now stands unended before = by_option (offer_in a m.body)
    (λ none.
    let first : offered a (all_handed h ++ m ∷ []) ≡ None = offered_now a (all_handed h) m before ∙ ap (λ o. option_map_or (λ (x : Offer). Some (record { offer = x; after = [] })) o None) none in
    let taken : taken_offer a (all_handed h) ≡ None = ap (option_map (λ (f : Offered). f.offer)) before in
    let asks : reply_acts a None m ≡ no_acts = ap (λ o. option_map_or (λ (x : Offer). lease_asking a (Some x) 1) o no_acts) none in
    subst (λ (x : Acts). Goes a start h m now (after_offered s (offer_in a m.body) now) x) (sym asks)
    (subst (λ o. Goes a start h m now (after_offered s o now) no_acts) (sym none)
    (quiet_reply a start s h m now stands unended (ap (option_map (λ (f : Offered). f.offer)) first ∙ sym taken) (subst (IsPending a) (sym first) tt)
    (ap (λ o. answers_asker a o m) taken ∙ ap is_some none) (sym (ap (λ o. reply_acts a o m) taken ∙ asks)))))
    (λ offer some.
    let asks : reply_acts a None m ≡ lease_asking a (Some offer) 1 = ap (λ o. option_map_or (λ (x : Offer). lease_asking a (Some x) 1) o no_acts) some in
    subst (λ (x : Acts). Goes a start h m now (after_offered s (offer_in a m.body) now) x) (sym asks)
    (subst (λ o. Goes a start h m now (after_offered s o now) (lease_asking a (Some offer) 1)) (sym some)
    (request_reply a start s h m now offer stands unended before some)))

-- a datagram that is no verdict
other_kind : (a : Asker) (start : ℕ) (s : State) (h : List LeaseEntry) (m : Handed) (now : ℕ) (f : Offered)
    → LeaseStands a start s h → is_over_at s.phase ≡ false → offered a (all_handed h) ≡ Some f
    → is_verdict a f.offer m ≡ false → no_acts ≡ verdict_acts m.rec (kind_from a f.offer.server m.body)
    → Goes a start h m now s no_acts
other_kind a start s h m now f stands unended before other asks =
    let live = stands.asks unended in
    let first : offered a (all_handed h ++ m ∷ []) ≡ Some (more_after f m) = offered_already a (all_handed h) m f before in
    let taken : taken_offer a (all_handed h) ≡ Some f.offer = ap (option_map (λ (x : Offered). x.offer)) before in
    let pending : verdict_after a f ≡ None = subst (IsPending a) before live.pending in
    quiet_reply a start s h m now stands unended
    (ap (option_map (λ (x : Offered). x.offer)) first ∙ sym taken)
    (subst (IsPending a) (sym first) (verdict_more a f m pending ∙ ap (λ b. cond b (Some m) None) other))
    (ap (λ o. answers_asker a o m) taken ∙ other)
    (asks ∙ sym (ap (λ o. reply_acts a o m) taken))

granted_now : (a : Asker) (h : List LeaseEntry) (m : Handed) (f : Offered) → offered a (all_handed h) ≡ Some f → verdict_after a f ≡ None → is_verdict a f.offer m ≡ true
    → acknowledgement_in a (all_handed h ++ m ∷ []) ≡ granted_by a f.offer m
granted_now a h m f before pending verdict =
    ap (option_and_then (granted_after a)) (offered_already a (all_handed h) m f before)
    ∙ ap (option_and_then (granted_by a f.offer)) (verdict_more a f m pending ∙ ap (λ b. cond b (Some m) None) verdict)

-- a datagram once an offer is requested, by its kind
requesting_reply : (a : Asker) (start : ℕ) (s : State) (h : List LeaseEntry) (m : Handed) (now : ℕ) (f : Offered) (kind : Option ℕ)
    → LeaseStands a start s h → is_over_at s.phase ≡ false → offered a (all_handed h) ≡ Some f → kind_from a f.offer.server m.body ≡ kind
    → Goes a start h m now (after_verdict s kind m.body) (verdict_acts m.rec kind)
requesting_reply a start s h m now f None stands unended before is =
    other_kind a start s h m now f stands unended before
    (ap (λ k. option_map_or (λ n. n == 5) k false || option_map_or (λ n. n == 6) k false) is) (sym (ap (verdict_acts m.rec) is))
requesting_reply a start s h m now f (Some kind) stands unended before is =
    let live = stands.asks unended in
    let taken : taken_offer a (all_handed h) ≡ Some f.offer = ap (option_map (λ (x : Offered). x.offer)) before in
    let pending : verdict_after a f ≡ None = subst (IsPending a) before live.pending in
    let asks : verdict_acts m.rec (Some kind) ≡ reply_acts a (taken_offer a (all_handed h)) m = sym (ap (λ o. reply_acts a o m) taken ∙ ap (verdict_acts m.rec) is) in
    let ack : acknowledges_for a f.offer.server m.body ≡ (kind == 5) = ap (λ k. option_map_or (λ n. n == 5) k false) is in
    let nak : refuses_for a f.offer.server m.body ≡ (kind == 6) = ap (λ k. option_map_or (λ n. n == 6) k false) is in
    either_way (kind == 5)
    (λ five.
    let verdict : is_verdict a f.offer m ≡ true = ap (λ b. b || refuses_for a f.offer.server m.body) (ack ∙ five) in
    let granted : acknowledgement_in a (all_handed h ++ m ∷ []) ≡ Some m.body = granted_now a h m f before pending verdict ∙ ap (λ b. cond b (Some m.body) None) (ack ∙ five) in
    let end : verdict_acts m.rec (Some kind) ≡ lease_ending lease_ok = ap (λ b. cond b (lease_ending lease_ok) (cond (kind == 6) (lease_ending (lease_refused m.rec)) no_acts)) five in
    let t : State = record s { phase = Bound; ack = record { items = m.body } } in
    let then : after_verdict s (Some kind) m.body ≡ t = ap (λ b. cond b t (cond (kind == 6) (record s { phase = Ended }) s)) five in
    subst (λ (x : State). Goes a start h m now x (verdict_acts m.rec (Some kind))) (sym then)
    (subst (λ (x : Acts). Goes a start h m now t x) (sym end)
    (ended_reply a start s t h m now lease_ok stands refl refl (sym granted) (sym (ap is_some granted)) (sym end ∙ asks))))
    (λ no_five. either_way (kind == 6)
    (λ six.
    let verdict : is_verdict a f.offer m ≡ true = ap (λ b. b || refuses_for a f.offer.server m.body) (ack ∙ no_five) ∙ nak ∙ six in
    let granted : acknowledgement_in a (all_handed h ++ m ∷ []) ≡ None = granted_now a h m f before pending verdict ∙ ap (λ b. cond b (Some m.body) None) (ack ∙ no_five) in
    let t : State = record s { phase = Ended } in
    let end : verdict_acts m.rec (Some kind) ≡ lease_ending (lease_refused m.rec) =
    ap (λ b. cond b (lease_ending lease_ok) (cond (kind == 6) (lease_ending (lease_refused m.rec)) no_acts)) no_five ∙ ap (λ b. cond b (lease_ending (lease_refused m.rec)) no_acts) six in
    let then : after_verdict s (Some kind) m.body ≡ t =
    ap (λ b. cond b (record s { phase = Bound; ack = record { items = m.body } }) (cond (kind == 6) t s)) no_five ∙ ap (λ b. cond b t s) six in
    subst (λ (x : State). Goes a start h m now x (verdict_acts m.rec (Some kind))) (sym then)
    (subst (λ (x : Acts). Goes a start h m now t x) (sym end)
    (ended_reply a start s t h m now (lease_refused m.rec) stands refl refl (sym granted) (sym (ap is_some granted)) (sym end ∙ asks))))
    (λ no_six.
    let other : is_verdict a f.offer m ≡ false = ap (λ b. b || refuses_for a f.offer.server m.body) (ack ∙ no_five) ∙ nak ∙ no_six in
    let none : verdict_acts m.rec (Some kind) ≡ no_acts =
    ap (λ b. cond b (lease_ending lease_ok) (cond (kind == 6) (lease_ending (lease_refused m.rec)) no_acts)) no_five ∙ ap (λ b. cond b (lease_ending (lease_refused m.rec)) no_acts) no_six in
    let then : after_verdict s (Some kind) m.body ≡ s =
    ap (λ b. cond b (record s { phase = Bound; ack = record { items = m.body } }) (cond (kind == 6) (record s { phase = Ended }) s)) no_five ∙ ap (λ b. cond b (record s { phase = Ended }) s) no_six in
    subst (λ (x : State). Goes a start h m now x (verdict_acts m.rec (Some kind))) (sym then)
    (subst (λ (x : Acts). Goes a start h m now s x) (sym none)
    (other_kind a start s h m now f stands unended before other (sym (ap (verdict_acts m.rec) is ∙ none))))))

-- any datagram
pub replied_stands : (a : Asker) (start : ℕ) (s : State) (h : List LeaseEntry) (m : Handed) (now : ℕ)
    → LeaseStands a start s h → is_done h ≡ false
    → LeaseStands a start (after_reply s s.phase m now) (h ++ lease_entry (replied m now) (acts_on_reply s m) ∷ [])
replied_stands a start s h m now stands open_yet =
    let unended : is_over_at s.phase ≡ false = stands.over ∙ open_yet in
    let live = stands.asks unended in
    let acts : acts_on_reply s m ≡ reply_acts a (offer_at s.phase) m = ap (λ b. cond b no_acts (reply_acts s.asker (offer_at s.phase) m)) unended ∙ ap (λ x. reply_acts x (offer_at s.phase) m) stands.its in
    by_option (offered a (all_handed h))
    (λ none.
    let taken : offer_at s.phase ≡ None = live.taken ∙ ap (option_map (λ (f : Offered). f.offer)) none in
    let then : after_reply s s.phase m now ≡ after_offered s (offer_in a m.body) now =
    ap (λ p. after_reply s p m now) (phase_selecting s.phase unended taken) ∙ ap (λ x. after_offered s (offer_in x m.body) now) stands.its in
    subst (λ (x : State). Goes a start h m now x (acts_on_reply s m)) (sym then)
    (subst (λ (x : Acts). Goes a start h m now (after_offered s (offer_in a m.body) now) x) (sym (acts ∙ ap (λ o. reply_acts a o m) taken))
    (selecting_reply a start s h m now stands unended none)))
    (λ f some.
    let taken : offer_at s.phase ≡ Some f.offer = live.taken ∙ ap (option_map (λ (f : Offered). f.offer)) some in
    let kind : Option ℕ = kind_from a f.offer.server m.body in
    let then : after_reply s s.phase m now ≡ after_verdict s kind m.body =
    ap (λ p. after_reply s p m now) (phase_requesting s.phase f.offer taken) ∙ ap (λ x. after_verdict s (kind_from x f.offer.server m.body) m.body) stands.its in
    subst (λ (x : State). Goes a start h m now x (acts_on_reply s m)) (sym then)
    (subst (λ (x : Acts). Goes a start h m now (after_verdict s kind m.body) x) (sym (acts ∙ ap (λ o. reply_acts a o m) taken))
    (requesting_reply a start s h m now f kind stands unended some refl)))

-- the same for whatever a call left and asked, where it is what the definitions say
pub replied_goes_on : (a : Asker) (start : ℕ) (s t : State) (h : List LeaseEntry) (m : Handed) (now : ℕ) (acts : Acts)
    → acts ≡ acts_on_reply s m → t ≡ after_reply s s.phase m now → LeaseStands a start s h → is_done h ≡ false
    → LeaseStands a start t (h ++ lease_entry (replied m now) acts ∷ [])
replied_goes_on a start s t h m now acts asks becomes stands open_yet =
    subst (λ (x : State). Goes a start h m now x acts) (sym becomes)
    (subst (λ (x : Acts). Goes a start h m now (after_reply s s.phase m now) x) (sym asks) (replied_stands a start s h m now stands open_yet))
