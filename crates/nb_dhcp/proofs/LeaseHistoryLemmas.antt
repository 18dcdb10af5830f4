-- What is read from the calls of a core, when one call more is made.
use Rattle.std.proofs.Common.{◌≡◌, ℕ, List, [], ◌∷◌, ◌++◌, Bool, true, false, cond, ◌||◌, Option, Some, None, refl, ap, ◌∙◌, sym, subst, append_assoc}
use Rattle.std.specs.Prelude.{find}
use Rattle.std.specs.Option.{is_some, option_map_or, option_and_then}
use Rattle.std.proofs.lemmas.List.{append-nil}
use Rattle.std.proofs.lemmas.List.Concat.{flat_map-append}
use Rattle.std.proofs.lemmas.List.Folds.{list_any-append}
use Rattle.std.proofs.lemmas.List.Sums.{fold-append}
use Rattle.std.proofs.lemmas.Option.{none-some, same_Some}
use Rattle.nb_dhcpmsg.proofs.FieldLemmas.{either_way}
use Rattle.nb_dhcpmsg.proofs.ReadingLemmas.{by_option}
use Rattle.nb_dhcp.specs.declared.asker.Asker.{Asker}
use Rattle.nb_dhcp.specs.declared.offer.Offer.{Offer}
use Rattle.nb_dhcp.specs.Replies.{offer_in}
use Rattle.nb_dhcp.specs.History.{Handed, LeaseEntry, handed_by, all_handed, Offered, offered, is_verdict, verdict_after, granted_by, granted_after, is_done, watch_call, watch_since, lease_watch, AtEach}
use Rattle.nb_dhcp.specs.Promises.{KeepsPlan, TriesInPlan}
use Rattle.nb_dhcp.specs.LeaseStands.{IsPending}

pub all_handed-append : (h : List LeaseEntry) (e : LeaseEntry) → all_handed (h ++ e ∷ []) ≡ all_handed h ++ handed_by e.call
all_handed-append h e = flat_map-append (λ (x : LeaseEntry). handed_by x.call) h (e ∷ []) ∙ ap (λ r. all_handed h ++ r) (append-nil (handed_by e.call))

or_off : (a b : Bool) → (a || (b || false)) ≡ (a || b)
or_off true b = refl
or_off false true = refl
or_off false false = refl

pub is_done-append : (h : List LeaseEntry) (e : LeaseEntry) → is_done (h ++ e ∷ []) ≡ (is_done h || is_some e.acts.over)
is_done-append h e = list_any-append (λ (x : LeaseEntry). is_some x.acts.over) h (e ∷ []) ∙ or_off (is_done h) (is_some e.acts.over)

pub lease_watch-append : (start : ℕ) (h : List LeaseEntry) (e : LeaseEntry) → lease_watch start (h ++ e ∷ []) ≡ watch_call (lease_watch start h) e.call e.acts
lease_watch-append start h e = fold-append (λ w (x : LeaseEntry). watch_call w x.call x.acts) (watch_since start) h (e ∷ [])

pub AtEach-append : (P : List LeaseEntry → LeaseEntry → Type 0) (before es : List LeaseEntry) (e : LeaseEntry) → AtEach P before es → P (before ++ es) e → AtEach P before (es ++ e ∷ [])
AtEach-append P before [] e each last = (subst (λ (h : List LeaseEntry). P h e) (append-nil before) last, tt)
AtEach-append P before (x ∷ es) e each last =
    (each.0, AtEach-append P (before ++ x ∷ []) es e each.1 (subst (λ (h : List LeaseEntry). P h e) (sym (append_assoc before (x ∷ []) es)) last))

-- a fact of one entry, out of all of them
pub AtEach-at : (P : List LeaseEntry → LeaseEntry → Type 0) (before h : List LeaseEntry) (e : LeaseEntry) (later : List LeaseEntry) → AtEach P before (h ++ e ∷ later) → P (before ++ h) e
AtEach-at P before [] e later each = subst (λ (h : List LeaseEntry). P h e) (sym (append-nil before)) each.0
AtEach-at P before (x ∷ h) e later each = subst (λ (g : List LeaseEntry). P g e) (append_assoc before (x ∷ []) h) (AtEach-at P (before ++ x ∷ []) h e later each.1)

-- the tries of all entries
pub plan_kept : (start : ℕ) (before es : List LeaseEntry) → KeepsPlan (lease_watch start before) → AtEach (TriesInPlan start) before es → KeepsPlan (lease_watch start (before ++ es))
plan_kept start before [] keeps each = subst (λ (h : List LeaseEntry). KeepsPlan (lease_watch start h)) (sym (append-nil before)) keeps
plan_kept start before (e ∷ es) keeps each = subst (λ (h : List LeaseEntry). KeepsPlan (lease_watch start h)) (append_assoc before (e ∷ []) es) (plan_kept start (before ++ e ∷ []) es each.0 each.1)

abbrev offer_first : Option Offer → List Handed → Option Offered → Option Offered
offer_first o ms later = option_map_or (λ offer. Some (record { offer = offer; after = ms })) o later

abbrev pub more_after : Offered → Handed → Offered
more_after f m = record { offer = f.offer; after = f.after ++ m ∷ [] }

-- after the first valid offer, a datagram more comes after it
pub offered_already : (a : Asker) (ms : List Handed) (m : Handed) (f : Offered) → offered a ms ≡ Some f → offered a (ms ++ m ∷ []) ≡ Some (more_after f m)
offered_already a [] m f is = absurd (none-some f is)
offered_already a (x ∷ xs) m f is = by_option (offer_in a x.body)
    (λ none.
    let later : offered a xs ≡ Some f = sym (ap (λ o. offer_first o xs (offered a xs)) none) ∙ is in
    ap (λ o. offer_first o (xs ++ m ∷ []) (offered a (xs ++ m ∷ []))) none ∙ offered_already a xs m f later)
    (λ o some.
    let here : record { offer = o; after = xs } ≡ f = same_Some (record { offer = o; after = xs }) f (sym (ap (λ o. offer_first o xs (offered a xs)) some) ∙ is) in
    ap (λ o. offer_first o (xs ++ m ∷ []) (offered a (xs ++ m ∷ []))) some ∙ ap (λ (g : Offered). Some (more_after g m)) here)

-- before it, a datagram more is the first one, or none
pub offered_now : (a : Asker) (ms : List Handed) (m : Handed) → offered a ms ≡ None → offered a (ms ++ m ∷ []) ≡ offer_first (offer_in a m.body) [] None
offered_now a [] m is = refl
offered_now a (x ∷ xs) m is = by_option (offer_in a x.body)
    (λ none. ap (λ o. offer_first o (xs ++ m ∷ []) (offered a (xs ++ m ∷ []))) none ∙ offered_now a xs m (sym (ap (λ o. offer_first o xs (offered a xs)) none) ∙ is))
    (λ o some. absurd (none-some (record { offer = o; after = xs }) (sym is ∙ ap (λ o. offer_first o xs (offered a xs)) some)))

-- the first datagram that passes a test, of those that were followed by one more
pub find_more : {A : Type 0} (p : A → Bool) (xs : List A) (x : A) → find p xs ≡ None → find p (xs ++ x ∷ []) ≡ cond (p x) (Some x) None
find_more p [] x is = refl
find_more p (y ∷ ys) x is = either_way (p y)
    (λ on. absurd (none-some y (sym is ∙ ap (λ b. cond b (Some y) (find p ys)) on)))
    (λ off. ap (λ b. cond b (Some y) (find p (ys ++ x ∷ []))) off ∙ find_more p ys x (sym (ap (λ b. cond b (Some y) (find p ys)) off) ∙ is))

pub verdict_more : (a : Asker) (f : Offered) (m : Handed) → verdict_after a f ≡ None → verdict_after a (more_after f m) ≡ cond (is_verdict a f.offer m) (Some m) None
verdict_more a f m is = find_more (is_verdict a f.offer) f.after m is

-- without a verdict there is no acknowledgement
pub pending_none : (a : Asker) (o : Option Offered) → IsPending a o → option_and_then (granted_after a) o ≡ None
pending_none a None pending = refl
pending_none a (Some f) pending = ap (option_and_then (granted_by a f.offer)) pending
