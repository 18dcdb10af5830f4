-- What a time's answer says of a timer: by the plan's times, or by the records put.
use Rattle.std.proofs.Common.{◌≡◌, ℕ, ◌||◌, Bool, true, false, not, cond, List, [], ◌∷◌, ◌++◌, filter, map, Some, None, refl, sym, ◌∙◌, ap}
use Rattle.std.proofs.lemmas.List.{append_cancel_left, map-append}
use Rattle.std.proofs.lemmas.List.Elements.{filter-append}
use Rattle.nb_terms.specs.declared.acts.Acts.{Acts}
use Rattle.nb_terms.specs.declared.acts.SendTo.{SendTo}
use Rattle.nb_terms.specs.declared.cause.Cause.{Cause}
use Rattle.nb_retry.specs.declared.retry.Due.{Due}
use Rattle.nb_retry.specs.declared.retry.Due.TheVariants.{Not, Again, Over}
use Rattle.nb_retry.specs.Plans.{Asked, asked_at, firings}
use Rattle.nb_retry.specs.Calls.{fires}
use Rattle.nb_defs.specs.Records.{sent, tried}
use Rattle.nb_stack.specs.Client.{Client}
use Rattle.nb_stack.specs.Sends.{way_of, put_on}
use Rattle.nb_tftp.specs.Asks.{nothing, sending, ended_by}
use Rattle.nb_machine.specs.Sendings.{has_route, sends_records, acts_records}
use Rattle.nb_machine.specs.Transfers.{finds_none}

-- what was said at the last time
pub last_said : (n : ℕ) (c d : Due) → filter (λ call. fires call.said) (asked_at n c ∷ []) ≡ filter (λ call. fires call.said) (asked_at n d ∷ []) → c ≡ d
last_said n Not Not h = refl
last_said n Not (Again m) h = absurd (cc)
last_said n Not Over h = absurd (cc)
last_said n (Again k) Not h = absurd (cc)
last_said n (Again k) (Again m) h = cc
last_said n (Again k) Over h = absurd (cc)
last_said n Over Not h = absurd (cc)
last_said n Over (Again m) h = absurd (cc)
last_said n Over Over h = refl

-- times after which a plan has fired as it has to leave one word to the last
pub last_one : (plan : _) (start now : ℕ) (times : List Asked) (c d : Due) →
    filter (λ (call : Asked). fires call.said) (times ++ asked_at now c ∷ []) ≡ firings start plan (map (λ (call : Asked). call.at) (times ++ asked_at now c ∷ [])) →
    filter (λ (call : Asked). fires call.said) (times ++ asked_at now d ∷ []) ≡ firings start plan (map (λ (call : Asked). call.at) (times ++ asked_at now d ∷ [])) → c ≡ d
last_one plan start now times c d p q =
    last_said now c d (append_cancel_left (filter (λ (call : Asked). fires call.said) times) _ _ (as_fired c p ∙ sym (as_fired d q)))
  where
    as_fired : (x : Due) → filter (λ (call : Asked). fires call.said) (times ++ asked_at now x ∷ []) ≡ firings start plan (map (λ (call : Asked). call.at) (times ++ asked_at now x ∷ [])) →
        filter (λ (call : Asked). fires call.said) times ++ filter (λ (call : Asked). fires call.said) (asked_at now x ∷ []) ≡ firings start plan (map (λ (call : Asked). call.at) times ++ now ∷ [])
    as_fired x h =
        sym (filter-append (λ (call : Asked). fires call.said) times (asked_at now x ∷ [])) ∙ h
        ∙ ap (firings start plan) (map-append (λ (call : Asked). call.at) times (asked_at now x ∷ []))

-- what a timer's answer asks: nothing, this message as a try, or this end
pub record IsTimerAnswer (f : Due → Acts) (m : SendTo) (gone : Cause) : Type 0 where
  pub rests : f Not ≡ nothing
  pub tries : (n : ℕ) → f (Again n) ≡ sending m (Some n)
  pub ends : f Over ≡ ended_by gone

on_its_way : (b : Bool) → (not b || false) ≡ false → b ≡ true
on_its_way true e = refl
on_its_way false e = let no : true ≡ false = e in absurd (cc)

found : (link : Client) (m : SendTo) (n : ℕ) → finds_none link (sending m (Some n)) ≡ false → has_route link m ≡ true
found link m n e = on_its_way (has_route link m) e

tried_so : (link : Client) (k n : ℕ) (m : SendTo) → has_route link m ≡ true → acts_records link k (sending m (Some n)) ≡ tried k n ∷ sent (put_on link m (way_of link m)) ∷ []
unfolding acts_records sends_records
tried_so link k n m e = ap (λ b. cond b (tried k n ∷ sent (put_on link m (way_of link m)) ∷ []) []) e

nothing_put : (link : Client) (k : ℕ) → acts_records link k nothing ≡ []
unfolding acts_records sends_records
nothing_put link k = refl

-- where it ended nothing, what was put says it
pub due_shown : (f : Due → Acts) (m : SendTo) (gone : Cause) → IsTimerAnswer f m gone → (link : Client) (k : ℕ) (c d : Due) → acts_records link k (f c) ≡ acts_records link k (f d) →
    (f c).over ≡ None → (f d).over ≡ None → finds_none link (f c) ≡ false → finds_none link (f d) ≡ false → c ≡ d
due_shown f m gone is link k Not Not e oc od rc rd = refl
due_shown f m gone is link k Not (Again n) e oc od rc rd =
    let way = found link m n (ap (finds_none link) (sym (is.tries n)) ∙ rd) in
    let no = sym (nothing_put link k) ∙ ap (acts_records link k) (sym is.rests) ∙ e ∙ ap (acts_records link k) (is.tries n) ∙ tried_so link k n m way in
    absurd (cc)
due_shown f m gone is link k (Again n) Not e oc od rc rd =
    let way = found link m n (ap (finds_none link) (sym (is.tries n)) ∙ rc) in
    let no = sym (nothing_put link k) ∙ ap (acts_records link k) (sym is.rests) ∙ sym e ∙ ap (acts_records link k) (is.tries n) ∙ tried_so link k n m way in
    absurd (cc)
due_shown f m gone is link k (Again n) (Again j) e oc od rc rd =
    let way = found link m n (ap (finds_none link) (sym (is.tries n)) ∙ rc) in
    let also = found link m j (ap (finds_none link) (sym (is.tries j)) ∙ rd) in
    let same = sym (tried_so link k n m way) ∙ ap (acts_records link k) (sym (is.tries n)) ∙ e ∙ ap (acts_records link k) (is.tries j) ∙ tried_so link k j m also in
    let count : n ≡ j = cc in
    ap (λ z. Again z) count
due_shown f m gone is link k Over d e oc od rc rd = let no : Some gone ≡ None = ap (λ (x : Acts). x.over) (sym is.ends) ∙ oc in absurd (cc)
due_shown f m gone is link k Not Over e oc od rc rd = let no : Some gone ≡ None = ap (λ (x : Acts). x.over) (sym is.ends) ∙ od in absurd (cc)
due_shown f m gone is link k (Again n) Over e oc od rc rd = let no : Some gone ≡ None = ap (λ (x : Acts). x.over) (sym is.ends) ∙ od in absurd (cc)

-- what a time asked by such an answer is what was put
pub time_shown : (f : Due → Acts) (m : SendTo) (gone : Cause) → IsTimerAnswer f m gone → (link : Client) (k : ℕ) (a b : Acts) (c d : Due) → a ≡ f c → b ≡ f d → acts_records link k a ≡ acts_records link k b →
    a.over ≡ None → b.over ≡ None → finds_none link a ≡ false → finds_none link b ≡ false → a ≡ b
time_shown f m gone is link k a b c d p q e oa ob ra rb =
    let due = due_shown f m gone is link k c d (ap (acts_records link k) (sym p) ∙ e ∙ ap (acts_records link k) q) (ap (λ (x : Acts). x.over) (sym p) ∙ oa) (ap (λ (x : Acts). x.over) (sym q) ∙ ob)
    (ap (finds_none link) (sym p) ∙ ra) (ap (finds_none link) (sym q) ∙ rb) in
    p ∙ ap f due ∙ sym q
