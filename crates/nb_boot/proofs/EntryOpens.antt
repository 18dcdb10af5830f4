-- An open within whose entry a record stands lives, by the history.
use Rattle.std.proofs.Common.{◌≡◌, inl, inr, ℕ, ◌==◌, Bool, true, false, not, cond, ◌||◌, List, [], ◌∷◌, ◌++◌, refl, sym, ◌∙◌, ap, append_assoc, append-nil, ne_eqb, eq-eqb}
use Rattle.nb_defs.specs.Records.{Out, step, sent, text, command, result, script, opened, tried, advanced, ended, graph, part, done}
use Rattle.nb_laws.specs.Events.{Event, starts, hears, waits, stops, puts, written_by, outputs}
use Rattle.nb_laws.specs.Lists.{Opening, opening_at, openings, is_end_of, open_has_ended, live}
use Rattle.nb_laws.proofs.Tellings.{openings_more}
use Rattle.nb_lawful.proofs.Solitude.{Solitude, one_live}
use Rattle.nb_traced.specs.Openings.{HasNoEnd, IsNoEnd}
use Rattle.nb_traced.specs.Places.{IsWithinOpen}
use Rattle.nb_boot.specs.Entries.{is_of_graph, plain}
use Rattle.nb_boot.proofs.EntryHistories.{plain_events_append}

-- the event that wrote this record
record Wrote (w : List Event) (o : Out) : Type 0 where
  front : List Event
  event : Event
  back : List Event
  all : w ≡ front ++ event ∷ back
  is : written_by event ≡ o

outs_tail : (x y : Out) (xs ys : List Out) → x ∷ xs ≡ y ∷ ys → xs ≡ ys
outs_tail x y xs ys e = cc

wrote : (w : List Event) (before since : List Out) (o : Out) → outputs w ≡ before ++ (o ∷ since) → Wrote w o
wrote [] [] since o e = absurd (let no : [] ≡ o ∷ since = e in cc)
wrote [] (b ∷ before) since o e = absurd (let no : [] ≡ b ∷ (before ++ (o ∷ since)) = e in cc)
wrote (x ∷ w) [] since o e = record { front = []; event = x; back = w; all = refl; is = let same : written_by x ∷ outputs w ≡ o ∷ since = e in cc }
wrote (x ∷ w) (b ∷ before) since o e =
    let r = wrote w before since o (outs_tail (written_by x) b (outputs w) (before ++ (o ∷ since)) e) in
    record { front = x ∷ r.front; event = r.event; back = r.back; all = ap (λ z. x ∷ z) r.all; is = r.is }

-- a record other than STEP is put
put_by : (e : Event) (o : Out) → ((n : ℕ) → step n ≡ o → ⊥) → written_by e ≡ o → e ≡ puts o
put_by (puts x) o other is = ap puts is
put_by (starts n s) o other is = absurd (other n is)
put_by (hears n bytes m) o other is = absurd (other n is)
put_by (waits n ms) o other is = absurd (other n is)
put_by (stops n) o other is = absurd (other n is)

first_none : {A : Type 0} (xs ys : List A) → xs ++ ys ≡ [] → xs ≡ []
first_none [] ys e = refl
first_none (x ∷ xs) ys e = absurd (let no : x ∷ (xs ++ ys) ≡ [] = e in cc)

last_none : {A : Type 0} (xs ys : List A) → xs ++ ys ≡ [] → ys ≡ []
last_none [] ys e = e
last_none (x ∷ xs) ys e = absurd (let no : x ∷ (xs ++ ys) ≡ [] = e in cc)

-- an opening stays
opening_stays : (k : ℕ) (es more : List Event) → (openings k es ≡ [] → ⊥) → openings k (es ++ more) ≡ [] → ⊥
opening_stays k es [] some none = some (ap (openings k) (sym (append-nil es)) ∙ none)
opening_stays k es (e ∷ more) some none =
    opening_stays k (es ++ e ∷ []) more (λ z. some (first_none (openings k es) (opening_at k es e) (sym (openings_more k es e) ∙ z))) (ap (openings k) (append_assoc es (e ∷ []) more) ∙ none)

opening_here : (k kind server port own : ℕ) (target : List ℕ) (es : List Event) → openings k (es ++ puts (opened k kind server port own target) ∷ []) ≡ [] → ⊥
opening_here k kind server port own target es none =
    let e = puts (opened k kind server port own target) in
    let gone : opening_at k es e ≡ [] = last_none (openings k es) (opening_at k es e) (sym (openings_more k es e) ∙ none) in
    one_gone (k == k) (eq-eqb k k refl) _ gone
  where
    one_gone : (b : Bool) → b ≡ true → (o : Opening) → cond b (o ∷ []) [] ≡ [] → ⊥
    one_gone true e o gone = let no : o ∷ [] ≡ [] = gone in cc
    one_gone false e o gone = absurd (let no : false ≡ true = e in cc)

-- it was opened
was_opened : (w : List Event) (k kind server port own : ℕ) (target : List ℕ) (before since : List Out) → outputs w ≡ before ++ (opened k kind server port own target ∷ since) → openings k (plain w) ≡ [] → ⊥
was_opened w k kind server port own target before since e none =
    let o = opened k kind server port own target in
    let r = wrote w before since o e in
    let is : r.event ≡ puts o = put_by r.event o (λ n same. let no : step n ≡ opened k kind server port own target = same in cc) r.is in
    let all : plain w ≡ (plain r.front ++ puts o ∷ []) ++ plain r.back =
    ap plain (r.all ∙ ap (λ z. r.front ++ z ∷ r.back) is) ∙ plain_events_append r.front (puts o ∷ r.back) ∙ sym (append_assoc (plain r.front) (puts o ∷ []) (plain r.back)) in
    opening_stays k (plain r.front ++ puts o ∷ []) (plain r.back) (opening_here k kind server port own target (plain r.front)) (ap (openings k) (sym all) ∙ none)

-- and hasn't ended
no_end : (k : ℕ) (e : Event) → IsNoEnd k (written_by e) → is_end_of k e ≡ false
no_end k (starts n s) h = refl
no_end k (hears n bytes m) h = refl
no_end k (waits n ms) h = refl
no_end k (stops n) h = refl
no_end k (puts (ended number cause)) h = ne_eqb number k h
no_end k (puts (step number)) h = refl
no_end k (puts (sent bytes)) h = refl
no_end k (puts (text bytes)) h = refl
no_end k (puts (command depth line place expanded words)) h = refl
no_end k (puts (result cause)) h = refl
no_end k (puts (script what depth cause)) h = refl
no_end k (puts (opened number kind server port own target)) h = refl
no_end k (puts (tried number count)) h = refl
no_end k (puts (advanced number place)) h = refl
no_end k (puts (graph happens)) h = refl
no_end k (puts (part kind index offset bytes)) h = refl
no_end k (puts (done status)) h = refl

one_more : (k : ℕ) (b : Bool) (e : Event) (es : List Event) → is_end_of k e ≡ false → open_has_ended k es ≡ false → open_has_ended k (cond (not b) (e ∷ es) es) ≡ false
unfolding open_has_ended
one_more k true e es other going = going
one_more k false e es other going = ap (λ z. z || open_has_ended k es) other ∙ going

none_ended : (k : ℕ) → open_has_ended k [] ≡ false
unfolding open_has_ended
none_ended k = refl

not_ended : (k : ℕ) (w : List Event) → HasNoEnd k (outputs w) → open_has_ended k (plain w) ≡ false
not_ended k [] g = none_ended k
not_ended k (e ∷ w) g = one_more k (is_of_graph e) e (plain w) (no_end k e g.0) (not_ended k w g.1)

live_going : (k : ℕ) (es : List Event) → open_has_ended k es ≡ false → live k es ≡ openings k es
unfolding live
live_going k es going = ap (λ b. cond b [] (openings k es)) going

-- so it lives
pub lives_within : (k : ℕ) (w : List Event) → Solitude (plain w) → IsWithinOpen k (outputs w) → (o : Opening) × (live k (plain w) ≡ o ∷ [])
lives_within k w a within = elim (one_live (plain w) a k) [
  | inl none ↦
      absurd (was_opened w k within.begun.kind within.begun.server within.begun.port within.begun.own within.begun.target within.begun.before within.since within.begun.all
      (sym (live_going k (plain w) (not_ended k w within.goes_on)) ∙ none))
  | inr one ↦ one
]
