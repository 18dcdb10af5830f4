-- An event that is used: what it leaves as it was, and what it brings.
use Rattle.std.proofs.Common.{◌≡◌, ℕ, ◌+◌, ◌<◌, Bool, true, false, cond, List, [], ◌∷◌, ◌++◌, refl, sym, ◌∙◌, ap, subst, add-zero, map}
use Rattle.std.specs.List.{flat_map}
use Rattle.nb_tftp.specs.History.{ticked}
use Rattle.nb_machine.specs.Lives.{OpenInput, Live}
use Rattle.nb_laws.specs.Events.{Event, starts, hears, waits, stops, puts}
use Rattle.nb_laws.specs.Lists.{time, made, port_offset, hardware, opens_by, Opening, opening_at, openings, is_end_of, open_has_ended, live, came_in, call_at, calls, mark_of_call, mark_at, marks}
use Rattle.nb_talks.specs.Talking.{by_time}
use Rattle.nb_streams.specs.Trying.{comes_in}
use Rattle.nb_webs.specs.Webs.{call_of}
use Rattle.nb_machine.specs.Connections.{came_on}
use Rattle.nb_laws.specs.Webs.{segment_in, came_at, brought_to, try_mark_at, try_marks_of}
use Rattle.nb_openlaws.specs.Standings.{heard_call, live_opening, IsKindBy, ComesToOwnPort, AgreesLive}
use Rattle.nb_laws.proofs.Histories.{offset_more, hardware_more}
use Rattle.nb_laws.proofs.Tellings.{made_more, openings_more, calls_more, came_more, try_marks_more, marks_more, over_more, no_more, no_or, sessions_stay}
use Rattle.nb_openlaws.proofs.Takings.{SameAt, IsNow, IsDueBy, came_marks, HasCome, login_on}

-- AN EVENT THAT IS USED

-- an event that isn't written
abbrev pub IsUsed : Event → Type 0
IsUsed (starts n s) = Unit {0}
IsUsed (hears n bytes m) = Unit {0}
IsUsed (waits n ms) = Unit {0}
IsUsed (stops n) = Unit {0}
IsUsed (puts o) = ⊥

-- and not START
abbrev pub IsFurther : Event → Type 0
IsFurther (starts n s) = ⊥
IsFurther (hears n bytes m) = Unit {0}
IsFurther (waits n ms) = Unit {0}
IsFurther (stops n) = Unit {0}
IsFurther (puts o) = Unit {0}

pub no_opening : (k : ℕ) (es : List Event) (e : Event) → IsUsed e → opening_at k es e ≡ []
no_opening k es (puts o) h = absurd h
no_opening k es (starts n s) h = refl
no_opening k es _ h = refl

no_made : (e : Event) → IsUsed e → opens_by e ≡ 0
no_made (puts o) h = absurd h
no_made (starts n s) h = refl
no_made _ h = refl

no_end : (k : ℕ) (e : Event) → IsUsed e → is_end_of k e ≡ false
no_end k (puts o) h = absurd h
no_end k (starts n s) h = refl
no_end k _ h = refl

marks_as_calls : (k : ℕ) (es : List Event) (e : Event) → IsUsed e → mark_at k es e ≡ map mark_of_call (call_at k es e)
marks_as_calls k es (puts o) h = absurd h
marks_as_calls k es (starts n s) h = refl
marks_as_calls k es (hears n bytes m) h = refl
marks_as_calls k es (waits n ms) h = refl
marks_as_calls k es (stops n) h = refl

try_marks_as_came : (k : ℕ) (es : List Event) (e : Event) → IsUsed e → try_mark_at k es e ≡ map (λ c. comes_in (call_of c)) (came_at k es e)
try_marks_as_came k es (puts o) h = absurd h
try_marks_as_came k es (starts n s) h = refl
try_marks_as_came k es (hears n bytes m) h = refl
try_marks_as_came k es (waits n ms) h = refl
try_marks_as_came k es (stops n) h = refl

either_none : (b : Bool) (os : List Opening) → os ≡ [] → cond b [] os ≡ []
either_none true os e = refl
either_none false os e = e

pub live_none : (k : ℕ) (es : List Event) → openings k es ≡ [] → live k es ≡ []
unfolding live
live_none k es e = either_none (open_has_ended k es) (openings k es) e

pub live_ended : (k : ℕ) (es : List Event) → open_has_ended k es ≡ true → live k es ≡ []
unfolding live
live_ended k es e = ap (λ b. cond b [] (openings k es)) e

pub live_one : (k : ℕ) (es : List Event) (o : Opening) → openings k es ≡ o ∷ [] → open_has_ended k es ≡ false → live k es ≡ o ∷ []
unfolding live
live_one k es o e f = ap (λ b. cond b [] (openings k es)) f ∙ e

-- an event brings open k nothing: no datagram, no segment and no time
abbrev pub BringsNone : ℕ → List Event → Event → Type 0
BringsNone k es e = (call_at k es e ≡ []) × (came_at k es e ≡ [])

-- what comes to no open
pub no_call : (k : ℕ) (es : List Event) (e : Event) → IsUsed e → live k es ≡ [] → BringsNone k es e
no_call k es (puts o) h none = absurd h
no_call k es (starts n s) h none = (refl, refl)
no_call k es (hears n bytes m) h none = (ap (λ os. flat_map (came_in n (time es) m) os) none, ap (λ os. flat_map (segment_in n (time es) m) os) none)
no_call k es (waits n ms) h none =
    (ap (λ (os : List Opening). flat_map (λ o. ticked (time es + ms) ∷ []) os) none, ap (λ (os : List Opening). flat_map (λ o. by_time (time es + ms) ∷ []) os) none)
no_call k es (stops n) h none = (refl, refl)

pub made_used : (es : List Event) (e : Event) → IsUsed e → made (es ++ e ∷ []) ≡ made es
made_used es e u = made_more es e ∙ ap (λ z. made es + z) (no_made e u) ∙ add-zero (made es)

pub used_same : (j : ℕ) (es : List Event) (e : Event) → IsUsed e → BringsNone j es e → SameAt j es (es ++ e ∷ [])
used_same j es e u none = record {
  openings_are = openings_more j es e ∙ no_more (openings j es) _ (no_opening j es e u);
  sessions_are = sessions_stay j es e (no_opening j es e u);
  over_are = over_more j es e ∙ no_or (open_has_ended j es) _ (no_end j e u);
  calls_are = calls_more j es e ∙ no_more (calls j es) _ none.0;
  marks_are = marks_more j es e ∙ no_more (marks j es) _ (marks_as_calls j es e u ∙ ap (λ z. map mark_of_call z) none.0);
  came_are = came_more j es e ∙ no_more (brought_to j es) _ none.1;
  try_marks_are = try_marks_more j es e ∙ no_more (try_marks_of j es) _ (try_marks_as_came j es e u ∙ ap (λ z. map (λ c. comes_in (call_of c)) z) none.1);
}

pub offset_used : (es : List Event) (e : Event) → IsUsed e → IsFurther e → port_offset (es ++ e ∷ []) ≡ port_offset es
offset_used es (starts n s) u f = absurd f
offset_used es (puts o) u f = absurd u
offset_used es (hears n bytes m) u f = offset_more es (hears n bytes m)
offset_used es (waits n ms) u f = offset_more es (waits n ms)
offset_used es (stops n) u f = offset_more es (stops n)

pub hardware_used : (es : List Event) (e : Event) → IsUsed e → IsFurther e → hardware (es ++ e ∷ []) ≡ hardware es
hardware_used es (starts n s) u f = absurd f
hardware_used es (puts o) u f = absurd u
hardware_used es (hears n bytes m) u f = hardware_more es (hears n bytes m)
hardware_used es (waits n ms) u f = hardware_more es (waits n ms)
hardware_used es (stops n) u f = hardware_more es (stops n)

pub has_come : (es : List Event) (e : Event) (input : OpenInput) (l : Live) → IsUsed e → IsFurther e → AgreesLive es l → call_at l.number es e ≡ heard_call l.kind input → came_at l.number es e ≡ came_on input → IsNow input (time (es ++ e ∷ [])) →
    ComesToOwnPort l.kind l.own input → IsDueBy input l.number (es ++ e ∷ []) → HasCome (es ++ e ∷ []) input l
has_come es e input l u further h one streamed_one now own due =
    let k = l.number in record {
      made_so = subst (λ z. l.number < z) (sym (made_used es e u)) h.made_so;
      on_net0 = h.on_net0;
      kind_is = subst (λ z. IsKindBy z l.number l.kind (live_opening l)) (sym (hardware_used es e u further)) h.kind_is;
      login = login_on k es (es ++ e ∷ []) l.kind (live_opening l) (sessions_stay k es e (no_opening k es e u)) h.login;
      opening = openings_more k es e ∙ no_more (openings k es) _ (no_opening k es e u) ∙ h.opening;
      lives = over_more k es e ∙ no_or (open_has_ended k es) _ (no_end k e u) ∙ h.lives;
      received = calls_more k es e ∙ ap (λ z. calls k es ++ z) one ∙ ap (λ z. z ++ heard_call l.kind input) h.received;
      tells = marks_more k es e ∙ ap (λ z. marks k es ++ z) (marks_as_calls k es e u ∙ ap (λ z. map mark_of_call z) one) ∙ ap (λ z. z ++ map mark_of_call (heard_call l.kind input)) h.tells;
      streams = came_more k es e ∙ ap (λ z. brought_to k es ++ z) streamed_one ∙ ap (λ z. z ++ came_on input) h.streams;
      tries_stand = try_marks_more k es e ∙ ap (λ z. try_marks_of k es ++ z) (try_marks_as_came k es e u ∙ ap (λ z. map (λ c. comes_in (call_of c)) z) streamed_one) ∙ ap (λ z. z ++ came_marks input) h.tries_stand;
      goes_on = h.goes_on;
      now = now;
      own = own;
      due = due;
    }
