-- Records that stand somewhere in an output: those by which objects are made and freed; closes, commands and ends among some records.
use Rattle.std.proofs.Common.{◌≡◌, ◌⊎◌, inl, inr, ℕ, ◌==◌, Bool, true, false, List, [], ◌∷◌, ◌++◌, map, Option, Some, None, refl, sym, ◌∙◌, ap, subst, append_assoc, if◌then◌else◌}
use Rattle.std.specs.List.{AllByRecursion}
use Rattle.std.proofs.lemmas.Bool.{cases_eq, ne_eqb, false≢true}
use Rattle.nb_terms.specs.declared.cause.Cause.{Cause}
use Rattle.nb_terms.specs.declared.event.Event.{Event}
use Rattle.nb_defs.specs.Records.{Out, step, sent, text, command, result, script, opened, tried, advanced, ended, graph, part, done}
use Rattle.nb_ledger.specs.Flat.{flat}
use Rattle.nb_ledger.specs.declared.event.GraphEvent.{GraphEvent}
use Rattle.nb_ledger.specs.declared.event.GraphEvent.TheVariants.{Made, Held, LetGo, Plugged, Entered, Left, Dropped, Closed, Unplugged, Freed}
use Rattle.nb_ledger.specs.GraphRun.{GraphState, GraphRunOf}
use Rattle.nb_frames.specs.Within.{IsEventWithin}
use Rattle.nb_frames.specs.Frames.{is_one_of}
use Rattle.nb_traced.specs.Holdings.{GraphObject}
use Rattle.nb_traced.specs.Pieces.{IsMaking, IsOfOpen, IsApart, event_records, made_by, pieces_made, close_cause, first_or, first_close_of}
use Rattle.nb_traced.specs.Runs.{LeadsBy, event_in, events_in}
use Rattle.nb_traced.specs.Openings.{IsCommand, HaveNoCommand, made_record, WasMadeLast, WasFreed, IsNoEnd, HasNoEnd}
use Rattle.nb_traced.proofs.EventLemmas.{all_append, Spells}
use Rattle.nb_traced.proofs.StateLemmas.{live_by, step_changes}

-- a record that says nothing of the graph, and neither begins nor ends an open
abbrev pub IsAside : Out → Type 0
IsAside (graph happens) = ⊥
IsAside (opened number kind server port own target) = ⊥
IsAside (ended number cause) = ⊥
IsAside (step number) = Unit {0}
IsAside (sent bytes) = Unit {0}
IsAside (text bytes) = Unit {0}
IsAside (command depth line place expanded words) = Unit {0}
IsAside (result cause) = Unit {0}
IsAside (script what depth cause) = Unit {0}
IsAside (tried number count) = Unit {0}
IsAside (advanced number place) = Unit {0}
IsAside (part kind index offset bytes) = Unit {0}
IsAside (done status) = Unit {0}

abbrev pub AreAside : List Out → Type 0
AreAside outs = AllByRecursion IsAside outs

apart_aside : (o : Out) → IsApart o → IsAside o
apart_aside (step number) h = tt
apart_aside (text bytes) h = tt
apart_aside (result cause) h = tt
apart_aside (script what depth cause) h = tt
apart_aside (part kind index offset bytes) h = tt
apart_aside (done status) h = tt
apart_aside (command depth line place expanded words) h = absurd h
apart_aside (sent bytes) h = absurd h
apart_aside (tried number count) h = absurd h
apart_aside (advanced number place) h = absurd h
apart_aside (graph happens) h = absurd h
apart_aside (opened number kind server port own target) h = absurd h
apart_aside (ended number cause) h = absurd h

pub aparts_aside : (outs : List Out) → AllByRecursion IsApart outs → AreAside outs
aparts_aside [] h = tt
aparts_aside (o ∷ outs) h = (apart_aside o h.0, aparts_aside outs h.1)

apart_no_command : (o : Out) → IsApart o → IsCommand o → ⊥
apart_no_command (command depth line place expanded words) h c = h
apart_no_command (step number) h c = c
apart_no_command _ h c = c

pub aparts_no_command : (outs : List Out) → AllByRecursion IsApart outs → HaveNoCommand outs
aparts_no_command [] h = tt
aparts_no_command (o ∷ outs) h = (apart_no_command o h.0, aparts_no_command outs h.1)

pub put_aside : (k : ℕ) (o : Out) → IsOfOpen k o → IsAside o
put_aside k (sent bytes) h = tt
put_aside k (tried number count) h = tt
put_aside k (advanced number place) h = tt
put_aside k (graph happens) h = absurd h
put_aside k (opened number kind server port own target) h = absurd h
put_aside k (ended number cause) h = absurd h
put_aside k (step number) h = absurd h
put_aside k (text bytes) h = absurd h
put_aside k (command depth line place expanded words) h = absurd h
put_aside k (result cause) h = absurd h
put_aside k (script what depth cause) h = absurd h
put_aside k (part kind index offset bytes) h = absurd h
put_aside k (done status) h = absurd h

pub put_no_command : (k : ℕ) (o : Out) → IsOfOpen k o → IsCommand o → ⊥
put_no_command k (command depth line place expanded words) h c = h
put_no_command k (step number) h c = c
put_no_command k _ h c = c

pub events_no_command : (es : List GraphEvent) → HaveNoCommand (event_records es)
events_no_command [] = tt
events_no_command (e ∷ es) = ((λ c. c), events_no_command es)

event_aside : (o : Out) → IsAside o → event_in o ≡ []
event_aside (graph happens) h = absurd h
event_aside (step number) h = refl
event_aside _ h = refl

events_aside : (outs : List Out) → AreAside outs → events_in outs ≡ []
events_aside [] h = refl
events_aside (o ∷ outs) h = ap (λ z. z ++ events_in outs) (event_aside o h.0) ∙ events_aside outs h.1

pub spells_aside : (outs : List Out) → AreAside outs → Spells [] outs
spells_aside outs h = record { are = sym (events_aside outs h) }

-- CLOSES

first_assoc : (a b c : Option Cause) → first_or a (first_or b c) ≡ first_or (first_or a b) c
first_assoc None b c = refl
first_assoc (Some x) b c = refl

pub close_append : (ids : List ℕ) (xs ys : List Out) → first_close_of ids (xs ++ ys) ≡ first_or (first_close_of ids xs) (first_close_of ids ys)
close_append ids [] ys = refl
close_append ids (x ∷ xs) ys = ap (first_or (close_cause ids x)) (close_append ids xs ys) ∙ first_assoc (close_cause ids x) (first_close_of ids xs) (first_close_of ids ys)

close_none_then : (ids : List ℕ) (xs ys : List Out) → first_close_of ids xs ≡ None → first_close_of ids (xs ++ ys) ≡ first_close_of ids ys
close_none_then ids xs ys none = close_append ids xs ys ∙ ap (λ z. first_or z (first_close_of ids ys)) none

pub close_in_last : (ids : List ℕ) (xs ys : List Out) (c : Option Cause) → first_close_of ids xs ≡ None → first_close_of ids ys ≡ c → first_close_of ids (xs ++ ys) ≡ c
close_in_last ids xs ys c none is = close_none_then ids xs ys none ∙ is

pub close_aside : (ids : List ℕ) (o : Out) → IsAside o → close_cause ids o ≡ None
close_aside ids (graph happens) h = absurd h
close_aside ids (step number) h = refl
close_aside ids _ h = refl

pub closes_aside : (ids : List ℕ) (outs : List Out) → AreAside outs → first_close_of ids outs ≡ None
closes_aside ids [] h = refl
closes_aside ids (o ∷ outs) h = ap (λ z. first_or z (first_close_of ids outs)) (close_aside ids o h.0) ∙ closes_aside ids outs h.1

-- events of others
pub close_other : (ids : List ℕ) (own : ℕ → Bool) (e : GraphEvent) → IsEventWithin own e → ((x : ℕ) → own x ≡ true → is_one_of ids x ≡ false) → close_cause ids (graph (flat e)) ≡ None
close_other ids own (Made x kind) w apart = refl
close_other ids own (Held x) w apart = refl
close_other ids own (LetGo x) w apart = refl
close_other ids own (Plugged p q) w apart = refl
close_other ids own (Entered p b) w apart = refl
close_other ids own (Left p) w apart = refl
close_other ids own (Dropped p) w apart = refl
close_other ids own (Closed p cause) w apart = ap (λ b. if b then Some cause else None) (apart p.obj.0 w)
close_other ids own (Unplugged p q) w apart = refl
close_other ids own (Freed x) w apart = refl

pub closes_other : (ids : List ℕ) (own : ℕ → Bool) (es : List GraphEvent) → AllByRecursion (IsEventWithin own) es → ((x : ℕ) → own x ≡ true → is_one_of ids x ≡ false) → first_close_of ids (event_records es) ≡ None
closes_other ids own [] w apart = refl
closes_other ids own (e ∷ es) w apart = ap (λ z. first_or z (first_close_of ids (event_records es))) (close_other ids own e w.0 apart) ∙ closes_other ids own es w.1 apart

close_making : (ids : List ℕ) (e : GraphEvent) → IsMaking e → close_cause ids (graph (flat e)) ≡ None
close_making ids (Made x kind) w = refl
close_making ids (Held x) w = refl
close_making ids (LetGo x) w = refl
close_making ids (Plugged p q) w = refl
close_making ids (Entered p b) w = refl
close_making ids (Left p) w = refl
close_making ids (Dropped p) w = refl
close_making ids (Closed p cause) w = absurd w
close_making ids (Unplugged p q) w = refl
close_making ids (Freed x) w = refl

pub closes_making : (ids : List ℕ) (es : List GraphEvent) → AllByRecursion IsMaking es → first_close_of ids (event_records es) ≡ None
closes_making ids [] w = refl
closes_making ids (e ∷ es) w = ap (λ z. first_or z (first_close_of ids (event_records es))) (close_making ids e w.0) ∙ closes_making ids es w.1

-- ENDS

pub no_end_aside : (k : ℕ) (o : Out) → IsAside o → IsNoEnd k o
no_end_aside k (ended number cause) h = absurd h
no_end_aside k (step number) h = tt
no_end_aside k _ h = tt

pub goes_on_aside : (k : ℕ) (outs : List Out) → AreAside outs → HasNoEnd k outs
goes_on_aside k [] h = tt
goes_on_aside k (o ∷ outs) h = (no_end_aside k o h.0, goes_on_aside k outs h.1)

pub goes_on_events : (k : ℕ) (es : List GraphEvent) → HasNoEnd k (event_records es)
goes_on_events k [] = tt
goes_on_events k (e ∷ es) = (tt, goes_on_events k es)

pub goes_on_then : (k : ℕ) (xs ys : List Out) → HasNoEnd k xs → HasNoEnd k ys → HasNoEnd k (xs ++ ys)
goes_on_then k xs ys a b = all_append (IsNoEnd k) xs ys a b

-- WHAT IS MADE

pub made_last_then : (outs added : List Out) (p : GraphObject) → WasMadeLast outs p → HaveNoCommand added → WasMadeLast (outs ++ added) p
made_last_then outs added p m none = record {
  earlier = m.earlier;
  since = m.since ++ added;
  all = ap (λ z. z ++ added) m.all ∙ append_assoc m.earlier (made_record p ∷ m.since) added;
  none = all_append (λ o. IsCommand o → ⊥) m.since added m.none none;
}

made_first_by : (outs : List Out) (e : GraphEvent) (es : List GraphEvent) → IsMaking e → AllByRecursion (WasMadeLast (outs ++ (graph (flat e) ∷ event_records es))) (made_by e)
made_first_by outs (Made x kind) es w = (record { earlier = outs; since = event_records es; all = refl; none = events_no_command es }, tt)
made_first_by outs (Held x) es w = tt
made_first_by outs (Plugged p q) es w = tt
made_first_by outs (LetGo x) es w = absurd w
made_first_by outs (Entered p b) es w = absurd w
made_first_by outs (Left p) es w = absurd w
made_first_by outs (Dropped p) es w = absurd w
made_first_by outs (Closed p cause) es w = absurd w
made_first_by outs (Unplugged p q) es w = absurd w
made_first_by outs (Freed x) es w = absurd w

pub all_made_last : (outs : List Out) (es : List GraphEvent) → AllByRecursion IsMaking es → AllByRecursion (WasMadeLast (outs ++ event_records es)) (pieces_made es)
all_made_last outs [] w = tt
all_made_last outs (e ∷ es) w =
    all_append (WasMadeLast (outs ++ (graph (flat e) ∷ event_records es))) (made_by e) (pieces_made es) (made_first_by outs e es w.0)
    (subst (λ z. AllByRecursion (WasMadeLast z) (pieces_made es)) (append_assoc outs (graph (flat e) ∷ []) (event_records es)) (all_made_last (outs ++ (graph (flat e) ∷ [])) es w.1))

-- WHAT IS FREED

abbrev SomeIs : Event → List Event → Type 0
SomeIs v [] = ⊥
SomeIs v (w ∷ ws) = (w ≡ v) ⊎ SomeIs v ws

made_keeps : (b c : Bool) → c ≡ true → (if b then true else c) ≡ true
made_keeps true c h = refl
made_keeps false c h = h

frees : (e : GraphEvent) (f : ℕ → Bool) (x : ℕ) → f x ≡ true → (flat e ≡ flat (Freed (record { 0 = x }))) ⊎ (live_by e f x ≡ true)
frees (Made y kind) f x h = inr (made_keeps (x == y.0) (f x) h)
frees (Freed y) f x h = elim (cases_eq x y.0) [
  | inl e ↦ inl (ap (λ z. flat (Freed (record { 0 = z }))) (sym e))
  | inr n ↦ inr (ap (λ b. if b then false else f x) (ne_eqb x y.0 n) ∙ h)
]
frees (Held y) f x h = inr h
frees (LetGo y) f x h = inr h
frees (Plugged p q) f x h = inr h
frees (Entered p b) f x h = inr h
frees (Left p) f x h = inr h
frees (Dropped p) f x h = inr h
frees (Closed p cause) f x h = inr h
frees (Unplugged p q) f x h = inr h

run_frees : (es : List GraphEvent) (s t : GraphState) (x : ℕ) → GraphRunOf s es t → s.live x ≡ true → t.live x ≡ false → SomeIs (flat (Freed (record { 0 = x }))) (map flat es)
run_frees [] s t x r lives gone = false≢true (sym gone ∙ ap (λ (z : GraphState). z.live x) (sym r) ∙ lives)
run_frees (e ∷ es) s t x (mid, k, r) lives gone =
    let c = step_changes e s mid k in
    elim (frees e s.live x lives) [
      | inl is ↦ inl is
      | inr on ↦ inr (run_frees es mid t x r (ap (λ (f : ℕ → Bool). f x) c.live ∙ on) gone)
    ]

later_freed : (o : Out) (outs : List Out) (x : ℕ) → WasFreed outs x → WasFreed (o ∷ outs) x
later_freed o outs x f = record { earlier = o ∷ f.earlier; since = f.since; all = ap (λ z. o ∷ z) f.all }

stands : (outs : List Out) (x : ℕ) → SomeIs (flat (Freed (record { 0 = x }))) (events_in outs) → WasFreed outs x
stands [] x h = absurd h
stands (graph v ∷ outs) x (inl is) = record { earlier = []; since = outs; all = ap (λ z. graph z ∷ outs) is }
stands (graph v ∷ outs) x (inr h) = later_freed (graph v) outs x (stands outs x h)
stands (step n ∷ outs) x h = later_freed (step n) outs x (stands outs x h)
stands (o ∷ outs) x h = later_freed o outs x (stands outs x h)

-- an object that lived and is gone was freed
pub was_freed : (outs : List Out) (s t : GraphState) (x : ℕ) → LeadsBy s outs t → s.live x ≡ true → t.live x ≡ false → WasFreed outs x
was_freed outs s t x l lives gone = stands outs x (subst (SomeIs (flat (Freed (record { 0 = x })))) l.are (run_frees l.events s t x l.run lives gone))
