-- The events of the graph among some records, and the records of some events.
use Rattle.std.proofs.Common.{◌≡◌, ℕ, List, [], ◌∷◌, ◌++◌, map, refl, sym, ◌∙◌, ap, append_assoc}
use Rattle.std.specs.List.{AllByRecursion}
use Rattle.std.proofs.lemmas.List.{map-append}
use Rattle.nb_defs.specs.Records.{Out, step, ended, graph}
use Rattle.nb_ledger.specs.Flat.{flat}
use Rattle.nb_ledger.specs.declared.event.GraphEvent.{GraphEvent}
use Rattle.nb_traced.specs.Pieces.{event_records, IsOfOpen, IsApart}
use Rattle.nb_traced.specs.Runs.{event_in, events_in}

-- a list of which each is so, of two parts
pub all_append : {A : Type 0} (P : A → Type 0) (xs ys : List A) → AllByRecursion P xs → AllByRecursion P ys → AllByRecursion P (xs ++ ys)
all_append P [] ys a b = b
all_append P (x ∷ xs) ys a b = (a.0, all_append P xs ys a.1 b)

pub all_first : {A : Type 0} (P : A → Type 0) (xs ys : List A) → AllByRecursion P (xs ++ ys) → AllByRecursion P xs
all_first P [] ys a = tt
all_first P (x ∷ xs) ys a = (a.0, all_first P xs ys a.1)

pub all_last : {A : Type 0} (P : A → Type 0) (xs ys : List A) → AllByRecursion P (xs ++ ys) → AllByRecursion P ys
all_last P [] ys a = a
all_last P (x ∷ xs) ys a = all_last P xs ys a.1

pub all_map : {A : Type 0} (P Q : A → Type 0) (xs : List A) → ((x : A) → P x → Q x) → AllByRecursion P xs → AllByRecursion Q xs
all_map P Q [] f a = tt
all_map P Q (x ∷ xs) f a = (f x a.0, all_map P Q xs f a.1)

pub all_each : {A : Type 0} (P : A → Type 0) (xs : List A) → ((x : A) → P x) → AllByRecursion P xs
all_each P [] f = tt
all_each P (x ∷ xs) f = (f x, all_each P xs f)

pub event_records_append : (xs ys : List GraphEvent) → event_records (xs ++ ys) ≡ event_records xs ++ event_records ys
event_records_append xs ys = map-append (λ e. graph (flat e)) xs ys

pub events_append : (xs ys : List Out) → events_in (xs ++ ys) ≡ events_in xs ++ events_in ys
events_append [] ys = refl
events_append (x ∷ xs) ys = ap (λ z. event_in x ++ z) (events_append xs ys) ∙ sym (append_assoc (event_in x) (events_in xs) (events_in ys))

-- These are the events of those records.
pub record Spells (es : List GraphEvent) (outs : List Out) : Type 0 where
  pub are : map flat es ≡ events_in outs

spelled : (es : List GraphEvent) → map flat es ≡ events_in (event_records es)
spelled [] = refl
spelled (e ∷ es) = ap (λ z. flat e ∷ z) (spelled es)

pub spells_events : (es : List GraphEvent) → Spells es (event_records es)
spells_events es = record { are = spelled es }

pub spells_append : {es fs : List GraphEvent} {xs ys : List Out} → Spells es xs → Spells fs ys → Spells (es ++ fs) (xs ++ ys)
spells_append {es = es} {fs = fs} {xs = xs} {ys = ys} a b =
    record { are = map-append flat es fs ∙ ap (λ z. z ++ map flat fs) a.are ∙ ap (λ z. events_in xs ++ z) b.are ∙ sym (events_append xs ys) }

apart_none : (o : Out) → IsApart o → event_in o ≡ []
apart_none (graph happens) h = absurd h
apart_none (step number) h = refl
apart_none _ h = refl

aparts_none : (outs : List Out) → AllByRecursion IsApart outs → events_in outs ≡ []
aparts_none [] h = refl
aparts_none (o ∷ outs) h = ap (λ z. z ++ events_in outs) (apart_none o h.0) ∙ aparts_none outs h.1

pub spells_apart : (outs : List Out) → AllByRecursion IsApart outs → Spells [] outs
spells_apart outs h = record { are = sym (aparts_none outs h) }

pub put_none : (k : ℕ) (o : Out) → IsOfOpen k o → event_in o ≡ []
put_none k (graph happens) h = absurd h
put_none k (step number) h = refl
put_none k _ h = refl

pub spells_ended : (k : ℕ) (cause : _) → Spells [] (ended k cause ∷ [])
spells_ended k cause = record { are = refl }

pub all_zip : {A : Type 0} (P Q R : A → Type 0) (xs : List A) → ((x : A) → P x → Q x → R x) → AllByRecursion P xs → AllByRecursion Q xs → AllByRecursion R xs
all_zip P Q R [] f a b = tt
all_zip P Q R (x ∷ xs) f a b = (f x a.0 b.0, all_zip P Q R xs f a.1 b.1)
