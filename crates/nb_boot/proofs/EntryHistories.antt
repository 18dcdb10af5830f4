-- A history that goes on from another.
use Rattle.std.proofs.Common.{◌≡◌, ℕ, Bool, true, false, not, cond, List, [], ◌∷◌, ◌++◌, refl, sym, ◌∙◌, ap, subst, append_assoc, append-nil}
use Rattle.std.proofs.lemmas.List.Elements.{filter-append}
use Rattle.std.proofs.lemmas.List.Concat.{flat_map-append}
use Rattle.nb_defs.specs.Records.{In, start, frame, tick, off, Out, step}
use Rattle.nb_stack.specs.Brings.{Brings}
use Rattle.nb_stack.proofs.MessageLaws.{message_one}
use Rattle.nb_traced.specs.Plain.{is_graph, without_graph}
use Rattle.nb_laws.specs.Events.{Event, starts, hears, waits, stops, puts, used_by, written_by, put_one, inputs, outputs, EachEvent, EachThen}
use Rattle.nb_laws.specs.Histories.{IsRead, IsHistory, client}
use Rattle.nb_openlaws.proofs.UsedEvents.{IsUsed}
use Rattle.nb_laws.proofs.Tellings.{told}
use Rattle.nb_traced.proofs.Plain.{plain_append}
use Rattle.nb_boot.specs.Entries.{is_of_graph, plain}

-- A HISTORY THAT GOES ON

no_step : (before : List Event) (n : ℕ) (o : Out) → step n ≡ o → IsRead before (puts o) → ⊥
no_step before n o e read = subst (λ z. IsRead before (puts z)) (sym e) read

-- the same event, and the same records after it
record Same (x y : Event) (I J : List In) (O P : List Out) : Type 0 where
  event : x ≡ y
  inputs : I ≡ J
  outputs : O ≡ P

same : (before : List Event) (x y : Event) (I J : List In) (O P : List Out) → used_by x ++ I ≡ used_by y ++ J → written_by x ∷ O ≡ written_by y ∷ P → IsRead before x → IsRead before y → Same x y I J O P
same before (starts n s) (starts k t) I J O P i o p q = let en : n ≡ k = cc in let es : s ≡ t = cc in record { event = cc; inputs = cc; outputs = cc }
same before (starts n s) (hears k bytes m) I J O P i o p q = absurd (cc)
same before (starts n s) (waits k ms) I J O P i o p q = absurd (cc)
same before (starts n s) (stops k) I J O P i o p q = absurd (cc)
same before (starts n s) (puts z) I J O P i o p q = absurd (no_step before n z (cc) q)
same before (hears n bytes m) (starts k t) I J O P i o p q = absurd (cc)
same before (hears n bytes m) (hears k bytes2 m2) I J O P i o p q =
    let eb : bytes2 ≡ bytes = cc in
    let em : m ≡ m2 = message_one (client before).up (client before).mac (client before).address bytes m m2 p (subst (λ z. Brings (client before).up (client before).mac (client before).address z m2) eb q) in
    let en : n ≡ k = cc in
    record { event = cc; inputs = cc; outputs = cc }
same before (hears n bytes m) (waits k ms) I J O P i o p q = absurd (cc)
same before (hears n bytes m) (stops k) I J O P i o p q = absurd (cc)
same before (hears n bytes m) (puts z) I J O P i o p q = absurd (no_step before n z (cc) q)
same before (waits n ms) (starts k t) I J O P i o p q = absurd (cc)
same before (waits n ms) (hears k bytes m) I J O P i o p q = absurd (cc)
same before (waits n ms) (waits k ms2) I J O P i o p q = let en : n ≡ k = cc in let em : ms ≡ ms2 = cc in record { event = cc; inputs = cc; outputs = cc }
same before (waits n ms) (stops k) I J O P i o p q = absurd (cc)
same before (waits n ms) (puts z) I J O P i o p q = absurd (no_step before n z (cc) q)
same before (stops n) (starts k t) I J O P i o p q = absurd (cc)
same before (stops n) (hears k bytes m) I J O P i o p q = absurd (cc)
same before (stops n) (waits k ms) I J O P i o p q = absurd (cc)
same before (stops n) (stops k) I J O P i o p q = let en : n ≡ k = cc in record { event = cc; inputs = cc; outputs = cc }
same before (stops n) (puts z) I J O P i o p q = absurd (no_step before n z (cc) q)
same before (puts z) (starts k t) I J O P i o p q = absurd (no_step before k z (cc) p)
same before (puts z) (hears k bytes m) I J O P i o p q = absurd (no_step before k z (cc) p)
same before (puts z) (waits k ms) I J O P i o p q = absurd (no_step before k z (cc) p)
same before (puts z) (stops k) I J O P i o p q = absurd (no_step before k z (cc) p)
same before (puts z) (puts y) I J O P i o p q = let e : z ≡ y = cc in record { event = cc; inputs = i; outputs = cc }

-- it is the other with more events, which have the other records
pub record GoesOn (a es : List Event) (I : List In) (O : List Out) : Type 0 where
  pub more : List Event
  pub all : es ≡ a ++ more
  pub inputs_are : inputs more ≡ I
  pub outputs_are : outputs more ≡ O

pub goes_on_from : (before a es : List Event) (I : List In) (O : List Out) → inputs es ≡ inputs a ++ I → outputs es ≡ outputs a ++ O → EachEvent IsRead before a → EachEvent IsRead before es → GoesOn a es I O
goes_on_from before [] es I O i o p q = record { more = es; all = refl; inputs_are = i; outputs_are = o }
goes_on_from before (x ∷ a) [] I O i o p q = absurd (cc)
goes_on_from before (x ∷ a) (y ∷ es) I O i o p q =
    let s = same before y x (inputs es) (inputs a ++ I) (outputs es) (outputs a ++ O) (i ∙ append_assoc (used_by x) (inputs a) I) o q.0 p.0 in
    let rest = goes_on_from (before ++ x ∷ []) a es I O s.inputs s.outputs p.1 (subst (λ z. EachEvent IsRead (before ++ z ∷ []) es) s.event q.1) in
    record { more = rest.more; all = ap (λ z. z ∷ es) s.event ∙ ap (λ z. x ∷ z) rest.all; inputs_are = rest.inputs_are; outputs_are = rest.outputs_are }

-- no record is used: all are written
pub all_told : (es : List Event) → inputs es ≡ [] → es ≡ told (outputs es)
all_told [] none = refl
all_told (puts o ∷ es) none = ap (λ z. puts o ∷ z) (all_told es none)
all_told (starts n s ∷ es) none = absurd (cc)
all_told (hears n bytes m ∷ es) none = absurd (cc)
all_told (waits n ms ∷ es) none = absurd (cc)
all_told (stops n ∷ es) none = absurd (cc)

pub told_outputs : (outs : List Out) → outputs (told outs) ≡ outs
told_outputs [] = refl
told_outputs (o ∷ outs) = ap (λ z. o ∷ z) (told_outputs outs)

pub outputs_append : (a b : List Event) → outputs (a ++ b) ≡ outputs a ++ outputs b
outputs_append a b = flat_map-append put_one a b

pub plain_events_append : (a b : List Event) → plain (a ++ b) ≡ plain a ++ plain b
plain_events_append a b = filter-append (λ e. not (is_of_graph e)) a b

plain_one : (b : Bool) (o : Out) (outs : List Out) → cond (not b) (puts o ∷ told outs) (told outs) ≡ told (cond (not b) (o ∷ outs) outs)
plain_one true o outs = refl
plain_one false o outs = refl

pub plain_told : (outs : List Out) → plain (told outs) ≡ told (without_graph outs)
plain_told [] = refl
plain_told (o ∷ outs) = ap (λ z. cond (not (is_graph o)) (puts o ∷ z) z) (plain_told outs) ∙ plain_one (is_graph o) o (without_graph outs)

pub plain_used : (e : Event) → IsUsed e → plain (e ∷ []) ≡ e ∷ []
plain_used (puts o) h = absurd h
plain_used (starts n s) h = refl
plain_used (hears n bytes m) h = refl
plain_used (waits n ms) h = refl
plain_used (stops n) h = refl

pub each_first : (P : List Event → Event → Type 0) (before xs ys : List Event) → EachEvent P before (xs ++ ys) → EachEvent P before xs
each_first P before [] ys all = tt
each_first P before (x ∷ xs) ys all = (all.0, each_first P (before ++ x ∷ []) xs ys all.1)

pub each_last : (P : List Event → Event → Type 0) (before xs ys : List Event) → EachEvent P before (xs ++ ys) → EachEvent P (before ++ xs) ys
each_last P before [] ys all = subst (λ z. EachEvent P z ys) (sym (append-nil before)) all
each_last P before (x ∷ xs) ys all = subst (λ z. EachEvent P z ys) (append_assoc before (x ∷ []) xs) (each_last P (before ++ x ∷ []) xs ys all.1)

-- the same, of what stands after each
pub each_then_last : (P : List Event → Event → List Event → Type 0) (before xs ys : List Event) → EachThen P before (xs ++ ys) → EachThen P (before ++ xs) ys
each_then_last P before [] ys all = subst (λ z. EachThen P z ys) (sym (append-nil before)) all
each_then_last P before (x ∷ xs) ys all = subst (λ z. EachThen P z ys) (append_assoc before (x ∷ []) xs) (each_then_last P (before ++ x ∷ []) xs ys all.1)

-- A RUN'S HISTORY GOES ON

-- the event that a record used is, which is read, and the records that are written after it
pub record FirstUsed (es all : List Event) (r : In) (number : ℕ) (outs : List Out) : Type 0 where
  pub event : Event
  pub used : IsUsed event
  pub is_record : used_by event ≡ r ∷ []
  pub is_step : written_by event ≡ step number
  pub read : IsRead es event
  pub goes_on : all ≡ (es ++ event ∷ []) ++ told outs

tail_same : (x y : In) (xs ys : List In) → x ∷ xs ≡ y ∷ ys → xs ≡ ys
tail_same x y xs ys e = cc

outs_tail : (x y : Out) (xs ys : List Out) → x ∷ xs ≡ y ∷ ys → xs ≡ ys
outs_tail x y xs ys e = cc

first_of : (es : List Event) (e : Event) (x : In) (more : List Event) (r : In) (number : ℕ) (outs : List Out) → IsUsed e → used_by e ≡ x ∷ [] → used_by e ++ inputs more ≡ r ∷ [] → written_by e ∷ outputs more ≡ step number ∷ outs →
    EachEvent IsRead es (e ∷ more) → FirstUsed es (es ++ e ∷ more) r number outs
first_of es e x more r number outs used is i o read =
    let both : x ∷ inputs more ≡ r ∷ [] = ap (λ z. z ++ inputs more) (sym is) ∙ i in
    let none : inputs more ≡ [] = tail_same x r (inputs more) [] both in
    let head : x ≡ r = cc in
    record {
      event = e;
      used = used;
      is_record = is ∙ ap (λ z. z ∷ []) head;
      is_step = cc;
      read = read.0;
      goes_on = sym (append_assoc es (e ∷ []) more) ∙ ap (λ z. (es ++ e ∷ []) ++ z) (all_told more none ∙ ap told (outs_tail (written_by e) (step number) (outputs more) outs o));
    }

used_first : (es : List Event) (more : List Event) (r : In) (number : ℕ) (outs : List Out) → inputs more ≡ r ∷ [] → outputs more ≡ step number ∷ outs → EachEvent IsRead es more → FirstUsed es (es ++ more) r number outs
used_first es [] r number outs i o read = absurd (let no : [] ≡ r ∷ [] = i in cc)
used_first es (puts z ∷ more) r number outs i o read = absurd (no_step es number z (cc) read.0)
used_first es (starts k s ∷ more) r number outs i o read = first_of es (starts k s) (start s) more r number outs tt refl i o read
used_first es (hears k bytes m ∷ more) r number outs i o read = first_of es (hears k bytes m) (frame bytes) more r number outs tt refl i o read
used_first es (waits k ms ∷ more) r number outs i o read = first_of es (waits k ms) (tick ms) more r number outs tt refl i o read
used_first es (stops k ∷ more) r number outs i o read = first_of es (stops k) off more r number outs tt refl i o read

-- it used one more record
pub used_history : (ins : List In) (outs more : List Out) (es all : List Event) (r : In) (number : ℕ) → IsHistory ins (without_graph outs) es → IsHistory (ins ++ r ∷ []) (without_graph (outs ++ (step number ∷ more))) all →
    FirstUsed es all r number (without_graph more)
used_history ins outs more es all r number h hall =
    let g = goes_on_from [] es all (r ∷ []) (step number ∷ without_graph more) (sym hall.used ∙ ap (λ z. z ++ r ∷ []) h.used)
    (sym hall.written ∙ plain_append outs (step number ∷ more) ∙ ap (λ z. z ++ step number ∷ without_graph more) h.written) h.read hall.read in
    subst (λ z. FirstUsed es z r number (without_graph more)) (sym g.all)
    (used_first es g.more r number (without_graph more) g.inputs_are g.outputs_are (each_last IsRead [] es g.more (subst (λ z. EachEvent IsRead [] z) g.all hall.read)))

-- or wrote more
pub written_history : (ins : List In) (outs more : List Out) (es all : List Event) → IsHistory ins (without_graph outs) es → IsHistory ins (without_graph (outs ++ more)) all → all ≡ es ++ told (without_graph more)
written_history ins outs more es all h hall =
    let g = goes_on_from [] es all [] (without_graph more) (sym hall.used ∙ h.used ∙ sym (append-nil (inputs es)))
    (sym hall.written ∙ plain_append outs more ∙ ap (λ z. z ++ without_graph more) h.written) h.read hall.read in
    g.all ∙ ap (λ z. es ++ z) (all_told g.more g.inputs_are ∙ ap told g.outputs_are)
