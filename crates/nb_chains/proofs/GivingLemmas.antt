-- What a call of the graph gives the outside, and what several do one after another.
use Rattle.std.proofs.Common.{◌≡◌, ℕ, Bool, true, List, [], ◌∷◌, ◌++◌, map, refl, sym, ap, ◌∙◌, subst}
use Rattle.std.specs.List.{AllByRecursion}
use Rattle.std.proofs.lemmas.List.{map-append}
use Rattle.nb_ledger.specs.declared.event.GraphEvent.{GraphEvent}
use Rattle.nb_ledger.specs.declared.event.GraphEvent.TheVariants.{Made, Held, LetGo, Plugged, Entered, Left, Dropped, Closed, Unplugged, Freed}
use Rattle.nb_ledger.specs.Flat.{Given, Heard, Notice, all, event, events_part, flat, message}
use Rattle.nb_ledger.specs.GraphRun.{GraphRunOf}
use Rattle.nb_ledger.specs.Ledger.{run_state}
use Rattle.nb_ledger.proofs.RunLemmas.{Given-append, Given-none, Run-append}
use Rattle.nb_graph.specs.Deeds.{Deed, Stage, writes, begins, calls, turns, events_of, told_of, is_shut, is_full, comes_to, is_reached, is_dead, arrives, goes_out, stays, lets_go, none_held}
use Rattle.nb_graph.specs.Trace.{Nature, NodeEntry}
use Rattle.nb_graph.specs.Went.{WentOne, all_of}
use Rattle.nb_graph.specs.Whole.{Objects}
use Rattle.nb_frames.specs.Within.{IsEventWithin}
use Rattle.nb_frames.proofs.WithinLemmas.{IsDeedWithin}
use Rattle.nb_nodes.specs.declared.load.Load.{Load}
use Rattle.nb_nodes.specs.declared.obj.Obj.{Obj}
use Rattle.nb_nodes.specs.Objects.{obj_nature}
use Rattle.nb_nodes.specs.Standing.{ObjStands}
use Rattle.nb_chains.specs.Giving.{CallGives, IsMakeWithin}

-- the events among what an outside is given are those that happened
pub events_given : {N L : Type 0} (ds : List (Deed N L)) → events_part (told_of ds) ≡ map flat (events_of ds)
events_given [] = refl
events_given (writes e ∷ ds) = ap (λ z. flat e ∷ z) (events_given ds)
events_given (begins x n ∷ ds) = events_given ds
events_given (calls x i ∷ ds) = events_given ds
events_given (turns (is_shut p) ∷ ds) = events_given ds
events_given (turns (is_full p) ∷ ds) = events_given ds
events_given (turns (comes_to x) ∷ ds) = events_given ds
events_given (turns is_reached ∷ ds) = events_given ds
events_given (turns (is_dead x) ∷ ds) = events_given ds
events_given (turns (arrives p q) ∷ ds) = events_given ds
events_given (turns (goes_out p m) ∷ ds) = events_given ds
events_given (turns (stays x) ∷ ds) = events_given ds
events_given (turns (lets_go x) ∷ ds) = events_given ds
events_given (turns none_held ∷ ds) = events_given ds

-- the events of what these objects did are theirs
pub events_within : {N L : Type 0} (own : ℕ → Bool) (ds : List (Deed N L)) → AllByRecursion (IsDeedWithin own) ds → AllByRecursion (IsEventWithin own) (events_of ds)
events_within own [] q = tt
events_within own (writes e ∷ ds) q = (q.0, events_within own ds q.1)
events_within own (begins x n ∷ ds) q = absurd q.0
events_within own (calls x i ∷ ds) q = events_within own ds q.1
events_within own (turns u ∷ ds) q = events_within own ds q.1

pub each_append : {X : Type 0} (P : X → Type 0) (xs ys : List X) → AllByRecursion P xs → AllByRecursion P ys → AllByRecursion P (xs ++ ys)
each_append P [] ys p q = q
each_append P (x ∷ xs) ys p q = (p.0, each_append P xs ys p.1 q)

each_maps : {X : Type 0} (P Q : X → Type 0) → ((x : X) → P x → Q x) → (xs : List X) → AllByRecursion P xs → AllByRecursion Q xs
each_maps P Q f [] p = tt
each_maps P Q f (x ∷ xs) p = (f x p.0, each_maps P Q f xs p.1)

-- the events of fewer objects are those of more, by which some may be made too
pub more_within : (own more : ℕ → Bool) → ((x : ℕ) → own x ≡ true → more x ≡ true) → (e : GraphEvent) → IsEventWithin own e → IsEventWithin more e
more_within own more h (Made x kind) q = q
more_within own more h (Held x) q = h x.0 q
more_within own more h (LetGo x) q = h x.0 q
more_within own more h (Plugged p r) q = (h p.obj.0 q.0, h r.obj.0 q.1)
more_within own more h (Entered p by) q = h p.obj.0 q
more_within own more h (Left p) q = h p.obj.0 q
more_within own more h (Dropped p) q = h p.obj.0 q
more_within own more h (Closed p cause) q = h p.obj.0 q
more_within own more h (Unplugged p r) q = (h p.obj.0 q.0, h r.obj.0 q.1)
more_within own more h (Freed x) q = h x.0 q

pub more_making : (own more : ℕ → Bool) → ((x : ℕ) → own x ≡ true → more x ≡ true) → (e : GraphEvent) → IsMakeWithin own e → IsMakeWithin more e
more_making own more h (Made x kind) q = h x.0 q
more_making own more h (Held x) q = h x.0 q
more_making own more h (LetGo x) q = h x.0 q
more_making own more h (Plugged p r) q = (h p.obj.0 q.0, h r.obj.0 q.1)
more_making own more h (Entered p by) q = h p.obj.0 q
more_making own more h (Left p) q = h p.obj.0 q
more_making own more h (Dropped p) q = h p.obj.0 q
more_making own more h (Closed p cause) q = h p.obj.0 q
more_making own more h (Unplugged p r) q = (h p.obj.0 q.0, h r.obj.0 q.1)
more_making own more h (Freed x) q = h x.0 q

module _ (g h : Objects Obj) (m n : Heard) (now : ℕ) (asks : List (Stage Obj Load)) (k : WentOne ObjStands obj_nature now asks g h m n) where
  -- a call gives what happened in it
  pub call_gives : (may : GraphEvent → Type 0) → AllByRecursion may (events_of (all_of k.deeds)) → CallGives may g h m n (told_of (all_of k.deeds))
  call_gives may q = record {
    given = k.tells;
    events = events_of (all_of k.deeds);
    are = events_given (all_of k.deeds);
    run = subst (λ z. GraphRunOf (run_state g.book []) z (run_state h.book [])) (sym k.events) k.runs.run;
    within = q;
  }

-- one call gives the outside what it did, whatever that knew before
given_all : (front ns xs : List Notice) → xs ≡ ns → Given (all front) (all (front ++ ns)) xs
given_all front ns xs e = (tt, λ ys h. ap (λ z. z ++ xs) h ∙ ap (λ z. front ++ z) e)

module _ {N L : Type 0} (stands : N → List (NodeEntry N L) → Type 0) (known : Nature N L) (now : ℕ) (asks : List (Stage N L)) (g h : Objects N) (m n : Heard) where
  pub known_call : (k : WentOne stands known now asks g h m n) (front ns : List Notice) → told_of (all_of k.deeds) ≡ ns → WentOne stands known now asks g h (all front) (all (front ++ ns))
  known_call k front ns e = record {
    added = k.added;
    runs = record { told = (told_of (all_of k.deeds), events_given (all_of k.deeds) ∙ ap (map flat) k.events, given_all front ns (told_of (all_of k.deeds)) e); run = k.runs.run };
    ages = k.ages;
    deeds = k.deeds;
    events = k.events;
    tells = given_all front ns (told_of (all_of k.deeds)) e;
    each = k.each;
    keeps = k.keeps;
    hosts = k.hosts;
    suits = k.suits;
    midway = k.midway;
    balances = k.balances;
  }

-- so what it is given is known
pub known_notices : (ns xs : List Notice) → Given (all []) (all ns) xs → xs ≡ ns
known_notices ns xs given = given.1 [] refl

pub events_parts : (xs ys : List Notice) → events_part (xs ++ ys) ≡ events_part xs ++ events_part ys
events_parts [] ys = refl
events_parts (event e ∷ xs) ys = ap (λ r. e ∷ r) (events_parts xs ys)
events_parts (message from tag rec a b bytes ∷ xs) ys = events_parts xs ys

-- two calls, one after the other
pub gives_both : (may : GraphEvent → Type 0) (g a h : Objects Obj) (m n o : Heard) (xs ys : List Notice) → CallGives may g a m n xs → CallGives may a h n o ys → CallGives may g h m o (xs ++ ys)
gives_both may g a h m n o xs ys i j = record {
  given = Given-append m n o xs ys i.given j.given;
  events = i.events ++ j.events;
  are = events_both xs ys i.events j.events i.are j.are;
  run = Run-append (run_state g.book []) (run_state a.book []) (run_state h.book []) i.events j.events i.run j.run;
  within = each_append may i.events j.events i.within j.within;
}
  where
    events_both : (xs ys : List Notice) (es fs : List GraphEvent) → events_part xs ≡ map flat es → events_part ys ≡ map flat fs → events_part (xs ++ ys) ≡ map flat (es ++ fs)
    events_both xs ys es fs p q = events_parts xs ys ∙ (ap (λ z. z ++ events_part ys) p ∙ (ap (λ z. map flat es ++ z) q ∙ sym (map-append flat es fs)))

-- of more objects
pub gives_more : (may more : GraphEvent → Type 0) → ((e : GraphEvent) → may e → more e) → (g h : Objects Obj) (m n : Heard) (ns : List Notice) → CallGives may g h m n ns → CallGives more g h m n ns
gives_more may more f g h m n ns i = record { given = i.given; events = i.events; are = i.are; run = i.run; within = each_maps may more f i.events i.within }

-- nothing happened
pub gives_none : (may : GraphEvent → Type 0) (g : Objects Obj) (m : Heard) → CallGives may g g m m []
gives_none may g m = record { given = Given-none m; events = []; are = refl; run = refl; within = tt }
