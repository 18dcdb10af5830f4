-- The edits of the book's list, as changes of what it says of each serial.
use Rattle.std.proofs.Common.{◌≡◌, ℕ, ◌+◌, ◌<◌, Bool, true, false, cond, eqb, ltb, List, [], ◌∷◌, ◌++◌, length, get_or, set, zero, suc, map, Option, Some, None, is_some, refl, ap, sym, subst, inl, inr, ◌∙◌, arith}
use Rattle.std.specs.Option.{option_map_or}
use Rattle.std.specs.List.{remove}
use Rattle.std.proofs.Math.Seq.{map-set_same}
use Rattle.std.proofs.lemmas.List.Sums.{sum_by-set, sum_by-remove}
use Rattle.std.proofs.lemmas.List.{map-append, take-map, drop-map}
use Rattle.std.proofs.lemmas.Bool.Decides.{nat_tests}
use Rattle.std.proofs.lemmas.Grind.{elements}
use Rattle.nb_ledger.specs.declared.object.Object.{Object}
use Rattle.nb_ledger.specs.declared.port.Port.{Port}
use Rattle.nb_ledger.specs.declared.port.PortState.{PortState}
use Rattle.nb_ledger.specs.declared.port.PortState.TheVariants.{Open, Closed}
use Rattle.std.proofs.lemmas.Bool.{cases_Bool, eq-eqb, eqb-true}
use Rattle.nb_ledger.specs.GraphRun.{port_but, new_ports}
use Rattle.nb_ledger.specs.Ledger.{Ledger, IsRising, found, place_in, object_lives, holds, busy, rank, port, place, object_port, object_unused, open_ports, open_count, opens, ranks, unused}
use Rattle.nb_ledger.specs.Changes.{SameObjects, SetsHolds, SetsBusy, SetsPort, Adds, Removes}
use Rattle.nb_ledger.proofs.PortLemmas.{unused-some}
use Rattle.nb_ledger.proofs.PlaceLemmas.{found-set, read-set, read-same, found-serial, found-place, place_found, place-set, read-push, read-remove, place-stays, place-remove}

-- l, with v over the object of its serial
abbrev pub put_in : Ledger → Object → Ledger
put_in l v = record l { objects = set l.objects (place_in l.objects v.id.0) v }

-- whether an object lives, as a reading
live-read : (o : Option Object) → is_some o ≡ option_map_or (λ _. true) o false
live-read None = refl
live-read (Some o) = refl

-- what is found is found by its own serial
pub found-own : (os : List Object) (x : ℕ) (o : Object) → found os x ≡ Some o → found os o.id.0 ≡ Some o
found-own os x o h = subst (λ z. found os z ≡ Some o) (sym (found-serial os x o h)) h

-- a port of a slot that there is
small-port : (k : ℕ) (o : Object) → k < 4 → object_port k o ≡ get_or o.ports k Closed
small-port k o h = grind (arith, nat_tests)

-- a port of an object after a write of one
pub slot-set : (o : Object) (k i : ℕ) (s : PortState) → i < 4 → i < length o.ports → object_port k (record o { ports = set o.ports i s }) ≡ cond (eqb k i) s (object_port k o)
slot-set o k i s f h = grind (arith, nat_tests, elements)

module _ (l : Ledger) (v o : Object) (is : found l.objects v.id.0 ≡ Some o) (same : v.rank ≡ o.rank) where
  stands : place_in l.objects v.id.0 < length l.objects
  stands = place_found l.objects v.id.0 (ap is_some is)

  at_place : get_or l.objects (place_in l.objects v.id.0) o ≡ o
  at_place = let e = found-place l.objects v.id.0 o stands in cc

  pub SameObjects-put : SameObjects l (put_in l v)
  unfolding object_lives rank ranks
  SameObjects-put = record {
    same_made = refl;
    same_room = refl;
    same_live = λ x. live-read _ ∙ read-same (λ _. true) false l.objects v o x is refl ∙ sym (live-read _);
    same_rank = λ x. read-same (λ w. w.rank) 0 l.objects v o x is same;
    same_ranks = map-set_same (λ w. w.rank) l.objects _ v o (same ∙ sym (ap (λ w. w.rank) at_place));
    same_place = λ x. place-set l.objects v x stands;
  }

  -- the open ports change by those of the object
  pub opens-put : opens (put_in l v) + open_ports o ≡ opens l + open_ports v
  unfolding opens
  opens-put =
      let e = sum_by-set open_ports l.objects (place_in l.objects v.id.0) v o stands in
      let q = ap open_ports at_place in
      omega (arith, e, q)

-- writing the holds
pub SetsHolds-put : (l : Ledger) (o : Object) (x n : ℕ) → found l.objects x ≡ Some o → SetsHolds l (put_in l (record o { holds = n })) x n
unfolding holds busy port
SetsHolds-put l o x n h =
    let v : Object = record o { holds = n } in
    let is : found l.objects v.id.0 ≡ Some o = found-own l.objects x o h in
    let at_x = found-serial l.objects x o h in
    record {
      objects = SameObjects-put l v o is refl;
      holds_set = λ y. read-set (λ w. w.holds) 0 l.objects v o y is ∙ ap (λ z. cond (eqb y z) n (holds l y)) at_x;
      same_busy = λ y. read-same (λ w. w.busy) false l.objects v o y is refl;
      same_port = λ y k. read-same (object_port k) Closed l.objects v o y is refl;
      same_opens = let e = opens-put l v o is in omega (arith, e);
    }

-- writing the flag
pub SetsBusy-put : (l : Ledger) (o : Object) (x : ℕ) (b : Bool) → found l.objects x ≡ Some o → SetsBusy l (put_in l (record o { busy = b })) x b
unfolding holds busy port
SetsBusy-put l o x b h =
    let v : Object = record o { busy = b } in
    let is : found l.objects v.id.0 ≡ Some o = found-own l.objects x o h in
    let at_x = found-serial l.objects x o h in
    record {
      objects = SameObjects-put l v o is refl;
      same_holds = λ y. read-same (λ w. w.holds) 0 l.objects v o y is refl;
      busy_set = λ y. read-set (λ w. w.busy) false l.objects v o y is ∙ ap (λ z. cond (eqb y z) b (busy l y)) at_x;
      same_port = λ y k. read-same (object_port k) Closed l.objects v o y is refl;
      same_opens = let e = opens-put l v o is in omega (arith, e);
    }

-- what is written is unused as its entry says
pub put-unused : (l : Ledger) (o : Object) (x : ℕ) (b : Bool) → found l.objects x ≡ Some o → object_unused (record o { busy = b }) ≡ unused (put_in l (record o { busy = b })) x
put-unused l o x b h =
    let v : Object = record o { busy = b } in
    let is : found l.objects v.id.0 ≡ Some o = found-own l.objects x o h in
    unused-some (put_in l v) x v (found-set l.objects v x (place_found l.objects v.id.0 (ap is_some is)) ∙ rw (eq-eqb x o.id.0 (sym (found-serial l.objects x o h))) refl)

-- the object's own ports are those found
own-port : (l : Ledger) (o : Object) (p : Port) (s : PortState) (y k : ℕ) → found l.objects p.obj.0 ≡ Some o → cond (eqb y p.obj.0) (cond (eqb k p.slot) s (object_port k o)) (port l y k) ≡ port_but p s (port l) y k
unfolding port
own-port l o p s y k h =
    elim (cases_Bool (eqb y p.obj.0)) [
      | inl t ↦
          let q : found l.objects y ≡ Some o = subst (λ z. found l.objects z ≡ Some o) (sym (eqb-true y p.obj.0 t)) h in
          rw (t, q) refl
      | inr t ↦ rw t refl
    ]

-- writing a port
pub SetsPort-put : (l : Ledger) (o : Object) (p : Port) (s : PortState) → found l.objects p.obj.0 ≡ Some o → p.slot < 4 → p.slot < length o.ports → SetsPort l (put_in l (record o { ports = set o.ports p.slot s })) p s
unfolding holds busy port
SetsPort-put l o p s h small low =
    let v : Object = record o { ports = set o.ports p.slot s } in
    let is : found l.objects v.id.0 ≡ Some o = found-own l.objects p.obj.0 o h in
    let at_x = found-serial l.objects p.obj.0 o h in
    let here : (k : ℕ) → object_port k v ≡ cond (eqb k p.slot) s (object_port k o) = λ k. slot-set o k p.slot s small low in
    record {
      objects = SameObjects-put l v o is refl;
      same_holds = λ y. read-same (λ w. w.holds) 0 l.objects v o y is refl;
      same_busy = λ y. read-same (λ w. w.busy) false l.objects v o y is refl;
      port_set = λ y k. read-set (object_port k) Closed l.objects v o y is
          ∙ ap (λ z. cond (eqb y z) (object_port k v) (port l y k)) at_x
          ∙ ap (λ z. cond (eqb y p.obj.0) z (port l y k)) (here k)
          ∙ own-port l o p s y k h;
      opens_set =
          let e = opens-put l v o is in
          let f = sum_by-set open_count o.ports p.slot s Closed low in
          let g : open_count (get_or o.ports p.slot Closed) ≡ open_count (port l p.obj.0 p.slot) = ap open_count (sym (small-port p.slot o small)) ∙ ap (λ w. open_count (option_map_or (object_port p.slot) w Closed)) (sym h) in
          omega (arith, e, f, g);
    }

-- a new object's ports
pub new_ports-open : (o : Object) (k : ℕ) → o.ports ≡ Open ∷ Open ∷ Open ∷ Open ∷ [] → object_port k o ≡ new_ports k
new_ports-open o k h = rw h (fresh k)
  where
    fresh : (k : ℕ) → cond (ltb k 4) (get_or (Open ∷ Open ∷ Open ∷ Open ∷ []) k Closed) Closed ≡ new_ports k
    fresh zero = refl
    fresh (suc zero) = refl
    fresh (suc (suc zero)) = refl
    fresh (suc (suc (suc zero))) = refl
    fresh (suc (suc (suc (suc k)))) = grind (arith, nat_tests)

-- putting a new object at the end
pub Adds-push : (l : Ledger) (o : Object) → found l.objects o.id.0 ≡ None → o.holds ≡ 0 → o.busy ≡ false → o.ports ≡ Open ∷ Open ∷ Open ∷ Open ∷ [] → Adds l (record { made = o.id.0; room = l.room; objects = l.objects ++ o ∷ [] }) o.id.0 o.rank
unfolding object_lives holds busy rank ranks port
Adds-push l o h none idle fresh = record {
  made_set = refl;
  same_room = refl;
  live_set = λ y. live-read _ ∙ read-push (λ _. true) false l.objects o y h ∙ ap (cond (eqb y o.id.0) true) (sym (live-read _));
  rank_set = λ y. read-push (λ w. w.rank) 0 l.objects o y h;
  ranks_set = map-append (λ w. w.rank) l.objects (o ∷ []);
  place_set = λ y v. place-stays l.objects o y v;
  holds_set = λ y. read-push (λ w. w.holds) 0 l.objects o y h ∙ ap (λ z. cond (eqb y o.id.0) z (holds l y)) none;
  busy_set = λ y. read-push (λ w. w.busy) false l.objects o y h ∙ ap (λ z. cond (eqb y o.id.0) z (busy l y)) idle;
  port_set = λ y k. read-push (object_port k) Closed l.objects o y h ∙ ap (λ z. cond (eqb y o.id.0) z (port l y k)) (new_ports-open o k fresh);
}

-- a map after an element is taken out
pub map-remove : {A B : Type 0} (f : A → B) (xs : List A) (i : ℕ) → map f (remove xs i) ≡ remove (map f xs) i
map-remove f xs i = simp (map-append, take-map, drop-map)

-- some object
no_object : Object
no_object = record { id = record { 0 = 0 }; rank = 0; busy = false; holds = 0; ports = [] }

-- taking out the object of a serial
pub Removes-remove : (l : Ledger) (x : ℕ) → IsRising 0 l.objects l.made → place l x < length l.objects → Removes l (record l { objects = remove l.objects (place l x) }) x
unfolding object_lives holds busy rank ranks port opens
Removes-remove l x r h = record {
  same_made = refl;
  same_room = refl;
  live_set = λ y. live-read _ ∙ read-remove (λ _. true) false 0 l.made l.objects x y r h ∙ ap (cond (eqb y x) false) (sym (live-read _));
  rank_set = λ y. read-remove (λ w. w.rank) 0 0 l.made l.objects x y r h;
  ranks_set = map-remove (λ w. w.rank) l.objects (place l x);
  place_set = λ y n. place-remove l.objects x y h n;
  holds_set = λ y. read-remove (λ w. w.holds) 0 0 l.made l.objects x y r h;
  busy_set = λ y. read-remove (λ w. w.busy) false 0 l.made l.objects x y r h;
  port_set = λ y k. read-remove (object_port k) Closed 0 l.made l.objects x y r h;
  opens_le = (open_ports (get_or l.objects (place l x) no_object), sum_by-remove open_ports l.objects (place l x) no_object h);
}
